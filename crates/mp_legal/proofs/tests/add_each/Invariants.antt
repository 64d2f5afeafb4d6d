use Rattle.std.proofs.Common.{◌≡◌, ◌<◌, ◌+◌, ◌&&◌, ℕ, cond, nat_lt, ◌==◌, true}
use Rattle.std.specs.List.{count_by}
use Rattle.mp_legal.specs.Gathering.{count_of, is_version}
use Rattle.mp_legal.proofs.tests.add_each.Given as goal

abbrev pub invariant-loop-number : goal.invariant-loop-number
invariant-loop-number l = record {
  versions : (slot v : ℕ) → slot < 15 → count_by (is_version slot v) l.all.items ≡ count_by (is_version slot v) l.fn.all.items + cond (nat_lt slot l.number && (l.version == v)) 1 0;
  counts : (slot : ℕ) → slot < 15 → count_of slot l.all.items ≡ count_of slot l.fn.all.items + cond (nat_lt slot l.number && true) 1 0;
}
