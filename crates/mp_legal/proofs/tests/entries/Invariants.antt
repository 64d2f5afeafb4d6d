use Rattle.std.proofs.Common.{◌≡◌, ◌<◌, ◌+◌, ◌-◌, ◌&&◌, ℕ, cond, nat_le}
use Rattle.std.specs.List.{count_by}
use Rattle.mp_legal.specs.Gathering.{count_of, is_version}
use Rattle.mp_legal.proofs.tests.entries.Given as goal

abbrev pub invariant-loop-done : goal.invariant-loop-done
invariant-loop-done l = record {
  versions : (slot v : ℕ) → slot < 15 → count_by (is_version slot v) l.all.items ≡ cond (nat_le (l.most + 1 - l.done) v && nat_le v l.most) 1 0;
  counts : (slot : ℕ) → slot < 15 → count_of slot l.all.items ≡ l.done;
}
