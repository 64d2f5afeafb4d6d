use Rattle.std.proofs.Common.{◌≡◌, ◌<◌, ◌-◌, ℕ, false, map}
use Rattle.mp_checks.specs.Marks.{has}
use Rattle.mp_script.specs.Distinct.{IsDistinct}
use Rattle.mp_legal.proofs.tests.requests.Given as goal

abbrev pub invariant-loop-done : goal.invariant-loop-done
invariant-loop-done l = record {
  distinct : IsDistinct (map (λ r. r.id) l.all.items);
  below : (n : ℕ) → n < l.most - l.done → has (map (λ r. r.id) l.all.items) n ≡ false;
}
