-- What it means that the check of a value passes.
use Rattle.std.proofs.Common.{◌≡◌, ℕ, ℤ, ◌<◌, ◌≤◌, pos, negsuc, Bool, true, false, List, length, get_or, Option, Some, None, IfSome, is_some, cond, refl, arith}
use Rattle.std.specs.Prelude.{nat_lt, unwrap_or}
use Rattle.std.specs.List.{position, position_or_len}
use Rattle.std.specs.Str.{bytes_eq}
use Rattle.std.proofs.lemmas.Slice.Eq.{bytes_eq-Decides}
use Rattle.std.proofs.lemmas.List.Sums.{fails_before_first}
use Rattle.std.proofs.lemmas.Bool.Decides.{nat_tests}
use Rattle.mp_checks.specs.Checks.{if_there}
use Rattle.mp_topology.specs.Fields.{is_within, number_of, optional_of}

pub needed_within : (low high : ℕ) (o : Option ℤ) → is_some o ≡ true → if_there (is_within low high) o ≡ true → (low ≤ number_of o) × (number_of o ≤ high)
needed_within low high None there h = absurd cc
needed_within low high (Some (negsuc n)) there h = absurd cc
needed_within low high (Some (pos n)) there h = (grind (arith, nat_tests), grind (arith, nat_tests))

pub optional_within : (low high : ℕ) (o : Option ℤ) → if_there (is_within low high) o ≡ true → IfSome (optional_of o) (λ p. p ≤ high)
optional_within low high None h = tt
optional_within low high (Some (negsuc n)) h = absurd cc
optional_within low high (Some (pos n)) h = grind (arith, nat_tests)

pub default_within : (low high default : ℕ) (o : Option ℤ) → low ≤ default → default ≤ high → if_there (is_within low high) o ≡ true → (low ≤ unwrap_or (optional_of o) default) × (unwrap_or (optional_of o) default ≤ high)
default_within low high default None least most h = (least, most)
default_within low high default (Some (negsuc n)) least most h = absurd cc
default_within low high default (Some (pos n)) least most h = (grind (arith, nat_tests), grind (arith, nat_tests))

cond_none : (b : Bool) (i : ℕ) → is_some (cond b (Some i) None) ≡ false → b ≡ false
cond_none false i h = refl
cond_none true i h = absurd cc

-- an item of a list in which none passes a test
pub none_at : {X : Type 0} (p : X → Bool) (xs : List X) (i : ℕ) (d : X) → i < length xs → is_some (position p xs) ≡ false → p (get_or xs i d) ≡ false
none_at p xs i d lt none =
    let past = cond_none (nat_lt (position_or_len p xs) (length xs)) (position_or_len p xs) none in
    fails_before_first p xs i d (grind (arith, nat_tests, lt, past))

pub bytes_same : (bs : List ℕ) → bytes_eq bs bs ≡ true
bytes_same bs = (bytes_eq-Decides bs bs).1 refl
