-- Tries that meet another change of the row, and what follows.
use Rattle.std.proofs.Common.{◌≡◌, ℕ, zero, suc, subst}
use Rattle.mp_desk.specs.Calls.{Stand, After}

-- so many tries met another change of the row
abbrev pub Again : ℕ → (Stand → Stand → Type 0) → Stand → Stand → Type 0
Again zero Stays p q = q ≡ p
Again (suc n) Stays p q = (m : Stand) × Again n Stays p m × Stays m q

-- what follows from here follows from the begin
pub after_again : (n k : ℕ) (Stays Ends : Stand → Stand → Type 0) (p m q : Stand) → Again n Stays p m → After k Stays Ends m q → (j : ℕ) × After j Stays Ends p q
after_again zero k Stays Ends p m q is h = (k, subst (λ (z : Stand). After k Stays Ends z q) is h)
after_again (suc n) k Stays Ends p m q again h = after_again n (suc k) Stays Ends p again.0 q again.1 (m, again.2, h)
