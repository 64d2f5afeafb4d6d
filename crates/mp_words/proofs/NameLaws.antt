-- Names and statuses that are written are read.
use Rattle.std.proofs.Common.{inl, inr, ◌≡◌, ℕ, ◌+◌, ◌*◌, ◌/◌, ◌%◌, ◌<◌, Bool, true, List, Some, refl, sym, ap, arith}
use Rattle.std.specs.Prelude.{nat_le, find, [], ◌∷◌}
use Rattle.std.specs.Str.{bytes_eq}
use Rattle.std.proofs.lemmas.Bool.{cases_Bool}
use Rattle.std.proofs.lemmas.Bool.Decides.{nat_tests}
use Rattle.std.proofs.lemmas.Slice.Eq.{bytes_eq-Decides}
use Rattle.mp_words.specs.declared.row.Policy.{Policy}
use Rattle.mp_words.specs.declared.row.Policy.TheVariants.{Numa, RoundRobin, QueueDepth}
use Rattle.mp_words.specs.declared.row.CState.{CState}
use Rattle.mp_words.specs.declared.row.CState.TheVariants.{New, Live, Resetting, Connecting, Deleting, DeletingNoio, Dead}
use Rattle.mp_words.specs.Names.{policies, policy_word, policy_named, cstates, cstate_word, cstate_named}
use Rattle.mp_words.specs.Status.{hex_digit, status_word, is_hex, hex_value, status_in}

pub policy_found : (policy : Policy) → policy_named (policy_word policy) ≡ Some policy
unfolding policy_named
policy_found Numa = refl
policy_found RoundRobin = refl
policy_found QueueDepth = refl

pub cstate_found : (cstate : CState) → cstate_named (cstate_word cstate) ≡ Some cstate
unfolding cstate_named
cstate_found New = refl
cstate_found Live = refl
cstate_found Resetting = refl
cstate_found Connecting = refl
cstate_found Deleting = refl
cstate_found DeletingNoio = refl
cstate_found Dead = refl

-- what is found by a test passes it
pub found_passes : {X : Type 0} (test : X → Bool) (xs : List X) (x : X) → find test xs ≡ Some x → test x ≡ true
found_passes test [] x e = absurd cc
found_passes test (y ∷ xs) x e = elim (cases_Bool (test y)) [
  | inl f ↦ let g : Some y ≡ Some x = rw f at e in let h : y ≡ x = cc in rw (← h) f
  | inr f ↦ found_passes test xs x (rw f at e)
]

same_word : (word name : List ℕ) → bytes_eq word name ≡ true → name ≡ word
same_word word name e = sym ((bytes_eq-Decides word name).0 e)

pub policy_is_named : (word : List ℕ) (policy : Policy) → policy_named word ≡ Some policy → policy_word policy ≡ word
unfolding policy_named
policy_is_named word policy e = same_word word (policy_word policy) (found_passes (λ p. bytes_eq word (policy_word p)) policies policy e)

pub cstate_is_named : (word : List ℕ) (cstate : CState) → cstate_named word ≡ Some cstate → cstate_word cstate ≡ word
unfolding cstate_named
cstate_is_named word cstate e = same_word word (cstate_word cstate) (found_passes (λ s. bytes_eq word (cstate_word s)) cstates cstate e)

-- a digit that is written is read
digit_read : (d : ℕ) → d < 16 → (is_hex (hex_digit d) ≡ true) × (hex_value (hex_digit d) ≡ d)
digit_read d lt = elim (cases_Bool (nat_le d 9)) [
  | inl e ↦ rw e (grind (arith, nat_tests), grind (arith, nat_tests))
  | inr e ↦ rw e (grind (arith, nat_tests), grind (arith, nat_tests))
]

pub status_read : (status : ℕ) → status < 65536 → status_in (status_word status) ≡ Some status
status_read s lt =
    let a = digit_read (s / 4096 % 16) (omega arith) in
    let b = digit_read (s / 256 % 16) (omega arith) in
    let c = digit_read (s / 16 % 16) (omega arith) in
    let d = digit_read (s % 16) (omega arith) in
    let sum : (((0 * 16 + s / 4096 % 16) * 16 + s / 256 % 16) * 16 + s / 16 % 16) * 16 + s % 16 ≡ s = omega arith in
    rw (a.0, b.0, c.0, d.0, a.1, b.1, c.1, d.1) (ap Some sum)
