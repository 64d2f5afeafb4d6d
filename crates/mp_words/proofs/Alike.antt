-- Whether two rows are the same, told by their fields.
use Rattle.std.proofs.Common.{◌≡◌, ℕ, Bool, true, false, ◌&&◌, ◌==◌, refl, sym, ap, subst, ◌∙◌, arith}
use Rattle.std.proofs.lemmas.Bool.Decides.{nat_tests}
use mathlib.Core.Bool.{beq}
use Rattle.mp_words.specs.declared.row.Row.{Row}
use Rattle.mp_words.specs.declared.row.CState.{CState}
use Rattle.mp_words.specs.declared.row.CState.TheVariants as in_state
use Rattle.mp_words.specs.RowWord.{cstate_code, cstate_of}
use Rattle.mp_words.specs.Like.{Tells}

tells_of : {X : Type 0} (b : Bool) (x y : X) → (b ≡ true → x ≡ y) → (b ≡ false → x ≡ y → ⊥) → Tells b x y
tells_of true x y same other = same refl
tells_of false x y same other = other refl

tells_nat : (m n : ℕ) → Tells (m == n) m n
tells_nat m n = tells_of (m == n) m n (λ e. grind (arith, nat_tests)) (λ e same. grind (arith, nat_tests))

tells_bool : (a b : Bool) → Tells (beq a b) a b
tells_bool true true = refl
tells_bool true false = λ e. absurd (cc)
tells_bool false true = λ e. absurd (cc)
tells_bool false false = refl

-- of a pair
tells_both : {A B : Type 0} (p q : Bool) (x y : A) (z w : B) → Tells p x y → Tells q z w → Tells {X = A × B} (p && q) (x, z) (y, w)
tells_both true true x y z w e f = ap (λ a. (a, z)) e ∙ ap (λ b. (y, b)) f
tells_both true false x y z w e f = λ g. f (ap (λ t. t.1) g)
tells_both false q x y z w e f = λ g. e (ap (λ t. t.0) g)

-- of a value that is known by what f sees of it
tells_by : {A B : Type 0} (f : A → B) (g : B → A) (b : Bool) (x y : A) → ((a : A) → g (f a) ≡ a) → Tells b (f x) (f y) → Tells b x y
tells_by f g true x y own e = sym (own x) ∙ ap g e ∙ own y
tells_by f g false x y own e = λ same. e (ap f same)

code_is : (s : CState) → cstate_of (cstate_code s) ≡ s
code_is in_state.New = refl
code_is in_state.Live = refl
code_is in_state.Resetting = refl
code_is in_state.Connecting = refl
code_is in_state.Deleting = refl
code_is in_state.DeletingNoio = refl
code_is in_state.Dead = refl

tells_state : (s t : CState) → Tells (cstate_code s == cstate_code t) s t
tells_state s t = tells_by cstate_code cstate_of (cstate_code s == cstate_code t) s t code_is (tells_nat (cstate_code s) (cstate_code t))

-- whether two rows are the same, by their fields
abbrev same_row : Row → Row → Bool
same_row a b =
    (((((((((a.version == b.version) && (a.ctrl == b.ctrl)) && (cstate_code a.cstate == cstate_code b.cstate)) && (a.state == b.state))
    && beq a.pending b.pending) && beq a.ready b.ready) && beq a.armed b.armed) && beq a.marked b.marked) && beq a.ana b.ana)

abbrev RowParts : Type 0
RowParts = ((((((((ℕ × ℕ) × CState) × ℕ) × Bool) × Bool) × Bool) × Bool) × Bool)

row_parts : Row → RowParts
row_parts a = ((((((((a.version, a.ctrl), a.cstate), a.state), a.pending), a.ready), a.armed), a.marked), a.ana)

row_from : RowParts → Row
row_from p = record {
  version = p.0.0.0.0.0.0.0.0;
  ctrl = p.0.0.0.0.0.0.0.1;
  cstate = p.0.0.0.0.0.0.1;
  state = p.0.0.0.0.0.1;
  pending = p.0.0.0.0.1;
  ready = p.0.0.0.1;
  armed = p.0.0.1;
  marked = p.0.1;
  ana = p.1;
}

tells_row : (a b : Row) → Tells (same_row a b) a b
unfolding row_from row_parts
tells_row a b =
    tells_by row_parts row_from (same_row a b) a b (λ r. refl)
    (tells_both _ _ _ _ _ _ (tells_both _ _ _ _ _ _ (tells_both _ _ _ _ _ _ (tells_both _ _ _ _ _ _
    (tells_both _ _ _ _ _ _ (tells_both _ _ _ _ _ _ (tells_both _ _ _ _ _ _
    (tells_both _ _ _ _ _ _ (tells_nat a.version b.version) (tells_nat a.ctrl b.ctrl))
    (tells_state a.cstate b.cstate)) (tells_nat a.state b.state)) (tells_bool a.pending b.pending)) (tells_bool a.ready b.ready))
    (tells_bool a.armed b.armed)) (tells_bool a.marked b.marked)) (tells_bool a.ana b.ana))

pub tells_row_as : (v : Bool) (a b : Row) → v ≡ same_row a b → Tells v a b
tells_row_as v a b e = subst (λ w. Tells w a b) (sym e) (tells_row a b)
