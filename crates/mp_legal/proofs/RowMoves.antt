-- Rows that change, one at a time.
use Rattle.std.proofs.Common.{◌≡◌, ℕ, zero, suc, ◌+◌, ◌<◌, ◌≤◌, ◌==◌, not, Bool, true, false, List, [], ◌∷◌, inl, inr, length, get_or, set, Some, None, refl, sym, ap, ◌∙◌, subst, arith, if◌then◌else◌}
use Rattle.std.specs.Prelude.{IfSome}
use Rattle.std.proofs.lemmas.Bool.{cases_Bool, eqb-true, eqb-false}
use Rattle.std.proofs.lemmas.Bool.Decides.{nat_tests}
use Rattle.std.proofs.lemmas.List.{get_or-set_same, get_or-set_other}
use Rattle.mp_words.specs.declared.row.Row.{Row}
use Rattle.mp_words.specs.declared.row.CState.{CState}
use Rattle.mp_words.specs.declared.row.CState.TheVariants as cstate
use Rattle.mp_words.specs.declared.op.Op.{Op}
use Rattle.mp_words.specs.declared.op.Op.TheVariants as op
use Rattle.mp_words.specs.declared.op.Effect.TheVariants as effect
use Rattle.mp_words.specs.Effect.{free_row, effect_of, going_to, may_become, next_row, IsState}
use Rattle.mp_words.specs.Row.{is_given}

-- the row of a slot among these
abbrev pub row_of : List Row → ℕ → Row
row_of rows slot = get_or rows slot (free_row 0)

-- a slot with a path is one of the table's
pub given_below : (rows : List Row) (slot : ℕ) → is_given (row_of rows slot) ≡ true → slot < length rows
given_below [] slot given = absurd cc
given_below (r ∷ rows) zero given = omega arith
given_below (r ∷ rows) (suc slot) given = let lt = given_below rows slot given in omega arith

-- what holds of the new row and of the others holds after a change
pub row_set : (P : Row → Type 0) (rows : List Row) (slot x : ℕ) (new : Row) → slot < length rows → (slot ≡ x → P new)
    → ((slot ≡ x → ⊥) → P (row_of rows x)) → P (row_of (set rows slot new) x)
row_set P rows slot x new lt here there =
    elim (cases_Bool (x == slot)) [
      | inl on ↦ let e : x ≡ slot = eqb-true x slot on in subst (λ n. P (row_of (set rows slot new) n)) (sym e)
          (subst P (sym (get_or-set_same rows slot new (free_row 0) lt)) (here (sym e)))
      | inr off ↦ let apart : x ≡ slot → ⊥ = eqb-false x slot off in subst P
          (sym (get_or-set_other rows slot x new (free_row 0) apart)) (there (λ e. apart (sym e)))
    ]

-- What an operation that leaves the path keeps of a row.
pub record KeepsRow (old new : Row) : Type 0 where
  pub given : is_given new ≡ is_given old
  pub ctrl : new.ctrl ≡ old.ctrl
  pub marked : old.marked ≡ true → new.marked ≡ true

pub keeps_same : (old new : Row) → new.state ≡ old.state → new.ctrl ≡ old.ctrl → new.marked ≡ old.marked
    → KeepsRow old new
keeps_same old new state ctrl marked = record {
  given = ap (λ n. not (n == 0)) state;
  ctrl = ctrl;
  marked = λ e. marked ∙ e;
}

-- What a line may do to a row: a log page that states an ANA state or none, a controller's change, or the timeout.
abbrev pub IsDone : Op → Type 0
IsDone (op.Log stated changing) = IfSome stated IsState
IsDone (op.Ctrl to) = Unit {0}
IsDone op.Expire = Unit {0}
IsDone op.Pending = ⊥
IsDone (op.Give gift) = ⊥
IsDone op.Mark = ⊥
IsDone op.Free = ⊥

-- a changed row is one version later, and keeps its path
pub record Changes (old new : Row) : Type 0 where
  pub next : new.version ≡ old.version + 1
  pub keeps : KeepsRow old new

is_changed : (new row : Row) → effect.Changed new ≡ effect.Changed row → new ≡ row
is_changed new row e = cc

going_changes : (to : CState) (from old new : Row) → going_to to from ≡ effect.Changed new → from.version ≡ old.version
    → from.state ≡ old.state → from.ctrl ≡ old.ctrl → from.marked ≡ old.marked → Changes old new
going_changes to from old new is version state ctrl marked = by (may_become to from.cstate) is
  where
    by : (b : Bool)
        → (if b then effect.Changed (record (next_row from) { cstate = to }) else effect.Refused from.cstate) ≡ effect.Changed new
        → Changes old new
    by true e =
        subst (λ (r : Row). Changes old r) (is_changed _ new e)
        (record { next = ap (λ n. n + 1) version; keeps = keeps_same old _ state ctrl marked })
    by false e = absurd cc

pub stated_given : (state : ℕ) → 1 ≤ state → not (state == 0) ≡ true
stated_given zero le = absurd (omega arith)
stated_given (suc n) le = grind (arith, nat_tests)

pub changes_done : (old new : Row) (o : Op) → IsDone o → is_given old ≡ true → effect_of old o ≡ effect.Changed new
    → Changes old new
changes_done old new (op.Log None changing) done given is =
    subst (λ (r : Row). Changes old r) (is_changed _ new is)
    (record { next = refl; keeps = keeps_same old _ refl refl refl })
changes_done old new (op.Log (Some state) changing) done given is =
    subst (λ (r : Row). Changes old r) (is_changed _ new is)
    (record { next = refl; keeps = record { given = stated_given state done.0 ∙ sym given; ctrl = refl; marked = λ e. e } })
changes_done old new (op.Ctrl to) done given is = going_changes to old old new is refl refl refl refl
changes_done old new op.Expire done given is = by old.armed is
  where
    by : (b : Bool)
        → (if b then going_to cstate.Resetting (record old { armed = false }) else effect.NotArmed) ≡ effect.Changed new
        → Changes old new
    by true e = going_changes cstate.Resetting (record old { armed = false }) old new e refl refl refl refl
    by false e = absurd cc
changes_done old new op.Pending done given is = absurd done
changes_done old new (op.Give gift) done given is = absurd done
changes_done old new op.Mark done given is = absurd done
changes_done old new op.Free done given is = absurd done
