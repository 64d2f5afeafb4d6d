-- What an operation makes of a row, in words of its cause.
use Rattle.std.proofs.Common.{◌≡◌, ℕ, ◌+◌, ◌≤◌, Bool, true, false, Some, None, refl, sym, ap, arith, if◌then◌else◌}
use Rattle.std.specs.Prelude.{not, ◌==◌}
use Rattle.std.proofs.lemmas.Bool.Decides.{nat_tests}
use Rattle.mp_words.specs.declared.row.Row.{Row}
use Rattle.mp_words.specs.declared.row.CState.{CState}
use Rattle.mp_words.specs.declared.row.CState.TheVariants.{Resetting}
use Rattle.mp_words.specs.declared.op.Op.{Op}
use Rattle.mp_words.specs.declared.op.Op.TheVariants as op
use Rattle.mp_words.specs.declared.op.Effect.{Effect}
use Rattle.mp_words.specs.declared.op.Effect.TheVariants.{Changed, Refused, NotArmed}
use Rattle.mp_words.specs.Row.{is_given}
use Rattle.mp_words.specs.Facts.{IsRow}
use Rattle.mp_words.specs.Effect.{may_become, effect_of, changed_or, row_after, IsRefused, Suits, leaves_path, keeps_path}

-- the version of a changed row
abbrev version_or : ℕ → Effect → ℕ
version_or d (Changed row) = row.version
version_or d (Refused cstate) = d
version_or d NotArmed = d

-- the state of a refusal
abbrev cstate_or : CState → Effect → CState
cstate_or d (Changed row) = d
cstate_or d (Refused cstate) = cstate
cstate_or d NotArmed = d

-- ---- the next version

going_next : (b : Bool) (x new : Row) (cstate : CState) → (if b then Changed x else Refused cstate) ≡ Changed new → new.version ≡ x.version
going_next true x new cstate h = sym (ap (version_or 0) h)
going_next false x new cstate h = absurd (cc)

expired_next : (a b : Bool) (x new : Row) (cstate : CState) → (if a then (if b then Changed x else Refused cstate) else NotArmed) ≡ Changed new → new.version ≡ x.version
expired_next true b x new cstate h = going_next b x new cstate h
expired_next false b x new cstate h = absurd (cc)

pub next : (row new : Row) (op : Op) → effect_of row op ≡ Changed new → new.version ≡ row.version + 1
next row new (op.Log None changing) h = sym (ap (version_or 0) h)
next row new (op.Log (Some state) changing) h = sym (ap (version_or 0) h)
next row new (op.Ctrl cstate) h = going_next (may_become cstate row.cstate) _ new row.cstate h
next row new op.Expire h = expired_next row.armed (may_become Resetting row.cstate) _ new row.cstate h
next row new op.Pending h = sym (ap (version_or 0) h)
next row new (op.Give gift) h = sym (ap (version_or 0) h)
next row new op.Mark h = sym (ap (version_or 0) h)
next row new op.Free h = sym (ap (version_or 0) h)

-- ---- refusals

going_refused : (b : Bool) (x : Row) (own cstate : CState) → (if b then Changed x else Refused own) ≡ Refused cstate → (b ≡ false) × (cstate ≡ own)
going_refused true x own cstate h = absurd (cc)
going_refused false x own cstate h = (refl, sym (ap (cstate_or own) h))

expired_refused : (a b : Bool) (x : Row) (own cstate : CState) → (if a then (if b then Changed x else Refused own) else NotArmed) ≡ Refused cstate → ((a ≡ true) × (b ≡ false)) × (cstate ≡ own)
expired_refused true b x own cstate h = let p = going_refused b x own cstate h in ((refl, p.0), p.1)
expired_refused false b x own cstate h = absurd (cc)

refused : (row : Row) (op : Op) (cstate : CState) → effect_of row op ≡ Refused cstate → IsRefused row op × (cstate ≡ row.cstate)
refused row (op.Log stated changing) cstate h = absurd (cc)
refused row (op.Ctrl to) cstate h = going_refused (may_become to row.cstate) _ row.cstate cstate h
refused row op.Expire cstate h = expired_refused row.armed (may_become Resetting row.cstate) _ row.cstate cstate h
refused row op.Pending cstate h = absurd (cc)
refused row (op.Give gift) cstate h = absurd (cc)
refused row op.Mark cstate h = absurd (cc)
refused row op.Free cstate h = absurd (cc)

pub refused_cause : (row : Row) (op : Op) (cstate : CState) → effect_of row op ≡ Refused cstate → IsRefused row op
refused_cause row op cstate h = (refused row op cstate h).0

pub refused_state : (row : Row) (op : Op) (cstate : CState) → effect_of row op ≡ Refused cstate → cstate ≡ row.cstate
refused_state row op cstate h = (refused row op cstate h).1

pub refusal_comes : (row : Row) (op : Op) → IsRefused row op → effect_of row op ≡ Refused row.cstate
refusal_comes row (op.Log stated changing) h = absurd h
refusal_comes row (op.Ctrl to) h = rw h refl
refusal_comes row op.Expire h = rw (h.0, h.1) refl
refusal_comes row op.Pending h = absurd h
refusal_comes row (op.Give gift) h = absurd h
refusal_comes row op.Mark h = absurd h
refusal_comes row op.Free h = absurd h

-- ---- rows that aren't armed

going_armed : (b : Bool) (x : Row) (own : CState) → (if b then Changed x else Refused own) ≡ NotArmed → ⊥
going_armed true x own h = absurd (cc)
going_armed false x own h = absurd (cc)

expired_armed : (a b : Bool) (x : Row) (own : CState) → (if a then (if b then Changed x else Refused own) else NotArmed) ≡ NotArmed → a ≡ false
expired_armed true b x own h = absurd (going_armed b x own h)
expired_armed false b x own h = refl

unarmed : (row : Row) (o : Op) → effect_of row o ≡ NotArmed → (o ≡ op.Expire) × (row.armed ≡ false)
unarmed row (op.Log stated changing) h = absurd (cc)
unarmed row (op.Ctrl to) h = absurd (going_armed (may_become to row.cstate) _ row.cstate h)
unarmed row op.Expire h = (refl, expired_armed row.armed (may_become Resetting row.cstate) _ row.cstate h)
unarmed row op.Pending h = absurd (cc)
unarmed row (op.Give gift) h = absurd (cc)
unarmed row op.Mark h = absurd (cc)
unarmed row op.Free h = absurd (cc)

pub unarmed_op : (row : Row) (o : Op) → effect_of row o ≡ NotArmed → o ≡ op.Expire
unarmed_op row o h = (unarmed row o h).0

pub unarmed_row : (row : Row) (op : Op) → effect_of row op ≡ NotArmed → row.armed ≡ false
unarmed_row row op h = (unarmed row op h).1

-- ---- rows that may be stored

given_state : (row : Row) → is_given row ≡ true → 1 ≤ row.state
given_state row h = grind (arith, nat_tests)

state_given : (state : ℕ) → 1 ≤ state → not (state == 0) ≡ true
state_given state h = grind (arith, nat_tests)

-- a row of this ANA state
stored_path : (row : Row) → 1 ≤ row.state → row.state ≤ 15 → IsRow row
stored_path row low high = record { state = high; free = λ z. absurd (omega arith) }

-- what holds of the row at either branch
after_going : (P : Row → Type 0) (b : Bool) (x old : Row) (own : CState) → P x → P old → P (changed_or old (if b then Changed x else Refused own))
after_going P true x old own new same = new
after_going P false x old own new same = same

after_expired : (P : Row → Type 0) (a b : Bool) (x old : Row) (own : CState) → P x → P old → P (changed_or old (if a then (if b then Changed x else Refused own) else NotArmed))
after_expired P true b x old own new same = after_going P b x old own new same
after_expired P false b x old own new same = same

-- what holds of the row after `Ctrl` or `Expire`
after_ctrl : (P : Row → Type 0) (row : Row) (to : CState) → ((version : ℕ) (cstate : CState) (armed : Bool) → P (record row { version = version; cstate = cstate; armed = armed })) → P (row_after row (op.Ctrl to))
after_ctrl P row to all = after_going P (may_become to row.cstate) _ row row.cstate (all (row.version + 1) to row.armed) (all row.version row.cstate row.armed)

after_expire : (P : Row → Type 0) (row : Row) → ((version : ℕ) (cstate : CState) (armed : Bool) → P (record row { version = version; cstate = cstate; armed = armed })) → P (row_after row op.Expire)
after_expire P row all = after_expired P row.armed (may_become Resetting row.cstate) _ row row.cstate (all (row.version + 1) Resetting false) (all row.version row.cstate row.armed)

pub stays_stored : (row : Row) (op : Op) → IsRow row → Suits row op → IsRow (row_after row op)
stays_stored row (op.Log None changing) is suits = stored_path _ (given_state row suits.0) is.state
stays_stored row (op.Log (Some state) changing) is suits = stored_path _ suits.1.0 suits.1.1
stays_stored row (op.Ctrl to) is suits = after_ctrl IsRow row to (λ v s a. stored_path _ (given_state row suits) is.state)
stays_stored row op.Expire is suits = after_expire IsRow row (λ v s a. stored_path _ (given_state row suits) is.state)
stays_stored row op.Pending is suits = stored_path _ (given_state row suits) is.state
stays_stored row (op.Give gift) is suits = stored_path _ suits.1.0 suits.1.1
stays_stored row op.Mark is suits = stored_path _ (given_state row suits) is.state
stays_stored row op.Free is suits = record { state = omega arith; free = λ z. refl }

pub stays_given : (row : Row) (op : Op) → Suits row op → is_given (row_after row op) ≡ leaves_path op
stays_given row (op.Log None changing) suits = suits.0
stays_given row (op.Log (Some state) changing) suits = state_given state suits.1.0
stays_given row (op.Ctrl to) suits = after_ctrl (λ r. is_given r ≡ true) row to (λ v s a. suits)
stays_given row op.Expire suits = after_expire (λ r. is_given r ≡ true) row (λ v s a. suits)
stays_given row op.Pending suits = suits
stays_given row (op.Give gift) suits = state_given gift.state suits.1.0
stays_given row op.Mark suits = suits
stays_given row op.Free suits = refl

-- ---- the controller stays

pub keeps_ctrl : (row : Row) (op : Op) → keeps_path op ≡ true → (row_after row op).ctrl ≡ row.ctrl
keeps_ctrl row (op.Log None changing) keeps = refl
keeps_ctrl row (op.Log (Some state) changing) keeps = refl
keeps_ctrl row (op.Ctrl to) keeps = after_ctrl (λ r. r.ctrl ≡ row.ctrl) row to (λ v s a. refl)
keeps_ctrl row op.Expire keeps = after_expire (λ r. r.ctrl ≡ row.ctrl) row (λ v s a. refl)
keeps_ctrl row op.Pending keeps = refl
keeps_ctrl row (op.Give gift) keeps = absurd (cc)
keeps_ctrl row op.Mark keeps = refl
keeps_ctrl row op.Free keeps = absurd (cc)

pub keeps_ana : (row : Row) (op : Op) → keeps_path op ≡ true → (row_after row op).ana ≡ row.ana
keeps_ana row (op.Log None changing) keeps = refl
keeps_ana row (op.Log (Some state) changing) keeps = refl
keeps_ana row (op.Ctrl to) keeps = after_ctrl (λ r. r.ana ≡ row.ana) row to (λ v s a. refl)
keeps_ana row op.Expire keeps = after_expire (λ r. r.ana ≡ row.ana) row (λ v s a. refl)
keeps_ana row op.Pending keeps = refl
keeps_ana row (op.Give gift) keeps = absurd (cc)
keeps_ana row op.Mark keeps = refl
keeps_ana row op.Free keeps = absurd (cc)
