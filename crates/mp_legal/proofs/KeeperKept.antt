-- What the calls of lanes leave of how the keeper stands to its steps, and of what its data agree with.
use Rattle.std.proofs.Common.{◌≡◌, ℕ, zero, suc, ◌≤◌, ◌<◌, ◌+◌, ◌==◌, ◌||◌, ◌&&◌, Bool, true, false, nat_lt, List, [], ◌∷◌, find, map, cond, get_or, set, Option, Some, None, is_some, refl, sym, ap, ◌∙◌, subst, arith, if◌then◌else◌}
use Rattle.std.specs.List.{list_all}
use Rattle.std.proofs.lemmas.Bool.Decides.{nat_tests}
use Rattle.std.proofs.Math.ListN.{get_or-map}
use Rattle.mp_words.specs.declared.answers.Answer.{Answer}
use Rattle.mp_words.specs.declared.entry.RowEntry.{RowEntry}
use Rattle.mp_words.specs.declared.flight.Flight.{Flight}
use Rattle.mp_words.specs.declared.near.Near.{Near}
use Rattle.mp_words.specs.declared.op.Effect.{Effect}
use Rattle.mp_words.specs.declared.op.Effect.TheVariants as effect
use Rattle.mp_words.specs.declared.op.Op.{Op}
use Rattle.mp_words.specs.declared.op.Op.TheVariants as op
use Rattle.mp_words.specs.declared.op.Maker.TheVariants.{Hop}
use Rattle.mp_words.specs.declared.path.Path.{Path}
use Rattle.mp_words.specs.declared.row.Row.{Row}
use Rattle.mp_words.specs.declared.row.CState.{CState}
use Rattle.mp_words.specs.declared.row.CState.TheVariants.{Resetting}
use Rattle.mp_words.specs.declared.trying.Back.TheVariants as back
use Rattle.mp_words.specs.declared.trying.TryEnd.{TryEnd}
use Rattle.mp_words.specs.declared.trying.TryEnd.TheVariants as tryend
use Rattle.mp_words.specs.Effect.{effect_of, free_row, may_become}
use Rattle.mp_words.specs.Order.{slots_of}
use Rattle.mp_words.specs.PathTable.{has_ctrl}
use Rattle.mp_words.specs.Request.{Asked, Tried}
use Rattle.mp_words.specs.Row.{is_given}
use Rattle.mp_status.specs.declared.class.Class.{Class}
use Rattle.mp_status.specs.declared.class.Class.TheVariants as class
use Rattle.mp_core.specs.Status.{lists, has}
use Rattle.mp_change.specs.Changes.{IsLineOp}
use Rattle.mp_keep.specs.Keeper.{KeeperView, IsSound, removal_of, owner_of, owner_at}
use Rattle.mp_legal.specs.PlainChange.{changed, changed_by, changed_path}
use Rattle.mp_legal.specs.PlainFinish as plain
use Rattle.mp_legal.specs.PlainState.{State, row_at, request_of, paths_of, with_entry, entry_of}
use Rattle.mp_legal.specs.PlainSubmit.{submitted, tried}
use Rattle.mp_legal.specs.Stepped.{Place, maker_of}
use Rattle.mp_legal.specs.ToldKeeper.{KeepsAt}
pub use Rattle.mp_desk.proofs.KeeperStands.{stands_same, sound_room, stands_room, KeepsStand, change_stands, submit_stands, finish_stands}

-- ---- what its data agree with

pub keeps_room : (k l : KeeperView) (s : State) → l ≡ record k { spare = l.spare } → KeepsAt k s → KeepsAt l s
keeps_room k l s is h = subst (λ (z : KeeperView). KeepsAt z s) (sym is) (record { order = h.order; within = h.within; owners = h.owners; removals = h.removals; rest = h.rest; flips = h.flips })

-- What the keeper's data look at stays.
pub record SameKept (s t : State) : Type 0 where
  pub order : t.order ≡ s.order
  pub owners : map owner_of t.rows ≡ map owner_of s.rows
  pub removals : t.removals ≡ s.removals
  pub flips : t.flips ≡ s.flips

pub keeps_on : (k : KeeperView) (s t : State) → SameKept s t → KeepsAt k s → KeepsAt k t
keeps_on k s t same h = record {
  order = same.order ∙ h.order;
  within = h.within;
  owners = h.owners ∙ sym same.owners;
  removals = same.removals ∙ h.removals;
  rest = h.rest;
  flips = same.flips ∙ h.flips;
}

pub same_all : (s : State) → SameKept s s
same_all s = record { order = refl; owners = refl; removals = refl; flips = refl }

owners_set : (rows : List Row) (slot : ℕ) (row : Row) → owner_of row ≡ owner_of (get_or rows slot (free_row 0)) → map owner_of (set rows slot row) ≡ map owner_of rows
owners_set [] slot row e = refl
owners_set (r ∷ rows) zero row e = ap (λ (o : Option ℕ). o ∷ map owner_of rows) e
owners_set (r ∷ rows) (suc slot) row e = ap (λ (os : List (Option ℕ)). owner_of r ∷ os) (owners_set rows slot row e)

-- a row entry that leaves the slot's controller
entry_same : (s : State) (e : RowEntry) → owner_of e.row ≡ owner_of (row_at s e.slot) → SameKept s (with_entry s e)
entry_same s e is = record { order = refl; owners = owners_set s.rows e.slot e.row is; removals = refl; flips = refl }

-- a submit
tried_same : (lane : ℕ) (s : State) (a : Asked) (ending : TryEnd) → SameKept s (tried lane s a ending).state
tried_same lane s a (tryend.Sent slot version) = record { order = refl; owners = refl; removals = refl; flips = refl }
tried_same lane s a tryend.Listed = record { order = refl; owners = refl; removals = refl; flips = refl }
tried_same lane s a tryend.Failed = record { order = refl; owners = refl; removals = refl; flips = refl }

pub submitted_same : (near : Near) (lane : ℕ) (s : State) (req : ℕ) → SameKept s (submitted near lane s req).state
submitted_same near lane s req = tried_same lane s (request_of s req) _

-- a finish
ended_same : (lane hop : ℕ) (s : State) (f : Flight) (tries : List Tried) (statuses : List ℕ) (c : Class) → SameKept s (plain.ended s f tries statuses (plain.back_of lane s f hop c)).state
ended_same lane hop s f tries statuses class.Complete = record { order = refl; owners = refl; removals = refl; flips = refl }
ended_same lane hop s f tries statuses class.Retry = record { order = refl; owners = refl; removals = refl; flips = refl }
ended_same lane hop s f tries statuses (class.Failover false) = record { order = refl; owners = refl; removals = refl; flips = refl }
ended_same lane hop s f tries statuses (class.Failover true) = by (row_at s f.slot).ana
  where
    by : (b : Bool) → SameKept s (plain.ended s f tries statuses (Some (if b then back.Set (entry_of s f.slot op.Pending (Hop lane f.req hop)) else back.Unset))).state
    by true = record { order = refl; owners = owners_set s.rows f.slot _ refl; removals = refl; flips = refl }
    by false = record { order = refl; owners = refl; removals = refl; flips = refl }

pub finished_same : (answers : List Answer) (lane : ℕ) (s : State) (f : Flight) → SameKept s (plain.finished answers lane s f).state
finished_same answers lane s f = ended_same lane _ s f (request_of s f.req).tries _ _

-- a row change
changed_is : (a b : Row) → effect.Changed a ≡ effect.Changed b → b ≡ a
changed_is a b e = cc

refused_is : (c : CState) (row : Row) → effect.Refused c ≡ effect.Changed row → ⊥
refused_is c row e = cc

unarmed_is : (row : Row) → effect.NotArmed ≡ effect.Changed row → ⊥
unarmed_is row e = cc

owner_given : (row : Row) (state : ℕ) (n : Row) → 1 ≤ state → is_given row ≡ true → n.state ≡ state → n.ctrl ≡ row.ctrl → owner_of n ≡ owner_of row
owner_given row state n some given is ctrl =
    let given_n : is_given n ≡ true = grind (arith, nat_tests) in
    (λ i. if given_n i then Some n.ctrl else None) ∙ ap Some ctrl ∙ (λ i. if sym given i then Some row.ctrl else None)

went_owner : (c : CState) (row now : Row) (b : Bool) → (if b then effect.Changed (record row { version = row.version + 1; cstate = c }) else effect.Refused row.cstate) ≡ effect.Changed now → owner_of now ≡ owner_of row
went_owner c row now true e = ap owner_of (changed_is (record row { version = row.version + 1; cstate = c }) now e)
went_owner c row now false e = absurd (refused_is row.cstate now e)

armed_owner : (row now : Row) (b c : Bool) → (if b then (if c then effect.Changed (record row { version = row.version + 1; armed = false; cstate = Resetting }) else effect.Refused row.cstate) else effect.NotArmed) ≡ effect.Changed now → owner_of now ≡ owner_of row
armed_owner row now true true e = ap owner_of (changed_is (record row { version = row.version + 1; armed = false; cstate = Resetting }) now e)
armed_owner row now true false e = absurd (refused_is row.cstate now e)
armed_owner row now false c e = absurd (unarmed_is now e)

effect_owner : (row now : Row) (o : Op) → IsLineOp o → is_given row ≡ true → effect_of row o ≡ effect.Changed now → owner_of now ≡ owner_of row
effect_owner row now (op.Log None changing) line given e = ap owner_of (changed_is _ now e)
effect_owner row now (op.Log (Some state) changing) line given e =
    let is = changed_is _ now e in owner_given row state now line.0 given (ap (λ (r : Row). r.state) is) (ap (λ (r : Row). r.ctrl) is)
effect_owner row now (op.Ctrl c) line given e = went_owner c row now (may_become c row.cstate) e
effect_owner row now op.Expire line given e = armed_owner row now row.armed (may_become Resetting row.cstate) e
effect_owner row now op.Pending line given e = absurd line
effect_owner row now (op.Give gift) line given e = absurd line
effect_owner row now op.Mark line given e = absurd line
effect_owner row now op.Free line given e = absurd line

-- a path that was found is that of a listed slot
record IsOf (slots : List ℕ) (f : ℕ → Row) (path : Path) : Type 0 where
  there : has path.slot slots ≡ true
  row : path.row ≡ f path.slot

same_number : (n : ℕ) → (n == n) ≡ true
same_number n = grind (arith, nat_tests)

or_more : (b c : Bool) → c ≡ true → (b || c) ≡ true
or_more true c e = refl
or_more false c e = e

found_of : (test : Path → Bool) (f : ℕ → Row) (slots : List ℕ) (path : Path) → find test (map (λ slot. record { slot = slot; row = f slot }) slots) ≡ Some path → IsOf slots f path
found_of test f [] path e = absurd cc
found_of test f (s ∷ slots) path e = by (test (record { slot = s; row = f s })) e (found_of test f slots path)
  where
    by : (b : Bool) → cond b (Some (record { slot = s; row = f s })) (find test (map (λ slot. record { slot = slot; row = f slot }) slots)) ≡ Some path
        → (find test (map (λ slot. record { slot = slot; row = f slot }) slots) ≡ Some path → IsOf slots f path) → IsOf (s ∷ slots) f path
    by true e later =
        let here : path ≡ record { slot = s; row = f s } = cc in
        record { there = ap (λ (p : Path). (s == p.slot) || has p.slot slots) here ∙ ap (λ (b : Bool). b || has s slots) (same_number s); row = ap (λ (p : Path). p.row) here ∙ ap (λ (p : Path). f p.slot) (sym here) }
    by false e later = let k = later e in record { there = or_more (s == path.slot) (has path.slot slots) k.there; row = k.row }

below_of : (slots : List ℕ) (slot : ℕ) → list_all (λ s. nat_lt s 15) slots ≡ true → has slot slots ≡ true → slot < 15
below_of [] slot all there = absurd cc
below_of (s ∷ slots) slot all there = by (s == slot) refl (nat_lt s 15) refl all there (below_of slots slot)
  where
    by : (b : Bool) → (s == slot) ≡ b → (c : Bool) → nat_lt s 15 ≡ c → (c && list_all (λ s. nat_lt s 15) slots) ≡ true → (b || has slot slots) ≡ true
        → (list_all (λ s. nat_lt s 15) slots ≡ true → has slot slots ≡ true → slot < 15) → slot < 15
    by b e false f all there later = absurd cc
    by true e true f all there later = grind (arith, nat_tests)
    by false e true f all there later = later all there

given_of : (row : Row) → is_some (owner_of row) ≡ true → is_given row ≡ true
given_of row e = by (is_given row) e
  where
    by : (b : Bool) → is_some (if b then Some row.ctrl else None) ≡ true → b ≡ true
    by true e = refl
    by false e = absurd cc

-- a listed slot has a path
listed_given : (k : KeeperView) (s : State) (slot : ℕ) → IsSound k → KeepsAt k s → has slot (slots_of s.order) ≡ true → is_given (row_at s slot) ≡ true
listed_given k s slot sound h there =
    let listed : lists slot k.order ≡ true = ap (lists slot) (sym h.order) ∙ there in
    let low = below_of (slots_of k.order) slot h.within listed in
    let owner : owner_at k slot ≡ owner_of (row_at s slot) = ap (λ (os : List (Option ℕ)). get_or os slot None) h.owners ∙ get_or-map owner_of s.rows slot (free_row 0) in
    given_of (row_at s slot) (ap (λ (o : Option ℕ). is_some o) (sym owner) ∙ sound.owned slot low ∙ or_more (is_some (removal_of k.removals slot)) (lists slot k.order) listed)

pub changed_same : (k : KeeperView) (at : Place) (s : State) (ctrl : ℕ) (o : Op) → IsLineOp o → IsSound k → KeepsAt k s → SameKept s (changed at s ctrl o).state
changed_same k at s ctrl o line sound h = by_path (find (has_ctrl ctrl) (paths_of s)) refl
  where
    by_effect : (path : Path) → IsOf (slots_of s.order) (row_at s) path → (f : Effect) → effect_of path.row o ≡ f → SameKept s (changed_by at s path o f).state
    by_effect path is (effect.Changed now) e =
        let given : is_given path.row ≡ true = ap is_given is.row ∙ listed_given k s path.slot sound h is.there in
        entry_same s (record { slot = path.slot; row = now; op = o; by = maker_of at }) (effect_owner path.row now o line given e ∙ ap owner_of is.row)
    by_effect path is (effect.Refused c) e = same_all s
    by_effect path is effect.NotArmed e = same_all s

    by_path : (found : Option Path) → find (has_ctrl ctrl) (paths_of s) ≡ found → SameKept s (changed_path at s o found).state
    by_path None e = same_all s
    by_path (Some path) e = by_effect path (found_of (has_ctrl ctrl) (row_at s) (slots_of s.order) path e) (effect_of path.row o) refl
