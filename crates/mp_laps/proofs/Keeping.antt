-- What each of the keeper's calls leaves for the next one, what a submit and a finish leave for the keeper, and the start.
use Rattle.std.proofs.Common.{◌≡◌, ◌∙◌, ℕ, ◌-◌, zero, suc, false, List, ◌∷◌, Option, Some, None, Result, Ok, Err, replicate, sym, refl, ap, subst, arith}
use Rattle.atomic_table.specs.Seated.{TableId}
use Rattle.mp_words.specs.declared.row.Policy.{Policy}
use Rattle.mp_words.specs.declared.flight.Flight.{Flight}
use Rattle.mp_words.specs.declared.op.Gift.{Gift}
use Rattle.mp_words.specs.declared.op.Maker.{Maker}
use Rattle.mp_words.specs.declared.entry.RowEntry.{RowEntry}
use Rattle.mp_words.specs.declared.entry.OrderEntry.{OrderEntry}
use Rattle.mp_words.specs.Effect.{Clears, every_one, the_slots, none, clears_of}
use Rattle.mp_words.specs.TwoPaths.{two_paths}
use Rattle.mp_core.specs.declared.view.View.{View}
use Rattle.mp_core.specs.declared.view.Start.{Start}
use Rattle.mp_core.specs.Core.{Core}
use Rattle.mp_core.specs.Memory.{row_at}
use Rattle.mp_core.specs.Status.{lists}
use Rattle.mp_words.specs.Row.{is_given}
use Rattle.mp_change.specs.Clears.{clears_view}
use Rattle.mp_keep.specs.declared.added.Added.{Added}
use Rattle.mp_keep.specs.declared.reaped.Reaped.{Reaped}
use Rattle.mp_keep.specs.declared.add_error.AddError.{AddError}
use Rattle.mp_keep.specs.declared.remove_error.RemoveError.{RemoveError}
use Rattle.mp_keep.specs.declared.remove_error.RemoveError.TheVariants.{NoPath, Moved}
use Rattle.mp_keep.specs.Keeper.{KeeperView, StandsTo, IsNew, AtStart, BeganWith, owner_in, owner_of}
use Rattle.mp_keep.specs.Keeps.{Adds, AddTo, Removes, RemoveTo, SetsPolicy}
use Rattle.mp_keep.specs.Walks.{Reaps}
use Rattle.mp_plain.specs.TwoPaths.{two_path_words}
use Rattle.mp_plain.specs.Told.{core_begun}
use Rattle.mp_plain.proofs.Stages.{of_fifteen}
use Rattle.mp_plain.proofs.Worked.{worked, same, two_paths_lawful}
use Rattle.mp_words.specs.declared.near.Near.{Near}
use Rattle.mp_words.specs.declared.trying.Try.{Try}
use Rattle.mp_words.specs.declared.answers.Answer.{Answer}
use Rattle.mp_words.specs.RequestView.{RequestView}
use Rattle.mp_submit.specs.declared.submit.Submitted.{Submitted}
use Rattle.mp_submit.specs.declared.finish.Finished.TheVariants as finished
use Rattle.mp_submit.specs.Submits.{Submits}
use Rattle.mp_submit.specs.Finishes.{Finishes}
use Rattle.mp_keep.specs.Keeper.{SameKeeping}
use Rattle.mp_laps.proofs.Lapping.{is_sent, flies}
use Rattle.mp_laps.specs.Keeping.{Leaves, Sends, StillStands}

-- what clearing leaves
clears_left : (k : Clears) (slot : ℕ) (v : View) → (clears_view k slot v).left ≡ v.left
clears_left every_one slot v = refl
clears_left the_slots slot v = refl
clears_left none slot v = refl

clears_inside : (k : Clears) (slot : ℕ) (v : View) → (clears_view k slot v).inside ≡ v.inside
clears_inside every_one slot v = refl
clears_inside the_slots slot v = refl
clears_inside none slot v = refl

clears_flights : (k : Clears) (slot : ℕ) (v : View) → (clears_view k slot v).flights ≡ v.flights
clears_flights every_one slot v = refl
clears_flights the_slots slot v = refl
clears_flights none slot v = refl

-- a call that did nothing
pub leaves_all : (n : ℕ) (l : KeeperView) (a b : Core) → b ≡ a → a.view.inside ≡ None → StandsTo l b.view → Leaves n l a b
leaves_all n l a b e closed stands =
    let same : b.view.left ≡ a.view.left = ap (λ (c : Core). c.view.left) e in
    record {
      stands = stands;
      closed = ap (λ (c : Core). c.view.inside) e ∙ closed;
      flights = ap (λ (c : Core). c.view.flights) e;
      left = omega arith;
    }

pub add_leaves : (k l : KeeperView) (a b : Core) (gift : Gift) (by : Maker) (answer : Result Added AddError) → a.view.inside ≡ None → Adds k l a b gift by answer → Leaves 2 l a b
add_leaves k l a b gift by answer closed h = of answer h.to
  where
    of : (r : Result Added AddError) → AddTo k l a b gift by r → Leaves 2 l a b
    of (Err e) t = leaves_all 2 l a b t.1 closed h.stands
    of (Ok added) t =
        let clears = clears_of added.row.op added.row.row in
        let slot = t.1 in
        let less : b.view.left ≡ a.view.left - 1 - 1 = ap (λ (c : Core). c.view.left) t.3.core ∙ clears_left clears slot _ in
        record {
          stands = h.stands;
          closed = ap (λ (c : Core). c.view.inside) t.3.core ∙ clears_inside clears slot _ ∙ closed;
          flights = ap (λ (c : Core). c.view.flights) t.3.core ∙ clears_flights clears slot _;
          left = omega arith;
        }

pub remove_leaves : (k l : KeeperView) (a b : Core) (ctrl : ℕ) (by : Maker) (answer : Result RowEntry RemoveError) → a.view.inside ≡ None → Removes k l a b ctrl by answer → Leaves 1 l a b
remove_leaves k l a b ctrl by answer closed h = of answer h.to
  where
    one : b.view.left ≡ a.view.left - 1 → b.view.inside ≡ a.view.inside → b.view.flights ≡ a.view.flights → Leaves 1 l a b
    one less inside flights = record { stands = h.stands; closed = inside ∙ closed; flights = flights; left = omega arith }

    of : (r : Result RowEntry RemoveError) → RemoveTo k l a b ctrl by r → Leaves 1 l a b
    of (Err (NoPath order)) t = leaves_all 1 l a b t.2 closed h.stands
    of (Err (Moved row)) t = one (ap (λ (c : Core). c.view.left) t.2.core) (ap (λ (c : Core). c.view.inside) t.2.core) (ap (λ (c : Core). c.view.flights) t.2.core)
    of (Ok entry) t = one (ap (λ (c : Core). c.view.left) t.2.core) (ap (λ (c : Core). c.view.inside) t.2.core) (ap (λ (c : Core). c.view.flights) t.2.core)

pub policy_leaves : (k l : KeeperView) (a b : Core) (policy : Policy) (by : Maker) (entry : OrderEntry) → a.view.inside ≡ None → SetsPolicy k l a b policy by entry → Leaves 1 l a b
policy_leaves k l a b policy by entry closed h =
    let less : b.view.left ≡ a.view.left - 1 = ap (λ (c : Core). c.view.left) h.core in
    record {
      stands = h.stands;
      closed = ap (λ (c : Core). c.view.inside) h.core ∙ closed;
      flights = ap (λ (c : Core). c.view.flights) h.core;
      left = omega arith;
    }

pub reap_leaves : (k l : KeeperView) (a b : Core) (by : Maker) (answer : Reaped) → a.view.inside ≡ None → Reaps k l a b by answer → Leaves 16 l a b
reap_leaves k l a b by answer closed h =
    let used = h.used in
    let within = h.within in
    record { stands = h.stands; closed = h.kept.inside ∙ closed; flights = h.kept.flights; left = omega arith }

-- the controllers of two paths
abbrev pub owners : List (Option ℕ)
owners = Some 0 ∷ Some 1 ∷ replicate 13 None

abbrev begun : ℕ → Start
begun units = record { words = two_path_words; units = units }

abbrev is_first : Option ℕ → Type 0
is_first None = ⊥
is_first (Some zero) = Unit {0}
is_first (Some (suc n)) = ⊥

nobodys : (s ctrl : ℕ) → owner_in owners (suc (suc s)) ≡ Some ctrl → ⊥
nobodys s ctrl e = subst some (sym (same 13 s None) ∙ e) tt
  where
    some : Option ℕ → Type 0
    some None = Unit {0}
    some (Some n) = ⊥

two_apart : (i j ctrl : ℕ) → owner_in owners i ≡ Some ctrl → owner_in owners j ≡ Some ctrl → i ≡ j
two_apart zero zero ctrl a b = refl
two_apart (suc zero) (suc zero) ctrl a b = refl
two_apart zero (suc zero) ctrl a b = absurd (subst is_first (a ∙ sym b) tt)
two_apart (suc zero) zero ctrl a b = absurd (subst is_first (b ∙ sym a) tt)
two_apart (suc (suc i)) j ctrl a b = absurd (nobodys i ctrl a)
two_apart i (suc (suc j)) ctrl a b = absurd (nobodys j ctrl b)

pub began : (units : ℕ) → BeganWith two_paths owners (begun units)
began units = record {
  order_is = refl;
  lawful = two_paths_lawful.order;
  version = omega arith;
  sized = refl;
  owned = of_fifteen (λ s. owner_in owners s ≡ owner_of (row_at worked s)) refl refl refl refl refl refl refl refl refl refl refl refl refl refl refl;
  listed_are = of_fifteen (λ s. is_given (row_at worked s) ≡ lists s two_paths) refl refl refl refl refl refl refl refl refl refl refl refl refl refl refl;
  unmarked = of_fifteen (λ s. (row_at worked s).marked ≡ false) refl refl refl refl refl refl refl refl refl refl refl refl refl refl refl;
  apart = two_apart;
}

-- the keeper's steps over the words of two paths, of which none is made yet
begins : (home : TableId) (allowance : ℕ) → AtStart two_paths owners (core_begun home (record { words = two_path_words; allowance = allowance })).view
begins home allowance = record { keeper = refl; start = began _; index = refl; flips = refl; events = refl }

pub new_stands : (home : TableId) (allowance : ℕ) (k : KeeperView) (c : Core) → c ≡ core_begun home (record { words = two_path_words; allowance = allowance }) → IsNew two_paths owners k → ((v : View) → IsNew two_paths owners k → AtStart two_paths owners v → StandsTo k v) → StandsTo k c.view
new_stands home allowance k c e new law = subst (λ (x : Core). StandsTo k x.view) (sym e) (law _ new (begins home allowance))

-- a submit leaves the keeper's part
pub submit_sends : (near : Near) (k : KeeperView) (a b : Core) (before after : RequestView) (answer : Submitted) (made : Try) → ((v w : View) → SameKeeping v w → StandsTo k v → StandsTo k w) → StandsTo k a.view → a.view.inside ≡ None → Submits near a b before after answer made → Sends k a b after answer
submit_sends near k a b before after answer made law stands closed s =
    let less : b.view.left ≡ a.view.left - 1 = ap (λ (c : Core). c.view.left) s.view in
    let same : SameKeeping a.view b.view = record {
      role = ap (λ (c : Core). c.view.role) s.view;
      start = ap (λ (c : Core). c.view.keeping.start) s.view;
      events = ap (λ (c : Core). c.view.keeping.events) s.view;
      flips = ap (λ (c : Core). c.view.keeping.flips) s.view;
      index = ap (λ (c : Core). c.view.keeping.index) s.view;
    } in
    record {
      stands = law a.view b.view same stands;
      closed = ap (λ (c : Core). c.view.inside) s.view;
      left = omega arith;
      flies = λ f e. flies near a b before after f made (subst (λ (r : Submitted). Submits near a b before after r made) e s);
      sent = λ f e. is_sent near a b before after f made (subst (λ (r : Submitted). Submits near a b before after r made) e s);
    }

-- a finish that completes leaves the keeper's part
pub finish_stands : (k : KeeperView) (answers : List Answer) (a b : Core) (f : Flight) (before after : RequestView) (status : ℕ) → ((v w : View) → SameKeeping v w → StandsTo k v → StandsTo k w) → StandsTo k a.view → a.view.inside ≡ None → Finishes answers a b f before after (finished.Done status) → StillStands k a b
finish_stands k answers a b f before after status law stands closed h =
    let lands = h.to.2 in
    let same : SameKeeping a.view b.view = record {
      role = ap (λ (c : Core). c.view.role) lands.after;
      start = ap (λ (c : Core). c.view.keeping.start) lands.after;
      events = ap (λ (c : Core). c.view.keeping.events) lands.after;
      flips = ap (λ (c : Core). c.view.keeping.flips) lands.after;
      index = ap (λ (c : Core). c.view.keeping.index) lands.after;
    } in
    record {
      stands = law a.view b.view same stands;
      closed = ap (λ (c : Core). c.view.inside) lands.after ∙ closed;
      left = ap (λ (c : Core). c.view.left) lands.after;
    }
