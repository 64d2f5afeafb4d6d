-- What each call over the table leaves for the next one.
use Rattle.std.proofs.Common.{◌≡◌, ◌∙◌, ℕ, zero, suc, ◌||◌, Bool, true, false, true≢false, List, [], ◌∷◌, None, Result, Ok, Err, sym, refl, ap, subst, if◌then◌else◌}
use Rattle.mp_words.specs.declared.flight.Flight.{Flight}
use Rattle.mp_words.specs.declared.near.Near.{Near}
use Rattle.mp_words.specs.declared.trying.Try.{Try}
use Rattle.mp_words.specs.declared.answers.Answer.{Answer}
use Rattle.mp_words.specs.declared.op.Gift.{Gift}
use Rattle.mp_words.specs.declared.op.Maker.{Maker}
use Rattle.mp_words.specs.declared.entry.RowEntry.{RowEntry}
use Rattle.mp_words.specs.RequestView.{RequestView}
use Rattle.mp_words.specs.Effect.{Clears, every_one, the_slots, none, clears_of}
use Rattle.mp_core.specs.declared.view.Role.{Role}
use Rattle.mp_core.specs.declared.view.Role.TheVariants as role
use Rattle.mp_core.specs.declared.view.Keeping.{Keeping}
use Rattle.mp_core.specs.declared.view.View.{View}
use Rattle.mp_core.specs.Core.{Core}
use Rattle.mp_core.specs.Views.{is_flight, flights_without, clear_by, kept_part}
use Rattle.mp_change.specs.Clears.{clears_view, cleared_upto}
use Rattle.mp_keep.specs.declared.added.Added.{Added}
use Rattle.mp_keep.specs.declared.reaped.Reaped.{Reaped}
use Rattle.mp_keep.specs.declared.add_error.AddError.{AddError}
use Rattle.mp_keep.specs.declared.remove_error.RemoveError.{RemoveError}
use Rattle.mp_keep.specs.declared.remove_error.RemoveError.TheVariants.{NoPath, Moved}
use Rattle.mp_keep.specs.Keeper.{KeeperView, StandsTo, AtStart, BeganWith}
use Rattle.mp_keep.specs.Keeps.{Adds, AddTo, Removes, RemoveTo}
use Rattle.mp_keep.specs.Walks.{Reaps}
use Rattle.mp_plain.proofs.Worked.{sent_flies}
use Rattle.mp_submit.specs.declared.submit.Submitted.{Submitted}
use Rattle.mp_submit.specs.declared.finish.Finished.TheVariants as finished
use Rattle.mp_submit.specs.Submits.{Submits}
use Rattle.mp_submit.specs.Finishes.{Finishes}
use Rattle.mp_words.specs.TwoPaths.{two_paths}
use Rattle.mp_plain.specs.TwoPaths.{two_path_words}
use Rattle.mp_rule.specs.Lawful.{opening_view}
use Rattle.mp_laps.specs.Keeping.{Leaves}
use Rattle.mp_laps.specs.Tabled.{Steady, Goes, Comes}
use Rattle.mp_laps.proofs.Keeping.{leaves_all, add_leaves, remove_leaves, reap_leaves, owners, began}
use Rattle.mp_laps.proofs.Lapping.{is_sent, flew_more}

clears_role : (k : Clears) (slot : ℕ) (v : View) → (clears_view k slot v).role ≡ v.role
clears_role every_one slot v = refl
clears_role the_slots slot v = refl
clears_role none slot v = refl

-- what a call leaves, with the same lanes out
steady : (n : ℕ) (l : KeeperView) (a b : Core) → Leaves n l a b → b.home ≡ a.home → b.view.role ≡ a.view.role → b.view.keeping.out ≡ a.view.keeping.out → Steady n l a b
steady n l a b h home role out = record { stands = h.stands; closed = h.closed; flights = h.flights; left = h.left; home = home; role = role; out = out }

-- a call that did nothing
pub steady_all : (n : ℕ) (l : KeeperView) (a b : Core) → b ≡ a → a.view.inside ≡ None → StandsTo l b.view → Steady n l a b
steady_all n l a b e closed stands =
    steady n l a b (leaves_all n l a b e closed stands) (ap (λ (c : Core). c.home) e) (ap (λ (c : Core). c.view.role) e) (ap (λ (c : Core). c.view.keeping.out) e)

cleared_out : (r : Role) (node slot : ℕ) (k : Keeping) → (clear_by r node slot k).out ≡ k.out
cleared_out role.Keeper node slot k = refl
cleared_out (role.Lane l) node slot k = refl
cleared_out role.Spent node slot k = refl

upto_out : (slot n : ℕ) (v : View) → (cleared_upto slot n v).keeping.out ≡ v.keeping.out
upto_out slot zero v = refl
upto_out slot (suc n) v = cleared_out (cleared_upto slot n v).role n slot (cleared_upto slot n v).keeping ∙ upto_out slot n v

clears_out : (k : Clears) (slot : ℕ) (v : View) → (clears_view k slot v).keeping.out ≡ v.keeping.out
clears_out every_one slot v = refl
clears_out the_slots slot v = upto_out slot 8 v
clears_out none slot v = refl

pub add_steady : (k l : KeeperView) (a b : Core) (gift : Gift) (by : Maker) (answer : Result Added AddError) → a.view.inside ≡ None → Adds k l a b gift by answer → Steady 2 l a b
add_steady k l a b gift by answer closed h = of answer h.to h
  where
    of : (r : Result Added AddError) → AddTo k l a b gift by r → Adds k l a b gift by answer → Steady 2 l a b
    of (Err e) t s = steady_all 2 l a b t.1 closed s.stands
    of (Ok added) t s =
        let clears = clears_of added.row.op added.row.row in
        steady 2 l a b (add_leaves k l a b gift by answer closed s) (ap (λ (c : Core). c.home) t.3.core)
        (ap (λ (c : Core). c.view.role) t.3.core ∙ clears_role clears t.1 _)
        (ap (λ (c : Core). c.view.keeping.out) t.3.core ∙ clears_out clears t.1 _)

pub remove_steady : (k l : KeeperView) (a b : Core) (ctrl : ℕ) (by : Maker) (answer : Result RowEntry RemoveError) → a.view.inside ≡ None → Removes k l a b ctrl by answer → Steady 1 l a b
remove_steady k l a b ctrl by answer closed h = of answer h.to
  where
    leaves : Leaves 1 l a b
    leaves = remove_leaves k l a b ctrl by answer closed h

    of : (r : Result RowEntry RemoveError) → RemoveTo k l a b ctrl by r → Steady 1 l a b
    of (Err (NoPath order)) t = steady_all 1 l a b t.2 closed h.stands
    of (Err (Moved row)) t = steady 1 l a b leaves (ap (λ (c : Core). c.home) t.2.core) (ap (λ (c : Core). c.view.role) t.2.core) (ap (λ (c : Core). c.view.keeping.out) t.2.core)
    of (Ok entry) t = steady 1 l a b leaves (ap (λ (c : Core). c.home) t.2.core) (ap (λ (c : Core). c.view.role) t.2.core) (ap (λ (c : Core). c.view.keeping.out) t.2.core)

pub reap_steady : (k l : KeeperView) (a b : Core) (by : Maker) (answer : Reaped) → a.view.inside ≡ None → Reaps k l a b by answer → Steady 16 l a b
reap_steady k l a b by answer closed h = steady 16 l a b (reap_leaves k l a b by answer closed h) h.kept.home h.kept.role h.kept.out

pub submit_goes : (near : Near) (a b : Core) (before after : RequestView) (answer : Submitted) (made : Try) → Submits near a b before after answer made → Goes a b after answer
submit_goes near a b before after answer made s = record {
  home = ap (λ (c : Core). c.home) s.view;
  role = ap (λ (c : Core). c.view.role) s.view;
  closed = ap (λ (c : Core). c.view.inside) s.view;
  left = ap (λ (c : Core). c.view.left) s.view;
  flew = λ f e. flew_more near a b before after f made (subst (λ (r : Submitted). Submits near a b before after r made) e s);
  sent = λ f e. is_sent near a b before after f made (subst (λ (r : Submitted). Submits near a b before after r made) e s);
}

pub finish_comes : (answers : List Answer) (a b : Core) (f : Flight) (before after : RequestView) (status : ℕ) → a.view.inside ≡ None → Finishes answers a b f before after (finished.Done status) → Comes f a b
finish_comes answers a b f before after status closed h =
    let lands = h.to.2 in
    record {
      home = ap (λ (c : Core). c.home) lands.after;
      role = ap (λ (c : Core). c.view.role) lands.after;
      closed = ap (λ (c : Core). c.view.inside) lands.after ∙ closed;
      left = ap (λ (c : Core). c.view.left) lands.after;
      flights = ap (λ (c : Core). c.view.flights) lands.after;
    }

-- of one flight none is left
pub only_one : (f : Flight) → flights_without f (f ∷ []) ≡ []
only_one f = by (is_flight f f) (sent_flies f [])
  where
    by : (b : Bool) → (b || false) ≡ true → (if b then [] else f ∷ []) ≡ []
    by true e = refl
    by false e = absurd (true≢false (sym e))

-- the start of a table's keeper
pub table_starts : (units lane n : ℕ) (v w : View) → v ≡ opening_view (record { words = two_path_words; units = units }) → w ≡ kept_part lane n v → AtStart two_paths owners w
table_starts units lane n v w e k = record {
  keeper = ap (λ (x : View). x.role) k ∙ ap (λ (x : View). x.role) e;
  start = subst (BeganWith two_paths owners) (sym (ap (λ (x : View). x.keeping.start) k ∙ ap (λ (x : View). x.keeping.start) e)) (began units);
  index = ap (λ (x : View). x.keeping.index) k ∙ ap (λ (x : View). x.keeping.index) e;
  flips = ap (λ (x : View). x.keeping.flips) k ∙ ap (λ (x : View). x.keeping.flips) e;
  events = ap (λ (x : View). x.keeping.events) k ∙ ap (λ (x : View). x.keeping.events) e;
}
