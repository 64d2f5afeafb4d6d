-- What the calls of lanes leave of how a keeper stands to its steps.
use Rattle.std.proofs.Common.{◌≡◌, ℕ, true, false, List, [], ◌∷◌, ◌++◌, filter, refl, sym, ap, ◌∙◌, subst}
use Rattle.mp_words.specs.declared.answers.Answer.{Answer}
use Rattle.mp_words.specs.declared.flight.Flight.{Flight}
use Rattle.mp_words.specs.declared.near.Near.{Near}
use Rattle.mp_words.specs.declared.note.Note.{Note}
use Rattle.mp_words.specs.declared.op.Op.{Op}
use Rattle.mp_words.specs.declared.op.Maker.{Maker}
use Rattle.mp_words.specs.declared.trying.Back.{Back}
use Rattle.mp_words.specs.declared.trying.Try.{Try}
use Rattle.mp_words.specs.Effect.{Clears, every_one, the_slots, none, clears_of}
use Rattle.mp_words.specs.RequestView.{RequestView}
use Rattle.mp_status.specs.declared.class.Class.{Class}
use Rattle.mp_status.specs.declared.class.Class.TheVariants as class
use Rattle.mp_core.specs.declared.view.Seen.{Seen}
use Rattle.mp_core.specs.declared.view.View.{View}
use Rattle.mp_core.specs.Core.{Core}
use Rattle.mp_core.specs.Kinds.{Lands}
use Rattle.mp_core.specs.Status.{status, lists}
use Rattle.mp_core.specs.Unpacked.{first_status, start_order}
use Rattle.mp_core.specs.Views.{unheld, last_order}
use Rattle.mp_change.specs.declared.change.ChangeEnd.{ChangeEnd}
use Rattle.mp_change.specs.declared.change.ChangeEnd.TheVariants as end
use Rattle.mp_change.specs.declared.pending.PendingEnd.{PendingEnd}
use Rattle.mp_change.specs.declared.pending.PendingEnd.TheVariants as pending
use Rattle.mp_change.specs.Changes.{ChangesPath, end_view}
use Rattle.mp_change.specs.Clears.{clears_view}
use Rattle.mp_change.specs.Pending.{MarksPending, DropsCurrent, dropped, pending_view}
use Rattle.mp_submit.specs.declared.finish.Finished.{Finished}
use Rattle.mp_submit.specs.declared.finish.Finished.TheVariants as finished
use Rattle.mp_submit.specs.declared.submit.Submitted.{Submitted}
use Rattle.mp_submit.specs.Finishes.{Finishes, FinishTo, FailsOver, hop_of}
use Rattle.mp_submit.specs.Submits.{Submits}
use Rattle.mp_keep.specs.Keeper.{KeeperView, StandsTo, StatusBy, IsSound, removal_of, has_entry}
use Rattle.mp_keep.proofs.Stands.{passed_stands, clears_stand}
pub use Rattle.mp_desk.specs.Desks.{KeepsStand}

-- where its part stays but for the row that it holds
pub stands_same : (k : KeeperView) (v w : View) → w.role ≡ v.role → w.keeping.start ≡ v.keeping.start → w.keeping.events ≡ v.keeping.events → w.keeping.flips ≡ v.keeping.flips → w.keeping.index ≡ v.keeping.index
    → StandsTo k v → StandsTo k w
stands_same k v w role start events flips index s = record {
  sound = s.sound;
  keeper = role ∙ s.keeper;
  order = s.order ∙ (λ i. last_order (start_order (sym start i)) (sym events i));
  slots = λ slot lt. subst (StatusBy (removal_of k.removals slot) (lists slot k.order)) (λ i. status (first_status (sym start i) slot) slot (sym events i)) (s.slots slot lt);
  flips = s.flips ∙ sym flips;
  index = index ∙ s.index;
  entries = ap (filter has_entry) events ∙ s.entries;
}

-- a keeper with other room
pub sound_room : (k : KeeperView) (n : ℕ) → IsSound k → IsSound (record k { spare = n })
sound_room k n s = record {
  lawful = s.lawful;
  sized = s.sized;
  owned = s.owned;
  apart = s.apart;
  within = s.within;
  distinct = s.distinct;
  ordered = s.ordered;
  turned = s.turned;
  versions = s.versions;
  flipped = s.flipped;
}

pub stands_room : (k l : KeeperView) (v : View) → l ≡ record k { spare = l.spare } → StandsTo k v → StandsTo l v
stands_room k l v is s = subst (λ (z : KeeperView). StandsTo z v) (sym is) (record {
  sound = sound_room k l.spare s.sound;
  keeper = s.keeper;
  order = s.order;
  slots = s.slots;
  flips = s.flips;
  index = s.index;
  entries = s.entries;
})

clears_stands : (k : KeeperView) (c : Clears) (slot : ℕ) (v : View) → StandsTo k v → StandsTo k (clears_view c slot v)
clears_stands k every_one slot v s = passed_stands k v s
clears_stands k the_slots slot v s = clears_stand k slot 8 v s
clears_stands k none slot v s = s

end_stands : (k : KeeperView) (ending : ChangeEnd) (v : View) → StandsTo k v → StandsTo k (end_view ending v)
end_stands k (end.Changed e) v s = clears_stands k (clears_of e.op e.row) e.slot (record v { entries = v.entries ++ e ∷ []; keeping = unheld v.keeping }) (stands_same k v (record v { entries = v.entries ++ e ∷ []; keeping = unheld v.keeping }) refl refl refl refl refl s)
end_stands k (end.Refused slot row) v s = s
end_stands k (end.NotArmed slot row) v s = s
end_stands k (end.NoPath order) v s = s
end_stands k (end.Moved slot row) v s = s

-- the view after a call differs from this one by what the keeper's part doesn't have
like : (k : KeeperView) (v : View) (b c : Core) → b ≡ c → c.view.role ≡ v.role → c.view.keeping.start ≡ v.keeping.start → c.view.keeping.events ≡ v.keeping.events → c.view.keeping.flips ≡ v.keeping.flips → c.view.keeping.index ≡ v.keeping.index
    → StandsTo k v → StandsTo k b.view
like k v b c is role start events flips index s = subst (λ (z : Core). StandsTo k z.view) (sym is) (stands_same k v c.view role start events flips index s)

pub change_stands : (ctrl : ℕ) (o : Op) (by : Maker) (a b : Core) (ending : ChangeEnd) (note : Note) (seen : Seen) → ChangesPath ctrl o by a b ending note seen → KeepsStand a b
change_stands ctrl o by a b ending note seen h k s = like k (end_view ending a.view) b _ h.view refl refl refl refl refl (end_stands k ending a.view s)

pub submit_stands : (near : Near) (a b : Core) (before after : RequestView) (answer : Submitted) (made : Try) → Submits near a b before after answer made → KeepsStand a b
submit_stands near a b before after answer made h k s = like k a.view b _ h.view refl refl refl refl refl s

pending_stands : (k : KeeperView) (slot : ℕ) (ending : PendingEnd) (v : View) → StandsTo k v → StandsTo k (pending_view slot ending v)
pending_stands k slot (pending.Set e) v s = end_stands k (end.Changed e) v s
pending_stands k slot (pending.NoAna row) v s = clears_stand k slot 8 (record v { keeping = unheld v.keeping }) (passed_stands k v s)
pending_stands k slot (pending.Moved row) v s = s

marks_stand : (slot : ℕ) (by : Maker) (a b : Core) (ending : PendingEnd) (note : Note) → MarksPending slot by a b ending note → KeepsStand a b
marks_stand slot by a b ending note h k s = like k (pending_view slot ending a.view) b _ h.view refl refl refl refl refl (pending_stands k slot ending a.view s)

drops_stand : (slot : ℕ) (a b : Core) (note : Note) → DropsCurrent slot a b note → KeepsStand a b
drops_stand slot a b note h k s = like k (dropped slot a.view) b _ h.view refl refl refl refl refl (clears_stand k slot 8 (record (a.view) { keeping = unheld a.view.keeping }) (passed_stands k a.view s))

fails_stand : (c : Class) (a b : Core) (f : Flight) (by : Maker) (note : Note) (way : Back) → FailsOver c a b f by note way → KeepsStand a b
fails_stand (class.Failover true) a b f by note way h = marks_stand f.slot by a b h.0 note h.1
fails_stand (class.Failover false) a b f by note way h = drops_stand f.slot a b note h.0
fails_stand class.Complete a b f by note way h = absurd h
fails_stand class.Retry a b f by note way h = absurd h

pub lands_stand : (a b : Core) (f : Flight) → Lands a b f → KeepsStand a b
lands_stand a b f h k s = like k a.view b _ h.after refl refl refl refl refl s

finish_to : (answers : List Answer) (a b : Core) (f : Flight) (before after : RequestView) (answer : Finished) → FinishTo answers a b f before after answer → KeepsStand a b
finish_to answers a b f before after (finished.Done status) to = lands_stand a b f to.2
finish_to answers a b f before after (finished.Back note) to = λ k s. lands_stand to.0 b f to.3 k (fails_stand _ a to.0 f (hop_of a.lane before) note to.1 to.2 k s)
finish_to answers a b f before after (finished.Moved g row note) to = marks_stand f.slot (hop_of a.lane before) a b (pending.Moved row) note to.2

pub finish_stands : (answers : List Answer) (a b : Core) (f : Flight) (before after : RequestView) (answer : Finished) → Finishes answers a b f before after answer → KeepsStand a b
finish_stands answers a b f before after answer h = finish_to answers a b f before after answer h.to
