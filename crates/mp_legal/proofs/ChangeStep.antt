-- A row change of a controller's path is the plain run's.
use Rattle.std.proofs.Common.{◌≡◌, ℕ, ◌-◌, List, [], ◌∷◌, ◌++◌, length, map, set, Option, Some, None, option_map, refl, sym, ap, ◌∙◌, subst}
use Rattle.std.proofs.lemmas.List.{length-set}
use Rattle.mp_words.specs.declared.note.Note.{Note}
use Rattle.mp_words.specs.declared.op.Op.{Op}
use Rattle.mp_words.specs.declared.op.Effect.{Effect}
use Rattle.mp_words.specs.declared.op.Effect.TheVariants as effect
use Rattle.mp_words.specs.declared.entry.RowEntry.{RowEntry}
use Rattle.mp_words.specs.declared.path.Path.{Path}
use Rattle.mp_words.specs.Effect.{clears_of, cleared, effect_of}
use Rattle.mp_words.specs.PathTable.{path_table, path_with}
use Rattle.mp_record.specs.declared.event.Event.{Event}
use Rattle.mp_record.specs.declared.event.Event.TheVariants as event
use Rattle.mp_record.specs.declared.event.Said.TheVariants as said
use Rattle.mp_core.specs.declared.view.Seen.{Seen}
use Rattle.mp_core.specs.declared.view.View.{View}
use Rattle.mp_core.specs.Core.{Core}
use Rattle.mp_core.specs.Memory.{Memory, row_at, row_in, entered_in, left_in}
use Rattle.mp_core.specs.Reads.{with_section, section_in}
use Rattle.mp_core.specs.Views.{unheld}
use Rattle.mp_change.specs.declared.change.ChangeEnd.{ChangeEnd}
use Rattle.mp_change.specs.declared.change.ChangeEnd.TheVariants as end
use Rattle.mp_change.specs.Changes.{ChangesPath, EndsBy, end_by, end_on, end_in, end_view, end_seen, made_in, told_end}
use Rattle.mp_legal.specs.PlainChange.{changed, changed_path, changed_by}
use Rattle.mp_legal.specs.PlainState.{with_entry}
use Rattle.mp_legal.specs.Stepped.{Place, maker_of, tells, makes}
use Rattle.mp_legal.specs.ToldCalls.{IsStep, said_of, entry_in}
use Rattle.mp_legal.specs.ToldState.{Beside, IsAt, state_in}
use Rattle.mp_legal.proofs.Cleared.{clears_words, cleared_length, lasts_cleared, clears_flights, clears_left, clears_start}

-- what a pass knows after a change that ended so
abbrev pub after_end : Note → Seen → ChangeEnd → Core → Core
after_end n seen ending a = record a { view = with_section n (end_seen ending seen) (end_view ending a.view); told = option_map (section_in n.side (end_in ending)) a.told }

-- the words after a row change, with its clearing, in a section on a side
abbrev pub entry_words : ℕ → RowEntry → Memory → Memory
entry_words side e m = left_in side (record (entered_in side m) { rows = set m.rows e.slot e.row; currents = cleared (clears_of e.op e.row) e.slot m.currents })

pub made_words : (side : ℕ) (e : RowEntry) (m : Memory) → length m.currents ≡ 8 → section_in side (made_in e) m ≡ entry_words side e m
made_words side e m eight = ap (left_in side) (clears_words (clears_of e.op e.row) e.slot (row_in e.slot e.row (entered_in side m)) eight)

pub entry_state : (side : ℕ) (e : RowEntry) (m : Memory) (x : Beside) → with_entry (state_in m x) e ≡ state_in (entry_words side e m) x
entry_state side e m x = λ i. record (with_entry (state_in m x) e) { lasts = lasts_cleared m.order.policy (clears_of e.op e.row) e.slot m.currents i }

-- the view with an entry more
abbrev entered_view : RowEntry → View → View
entered_view e v = record v { entries = v.entries ++ e ∷ []; keeping = unheld v.keeping }

pub entry_left : (e : RowEntry) (v : View) → (end_view (end.Changed e) v).left - 1 ≡ v.left - 1
entry_left e v = ap (λ l. l - 1) (clears_left (clears_of e.op e.row) e.slot (entered_view e v))

pub entry_start : (e : RowEntry) (v : View) → (end_view (end.Changed e) v).keeping.start ≡ v.keeping.start
entry_start e v = clears_start (clears_of e.op e.row) e.slot (entered_view e v)

-- a step that makes no entry
still_step : (a : Core) (m : Memory) (x : Beside) (n : Note) (seen : Seen) (events : List Event) → IsAt a m x
    → IsStep (tells (state_in m x) events) 1 a (record a { view = with_section n seen a.view; told = option_map (section_in n.side (λ m. m)) a.told }) x [] events
still_step a m x n seen events k = record {
  memory = section_in n.side (λ m. m) m;
  at = record {
    told = ap (option_map (section_in n.side (λ m. m))) k.told;
    rows = k.rows;
    depths = k.depths;
    currents = k.currents;
    lanes = k.lanes;
    lane = k.lane;
    closed = refl;
    flights = k.flights;
    counted = k.counted;
  };
  state = refl;
  rows = refl;
  orders = refl;
  events = refl;
  left = refl;
  lane = refl;
  home = refl;
  others = refl;
  keeping = refl;
}

-- the pass after a row change
pub entry_at : (a : Core) (m : Memory) (x : Beside) (n : Note) (seen : Seen) (e : RowEntry) → IsAt a m x → IsAt (after_end n seen (end.Changed e) a) (entry_words n.side e m) x
entry_at a m x n seen e k = record {
  told = ap (option_map (section_in n.side (made_in e))) k.told ∙ ap Some (made_words n.side e m k.currents);
  rows = length-set m.rows e.slot e.row ∙ k.rows;
  depths = k.depths;
  currents = cleared_length (clears_of e.op e.row) e.slot m.currents ∙ k.currents;
  lanes = k.lanes;
  lane = k.lane;
  closed = refl;
  flights = clears_flights (clears_of e.op e.row) e.slot (entered_view e a.view) ∙ k.flights;
  counted = k.counted;
}

-- a step that makes an entry
entry_step : (at : Place) (a : Core) (m : Memory) (x : Beside) (n : Note) (seen : Seen) (e : RowEntry) → IsAt a m x
    → IsStep (makes at (state_in m x) e (said.Changed e.slot e.row.version)) 1 a (after_end n seen (end.Changed e) a) x (e ∷ []) (event.At at.line (said.Changed e.slot e.row.version) ∷ [])
entry_step at a m x n seen e k = record {
  memory = entry_words n.side e m;
  at = entry_at a m x n seen e k;
  state = entry_state n.side e m x;
  rows = refl;
  orders = refl;
  events = refl;
  left = entry_left e a.view;
  lane = refl;
  home = refl;
  others = refl;
  keeping = entry_start e a.view;
}

inj_refused : (p q : _) → effect.Refused p ≡ effect.Refused q → p ≡ q
inj_refused p q e = cc

by_effect : (at : Place) (op : Op) (a : Core) (m : Memory) (x : Beside) (n : Note) (seen : Seen) (ctrl : ℕ) (path : Path) (f : Effect) → effect_of path.row op ≡ f
    → EndsBy ctrl op (maker_of at) n (end_by path.slot path.row op (maker_of at) f) → IsAt a m x
    → IsStep (changed_by at (state_in m x) path op f) 1 a (after_end n seen (end_by path.slot path.row op (maker_of at) f) a) x (entry_in (end_by path.slot path.row op (maker_of at) f)) (map (event.At at.line) (said_of (end_by path.slot path.row op (maker_of at) f)))
by_effect at op a m x n seen ctrl path (effect.Changed row) is ends k = entry_step at a m x n seen (record { slot = path.slot; row = row; op = op; by = maker_of at }) k
by_effect at op a m x n seen ctrl path (effect.Refused cstate) is ends k =
    let same : path.row.cstate ≡ cstate = inj_refused path.row.cstate cstate (sym ends.1 ∙ is) in
    subst (λ c. IsStep (changed_by at (state_in m x) path op (effect.Refused c)) 1 a (after_end n seen (end.Refused path.slot path.row) a) x [] (event.At at.line (said.Refused path.slot path.row.version path.row.cstate) ∷ [])) same
    (still_step a m x n seen (event.At at.line (said.Refused path.slot path.row.version path.row.cstate) ∷ []) k)
by_effect at op a m x n seen ctrl path effect.NotArmed is ends k = still_step a m x n seen (event.At at.line (said.NotArmed path.slot path.row.version) ∷ []) k

by_path : (at : Place) (op : Op) (a : Core) (m : Memory) (x : Beside) (n : Note) (seen : Seen) (ctrl : ℕ) (found : Option Path)
    → EndsBy ctrl op (maker_of at) n (end_on m.order op (maker_of at) found) → IsAt a m x
    → IsStep (changed_path at (state_in m x) op found) 1 a (after_end n seen (end_on m.order op (maker_of at) found) a) x (entry_in (end_on m.order op (maker_of at) found)) (map (event.At at.line) (said_of (end_on m.order op (maker_of at) found)))
by_path at op a m x n seen ctrl None ends k = still_step a m x n seen (event.At at.line (said.NoPath m.order.version) ∷ []) k
by_path at op a m x n seen ctrl (Some path) ends k = by_effect at op a m x n seen ctrl path (effect_of path.row op) refl ends k

pub change_step : (at : Place) (ctrl : ℕ) (op : Op) (a b : Core) (ending : ChangeEnd) (n : Note) (seen : Seen) (m : Memory) (x : Beside) → ChangesPath ctrl op (maker_of at) a b ending n seen → IsAt a m x
    → IsStep (changed at (state_in m x) ctrl op) 1 a b x (entry_in ending) (map (event.At at.line) (said_of ending))
change_step at ctrl op a b ending n seen m x h k =
    let told : ending ≡ told_end ctrl op (maker_of at) m = h.told m k.told in
    let ends : EndsBy ctrl op (maker_of at) n (told_end ctrl op (maker_of at) m) = subst (EndsBy ctrl op (maker_of at) n) told h.ends in
    subst (λ (c : Core). IsStep (changed at (state_in m x) ctrl op) 1 a c x (entry_in ending) (map (event.At at.line) (said_of ending))) (sym h.view)
    (subst (λ (z : ChangeEnd). IsStep (changed at (state_in m x) ctrl op) 1 a (after_end n seen z a) x (entry_in z) (map (event.At at.line) (said_of z))) (sym told)
    (by_path at op a m x n seen ctrl (path_with ctrl (path_table m.order (row_at m))) ends k))
