-- Each call keeps what holds of paths, and its entries follow.
use Rattle.std.proofs.Common.{◌≡◌, ℕ, zero, suc, ◌+◌, ◌*◌, ◌<◌, ◌≤◌, ◌==◌, ◌||◌, ◌&&◌, ◌⊎◌, not, Bool, true, false, List, [], ◌∷◌, ◌++◌, inl, inr, length, map, get_or, set, nat_lt, cond, Option, Some, None, refl, sym, ap, ◌∙◌, subst, arith, append-nil, append_assoc, if◌then◌else◌}
use Rattle.std.specs.Prelude.{find, filter, position}
use Rattle.std.specs.List.{AllByRecursion, count_by, sum_by}
use Rattle.std.proofs.lemmas.Bool.{eqb-true, eqb-false, eq-eqb, both_ways, le-ltb, lt-ltb, and_parts}
use Rattle.std.proofs.lemmas.List.{length-append, get_or-set_same}
use Rattle.std.proofs.lemmas.List.Quantifiers.{position-Some}
use Rattle.mp_words.specs.declared.near.Near.{Near}
use Rattle.mp_words.specs.declared.flight.Flight.{Flight}
use Rattle.mp_words.specs.declared.path.Path.{Path}
use Rattle.mp_words.specs.declared.row.Row.{Row}
use Rattle.mp_words.specs.declared.row.Policy.{Policy}
use Rattle.mp_words.specs.declared.row.Policy.TheVariants.{Numa, RoundRobin, QueueDepth}
use Rattle.mp_words.specs.declared.order.Order.{Order}
use Rattle.mp_words.specs.declared.op.Op.{Op}
use Rattle.mp_words.specs.declared.op.Op.TheVariants as op
use Rattle.mp_words.specs.declared.op.Gift.{Gift}
use Rattle.mp_words.specs.declared.op.Maker.{Maker}
use Rattle.mp_words.specs.declared.op.Effect.{Effect}
use Rattle.mp_words.specs.declared.op.Effect.TheVariants as effect
use Rattle.mp_words.specs.declared.trying.Back.{Back}
use Rattle.mp_words.specs.declared.trying.Back.TheVariants.{Set, Unset}
use Rattle.mp_words.specs.declared.trying.TryEnd.{TryEnd}
use Rattle.mp_words.specs.declared.trying.TryEnd.TheVariants.{Sent, Listed, Failed}
use Rattle.mp_words.specs.declared.entry.RowEntry.{RowEntry}
use Rattle.mp_words.specs.declared.entry.OrderEntry.{OrderEntry}
use Rattle.mp_words.specs.Effect.{effect_of, free_row, IsState, Suits}
use Rattle.mp_words.specs.Order.{slots_of, next_order}
use Rattle.mp_words.specs.PathTable.{has_ctrl}
use Rattle.mp_words.specs.Row.{is_given}
use Rattle.mp_words.specs.Request.{Asked, Tried, attempts_of}
use Rattle.mp_status.specs.declared.class.Class.{Class}
use Rattle.mp_status.specs.declared.class.Class.TheVariants.{Complete, Failover, Retry}
use Rattle.mp_policy.specs.Choices.{numa_choice, round_robin_choice, queue_depth_choice}
use Rattle.mp_policy.specs.Means.{IsUsableOf}
use Rattle.mp_submit.specs.Choice.{choice_by as choice_on, has_available}
use Rattle.mp_record.specs.declared.event.Said.TheVariants as said
use Rattle.mp_script.specs.Distinct.{IsDistinct}
use Rattle.mp_words.specs.declared.op.Maker.TheVariants.{Hop}
use Rattle.mp_legal.specs.Answers.{hop_statuses, class_of_hop, through_first}
use Rattle.mp_legal.specs.Fitting.{Follows, ListFits}
use Rattle.mp_legal.specs.PlainState.{State, row_at, request_of, entry_of, with_entry, depth_of, paths_of}
use Rattle.mp_legal.specs.PlainCall.{Inputs, Call, submit, finish, change, add, remove, set_policy, reap, call}
use Rattle.mp_legal.specs.PlainChange.{changed_by, changed_path}
use Rattle.mp_legal.specs.PlainFinish.{ended, back_of, after_back}
use Rattle.mp_legal.specs.PlainKeep.{slot_with, free_slot, given, given_in, given_unless, marked, is_among, without, unlisted, freed, freed_or_again, reaped_from, is_idle, policy_set}
use Rattle.mp_legal.specs.PlainSubmit.{submitted, tried, end_of, choice_by}
use Rattle.mp_legal.specs.Stepped.{Stepped, Place, maker_of, tells, says, joined, each}
use Rattle.mp_legal.proofs.EachCall.{found_idle}
use Rattle.mp_legal.proofs.PlainWalk.{among_others, or_false, through_others}
use Rattle.mp_legal.proofs.Walking.{few_without}
use Rattle.mp_legal.proofs.KeptPaths.{none_at}
use Rattle.mp_legal.proofs.KeptWords.{slots_next}
use Rattle.mp_legal.proofs.RowMoves.{row_of, given_below, keeps_same, stated_given, IsDone, Changes, changes_done}
use Rattle.mp_legal.proofs.Trails.{Trail, trail_row, trail_order}
use Rattle.mp_legal.proofs.FitMoves.{Fitting, or_cases, distinct_more, distinct_without, among-append, among_apart, shorter, all_filter, none_on, fit_keep, fit_list, fit_mark, fit_give, fit_free, fit_flights}

abbrev pub FitsAt : State → Type 0
FitsAt s = Fitting s.rows s.order s.removals s.flights

abbrev pub TrailAt : List Row → Order → State → List RowEntry → List OrderEntry → Type 0
TrailAt first o s rs os = Trail first o s.rows s.order s.flips rs os

-- A step keeps what holds of paths, and its entries follow on those before.
pub record Kept (first : List Row) (o : Order) (s : State) (step : Stepped) : Type 0 where
  pub fits : FitsAt step.state
  pub trail : (rs : List RowEntry) (os : List OrderEntry) → TrailAt first o s rs os
      → TrailAt first o step.state (rs ++ step.rows) (os ++ step.orders)

-- a step without entries that leaves rows, list and flips
pub kept_tells : (first : List Row) (o : Order) (s : State) (step : Stepped) → FitsAt step.state
    → step.state.rows ≡ s.rows → step.state.order ≡ s.order → step.state.flips ≡ s.flips → step.rows ≡ []
    → step.orders ≡ [] → Kept first o s step
kept_tells first o s step fits rows order flips none nothing = record {
  fits = fits;
  trail = λ rs os t. subst (λ (xs : List RowEntry). TrailAt first o step.state xs (os ++ step.orders))
      (sym (append-nil rs) ∙ ap (λ (xs : List RowEntry). rs ++ xs) (sym none))
      (subst (λ (ys : List OrderEntry). TrailAt first o step.state rs ys) (sym (append-nil os) ∙ ap (λ (ys : List OrderEntry). os ++ ys) (sym nothing))
      (subst (λ (rows : List Row). Trail first o rows step.state.order step.state.flips rs os) (sym rows)
      (subst (λ (order : Order). Trail first o s.rows order step.state.flips rs os) (sym order) (subst (λ n. Trail first o s.rows s.order n rs os) (sym flips) t))));
}

pub kept_says : (first : List Row) (o : Order) (s : State) (step : Stepped) → step.state ≡ s → step.rows ≡ []
    → step.orders ≡ [] → FitsAt s → Kept first o s step
kept_says first o s step same none nothing fits =
    kept_tells first o s step (subst FitsAt (sym same) fits) (ap (λ (t : State). t.rows) same)
    (ap (λ (t : State). t.order) same) (ap (λ (t : State). t.flips) same) none nothing

pub kept_joined : (first : List Row) (o : Order) (s : State) (f g : Stepped) → Kept first o s f → Kept first o f.state g
    → Kept first o s (joined f g)
kept_joined first o s f g one two = record {
  fits = two.fits;
  trail = λ rs os t. subst (λ (xs : List RowEntry). TrailAt first o g.state xs (os ++ (f.orders ++ g.orders)))
      (append_assoc rs f.rows g.rows)
      (subst (λ (ys : List OrderEntry). TrailAt first o g.state ((rs ++ f.rows) ++ g.rows) ys) (append_assoc os f.orders g.orders) (two.trail (rs ++ f.rows) (os ++ f.orders) (one.trail rs os t)));
}

-- ---- one entry

-- a step of one row entry
kept_row : (first : List Row) (o : Order) (s : State) (step : Stepped) (e : RowEntry) → step.rows ≡ e ∷ []
    → step.orders ≡ [] → step.state.rows ≡ set s.rows e.slot e.row → step.state.order ≡ s.order
    → step.state.flips ≡ s.flips
    → e.slot < length s.rows → Follows (row_of s.rows e.slot) e → FitsAt step.state → Kept first o s step
kept_row first o s step e one nothing rows order flips lt follows fits = record {
  fits = fits;
  trail = λ rs os t. subst (λ (xs : List RowEntry). TrailAt first o step.state (rs ++ xs) (os ++ step.orders)) (sym one)
      (subst (λ (ys : List OrderEntry). TrailAt first o step.state (rs ++ e ∷ []) ys) (sym (append-nil os) ∙ ap (λ (ys : List OrderEntry). os ++ ys) (sym nothing))
      (subst (λ (rows : List Row). Trail first o rows step.state.order step.state.flips (rs ++ e ∷ []) os) (sym rows)
      (subst (λ (order : Order). Trail first o (set s.rows e.slot e.row) order step.state.flips (rs ++ e ∷ []) os) (sym order)
      (subst (λ n. Trail first o (set s.rows e.slot e.row) s.order n (rs ++ e ∷ []) os) (sym flips) (trail_row first o s.rows s.order s.flips rs os e lt follows t)))));
}

-- a step of one list
kept_order : (first : List Row) (o : Order) (s : State) (step : Stepped) (e : OrderEntry) → step.rows ≡ []
    → step.orders ≡ e ∷ [] → step.state.rows ≡ s.rows → step.state.order ≡ e.order → ListFits e.order
    → step.state.flips ≡ s.flips + 2 * cond (nat_lt e.order.len s.order.len) 1 0 → FitsAt step.state
    → Kept first o s step
kept_order first o s step e none one rows order list flips fits = record {
  fits = fits;
  trail = λ rs os t. subst (λ (ys : List OrderEntry). TrailAt first o step.state (rs ++ step.rows) (os ++ ys)) (sym one)
      (subst (λ (xs : List RowEntry). TrailAt first o step.state xs (os ++ e ∷ [])) (sym (append-nil rs) ∙ ap (λ (xs : List RowEntry). rs ++ xs) (sym none))
      (subst (λ (rows : List Row). Trail first o rows step.state.order step.state.flips rs (os ++ e ∷ [])) (sym rows)
      (subst (λ (order : Order). Trail first o s.rows order step.state.flips rs (os ++ e ∷ [])) (sym order) (trail_order first o s.rows s.order s.flips step.state.flips rs os e list flips t))));
}

-- ---- listed paths

-- A path of the list: its slot is listed, and its row is the slot's.
record IsPath (s : State) (path : Path) : Type 0 where
  there : is_among (slots_of s.order) path.slot ≡ true
  row : path.row ≡ row_at s path.slot

abbrev pub path_in : State → ℕ → Path
path_in s slot = record { slot = slot; row = row_at s slot }

pub or_right : (a b : Bool) → b ≡ true → (a || b) ≡ true
or_right true b e = refl
or_right false b e = e

pub found_path : (s : State) (p : Path → Bool) (slots : List ℕ) (path : Path)
    → find p (map (path_in s) slots) ≡ Some path
    → (is_among slots path.slot ≡ true) × (path.row ≡ row_at s path.slot) × (p path ≡ true)
found_path s p [] path is = absurd cc
found_path s p (slot ∷ slots) path is = by (p (path_in s slot)) refl is (found_path s p slots path)
  where
    same : (a b : Path) → Some a ≡ Some b → a ≡ b
    same a b e = cc

    by : (b : Bool) → p (path_in s slot) ≡ b
        → cond b (Some (path_in s slot)) (find p (map (path_in s) slots)) ≡ Some path
        → (find p (map (path_in s) slots) ≡ Some path → (is_among slots path.slot ≡ true) × (path.row ≡ row_at s path.slot) × (p path ≡ true))
        → (is_among (slot ∷ slots) path.slot ≡ true) × (path.row ≡ row_at s path.slot) × (p path ≡ true)
    by true hit e later =
        subst (λ (q : Path). (is_among (slot ∷ slots) q.slot ≡ true) × (q.row ≡ row_at s q.slot) × (p q ≡ true))
        (same (path_in s slot) path e) (ap (λ (b : Bool). b || is_among slots slot) (eq-eqb slot slot refl), refl, hit)
    by false miss e later = let rest = later e in
        (or_right (slot == path.slot) (is_among slots path.slot) rest.0, rest.1, rest.2)

contained_path : (s : State) (slots : List ℕ) (path : Path) (k : ℕ) → k < length (map (path_in s) slots)
    → get_or (map (path_in s) slots) k path ≡ path
    → (is_among slots path.slot ≡ true) × (path.row ≡ row_at s path.slot)
contained_path s [] path k lt is = absurd (omega (arith, lt))
contained_path s (slot ∷ slots) path zero lt is =
    subst (λ (q : Path). (is_among (slot ∷ slots) q.slot ≡ true) × (q.row ≡ row_at s q.slot)) is
    (ap (λ (b : Bool). b || is_among slots slot) (eq-eqb slot slot refl), refl)
contained_path s (slot ∷ slots) path (suc k) lt is = let rest = contained_path s slots path k (omega (arith, lt)) is in
    (or_right (slot == path.slot) (is_among slots path.slot) rest.0, rest.1)

abbrev if_so : Bool → ℕ
if_so b = cond b 1 0

-- ---- a submit

-- What a policy chooses is one of the paths, and usable.
pub record Chooses : Type 0 where
  pub numa : (near : Near) (node : ℕ) (paths : List Path) (path : Path) → numa_choice near node paths ≡ Some path
      → IsUsableOf paths path
  pub round_robin : (last : Option ℕ) (paths : List Path) (path : Path) → round_robin_choice last paths ≡ Some path
      → IsUsableOf paths path
  pub queue_depth : (depth : ℕ → ℕ) (paths : List Path) (path : Path) → queue_depth_choice depth paths ≡ Some path
      → IsUsableOf paths path

chosen_usable : (policy : Policy) (near : Near) (node : ℕ) (last : Option ℕ) (depth : ℕ → ℕ) (paths : List Path)
    (path : Path) → Chooses → choice_on policy near node last depth paths ≡ Some path → IsUsableOf paths path
chosen_usable Numa near node last depth paths path law is = law.numa near node paths path is
chosen_usable RoundRobin near node last depth paths path law is = law.round_robin last paths path is
chosen_usable QueueDepth near node last depth paths path law is = law.queue_depth depth paths path is

sent_given : (s : State) (choice : Option Path) (slot version : ℕ)
    → ((path : Path) → choice ≡ Some path → is_given (row_at s path.slot) ≡ true) → end_of s choice ≡ Sent slot version
    → is_given (row_at s slot) ≡ true
sent_given s None slot version of is = by (has_available (paths_of s)) is
  where
    by : (b : Bool) → (if b then Listed else Failed) ≡ Sent slot version → is_given (row_at s slot) ≡ true
    by true e = absurd cc
    by false e = absurd cc
sent_given s (Some path) slot version of is =
    subst (λ n. is_given (row_at s n) ≡ true) (same path.slot slot path.row.version version is) (of path refl)
  where
    same : (a b v w : ℕ) → Sent a v ≡ Sent b w → a ≡ b
    same a b v w e = cc

kept_tried : (first : List Row) (o : Order) (lane : ℕ) (s : State) (a : Asked) (end : TryEnd)
    → ((slot version : ℕ) → end ≡ Sent slot version → is_given (row_at s slot) ≡ true) → FitsAt s
    → Kept first o s (tried lane s a end)
kept_tried first o lane s a Listed given fits =
    kept_tells first o s (tried lane s a Listed) fits refl refl refl refl refl
kept_tried first o lane s a Failed given fits =
    kept_tells first o s (tried lane s a Failed) fits refl refl refl refl refl
kept_tried first o lane s a (Sent slot version) given fits =
    let f : Flight = record { slot = slot; version = version; req = a.req; lane = lane } in
    kept_tells first o s (tried lane s a (Sent slot version))
    (fit_flights s.rows s.order s.removals s.flights lane (get_or s.flights lane [] ++ f ∷ []) (more (get_or s.flights lane []) f (fits.flying lane) (given slot version refl)) fits)
    refl refl refl refl refl
  where
    more : (fs : List Flight) (f : Flight) → AllByRecursion (λ (g : Flight). is_given (row_of s.rows g.slot) ≡ true) fs
        → is_given (row_of s.rows f.slot) ≡ true
        → AllByRecursion (λ (g : Flight). is_given (row_of s.rows g.slot) ≡ true) (fs ++ f ∷ [])
    more [] f all one = (one, tt)
    more (g ∷ fs) f all one = (all.0, more fs f all.1 one)

kept_submit : (law : Chooses) (first : List Row) (o : Order) (near : Near) (lane : ℕ) (s : State) (req : ℕ) → FitsAt s
    → Kept first o s (submitted near lane s req)
kept_submit law first o near lane s req fits =
    let a : Asked = request_of s req in
    let choice : Option Path = choice_by s.order.policy near s a.node in
    kept_tried first o lane s a (end_of s choice) (λ slot version is. sent_given s choice slot version (λ path chosen.
    let it =
    chosen_usable s.order.policy near a.node (get_or s.lasts a.node None) (depth_of s) (paths_of s) path law chosen in
    let found = contained_path s (slots_of s.order) path it.0.0 it.0.1 it.0.2 in
    fits.listed path.slot found.0) is) fits

-- ---- a finish

back_flights : (f : Flight) (way : Option Back) (s : State) → (after_back f way s).flights ≡ s.flights
back_flights f None s = refl
back_flights f (Some Unset) s = refl
back_flights f (Some (Set entry)) s = refl

kept_ended : (first : List Row) (o : Order) (s : State) (f : Flight) (tries : List Tried) (statuses : List ℕ)
    (way : Option Back) → is_given (row_at s f.slot) ≡ true
    → ((entry : RowEntry) → way ≡ Some (Set entry) → (m : Maker) × (entry ≡ entry_of s f.slot op.Pending m)) → FitsAt s
    → Kept first o s (ended s f tries statuses way)
kept_ended first o s f tries statuses way given pending fits = by way refl
  where
    others : List Flight
    others = filter (λ g. not (g.req == f.req)) (get_or s.flights f.lane [])

    fewer : Fitting s.rows s.order s.removals (set s.flights f.lane others)
    fewer =
        fit_flights s.rows s.order s.removals s.flights f.lane others
        (all_filter (λ (g : Flight). is_given (row_of s.rows g.slot) ≡ true) (λ g. not (g.req == f.req)) (get_or s.flights f.lane []) (fits.flying f.lane))
        fits

    by : (w : Option Back) → way ≡ w → Kept first o s (ended s f tries statuses w)
    by None e = kept_tells first o s (ended s f tries statuses None) fewer refl refl refl refl refl
    by (Some Unset) e = kept_tells first o s (ended s f tries statuses (Some Unset)) fewer refl refl refl refl refl
    by (Some (Set entry)) e = set_by entry (pending entry e).0 (pending entry e).1
      where
        set_by : (entry : RowEntry) (m : Maker) → entry ≡ entry_of s f.slot op.Pending m
            → Kept first o s (ended s f tries statuses (Some (Set entry)))
        set_by entry m is =
            let lt : f.slot < length s.rows = given_below s.rows f.slot given in
            let one : RowEntry = entry_of s f.slot op.Pending m in
            subst (λ (x : RowEntry). Kept first o s (ended s f tries statuses (Some (Set x)))) (sym is)
            (kept_row first o s (ended s f tries statuses (Some (Set one))) one refl refl refl refl refl lt
            (record { made = refl; next = refl; suits = given; marks = λ free. absurd (never free) })
            (fit_keep s.rows s.order s.removals (set s.flights f.lane others) f.slot one.row lt (keeps_same (row_at s f.slot) one.row refl refl refl) fewer))
          where
            never : op.Pending ≡ op.Free → ⊥
            never free = cc

pub back_pending : (lane : ℕ) (s : State) (f : Flight) (hop : ℕ) (c : Class) (entry : RowEntry)
    → back_of lane s f hop c ≡ Some (Set entry) → (m : Maker) × (entry ≡ entry_of s f.slot op.Pending m)
back_pending lane s f hop Complete entry is = absurd cc
back_pending lane s f hop Retry entry is = absurd cc
back_pending lane s f hop (Failover ana) entry is = by (ana && (row_at s f.slot).ana) is
  where
    same : (a b : RowEntry) → Some (Set a) ≡ Some (Set b) → b ≡ a
    same a b e = cc

    by : (b : Bool)
        → Some (if b then Set (entry_of s f.slot op.Pending (Hop lane f.req hop)) else Unset) ≡ Some (Set entry)
        → (m : Maker) × (entry ≡ entry_of s f.slot op.Pending m)
    by true e = (Hop lane f.req hop, same (entry_of s f.slot op.Pending (Hop lane f.req hop)) entry e)
    by false e = absurd cc

pub kept_finish : (first : List Row) (o : Order) (i : Inputs) (at : Place) (s : State) (f : Flight)
    → is_given (row_at s f.slot) ≡ true → FitsAt s → Kept first o s (call i at s (finish f))
kept_finish first o i at s f given fits =
    let tries : List Tried = (request_of s f.req).tries in
    let statuses : List ℕ = hop_statuses i.answers f.req (attempts_of tries + 1) in
    kept_ended first o s f tries statuses (back_of at.lane s f (length tries) (class_of_hop statuses)) given
    (back_pending at.lane s f (length tries) (class_of_hop statuses)) fits

-- ---- a change

done_suits : (row : Row) (o : Op) → IsDone o → is_given row ≡ true → Suits row o
done_suits row (op.Log stated changing) done given = (given, done)
done_suits row (op.Ctrl to) done given = given
done_suits row op.Expire done given = given
done_suits row op.Pending done given = absurd done
done_suits row (op.Give gift) done given = absurd done
done_suits row op.Mark done given = absurd done
done_suits row op.Free done given = absurd done

done_free : (o : Op) → IsDone o → o ≡ op.Free → ⊥
done_free (op.Log stated changing) done e = cc
done_free (op.Ctrl to) done e = cc
done_free op.Expire done e = cc
done_free op.Pending done e = done
done_free (op.Give gift) done e = done
done_free op.Mark done e = done
done_free op.Free done e = done

kept_changed : (first : List Row) (o : Order) (at : Place) (s : State) (path : Path) (done : Op) (e : Effect)
    → IsDone done → is_among (slots_of s.order) path.slot ≡ true → path.row ≡ row_at s path.slot
    → effect_of path.row done ≡ e → FitsAt s
    → Kept first o s (changed_by at s path done e)
kept_changed first o at s path done (effect.Refused to) is there row made fits =
    kept_says first o s (changed_by at s path done (effect.Refused to)) refl refl refl fits
kept_changed first o at s path done effect.NotArmed is there row made fits =
    kept_says first o s (changed_by at s path done effect.NotArmed) refl refl refl fits
kept_changed first o at s path done (effect.Changed new) is there row made fits =
    let given : is_given (row_at s path.slot) ≡ true = fits.listed path.slot there in
    let lt : path.slot < length s.rows = given_below s.rows path.slot given in
    let here : effect_of (row_at s path.slot) done ≡ effect.Changed new =
    ap (λ (r : Row). effect_of r done) (sym row) ∙ made in
    let c : Changes (row_at s path.slot) new = changes_done (row_at s path.slot) new done is given here in
    let e : RowEntry = record { slot = path.slot; row = new; op = done; by = maker_of at } in
    kept_row first o s (changed_by at s path done (effect.Changed new)) e refl refl refl refl refl lt
    (record { made = here; next = c.next; suits = done_suits (row_at s path.slot) done is given; marks = λ free. absurd (done_free done is free) })
    (fit_keep s.rows s.order s.removals s.flights path.slot new lt c.keeps fits)

kept_change : (first : List Row) (o : Order) (at : Place) (s : State) (ctrl : ℕ) (done : Op) (found : Option Path)
    → find (has_ctrl ctrl) (paths_of s) ≡ found → IsDone done → FitsAt s → Kept first o s (changed_path at s done found)
kept_change first o at s ctrl done None is ok fits =
    kept_says first o s (changed_path at s done None) refl refl refl fits
kept_change first o at s ctrl done (Some path) is ok fits =
    let p = found_path s (has_ctrl ctrl) (slots_of s.order) path is in
    kept_changed first o at s path done (effect_of path.row done) ok p.0 p.1 refl fits

-- ---- the keeper's calls

kept_policy : (first : List Row) (o : Order) (at : Place) (s : State) (policy : Policy) → FitsAt s
    → Kept first o s (policy_set at s policy)
kept_policy first o at s policy fits =
    let next : Order = next_order s.order policy (slots_of s.order) in
    let few : length (slots_of s.order) ≤ 8 = omega (arith, fits.len, fits.list.few) in
    let after =
    fit_list s.rows s.order policy (slots_of s.order) s.removals s.flights few fits.list.once fits.listed fits in
    kept_order first o s (policy_set at s policy) (record { order = next; by = maker_of at }) refl refl refl refl
    after.list
    (omega (arith, ap if_so (le-ltb (length (slots_of s.order)) s.order.len (omega (arith, fits.len))))) after

kept_marked : (first : List Row) (o : Order) (at : Place) (s : State) (ctrl : ℕ) (found : Option Path)
    → find (λ path. has_ctrl ctrl path && not (is_among s.removals path.slot)) (paths_of s) ≡ found → FitsAt s
    → Kept first o s (marked at s found)
kept_marked first o at s ctrl None is fits = kept_says first o s (marked at s None) refl refl refl fits
kept_marked first o at s ctrl (Some path) is fits =
    let p =
    found_path s (λ path. has_ctrl ctrl path && not (is_among s.removals path.slot)) (slots_of s.order) path is in
    let given : is_given (row_at s path.slot) ≡ true = fits.listed path.slot p.0 in
    let lt : path.slot < length s.rows = given_below s.rows path.slot given in
    let e : RowEntry = entry_of s path.slot op.Mark (maker_of at) in
    let fit =
    fit_keep s.rows s.order s.removals s.flights path.slot e.row lt
    (record { given = refl; ctrl = refl; marked = λ m. refl }) fits in
    let same : row_of (set s.rows path.slot e.row) path.slot ≡ e.row =
    get_or-set_same s.rows path.slot e.row (free_row 0) lt in
    let new : is_among s.removals path.slot ≡ false =
    not_true (is_among s.removals path.slot)
    (and_parts (has_ctrl ctrl path) (not (is_among s.removals path.slot)) p.2).1 in
    kept_row first o s (marked at s (Some path)) e refl refl refl refl refl lt
    (record { made = refl; next = refl; suits = given; marks = λ free. absurd (never free) })
    (fit_mark (set s.rows path.slot e.row) s.order s.removals s.flights path.slot (ap is_given same ∙ given) (ap (λ (r : Row). r.marked) same) new fit)
  where
    never : op.Mark ≡ op.Free → ⊥
    never free = cc

    not_true : (b : Bool) → not b ≡ true → b ≡ false
    not_true true e = absurd cc
    not_true false e = refl

-- no slot has the controller
none_with : (ctrl : ℕ) (rows : List Row) (x : ℕ)
    → position (λ (row : Row). is_given row && (row.ctrl == ctrl)) rows ≡ None → is_given (row_of rows x) ≡ true
    → (row_of rows x).ctrl ≡ ctrl → ⊥
none_with ctrl rows x none given same =
    let lt : x < length rows = given_below rows x given in
    both_ways (is_given (row_of rows x) && ((row_of rows x).ctrl == ctrl))
    (none_at (λ (row : Row). is_given row && (row.ctrl == ctrl)) rows x (free_row 0) lt none)
    ((λ j. given j && eq-eqb (row_of rows x).ctrl ctrl same j))

kept_given : (first : List Row) (o : Order) (at : Place) (s : State) (gift : Gift) (slot : ℕ)
    → slot_with s gift.ctrl ≡ None → free_slot s ≡ Some slot → (s.order.len == 8) ≡ false → IsState gift.state
    → FitsAt s
    → Kept first o s (given at s (entry_of s slot (op.Give gift) (maker_of at)))
kept_given first o at s gift slot none free room state fits =
    let found = position-Some (λ (row : Row). not (is_given row)) s.rows slot (free_row 0) free in
    let unused : is_given (row_at s slot) ≡ false = not_true (is_given (row_at s slot)) found.1 in
    let e : RowEntry = entry_of s slot (op.Give gift) (maker_of at) in
    let filled : is_given e.row ≡ true = stated_given gift.state state.0 in
    let one =
    fit_give s.rows s.order s.removals s.flights slot e.row found.0 unused filled
    (λ x g same. none_with gift.ctrl s.rows x none g same) fits in
    let entered : State = with_entry s e in
    let slots : List ℕ = slots_of s.order ++ slot ∷ [] in
    let next : Order = next_order s.order s.order.policy slots in
    let seven : s.order.len ≤ 7 = seven s.order.len fits.list.few room in
    let count : length slots ≡ length (slots_of s.order) + 1 = length-append (slots_of s.order) (slot ∷ []) in
    let few : length slots ≤ 8 = omega (arith, count, seven, fits.len) in
    let unlisted : is_among (slots_of s.order) slot ≡ false = away (is_among (slots_of s.order) slot) refl unused in
    let there : (x : ℕ) → is_among slots x ≡ true → is_given (row_of (set s.rows slot e.row) x) ≡ true =
    λ x at_x. elim (among-append (slots_of s.order) slot x at_x) [
      | inl was ↦ one.listed x was
      | inr same ↦ ap (λ n. is_given (row_of (set s.rows slot e.row) n)) (sym same) ∙ ap is_given
          (get_or-set_same s.rows slot e.row (free_row 0) found.0) ∙ filled
    ] in
    let two =
    fit_list (set s.rows slot e.row) s.order s.order.policy slots s.removals s.flights few
    (distinct_more (slots_of s.order) slot fits.list.once unlisted) there one in
    let longer : nat_lt next.len s.order.len ≡ false =
    le-ltb (length slots) s.order.len (omega (arith, count, fits.len)) in
    let entry : OrderEntry = record { order = next; by = maker_of at } in
    record {
      fits = two;
      trail =
          λ rs os t. trail_order first o (set s.rows slot e.row) s.order s.flips s.flips (rs ++ e ∷ []) os entry
          two.list
          (omega (arith, ap if_so longer))
          (trail_row first o s.rows s.order s.flips rs os e found.0 (record { made = refl; next = refl; suits = (unused, state); marks = λ is. absurd (never is) }) t);
    }
  where
    not_true : (b : Bool) → not b ≡ true → b ≡ false
    not_true true e = absurd cc
    not_true false e = refl

    never : op.Give gift ≡ op.Free → ⊥
    never e = cc

    seven : (n : ℕ) → n ≤ 8 → (n == 8) ≡ false → n ≤ 7
    seven n le off = let apart : n ≡ 8 → ⊥ = eqb-false n 8 off in le_seven n le apart
      where
        le_seven : (n : ℕ) → n ≤ 8 → (n ≡ 8 → ⊥) → n ≤ 7
        le_seven n le apart = omega (arith, apart)

    away : (b : Bool) → is_among (slots_of s.order) slot ≡ b → is_given (row_at s slot) ≡ false → b ≡ false
    away false e unused = refl
    away true e unused = absurd (both_ways (is_given (row_at s slot)) unused (fits.listed slot e))

kept_given_in : (first : List Row) (o : Order) (at : Place) (s : State) (gift : Gift) (found : Option ℕ)
    → slot_with s gift.ctrl ≡ None → free_slot s ≡ found → IsState gift.state → FitsAt s
    → Kept first o s (given_in at s gift found)
kept_given_in first o at s gift None none free state fits =
    kept_says first o s (given_in at s gift None) refl refl refl fits
kept_given_in first o at s gift (Some slot) none free state fits = by (s.order.len == 8) refl
  where
    by : (b : Bool) → (s.order.len == 8) ≡ b
        → Kept first o s (if b then says at s said.OrderFull else given at s (entry_of s slot (op.Give gift) (maker_of at)))
    by true e = kept_says first o s (says at s said.OrderFull) refl refl refl fits
    by false e = kept_given first o at s gift slot none free e state fits

kept_added : (first : List Row) (o : Order) (at : Place) (s : State) (gift : Gift) (found : Option ℕ)
    → slot_with s gift.ctrl ≡ found → IsState gift.state → FitsAt s → Kept first o s (given_unless at s gift found)
kept_added first o at s gift (Some slot) is state fits =
    kept_says first o s (given_unless at s gift (Some slot)) refl refl refl fits
kept_added first o at s gift None is state fits = kept_given_in first o at s gift (free_slot s) is refl state fits

-- ---- a reap

pub kept_unlisted : (first : List Row) (o : Order) (at : Place) (s : State) (slot : ℕ)
    → is_among (slots_of s.order) slot ≡ true → FitsAt s → Kept first o s (unlisted at s slot)
kept_unlisted first o at s slot there fits =
    let slots : List ℕ = without slot (slots_of s.order) in
    let was : length (slots_of s.order) ≤ 8 = omega (arith, fits.len, fits.list.few) in
    let fewer : length (slots_of s.order) ≡ suc (length slots) = shorter slot (slots_of s.order) fits.list.once there in
    let few : length slots ≤ 8 = omega (arith, was, fewer) in
    let next : Order = next_order s.order s.order.policy slots in
    let after =
    fit_list s.rows s.order s.order.policy slots s.removals s.flights few
    (distinct_without slot (slots_of s.order) fits.list.once)
    (λ x at_x. fits.listed x (among_apart slot x (slots_of s.order) at_x).0) fits in
    kept_order first o s (unlisted at s slot) (record { order = next; by = maker_of at }) refl refl refl refl after.list
    (omega (arith, ap if_so (lt-ltb (length slots) s.order.len (omega (arith, fewer, fits.len))))) after

pub apart_from : (gone : List ℕ) (slot x : ℕ) → is_among gone slot ≡ false → is_among gone x ≡ true
    → (x == slot) ≡ false
apart_from gone slot x none e = by (x == slot) refl
  where
    by : (c : Bool) → (x == slot) ≡ c → c ≡ false
    by false e = refl
    by true same = absurd (both_ways (is_among gone x) (ap (is_among gone) (eqb-true x slot same) ∙ none) e)

-- What unlistings leave: which slots are listed.
pub record Unlisted (first : List Row) (o : Order) (s : State) (gone : List ℕ) (step : Stepped) : Type 0 where
  kept : Kept first o s step
  rows : step.state.rows ≡ s.rows
  removals : step.state.removals ≡ s.removals
  flights : step.state.flights ≡ s.flights
  still : (x : ℕ) → is_among (slots_of step.state.order) x ≡ true
      → (is_among (slots_of s.order) x ≡ true) × (is_among gone x ≡ false)

unlists : (first : List Row) (o : Order) (at : Place) (s : State) (gone : List ℕ) → IsDistinct gone
    → ((x : ℕ) → is_among gone x ≡ true → is_among (slots_of s.order) x ≡ true) → FitsAt s
    → Unlisted first o s gone (each (unlisted at) s gone)
unlists first o at s [] d there fits = record
    { kept = kept_says first o s (tells s []) refl refl refl fits; rows = refl; removals = refl; flights = refl; still = λ x e. (e, refl) }
unlists first o at s (slot ∷ gone) d there fits =
    let listed : is_among (slots_of s.order) slot ≡ true =
    there slot (ap (λ (b : Bool). b || is_among gone slot) (eq-eqb slot slot refl)) in
    let one = kept_unlisted first o at s slot listed fits in
    let t : State = (unlisted at s slot).state in
    let was : length (slots_of s.order) ≤ 8 = omega (arith, fits.len, fits.list.few) in
    let slots : slots_of t.order ≡ without slot (slots_of s.order) =
    slots_next s.order s.order.policy (without slot (slots_of s.order)) (few_without slot (slots_of s.order) was) in
    let rest =
    unlists first o at t gone d.1
    (λ x e. ap (λ (xs : List ℕ). is_among xs x) slots ∙ among_others slot x (slots_of s.order) (apart_from gone slot x d.0 e) ∙ there x (more (slot == x) (is_among gone x) e))
    one.fits in
    record {
      kept = kept_joined first o s (unlisted at s slot) (each (unlisted at) t gone) one rest.kept;
      rows = rest.rows;
      removals = rest.removals;
      flights = rest.flights;
      still = λ x e.
          let later = rest.still x e in
          let it = among_apart slot x (slots_of s.order) (ap (λ (xs : List ℕ). is_among xs x) (sym slots) ∙ later.0) in
          (it.0, λ j. off slot x it.1 j || later.1 j);
    }
  where
    more : (a b : Bool) → b ≡ true → (a || b) ≡ true
    more true b e = refl
    more false b e = e

    off : (a b : ℕ) → (a ≡ b → ⊥) → (a == b) ≡ false
    off a b apart = by (a == b) refl
      where
        by : (c : Bool) → (a == b) ≡ c → c ≡ false
        by false e = refl
        by true e = absurd (apart (eqb-true a b e))

-- those that are listed, of those through the first idle one
pub through_once : (p : ℕ → Bool) (slots : List ℕ) → IsDistinct slots → IsDistinct (through_first p slots)
through_once p [] d = tt
through_once p (x ∷ slots) d = by (p x) (through_once p slots d.1)
  where
    among_through : (ys : List ℕ) (y : ℕ) → is_among ys y ≡ false → is_among (through_first p ys) y ≡ false
    among_through ys y none = through_others p y ys none

    by : (b : Bool) → IsDistinct (through_first p slots) → IsDistinct (if b then x ∷ [] else x ∷ through_first p slots)
    by true rest = (refl, tt)
    by false rest = (among_through slots x d.0, rest)

pub filter_none : (p : ℕ → Bool) (slots : List ℕ) (x : ℕ) → is_among slots x ≡ false
    → is_among (filter p slots) x ≡ false
filter_none p [] x none = refl
filter_none p (y ∷ slots) x none = let parts = or_false (y == x) (is_among slots x) none in by (p y) parts.0
    (filter_none p slots x parts.1)
  where
    by : (b : Bool) → (y == x) ≡ false → is_among (filter p slots) x ≡ false
        → is_among (cond b (y ∷ filter p slots) (filter p slots)) x ≡ false
    by true off rest = λ j. off j || rest j
    by false off rest = rest

pub filter_once : (p : ℕ → Bool) (slots : List ℕ) → IsDistinct slots → IsDistinct (filter p slots)
filter_once p [] d = tt
filter_once p (x ∷ slots) d = by (p x) (filter_once p slots d.1)
  where
    by : (b : Bool) → IsDistinct (filter p slots) → IsDistinct (cond b (x ∷ filter p slots) (filter p slots))
    by true rest = (filter_none p slots x d.0, rest)
    by false rest = rest

-- what is among the filtered passes, and the other way
pub filter_passes : (p : ℕ → Bool) (slots : List ℕ) (x : ℕ) → is_among (filter p slots) x ≡ true → p x ≡ true
filter_passes p [] x e = absurd cc
filter_passes p (y ∷ slots) x e = by (p y) refl e (filter_passes p slots x)
  where
    by : (b : Bool) → p y ≡ b → is_among (cond b (y ∷ filter p slots) (filter p slots)) x ≡ true
        → (is_among (filter p slots) x ≡ true → p x ≡ true) → p x ≡ true
    by true hit e later =
        elim (or_cases (y == x) (is_among (filter p slots) x) e)
        [ inl same ↦ ap p (sym (eqb-true y x same)) ∙ hit | inr rest ↦ later rest ]
    by false miss e later = later e

filter_has : (p : ℕ → Bool) (slots : List ℕ) (x : ℕ) → is_among slots x ≡ true → p x ≡ true
    → is_among (filter p slots) x ≡ true
filter_has p [] x e hit = absurd cc
filter_has p (y ∷ slots) x e hit =
    by (p y) refl (or_cases (y == x) (is_among slots x) e) (λ there. filter_has p slots x there hit)
  where
    by : (b : Bool) → p y ≡ b → ((y == x) ≡ true) ⊎ (is_among slots x ≡ true)
        → (is_among slots x ≡ true → is_among (filter p slots) x ≡ true)
        → is_among (cond b (y ∷ filter p slots) (filter p slots)) x ≡ true
    by true is (inl same) later = ap (λ (c : Bool). c || is_among (filter p slots) x) same
    by true is (inr rest) later = or_right (y == x) (is_among (filter p slots) x) (later rest)
    by false is (inl same) later = absurd (both_ways (p x) (ap p (sym (eqb-true y x same)) ∙ is) hit)
    by false is (inr rest) later = later rest

-- the first idle slot is the last of those through it, and is one of the slots
pub found_through : (p : ℕ → Bool) (slots : List ℕ) (x : ℕ) → find p slots ≡ Some x
    → (is_among (through_first p slots) x ≡ true) × (is_among slots x ≡ true)
found_through p [] x is = absurd cc
found_through p (y ∷ slots) x is = by (p y) is (found_through p slots x)
  where
    same : (a b : ℕ) → Some a ≡ Some b → a ≡ b
    same a b e = cc

    by : (b : Bool) → cond b (Some y) (find p slots) ≡ Some x
        → (find p slots ≡ Some x → (is_among (through_first p slots) x ≡ true) × (is_among slots x ≡ true))
        → (is_among (if b then y ∷ [] else y ∷ through_first p slots) x ≡ true) × (is_among (y ∷ slots) x ≡ true)
    by true e later = let hit : (y == x) ≡ true = eq-eqb y x (same y x e) in
        ((λ j. hit j || false), (λ j. hit j || is_among slots x))
    by false e later = let rest = later e in
        (or_right (y == x) (is_among (through_first p slots) x) rest.0, or_right (y == x) (is_among slots x) rest.1)

-- a slot is freed
kept_freed : (first : List Row) (o : Order) (at : Place) (s : State) (slot : ℕ) → is_among s.removals slot ≡ true
    → is_among (slots_of s.order) slot ≡ false → depth_of s slot ≡ 0 → FitsAt s → Kept first o s (freed at s slot)
kept_freed first o at s slot under gone idle fits =
    let was = fits.removing slot under in
    let lt : slot < length s.rows = given_below s.rows slot was.0 in
    let e : RowEntry = entry_of s slot op.Free (maker_of at) in
    kept_row first o s (freed at s slot) e refl refl refl refl refl lt
    (record { made = refl; next = refl; suits = was.0; marks = λ free. was.1 })
    (fit_free s.rows s.order s.removals s.flights slot e.row lt refl gone (λ lane. none_on slot s.flights lane idle) fits)

kept_freed_or : (first : List Row) (o : Order) (at : Place) (oldest : ℕ) (found : Option ℕ) (s : State)
    → ((slot : ℕ) → found ≡ Some slot → (is_among s.removals slot ≡ true) × (is_among (slots_of s.order) slot ≡ false) × (depth_of s slot ≡ 0))
    → FitsAt s → Kept first o s (freed_or_again at oldest found s)
kept_freed_or first o at oldest None s of fits =
    kept_says first o s (freed_or_again at oldest None s) refl refl refl fits
kept_freed_or first o at oldest (Some slot) s of fits = let it = of slot refl in kept_freed first o at s slot it.0 it.1
    it.2 fits

kept_reaped : (first : List Row) (o : Order) (at : Place) (s : State) (slots : List ℕ) → slots ≡ s.removals → FitsAt s
    → Kept first o s (reaped_from at s slots)
kept_reaped first o at s [] is fits = kept_says first o s (reaped_from at s []) refl refl refl fits
kept_reaped first o at s (oldest ∷ others) is fits =
    let slots : List ℕ = oldest ∷ others in
    let gone : List ℕ = filter (is_among (slots_of s.order)) (through_first (is_idle s) slots) in
    let once : IsDistinct slots = subst IsDistinct (sym is) fits.once in
    let un =
    unlists first o at s gone
    (filter_once (is_among (slots_of s.order)) (through_first (is_idle s) slots) (through_once (is_idle s) slots once))
    (λ x e. filter_passes (is_among (slots_of s.order)) (through_first (is_idle s) slots) x e) fits in
    let step : Stepped = each (unlisted at) s gone in
    let t : State = step.state in
    let found : Option ℕ = find (is_idle s) slots in
    kept_joined first o s step (freed_or_again at oldest found t) un.kept
    (kept_freed_or first o at oldest found t (λ slot hit.
    let there = found_through (is_idle s) slots slot hit in (
      ap (λ (xs : List ℕ). is_among xs slot) (un.removals ∙ sym is) ∙ there.1,
      out (is_among (slots_of t.order) slot) refl
          (λ e. let st = un.still slot e in both_ways (is_among gone slot) st.1 (filter_has (is_among (slots_of s.order)) (through_first (is_idle s) slots) slot there.0 st.0)),
      ap (λ (fs : List (List Flight)). sum_by (λ (gs : List Flight). count_by (λ (f : Flight). f.slot == slot) gs) fs)
          un.flights ∙ found_idle s slots slot hit,
    )) un.kept.fits)
  where
    out : (b : Bool) {c : Bool} → c ≡ b → (c ≡ true → ⊥) → c ≡ false
    out false e no_way = e
    out true e no_way = absurd (no_way e)

-- ---- each call

-- What a call asks for is there: a flight's slot has a path, what is done to a row is what a line may do, and a gift has an
-- ANA state.
abbrev pub IsReady : State → Call → Type 0
IsReady s (submit req) = Unit {0}
IsReady s (finish f) = is_given (row_at s f.slot) ≡ true
IsReady s (change ctrl done) = IsDone done
IsReady s (add gift) = IsState gift.state
IsReady s (remove ctrl) = Unit {0}
IsReady s (set_policy policy) = Unit {0}
IsReady s reap = Unit {0}

pub kept_call : (law : Chooses) (first : List Row) (o : Order) (i : Inputs) (at : Place) (s : State) (c : Call)
    → IsReady s c → FitsAt s → Kept first o s (call i at s c)
kept_call law first o i at s (submit req) ready fits = kept_submit law first o i.topology.near at.lane s req fits
kept_call law first o i at s (finish f) ready fits = kept_finish first o i at s f ready fits
kept_call law first o i at s (change ctrl done) ready fits =
    kept_change first o at s ctrl done (find (has_ctrl ctrl) (paths_of s)) refl ready fits
kept_call law first o i at s (add gift) ready fits =
    kept_added first o at s gift (slot_with s gift.ctrl) refl ready fits
kept_call law first o i at s (remove ctrl) ready fits =
    kept_marked first o at s ctrl
    (find (λ path. has_ctrl ctrl path && not (is_among s.removals path.slot)) (paths_of s)) refl fits
kept_call law first o i at s (set_policy policy) ready fits = kept_policy first o at s policy fits
kept_call law first o i at s reap ready fits = kept_reaped first o at s s.removals refl fits
