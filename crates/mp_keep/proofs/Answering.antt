-- What a walk answers.
use Rattle.std.proofs.Common.{◌≡◌, ◌≢◌, ◌⊎◌, inl, inr, ℕ, zero, suc, ◌+◌, ◌<◌, ◌≤◌, ◌==◌, ◌||◌, eqb, nat_lt, Bool, true, false, not, List, [], ◌∷◌, ◌++◌, map, length, get_or, set, cond, Option, None, Some, is_none, refl, sym, ap, ◌∙◌, subst, arith}
use Rattle.std.specs.List.{list_any}
use Rattle.std.proofs.lemmas.List.{nil_from_length, length-map}
use Rattle.std.proofs.lemmas.Bool.Decides.{nat_tests}
use Rattle.std.proofs.lemmas.Map.Keys.{IsDistinct-from_apart}
use Rattle.std.proofs.lemmas.Map.Steps.{length-le_from_distinct_below}
use Rattle.mp_words.specs.declared.op.Maker.{Maker}
use Rattle.mp_core.specs.declared.view.Look.{Look}
use Rattle.mp_core.specs.declared.view.Look.TheVariants as look
use Rattle.mp_core.specs.declared.view.View.{View}
use Rattle.mp_core.specs.Core.{Core}
use Rattle.mp_core.specs.Views.{on_slot}
use Rattle.mp_core.specs.Kinds.{Looks}
use Rattle.mp_keep.specs.declared.deep.Deep.{Deep}
use Rattle.mp_keep.specs.declared.reaped.Reaped.{Reaped}
use Rattle.mp_keep.specs.declared.reaped.Reaped.TheVariants.{Idle, Freed, Again}
use Rattle.mp_keep.specs.declared.stop.Stop.{Stop}
use Rattle.mp_keep.specs.declared.stop.Stop.TheVariants.{Section, Depth}
use Rattle.mp_keep.specs.declared.removal.Removal.{Removal}
use Rattle.mp_keep.specs.Keeper.{KeeperView, StandsTo, removal_at, removal_of, slots_differ, is_past}
use Rattle.mp_keep.specs.Walks.{MayWalk, AtPlace, IsWalk, Walks, Reaps, StopsAt, AnswersBy, IsAgain, past_before, next_stage, next_grace, next_removal, oldest_slot, ended_by, first_of, with_closing, closed_keeper, closed_core}
use Rattle.mp_keep.proofs.Finding.{same_is, is_same, other_is}
use Rattle.mp_keep.proofs.Statuses.{never}
use Rattle.mp_keep.proofs.Marking.{none_some}
use Rattle.mp_keep.proofs.Removals.{at, both_true, all_slots, before_next}
use Rattle.mp_keep.proofs.Walking.{closed_walk, closed_set, behind_set}
use Rattle.mp_keep.proofs.Reaping.{walk_facts, closed_step}

-- at most fifteen removals are under way

not_at : (rs : List Removal) (s j d : ℕ) → is_none (removal_of rs s) ≡ true → j < length (map (λ r. r.slot) rs) → (s == get_or (map (λ r. r.slot) rs) j d) ≡ false
not_at [] s j d n l = absurd (omega arith)
not_at (x ∷ rs) s zero d n l = other_is s x.slot (λ e. never (sym (ap (λ (b : Bool). is_none (cond b (Some x) (removal_of rs s))) (same_is x.slot s (sym e))) ∙ n))
not_at (x ∷ rs) s (suc j) d n l = not_at rs s j d (by (x.slot == s) n) (omega arith)
  where
    by : (b : Bool) → is_none (cond b (Some x) (removal_of rs s)) ≡ true → is_none (removal_of rs s) ≡ true
    by true h = never h
    by false h = h

differ_at : (rs : List Removal) → slots_differ rs ≡ true → (i j d : ℕ) → i < j → j < length (map (λ r. r.slot) rs) → (get_or (map (λ r. r.slot) rs) i d == get_or (map (λ r. r.slot) rs) j d) ≡ false
differ_at [] h i j d a b = absurd (omega arith)
differ_at (x ∷ rs) h zero zero d a b = absurd (omega arith)
differ_at (x ∷ rs) h zero (suc j) d a b = not_at rs x.slot j d (both_true (is_none (removal_of rs x.slot)) (slots_differ rs) h).0 (omega arith)
differ_at (x ∷ rs) h (suc i) zero d a b = absurd (omega arith)
differ_at (x ∷ rs) h (suc i) (suc j) d a b = differ_at rs (both_true (is_none (removal_of rs x.slot)) (slots_differ rs) h).1 i j d (omega arith) (omega arith)

lt_of : (a b : ℕ) → nat_lt a b ≡ true → a < b
lt_of a b e = grind (arith, nat_tests)

all_low : (rs : List Removal) (q : ℕ) → all_slots rs ≡ true → list_any (eqb q) (map (λ r. r.slot) rs) ≡ true → q < 15
all_low [] q d h = never h
all_low (x ∷ rs) q d h =
    let both = both_true (nat_lt x.slot 15) (all_slots rs) d in
    by (q == x.slot) refl h both.0 (λ m. all_low rs q both.1 m)
  where
    by : (b : Bool) → (q == x.slot) ≡ b → (b || list_any (eqb q) (map (λ r. r.slot) rs)) ≡ true → nat_lt x.slot 15 ≡ true → (list_any (eqb q) (map (λ r. r.slot) rs) ≡ true → q < 15) → q < 15
    by true e h l rest = let low = lt_of x.slot 15 l in let is = is_same q x.slot e in omega arith
    by false e h l rest = rest h

pub few : (rs : List Removal) → slots_differ rs ≡ true → all_slots rs ≡ true → length rs ≤ 15
few rs d s =
    let many = length-map rs (λ (r : Removal). r.slot) in
    let low = length-le_from_distinct_below (map (λ (r : Removal). r.slot) rs) 15 (IsDistinct-from_apart eqb (map (λ (r : Removal). r.slot) rs) (differ_at rs d)) (λ q h. all_low rs q s h) in
    omega arith

pub begins_walk : (k : KeeperView) (v : View) → StandsTo k v → 16 ≤ v.left → 80 ≤ k.spare → MayWalk k v 0
begins_walk k v s left spare =
    let many = few k.removals s.sound.distinct s.sound.within in record {
      upto = omega arith;
      before = refl;
      room = omega arith;
      units = omega arith;
    }

-- Idle comes where no removal is under way
idle_answer : Reaped → Type 0
idle_answer r = r ≡ Idle

some_idle : (d : Deep) → ended_by (Some d) ≡ Idle → ⊥
some_idle d e = cc

freed_idle : {e : _} {n : ℕ} → Freed e n ≡ Idle → ⊥
freed_idle h = cc

again_idle : {s : ℕ} {t : Stop} → Again s t ≡ Idle → ⊥
again_idle h = cc

ended_idle : (first : Option Deep) → ended_by first ≡ Idle → first ≡ None
ended_idle None e = refl
ended_idle (Some d) e = absurd (some_idle d e)

idle_is : (by : Maker) (place : ℕ) (first : Option Deep) (looks : List Look) (k l : KeeperView) (a b : Core) (answer : Reaped) → IsWalk by place first looks k l a b answer → answer ≡ Idle → (first ≡ None) × (length k.removals ≤ place)
idle_is by place first [] k l a b answer w e = (ended_idle first (sym w.1 ∙ e), w.0)
idle_is by place first (look.Side side entries zero ∷ looks) k l a b answer w e =
    let rest = idle_is by place first looks (closed_keeper by place entries k) l (closed_core by place k w.0) b answer w.2 e in
    let many = (closed_set k place entries by w.1.within).many in
    let low = w.1.within in
    let past = rest.1 in
    absurd (omega arith)
idle_is by place first (look.Side side entries (suc n) ∷ looks) k l a b answer w e = absurd (again_idle (sym w.3 ∙ e))
idle_is by place first (look.Depth slot zero ∷ looks) k l a b answer w e = absurd (freed_idle (sym w.5 ∙ e))
idle_is by place first (look.Depth slot (suc n) ∷ looks) k l a b answer w e =
    let rest = idle_is by (place + 1) (Some (first_of first slot (suc n))) looks k l w.0 b answer w.2 e in
    absurd (none_some rest.0)

none_idle : (by : Maker) (looks : List Look) (k l : KeeperView) (a b : Core) (answer : Reaped) → IsWalk by 0 None looks k l a b answer → k.removals ≡ [] → answer ≡ Idle
none_idle by [] k l a b answer w e = w.1
none_idle by (look.Side side entries zero ∷ looks) k l a b answer w e = let low = w.1.within in let many = ap length e in absurd (omega arith)
none_idle by (look.Side side entries (suc n) ∷ looks) k l a b answer w e = let low = w.0.within in let many = ap length e in absurd (omega arith)
none_idle by (look.Depth slot zero ∷ looks) k l a b answer w e = let low = w.2.within in let many = ap length e in absurd (omega arith)
none_idle by (look.Depth slot (suc n) ∷ looks) k l a b answer w e = let low = w.1.within in let many = ap length e in absurd (omega arith)

-- the next removal, by the places before it
next_none : (rs : List Removal) (p : ℕ) → past_before p rs ≡ true → length rs ≤ p → next_removal rs ≡ None
next_none [] p b l = refl
next_none (x ∷ rs) zero b l = absurd (omega arith)
next_none (x ∷ rs) (suc p) b l =
    let both = both_true (is_past x.stage) (past_before p rs) b in
    ap (λ (c : Bool). cond (not c) (Some x) (next_removal rs)) both.0 ∙ next_none rs p both.1 (omega arith)

next_at : (rs : List Removal) (p : ℕ) → past_before p rs ≡ true → p < length rs → is_past (at p rs).stage ≡ false → next_removal rs ≡ Some (at p rs)
next_at [] p b l n = absurd (omega arith)
next_at (x ∷ rs) zero b l n = ap (λ (c : Bool). cond (not c) (Some x) (next_removal rs)) n
next_at (x ∷ rs) (suc p) b l n =
    let both = both_true (is_past x.stage) (past_before p rs) b in
    ap (λ (c : Bool). cond (not c) (Some x) (next_removal rs)) both.0 ∙ next_at rs p both.1 (omega arith) n

oldest_set : (rs : List Removal) (p : ℕ) (r : Removal) → p < length rs → r.slot ≡ (at p rs).slot → oldest_slot (set rs p r) ≡ oldest_slot rs
oldest_set [] p r l e = absurd (omega arith)
oldest_set (x ∷ rs) zero r l e = ap Some e
oldest_set (x ∷ rs) (suc p) r l e = refl

oldest_at : (rs : List Removal) → 0 < length rs → oldest_slot rs ≡ Some (at 0 rs).slot
oldest_at [] l = absurd (omega arith)
oldest_at (x ∷ rs) l = refl

oldest_closed : (k : KeeperView) (place x : ℕ) (by : Maker) → place < length k.removals → oldest_slot (closed_keeper by place x k).removals ≡ oldest_slot k.removals
oldest_closed k place x by l =
    ap oldest_slot (behind_set (removal_at k place).stage (removal_at k place).slot by (with_closing by place x k))
    ∙ oldest_set k.removals place (record (removal_at k place) { stage = next_stage (removal_at k place).stage }) l refl

-- The first depth that wasn't 0 is the oldest removal's, and there is one behind the first place.
abbrev FirstIs : Option Deep → ℕ → List Removal → Type 0
FirstIs None place rs = place ≡ 0
FirstIs (Some d) place rs = (oldest_slot rs ≡ Some d.slot) × (d.depth ≢ 0)

-- What an answer says, with a depth that was met before these looks.
abbrev SaysFrom : Option Deep → List Removal → ℕ → List Look → Reaped → Type 0
SaysFrom first rs flips looks Idle = rs ≡ []
SaysFrom first rs flips looks (Freed entry n) = n ≡ flips
SaysFrom first rs flips looks (Again slot (Section grace side inside)) = StopsAt rs looks slot (Section grace side inside)
SaysFrom first rs flips looks (Again slot (Depth depth)) =
    (next_removal rs ≡ None) × (oldest_slot rs ≡ Some slot) × (depth ≢ 0)
    × ((first ≡ Some (record { slot = slot; depth = depth })) ⊎ ((before after : List Look) × (looks ≡ before ++ look.Depth slot depth ∷ after)))

longer : (first : Option Deep) (rs : List Removal) (flips : ℕ) (x : Look) (looks : List Look) (answer : Reaped) → SaysFrom first rs flips looks answer → SaysFrom first rs flips (x ∷ looks) answer
longer first rs flips x looks Idle h = h
longer first rs flips x looks (Freed entry n) h = h
longer first rs flips x looks (Again slot (Section grace side inside)) h = (h.0, h.1, x ∷ h.2, h.3, h.4, h.5, h.6, h.7, ap (λ (ls : List Look). x ∷ ls) h.8)
longer first rs flips x looks (Again slot (Depth depth)) h = (h.0, h.1, h.2, of h.3)
  where
    of : (first ≡ Some (record { slot = slot; depth = depth })) ⊎ ((before after : List Look) × (looks ≡ before ++ look.Depth slot depth ∷ after)) → (first ≡ Some (record { slot = slot; depth = depth })) ⊎ ((before after : List Look) × (x ∷ looks ≡ before ++ look.Depth slot depth ∷ after))
    of (inl e) = inl e
    of (inr e) = inr (x ∷ e.0, e.1, ap (λ (ls : List Look). x ∷ ls) e.2)

some_same : {X : Type 0} {x y : X} → Some x ≡ Some y → x ≡ y
some_same e = cc

deeper : (first : Option Deep) (rs : List Removal) (flips slot depth : ℕ) (looks : List Look) (answer : Reaped) → SaysFrom (Some (first_of first slot depth)) rs flips looks answer → SaysFrom first rs flips (look.Depth slot depth ∷ looks) answer
deeper first rs flips slot depth looks Idle h = h
deeper first rs flips slot depth looks (Freed entry n) h = h
deeper first rs flips slot depth looks (Again s (Section grace side inside)) h = longer first rs flips (look.Depth slot depth) looks (Again s (Section grace side inside)) h
deeper first rs flips slot depth looks (Again s (Depth d)) h = (h.0, h.1, h.2, of first h.3)
  where
    of : (f : Option Deep) → (Some (first_of f slot depth) ≡ Some (record { slot = s; depth = d })) ⊎ ((before after : List Look) × (looks ≡ before ++ look.Depth s d ∷ after)) → (f ≡ Some (record { slot = s; depth = d })) ⊎ ((before after : List Look) × (look.Depth slot depth ∷ looks ≡ before ++ look.Depth s d ∷ after))
    of f (inr e) = inr (look.Depth slot depth ∷ e.0, e.1, ap (λ (ls : List Look). look.Depth slot depth ∷ ls) e.2)
    of (Some x) (inl e) = inl e
    of None (inl e) = inr ([], looks, ap (λ (x : Deep). look.Depth x.slot x.depth ∷ looks) (some_same e))

ended_says : (first : Option Deep) (rs : List Removal) (flips place : ℕ) → length rs ≤ place → past_before place rs ≡ true → FirstIs first place rs → SaysFrom first rs flips [] (ended_by first)
ended_says None rs flips place l b f = nil_from_length rs (omega arith)
ended_says (Some d) rs flips place l b f = (next_none rs place b l, f.0, f.1, inl refl)

first_next : (first : Option Deep) (rs : List Removal) (place slot n : ℕ) → place < length rs → slot ≡ (at place rs).slot → FirstIs first place rs → FirstIs (Some (first_of first slot (suc n))) (place + 1) rs
first_next None rs place slot n l e f = (oldest_at rs (omega arith) ∙ ap Some (sym (e ∙ ap (λ p. (at p rs).slot) f)), λ h. absurd (omega arith))
first_next (Some d) rs place slot n l e f = f

first_same : (first : Option Deep) (rs ss : List Removal) (place : ℕ) → oldest_slot ss ≡ oldest_slot rs → FirstIs first place rs → FirstIs first place ss
first_same None rs ss place e f = f
first_same (Some d) rs ss place e f = (e ∙ f.0, f.1)

says : (by : Maker) (place : ℕ) (first : Option Deep) (looks : List Look) (k l : KeeperView) (a b : Core) (answer : Reaped) → past_before place k.removals ≡ true → FirstIs first place k.removals → IsWalk by place first looks k l a b answer → SaysFrom first l.removals l.flips looks answer
says by place first [] k l a b answer before f w =
    subst (λ (r : Reaped). SaysFrom first l.removals l.flips [] r) (sym w.1) (subst (λ (z : KeeperView). SaysFrom first z.removals z.flips [] (ended_by first)) (sym w.2) (ended_says first k.removals k.flips place w.0 before f))
says by place first (look.Side side entries zero ∷ looks) k l a b answer before f w =
    let is = closed_set k place entries by w.1.within in
    longer first l.removals l.flips (look.Side side entries 0) looks answer
    (says by place first looks (closed_keeper by place entries k) l (closed_core by place k w.0) b answer (is.before ∙ before) (first_same first k.removals (closed_keeper by place entries k).removals place (oldest_closed k place entries by w.1.within) f) w.2)
says by place first (look.Side side entries (suc n) ∷ looks) k l a b answer before f w =
    let seen = w.0 in
    let stop : StopsAt k.removals (look.Side side entries (suc n) ∷ []) (removal_at k place).slot (Section (next_grace (removal_at k place).stage) side (suc n)) =
    (removal_at k place, entries, [], next_at k.removals place before seen.within seen.under_way, refl, refl, seen.side_is, (λ h. absurd (omega arith)), refl) in
    subst (λ (r : Reaped). SaysFrom first l.removals l.flips (look.Side side entries (suc n) ∷ looks) r) (sym w.3)
    (subst (λ (ls : List Look). SaysFrom first l.removals l.flips (look.Side side entries (suc n) ∷ ls) (Again (removal_at k place).slot (Section (next_grace (removal_at k place).stage) side (suc n)))) (sym w.1)
    (subst (λ (z : KeeperView). StopsAt z.removals (look.Side side entries (suc n) ∷ []) (removal_at k place).slot (Section (next_grace (removal_at k place).stage) side (suc n))) (sym w.2) stop))
says by place first (look.Depth slot zero ∷ looks) k l a b answer before f w =
    subst (λ (r : Reaped). SaysFrom first l.removals l.flips (look.Depth slot 0 ∷ looks) r) (sym w.5) (sym (ap (λ (z : KeeperView). z.flips) w.4.keeper))
says by place first (look.Depth slot (suc n) ∷ looks) k l a b answer before f w =
    let seen = w.1 in
    let next : suc place ≡ place + 1 = omega arith in
    deeper first l.removals l.flips slot (suc n) looks answer
    (says by (place + 1) (Some (first_of first slot (suc n))) looks k l w.0 b answer (ap (λ p. past_before p k.removals) (sym next) ∙ before_next k.removals place before seen.over seen.within) (first_next first k.removals place slot n seen.within seen.slot_is f) w.2)

pub answers : (l : KeeperView) (looks : List Look) (answer : Reaped) → SaysFrom None l.removals l.flips looks answer → AnswersBy l looks answer
answers l looks Idle h = h
answers l looks (Freed entry n) h = h
answers l looks (Again slot (Section grace side inside)) h = h
answers l looks (Again slot (Depth depth)) h = of h.3
  where
    deep : Deep
    deep = record { slot = slot; depth = depth }

    of : (◌≡◌ {A = Option Deep} None (Some deep)) ⊎ ((before after : List Look) × (looks ≡ before ++ look.Depth slot depth ∷ after)) → StopsAt l.removals looks slot (Depth depth)
    of (inl e) = absurd (none_some (sym e))
    of (inr e) = (e.0, e.1, h.0, h.1, h.2, e.2)

-- where no lane is out and the pass has no flight, every look finds nobody
alone_is : (by : Maker) (place : ℕ) (first : Option Deep) (looks : List Look) (k l : KeeperView) (a b : Core) (answer : Reaped) → MayWalk k a.view place → a.alone ≡ true → a.view.inside ≡ None → a.view.flights ≡ [] → first ≡ None → IsWalk by place first looks k l a b answer → IsAgain answer → ⊥
alone_is by place first [] k l a b answer may al ins fl none w again = subst IsAgain (w.1 ∙ ap ended_by none) again
alone_is by place first (look.Side side entries zero ∷ looks) k l a b answer may al ins fl none w again =
    let c = w.0 in
    let seen = w.1 in
    let p : AtPlace k place = record { within = seen.within; before = may.before; going = seen.under_way } in
    let kept = (closed_step k a c place entries by may seen.within (subst (λ n. Looks a c n (record { entries = entries; inside = 0 })) seen.side_is seen.looks)).kept in
    alone_is by place first looks (closed_keeper by place entries k) l (closed_core by place k c) b answer (closed_walk k a.view c place entries by may p (ap (λ (m : Core). m.view.left) seen.looks.after))
    (kept.alone ∙ al) (kept.inside ∙ ins) (kept.flights ∙ fl) none w.2 again
alone_is by place first (look.Side side entries (suc n) ∷ looks) k l a b answer may al ins fl none w again = let found = w.0.looks.alone al ins in absurd (omega arith)
alone_is by place first (look.Depth slot zero ∷ looks) k l a b answer may al ins fl none w again = subst IsAgain w.5 again
alone_is by place first (look.Depth slot (suc n) ∷ looks) k l a b answer may al ins fl none w again = let found : suc n ≡ 0 = w.1.looks.alone al ins ∙ ap (on_slot slot) fl in absurd (omega arith)

-- what a reap does
pub reaps : (k l : KeeperView) (a b : Core) (by : Maker) (answer : Reaped) → StandsTo k a.view → 16 ≤ a.view.left → 80 ≤ k.spare → a.view.inside ≡ None → Walks k l a b by 0 None answer → Reaps k l a b by answer
reaps k l a b by answer s left spare closed w =
    let may = begins_walk k a.view s left spare in
    let facts = walk_facts by 0 None w.looks k l a b answer may w.walk in
    let many = few k.removals s.sound.distinct s.sound.within in
    let within = facts.within in record {
      looks = w.looks;
      units = facts.units;
      made = facts.made;
      walk = w.walk;
      kept = facts.step.kept;
      gained = facts.step.gained;
      used = facts.step.used;
      within = omega arith;
      looked_so = facts.step.looked_so;
      made_so = facts.made_so;
      idle = (λ e. nil_from_length k.removals (none_left (idle_is by 0 None w.looks k l a b answer w.walk e).1), none_idle by w.looks k l a b answer w.walk);
      answers = answers l w.looks answer (says by 0 None w.looks k l a b answer refl refl w.walk);
      alone = λ al fl again. alone_is by 0 None w.looks k l a b answer may al closed fl refl w.walk again;
      stands = w.stands;
    }
  where
    none_left : {n : ℕ} → n ≤ 0 → n ≡ 0
    none_left h = omega arith
