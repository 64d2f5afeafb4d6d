-- What a selection by the policy tells.
use Rattle.std.proofs.Common.{◌≡◌, ◌∙◌, ℕ, ◌<◌, ◌&&◌, nat_lt, Bool, true, false, List, map, take, set, get_or, unwrap_or, Option, Some, None, option_map, refl, sym, ap, subst, arith}
use Rattle.std.specs.Prelude.{◌↔◌}
use Rattle.std.specs.List.{AllByRecursion}
use Rattle.std.specs.Option.{is_some}
use Rattle.std.proofs.lemmas.Bool.Decides.{nat_tests}
use Rattle.std.proofs.lemmas.List.{set-get_or}
use Rattle.mp_words.specs.declared.row.Policy.{Policy}
use Rattle.mp_words.specs.declared.row.Policy.TheVariants.{Numa, RoundRobin, QueueDepth}
use Rattle.mp_words.specs.declared.near.Near.{Near}
use Rattle.mp_words.specs.declared.note.Note.{Note}
use Rattle.mp_words.specs.declared.order.Order.{Order}
use Rattle.mp_words.specs.Row.{is_usable}
use Rattle.mp_words.specs.declared.path.Path.{Path}
use Rattle.mp_words.specs.PathTable.{paths_of}
use Rattle.mp_policy.specs.Choices.{distance_to, has_usable}
use Rattle.mp_policy.proofs.Chosen.{nearest_has, round_has, nearest_alike}
use Rattle.mp_core.specs.declared.view.Section.{Section}
use Rattle.mp_core.specs.declared.view.Seen.{Seen}
use Rattle.mp_core.specs.Core.{Core, Tells}
use Rattle.mp_core.specs.Memory.{Memory, current_at, row_at, depth_at}
use Rattle.mp_core.specs.Notes.{HasRow, HasUsable}
use Rattle.mp_core.specs.Reads.{IsOrdered, IsNote, IsWhole, RowsRead, slot_of, row_of_place}
use Rattle.mp_core.proofs.Reading.{place_here, has_row}
use Rattle.mp_submit.specs.Choice.{choice_by, choice_in, policy_in, last_in, depth_in, paths_at, keeps_choice, looks_at_current, looks_at_depths, is_usable_at, ReadsFor}
use Rattle.mp_submit.specs.Selects.{ReadsAll, Selects, CurrentTold, DepthsTold}
use Rattle.mp_submit.specs.Submits.{kept_in}
use Rattle.mp_submit.proofs.Paths.{paths_all, paths_same}

-- a current path that is stored already stays
pub kept_stays : (keeps : Bool) (node slot : ℕ) (t : Option Memory) → (keeps ≡ true → (m : Memory) → t ≡ Some m → current_at m node ≡ Some slot) → t ≡ option_map (kept_in keeps node slot) t
kept_stays keeps node slot None h = refl
kept_stays false node slot (Some m) h = refl
kept_stays true node slot (Some m) h =
    let e : m.currents ≡ set m.currents node (Some slot) = sym (set-get_or m.currents node None) ∙ ap (set m.currents node) (h refl m refl) in
    ap (λ (xs : List (Option ℕ)). Some (record m { currents = xs })) e

pub by_has : (P : Path → Type 0) (policy : Policy) (near : Near) (node : ℕ) (last : Option ℕ) (depth : ℕ → ℕ) (paths : List Path) (p : Path) → AllByRecursion P paths → choice_by policy near node last depth paths ≡ Some p → P p × (is_usable p.row ≡ true)
by_has P Numa near node last depth paths p all h = nearest_has P (distance_to near node) paths p all h
by_has P RoundRobin near node last depth paths p all h = round_has P last paths p all h
by_has P QueueDepth near node last depth paths p all h = nearest_has P (λ q. depth q.slot) paths p all h

slot_usable : (n : Note) (slot : ℕ) (o : Option Path) (choice : Option ℕ) → ((p : Path) → o ≡ Some p → HasRow n p.slot p.row × (is_usable p.row ≡ true)) → choice ≡ option_map (λ (p : Path). p.slot) o → choice ≡ Some slot → HasUsable n slot
slot_usable n slot None choice h e f = absurd (none slot (sym e ∙ f))
  where
    none : (s : ℕ) → None ≡ Some s → ⊥
    none s e = cc
slot_usable n slot (Some p) choice h e f =
    let good = h p refl in
    let at : p.slot ≡ slot = inj p.slot slot (sym e ∙ f) in
    let own : HasUsable n p.slot = (record { listed = good.0.listed; loaded = good.0.loaded; is = refl }, ap is_usable good.0.is ∙ good.1) in
    subst (λ (s : ℕ). HasUsable n s) at own
  where
    inj : (a b : ℕ) → Some a ≡ Some b → a ≡ b
    inj a b e = cc

-- what a policy chooses on a whole note is usable
pub chosen_usable : (near : Near) (node : ℕ) (n : Note) (choice : Option ℕ) → IsNote n → IsWhole n → choice ≡ option_map (λ (p : Path). p.slot) (choice_in near node n) → (slot : ℕ) → choice ≡ Some slot → HasUsable n slot
chosen_usable near node n choice h whole is slot e =
    slot_usable n slot (choice_in near node n) choice (λ p f. by_has (λ p. HasRow n p.slot p.row) (policy_in n.order) near node (last_in n.current) (depth_in n) (paths_of n.reading) p (paths_all (λ p. HasRow n p.slot p.row) n.reading (λ k l. has_row n k h l (whole k l))) f) is e

-- the paths of a whole note are those of the words
pub paths_told : (a : Core) (seen : Seen) (n : Note) (order : Order) (m : Memory) → IsNote n → IsWhole n → RowsRead a seen n → n.reading.len ≡ order.len → n.reading.slots ≡ order.slots → order ≡ m.order → a.told ≡ Some m → paths_of n.reading ≡ paths_at m
paths_told a seen n order m h whole rows len slots is told =
    paths_same (row_at m) n.reading h.slots h.rows (λ k l. (rows k l (whole k l)).told m told)
    ∙ (λ i. map (λ (s : ℕ). record { slot = s; row = row_at m s }) (take (len i) (slots i)))
    ∙ ap (λ (o : Order). map (λ (s : ℕ). record { slot = s; row = row_at m s }) (take o.len o.slots)) is

-- the policy chooses the same on what was read and on the words
pub by_told : (policy : Policy) (near : Near) (node : ℕ) (a : Core) (n : Note) (m : Memory) → IsNote n → a.told ≡ Some m
    → (policy ≡ RoundRobin → Tells a (λ m. n.current ≡ Some (current_at m node)))
    → (policy ≡ QueueDepth → Tells a (λ m. (place : ℕ) → place < n.reading.len → is_usable (row_of_place n.reading place) ≡ true → get_or n.depths place None ≡ Some (depth_at m (slot_of n.reading place))))
    → choice_by policy near node (last_in n.current) (depth_in n) (paths_of n.reading) ≡ choice_by policy near node (current_at m node) (depth_at m) (paths_of n.reading)
by_told Numa near node a n m h told current depths = refl
by_told RoundRobin near node a n m h told current depths = ap (λ o. choice_by RoundRobin near node (last_in o) (depth_in n) (paths_of n.reading)) (current refl m told)
by_told QueueDepth near node a n m h told current depths =
    nearest_alike (λ p. depth_in n p.slot) (λ p. depth_at m p.slot) (paths_of n.reading)
    (paths_all (λ p. is_usable p.row ≡ true → depth_in n p.slot ≡ depth_at m p.slot) n.reading
    (λ k l us. ap (λ p. unwrap_or (get_or n.depths p None) 0) (place_here n k h l) ∙ ap (λ o. unwrap_or o 0) (depths refl m told k l us)))

keeps_round : (policy : Policy) → keeps_choice policy ≡ true → policy ≡ RoundRobin
keeps_round Numa e = absurd cc
keeps_round RoundRobin e = refl
keeps_round QueueDepth e = absurd cc

looks_round : (policy : Policy) → looks_at_current policy ≡ true → policy ≡ RoundRobin
looks_round Numa e = absurd cc
looks_round RoundRobin e = refl
looks_round QueueDepth e = absurd cc

looks_deep : (policy : Policy) → looks_at_depths policy ≡ true → policy ≡ QueueDepth
looks_deep Numa e = absurd cc
looks_deep RoundRobin e = absurd cc
looks_deep QueueDepth e = refl

both : (x y : Bool) → (x && y) ≡ true → (x ≡ true) × (y ≡ true)
both true true e = (refl, refl)
both true false e = absurd cc
both false y e = absurd cc

below : (x y : ℕ) → nat_lt x y ≡ true → x < y
below x y e = grind (arith, nat_tests)

inj_current : (x y : Option ℕ) → Some x ≡ Some y → x ≡ y
inj_current x y e = cc

inj_depth : (x y : ℕ) → Some x ≡ Some y → x ≡ y
inj_depth x y e = cc

-- what was read besides rows is that of the words
current_told : (policy : Policy) (node : ℕ) (n : Note) (m : Memory) → ReadsFor policy n → (policy ≡ RoundRobin → n.current ≡ Some (current_at m node)) → CurrentTold node m n
current_told policy node n m just told current is =
    let looks : looks_at_current policy ≡ true = sym just.current ∙ ap is_some is in
    inj_current current (current_at m node) (sym is ∙ told (looks_round policy looks))

depths_told : (policy : Policy) (n : Note) (m : Memory) → ReadsFor policy n → (policy ≡ QueueDepth → (place : ℕ) → place < n.reading.len → is_usable (row_of_place n.reading place) ≡ true → get_or n.depths place None ≡ Some (depth_at m (slot_of n.reading place))) → DepthsTold m n
depths_told policy n m just told place depth is =
    let looks : (looks_at_depths policy && is_usable_at place n.reading) ≡ true = sym (just.depths place) ∙ ap is_some is in
    let parts = both (looks_at_depths policy) (is_usable_at place n.reading) looks in
    let row = both (nat_lt place n.reading.len) (is_usable (row_of_place n.reading place)) parts.1 in
    inj_depth depth (depth_at m (slot_of n.reading place)) (sym is ∙ told (looks_deep policy parts.0) place (below place n.reading.len row.0) row.1)

pub selected : (near : Near) (node : ℕ) (order : Order) (a b : Core) (s t : Section) (choice : Option ℕ) → IsOrdered s order → ReadsAll order.policy node a b s t → ReadsFor order.policy t.note → choice ≡ option_map (λ (p : Path). p.slot) (choice_in near node t.note) → (choice ≡ None) ↔ (has_usable (paths_of t.note.reading) ≡ false) → Selects near node order a b s t choice
selected near node order a b s t choice o h just is none =
    let order_is : t.note.order ≡ Some order = ap (λ (x : Section). x.note.order) h.section ∙ ap (λ (x : Section). x.note.order) o.section in
    let len : t.note.reading.len ≡ order.len = ap (λ (x : Section). x.note.reading.len) h.section ∙ ap (λ (x : Section). x.note.reading.len) o.section in
    let slots : t.note.reading.slots ≡ order.slots = ap (λ (x : Section). x.note.reading.slots) h.section ∙ ap (λ (x : Section). x.note.reading.slots) o.section in
    let policy : policy_in t.note.order ≡ order.policy = ap policy_in order_is in
    record {
      section = h.section;
      after = h.after;
      note = h.note;
      later = h.later;
      rows = h.rows;
      own = h.own;
      lawful = record { whole = h.whole; looked = subst (λ (p : Policy). ReadsFor p t.note) (sym policy) just; is = is };
      usable = chosen_usable near node t.note choice h.note h.whole is;
      none = λ e. none.0 e;
      current = λ k. h.current (keeps_round order.policy k);
      told = λ m e f.
          is ∙ ap (option_map (λ (p : Path). p.slot)) (
          ap (λ p. choice_by p near node (last_in t.note.current) (depth_in t.note) (paths_of t.note.reading)) policy
          ∙ by_told order.policy near node a t.note m h.note e h.current h.depths
          ∙ ap (choice_by order.policy near node (current_at m node) (depth_at m)) (paths_told a b.view.seen t.note order m h.note h.whole h.rows len slots f e)
          ∙ ap (λ (x : Order). choice_by x.policy near node (current_at m node) (depth_at m) (paths_at m)) f);
      told_current = λ m e. current_told order.policy node t.note m just (λ p. h.current p m e);
      told_depths = λ m e. depths_told order.policy t.note m just (λ p. h.depths p m e);
    }
