-- What holds between two removals of a walk, and what a walk does to a run.
use Rattle.std.proofs.Common.{◌≡◌, ℕ, suc, ◌+◌, ◌-◌, ◌<◌, ◌≤◌, ◌==◌, ◌&&◌, ◌||◌, eqb, not, nat_lt, cond, Bool, true, false, List, [], ◌∷◌, ◌++◌, length, map, Option, Some, is_none, refl, sym, ap, ◌∙◌, subst, arith, append-nil, append_assoc}
use Rattle.std.specs.List.{list_all, IsDistinct, AllByRecursion}
use Rattle.std.proofs.lemmas.List.{map-append}
use Rattle.std.proofs.lemmas.List.Sums.{length-filter, count_by-le-length}
use Rattle.std.proofs.lemmas.Bool.Decides.{nat_tests}
use Rattle.std.proofs.lemmas.Map.Keys.{IsDistinct-head, IsDistinct-tail}
use Rattle.mp_words.specs.declared.entry.OrderEntry.{OrderEntry}
use Rattle.mp_words.specs.declared.entry.RowEntry.{RowEntry}
use Rattle.mp_words.specs.declared.entry.Closing.{Closing}
use Rattle.mp_words.specs.declared.entry.KeepEntry.{KeepEntry}
use Rattle.mp_words.specs.declared.entry.KeepEntry.TheVariants as keep
use Rattle.mp_words.specs.declared.order.Order.{Order}
use Rattle.mp_words.specs.Order.{slots_of}
use Rattle.mp_record.specs.declared.event.Event.{Event}
use Rattle.mp_core.specs.declared.view.View.{View}
use Rattle.mp_core.specs.Core.{Core}
use Rattle.mp_core.specs.Kinds.{status_at}
use Rattle.mp_core.specs.Memory.{Memory, depth_at}
use Rattle.mp_core.specs.Status.{lists}
use Rattle.mp_keep.specs.declared.removal.Removal.{Removal}
use Rattle.mp_keep.specs.Keeper.{KeeperView, StandsTo, StatusBy, is_listed, owner_of, removal_of, slots_differ}
use Rattle.mp_legal.specs.PlainKeep.{is_among, without}
use Rattle.mp_legal.specs.PlainState.{depth_of}
use Rattle.mp_legal.specs.Stepped.{Stepped, joined}
use Rattle.mp_legal.specs.ToldKeeper.{KeepsAt, NobodyInside, is_at_rest, orders_in, with_keeper}
use Rattle.mp_legal.specs.ToldState.{Beside, state_in}
use Rattle.mp_legal.proofs.KeptWords.{orders_more}
use Rattle.mp_legal.proofs.PlainWalk.{or_false}

abbrev pub slot_of : Removal → ℕ
slot_of r = r.slot

-- a removal at rest is listed where its stage says so
pub record IsPut (order : Order) (r : Removal) : Type 0 where
  pub rest : is_at_rest r.stage ≡ true
  pub listed : is_among (slots_of order) r.slot ≡ is_listed r.stage

-- Between two removals of a walk: those before are past their grace periods or at rest, and those behind are as the
-- plain run leaves them.
pub record Walking (k : KeeperView) (a : Core) (m : Memory) (x : Beside) (before rest : List Removal) : Type 0 where
  pub removals : k.removals ≡ before ++ rest
  pub order : m.order ≡ k.order
  pub within : list_all (λ slot. nat_lt slot 15) (slots_of k.order) ≡ true
  pub few : length (slots_of k.order) ≤ 8
  pub owners : k.owners ≡ map owner_of m.rows
  pub distinct : IsDistinct eqb (map slot_of before ++ map slot_of rest)
  pub past : list_all (λ (r : Removal). is_at_rest r.stage) before ≡ true
  pub put : AllByRecursion (IsPut k.order) rest
  pub told : a.told ≡ Some m
  pub nobody : NobodyInside m
  pub rows : length m.rows ≡ 15
  pub currents : length m.currents ≡ 8
  pub counted : (slot : ℕ) → depth_at m slot ≡ depth_of (state_in m x) slot

-- What a walk does to a run.
pub record Walked (step : Stepped) (k l : KeeperView) (a b : Core) (m : Memory) (x : Beside) (made : List RowEntry) (said : List Event) : Type 0 where
  pub memory : Memory
  pub told : b.told ≡ Some memory
  pub sized : length memory.rows ≡ 15
  pub depths : memory.depths ≡ m.depths
  pub currents : length memory.currents ≡ 8
  pub keeps : KeepsAt l step.state
  pub state : step.state ≡ state_in memory (with_keeper l x)
  pub rows : step.rows ≡ made
  pub orders : orders_in l.entries ≡ orders_in k.entries ++ step.orders
  pub events : step.events ≡ said
  pub left : b.view.left ≡ a.view.left - (length step.rows + length step.orders)

-- a closing is no list of paths
pub closing_more : (xs : List KeepEntry) (c : Closing) → orders_in (xs ++ keep.Closing c ∷ []) ≡ orders_in xs
closing_more xs c = orders_more xs (keep.Closing c ∷ []) ∙ append-nil (orders_in xs)

pub order_more : (xs : List KeepEntry) (e : OrderEntry) → orders_in (xs ++ keep.Order e ∷ []) ≡ orders_in xs ++ e ∷ []
order_more xs e = orders_more xs (keep.Order e ∷ [])

-- the slots of the removals, with one more behind those before
pub slots_moved : (before : List Removal) (r : Removal) (rest : List Removal) → map slot_of (before ++ r ∷ []) ++ map slot_of rest ≡ map slot_of before ++ r.slot ∷ map slot_of rest
slots_moved before r rest = ap (λ (ss : List ℕ). ss ++ map slot_of rest) (map-append slot_of before (r ∷ [])) ∙ append_assoc (map slot_of before) (r.slot ∷ []) (map slot_of rest)

all_apart : (d : ℕ) (ys : List ℕ) → AllByRecursion (λ y. (d == y) ≡ false) ys → is_among ys d ≡ false
all_apart d [] all = refl
all_apart d (y ∷ ys) all = λ i. other all.0 i || all_apart d ys all.1 i
  where
    other : (d == y) ≡ false → (y == d) ≡ false
    other e = by (y == d) refl
      where
        by : (b : Bool) → (y == d) ≡ b → b ≡ false
        by false f = refl
        by true f = absurd (grind (arith, nat_tests))

-- of distinct slots one is neither before nor behind itself
pub record Alone (d : ℕ) (xs ys : List ℕ) : Type 0 where
  pub before : is_among xs d ≡ false
  pub behind : is_among ys d ≡ false

at_seam : (P : ℕ → Type 0) (xs : List ℕ) (d : ℕ) (ys : List ℕ) → AllByRecursion P (xs ++ d ∷ ys) → P d
at_seam P [] d ys all = all.0
at_seam P (x ∷ xs) d ys all = at_seam P xs d ys all.1

pub alone : (xs : List ℕ) (d : ℕ) (ys : List ℕ) → IsDistinct eqb (xs ++ d ∷ ys) → Alone d xs ys
alone [] d ys h = record { before = refl; behind = all_apart d ys (IsDistinct-head eqb d ys h) }
alone (x ∷ xs) d ys h =
    let later = alone xs d ys (IsDistinct-tail eqb x (xs ++ d ∷ ys) h) in
    let all = IsDistinct-head eqb x (xs ++ d ∷ ys) h in
    record { before = λ i. at_seam (λ y. (x == y) ≡ false) xs d ys all i || later.before i; behind = later.behind }

-- a removal's own is the first of its slot
find_seam : (before : List Removal) (r : Removal) (rest : List Removal) → is_among (map slot_of before) r.slot ≡ false → removal_of (before ++ r ∷ rest) r.slot ≡ Some r
find_seam [] r rest none = here (r.slot == r.slot) refl
  where
    here : (b : Bool) → (r.slot == r.slot) ≡ b → cond b (Some r) (removal_of rest r.slot) ≡ Some r
    here true e = refl
    here false e = absurd (grind (arith, nat_tests))
find_seam (q ∷ before) r rest none =
    let apart = or_false (q.slot == r.slot) (is_among (map slot_of before) r.slot) none in
    ap (λ (b : Bool). cond b (Some q) (removal_of (before ++ r ∷ rest) r.slot)) apart.0 ∙ find_seam before r rest apart.1

and_true : (b c : Bool) → (b && c) ≡ true → (b ≡ true) × (c ≡ true)
and_true true true e = (refl, refl)
and_true true false e = absurd cc
and_true false c e = absurd cc

-- no removal of a slot is among these, so none of their slots is this one
none_apart : (d : ℕ) (rs : List Removal) → is_none (removal_of rs d) ≡ true → AllByRecursion (λ y. (d == y) ≡ false) (map slot_of rs)
none_apart d [] h = tt
none_apart d (r ∷ rs) h = by (r.slot == d) refl h (none_apart d rs)
  where
    by : (b : Bool) → (r.slot == d) ≡ b → is_none (cond b (Some r) (removal_of rs d)) ≡ true → (is_none (removal_of rs d) ≡ true → AllByRecursion (λ y. (d == y) ≡ false) (map slot_of rs))
        → ((d == r.slot) ≡ false) × AllByRecursion (λ y. (d == y) ≡ false) (map slot_of rs)
    by true e none rest = absurd cc
    by false e none rest = (grind (arith, nat_tests, e), rest none)

-- removals of which no two have the same slot have distinct slots
pub slots_distinct : (rs : List Removal) → slots_differ rs ≡ true → IsDistinct eqb (map slot_of rs)
unfolding IsDistinct
slots_distinct [] h = tt
slots_distinct (r ∷ rs) h =
    let parts = and_true (is_none (removal_of rs r.slot)) (slots_differ rs) h in
    (none_apart r.slot rs parts.0, slots_distinct rs parts.1)

-- each removal at rest is listed where its stage says so
pub put_all : (k : KeeperView) (v : View) → StandsTo k v → (before rest : List Removal) → k.removals ≡ before ++ rest → IsDistinct eqb (map slot_of before ++ map slot_of rest)
    → list_all (λ (r : Removal). is_at_rest r.stage) rest ≡ true → list_all (λ (r : Removal). nat_lt r.slot 15) rest ≡ true → AllByRecursion (IsPut k.order) rest
put_all k v st before [] e d at_rest below = tt
put_all k v st before (r ∷ rest) e d at_rest below =
    let rests = and_true (is_at_rest r.stage) (list_all (λ (r : Removal). is_at_rest r.stage) rest) at_rest in
    let belows = and_true (nat_lt r.slot 15) (list_all (λ (r : Removal). nat_lt r.slot 15) rest) below in
    let test = belows.0 in
    let lt : r.slot < 15 = grind (arith, nat_tests, test) in
    let found : removal_of k.removals r.slot ≡ Some r = ap (λ (rs : List Removal). removal_of rs r.slot) e ∙ find_seam before r rest (alone (map slot_of before) r.slot (map slot_of rest) d).before in
    let status : StatusBy (Some r) (lists r.slot k.order) (status_at r.slot v) = subst (λ (o : Option Removal). StatusBy o (lists r.slot k.order) (status_at r.slot v)) found (st.slots r.slot lt) in
    (record { rest = rests.0; listed = status.1 }, put_all k v st (before ++ r ∷ []) rest (e ∙ sym (append_assoc before (r ∷ []) rest)) (subst (IsDistinct eqb) (sym (slots_moved before r rest)) d) rests.1 belows.1)

-- the listed slots without one
pub all_without : (slot : ℕ) (slots : List ℕ) → list_all (λ s. nat_lt s 15) slots ≡ true → list_all (λ s. nat_lt s 15) (without slot slots) ≡ true
all_without slot [] e = refl
all_without slot (s ∷ slots) e = let both = and_true (nat_lt s 15) (list_all (λ s. nat_lt s 15) slots) e in by (not (s == slot)) both.0 (all_without slot slots both.1)
  where
    by : (b : Bool) → nat_lt s 15 ≡ true → list_all (λ s. nat_lt s 15) (without slot slots) ≡ true → list_all (λ s. nat_lt s 15) (cond b (s ∷ without slot slots) (without slot slots)) ≡ true
    by true e later = λ i. e i && later i
    by false e later = later

pub few_without : (slot : ℕ) (slots : List ℕ) → length slots ≤ 8 → length (without slot slots) ≤ 8
few_without slot slots le =
    let len = length-filter (λ other. not (other == slot)) slots in
    let most = count_by-le-length (λ other. not (other == slot)) slots in
    omega arith

-- what was joined in front
pub walked_behind : (first next : Stepped) (k p l : KeeperView) (a c b : Core) (m n : Memory) (x : Beside) (e : OrderEntry) (made : List RowEntry) (said : List Event)
    → first.rows ≡ [] → first.orders ≡ e ∷ [] → first.events ≡ [] → orders_in p.entries ≡ orders_in k.entries ++ e ∷ [] → c.view.left ≡ a.view.left - 1 → n.depths ≡ m.depths
    → Walked next p l c b n x made said → Walked (joined first next) k l a b m x made said
walked_behind first next k p l a c b m n x e made said rows orders events stored left depths w = record {
  memory = w.memory;
  told = w.told;
  sized = w.sized;
  depths = w.depths ∙ depths;
  currents = w.currents;
  keeps = w.keeps;
  state = w.state;
  rows = ap (λ (rs : List RowEntry). rs ++ next.rows) rows ∙ w.rows;
  orders = w.orders ∙ ap (λ (os : List OrderEntry). os ++ next.orders) stored ∙ append_assoc (orders_in k.entries) (e ∷ []) next.orders ∙ ap (λ (os : List OrderEntry). orders_in k.entries ++ (os ++ next.orders)) (sym orders);
  events = ap (λ (es : List Event). es ++ next.events) events ∙ w.events;
  left = w.left ∙ ap (λ (n : ℕ). n - (length next.rows + length next.orders)) left ∙ one a.view.left (length next.rows) (length next.orders)
      ∙ (λ i. a.view.left - (length (sym rows i ++ next.rows) + length (sym orders i ++ next.orders)));
}
  where
    one : (n r o : ℕ) → n - 1 - (r + o) ≡ n - (r + suc o)
    one n r o = omega arith
