-- The words of the opening are packed and lawful, and have room.
use Rattle.std.proofs.Common.{[], ◌≡◌, ◌≢◌, ℕ, zero, suc, ◌+◌, ◌*◌, ◌-◌, ◌<◌, ◌≤◌, ◌==◌, Bool, true, false, true≢false, not, ◌||◌, ◌&&◌, nat_lt, List, ◌∷◌, ◌++◌, length, take, map, replicate, get_or, set, Option, Some, None, Result, Ok, Err, inl, inr, refl, sym, ap, subst, ◌∙◌, arith, if◌then◌else◌}
use Rattle.std.specs.Prelude.{IfSome, All, slice_get}
use Rattle.std.specs.List.{range_with_len, list_all, AllPairs}
use Rattle.std.proofs.Math.ListN.{get_or-map}
use Rattle.std.proofs.lemmas.Bool.{cases_eq}
use Rattle.std.proofs.lemmas.Bool.Decides.{nat_tests}
use Rattle.std.proofs.lemmas.List.{append-nil, get_or_default, length-append, length-take-le, map-set, take_all}
use Rattle.std.proofs.lemmas.List.FromFn.{length-range_with_len}
use Rattle.mp_words.proofs.Places.{cases_lt}
use Rattle.mp_words.specs.declared.row.Row.{Row}
use Rattle.mp_words.specs.declared.row.Policy.{Policy}
use Rattle.mp_words.specs.declared.order.Order.{Order}
use Rattle.mp_words.specs.Effect.{free_row, IsState}
use Rattle.mp_words.specs.Facts.{IsRow, IsOrder}
use Rattle.mp_words.specs.Order.{order_of, slots_of}
use Rattle.mp_words.specs.Row.{is_given}
use Rattle.mp_words.specs.RowWord.{is_no_row, row_in, row_of_word}
use Rattle.mp_words.specs.OrderWord.{is_no_order, order_in, order_of_word}
use Rattle.mp_words.specs.declared.words.Side.{Side}
use Rattle.mp_words.specs.declared.words.Words.{Words}
use Rattle.mp_page.specs.declared.page.Page.{Page}
use Rattle.mp_page.specs.declared.page.PageError.{PageError}
use Rattle.mp_page.specs.Gifts.{gift_of, stated_gift, state_for, page_at}
use Rattle.mp_page.specs.Page.{page_in}
use Rattle.mp_topology.specs.declared.topology.Controller.{Controller}
use Rattle.mp_topology.specs.Facts.{IsTopology}
use Rattle.mp_script.specs.declared.script.World.{World}
use Rattle.mp_core.specs.Memory.{row_at, no_side}
use Rattle.mp_core.specs.Status.{has, lists}
use Rattle.mp_core.specs.Unpacked.{unpacked}
use Rattle.mp_keep.specs.Keeper.{owner_of}
use Rattle.mp_plain.specs.Packed.{IsPacked}
use Rattle.mp_rule.specs.Lawful.{IsLawful, HasRoom}
use Rattle.mp_legal.specs.PlainCall.{Inputs}
use Rattle.mp_legal.specs.Inputs.{inputs_of}
use Rattle.mp_run.specs.FirstMemory.{memory_of}
use Rattle.mp_legal.specs.Opening.{page_or_empty, named_page, opening_page, opening_row, opening_rows, opening}

-- what the law of pages says
abbrev pub PagesState : Type 0
PagesState = (max : ℕ) (bytes : List ℕ) (page : Page) (nsid : ℕ) → page_in max bytes ≡ Ok page → IfSome (state_for page nsid) (λ state. (1 ≤ state) × (state ≤ 15))

-- each page that an opening path may have states an ANA state of a path, or none
abbrev pub IsStatedIn : Inputs → Type 0
IsStatedIn i = (page : Option ℕ) → IfSome (state_for (named_page i page) i.topology.nsid) IsState

read_states : PagesState → (max : ℕ) (bytes : List ℕ) (nsid : ℕ) (r : Result Page PageError) → page_in max bytes ≡ r → IfSome (state_for (page_or_empty r) nsid) IsState
read_states law max bytes nsid (Ok page) e = law max bytes page nsid e
read_states law max bytes nsid (Err error) e = tt

box_states : PagesState → (max : ℕ) (pages : List (List ℕ)) (nsid box : ℕ) → IfSome (state_for (page_or_empty (page_at (map (page_in max) pages) box)) nsid) IsState
box_states law max [] nsid box = tt
box_states law max (p ∷ pages) nsid zero = read_states law max p nsid (page_in max p) refl
box_states law max (p ∷ pages) nsid (suc box) = box_states law max pages nsid box

world_states : PagesState → (w : World) → IsStatedIn (inputs_of w)
world_states law w None = tt
world_states law w (Some box) = box_states law w.topology.anagrpmax w.pages w.topology.nsid box

-- a gift is of an ANA state that a path may have
pub stated_is : (ctrl : ℕ) (armed : Bool) (o : Option ℕ) → IfSome o IsState → IsState (stated_gift ctrl armed o).state
stated_is ctrl armed None h = (omega arith, omega arith)
stated_is ctrl armed (Some state) h = h

gift_is : (nsid ctrl : ℕ) (ana : Bool) (page : Page) → IfSome (state_for page nsid) IsState → IsState (gift_of nsid ctrl (if ana then Some page else None)).state
gift_is nsid ctrl false page h = (omega arith, omega arith)
gift_is nsid ctrl true page h = stated_is ctrl _ (state_for page nsid) h

-- how each row stands at the opening
record IsFirst (row : Row) : Type 0 where
  stored : IsRow row
  unmarked : row.marked ≡ false
  first : row.version ≡ 0

free_first : IsFirst (free_row 0)
free_first = record { stored = record { state = omega arith; free = λ e. refl }; unmarked = refl; first = refl }

opened_first : (i : Inputs) → IsStatedIn i → (ctrl : ℕ) (c : Option Controller) → IsFirst (opening_row i ctrl c)
opened_first i states ctrl None = free_first
opened_first i states ctrl (Some c) =
    let s = gift_is i.topology.nsid ctrl c.ana (named_page i c.page) (states c.page) in
    record { stored = record { state = s.1; free = λ e. absurd (omega (arith, s.0, e)) }; unmarked = refl; first = refl }

not_zero : (n : ℕ) → 1 ≤ n → not (n == 0) ≡ true
not_zero n l = grind (arith, nat_tests)

-- the path of a controller that is there has a slot
opened_given : (i : Inputs) → IsStatedIn i → (ctrl place : ℕ) (cs : List Controller) → place < length cs → is_given (opening_row i ctrl (slice_get cs place)) ≡ true
opened_given i states ctrl place [] l = absurd (omega arith)
opened_given i states ctrl zero (c ∷ cs) l = not_zero _ (gift_is i.topology.nsid ctrl c.ana (named_page i c.page) (states c.page)).0
opened_given i states ctrl (suc place) (c ∷ cs) l = opened_given i states ctrl place cs (omega arith)

-- what holds of each opened row and of a free one holds of each row
rows_each : (P : Row → Type 0) (f : ℕ → Row) (n k : ℕ) (cs : List ℕ) (s : ℕ) → P (free_row 0) → ((c : ℕ) → P (f c)) → P (get_or (take n (map f cs ++ replicate k (free_row 0))) s (free_row 0))
rows_each P f zero k cs s free each = free
rows_each P f (suc n) zero [] s free each = free
rows_each P f (suc n) (suc k) [] zero free each = free
rows_each P f (suc n) (suc k) [] (suc s) free each = rows_each P f n k [] s free each
rows_each P f (suc n) k (c ∷ cs) zero free each = each c
rows_each P f (suc n) k (c ∷ cs) (suc s) free each = rows_each P f n k cs s free each

-- the row of each slot below the number of opened ones is an opened one
rows_opened : (f : ℕ → Row) (n k : ℕ) (cs : List ℕ) (s : ℕ) → s < n → s < length cs → get_or (take n (map f cs ++ replicate k (free_row 0))) s (free_row 0) ≡ f (get_or cs s 0)
rows_opened f zero k cs s low there = absurd (omega arith)
rows_opened f (suc n) k [] s low there = absurd (omega arith)
rows_opened f (suc n) k (c ∷ cs) zero low there = refl
rows_opened f (suc n) k (c ∷ cs) (suc s) low there = rows_opened f n k cs s (omega arith) (omega arith)

pub rows_length : (i : Inputs) → length (opening_rows i) ≡ 15
rows_length i =
    let opened : ℕ → Row = λ ctrl. opening_row i ctrl (slice_get i.topology.controllers ctrl) in
    let all : List Row = map opened i.topology.opening ++ replicate 15 (free_row 0) in
    let more : length all ≡ length (map opened i.topology.opening) + length (replicate 15 (free_row 0)) = length-append (map opened i.topology.opening) (replicate 15 (free_row 0)) in
    let free : length (replicate 15 (free_row 0)) ≡ 15 = refl in
    length-take-le 15 all (omega (arith, more, free))

row_first : (i : Inputs) → IsStatedIn i → (s : ℕ) → IsFirst (get_or (opening_rows i) s (free_row 0))
row_first i states s = rows_each IsFirst (λ ctrl. opening_row i ctrl (slice_get i.topology.controllers ctrl)) 15 15 i.topology.opening s free_first (λ c. opened_first i states c (slice_get i.topology.controllers c))

-- a place of the list of the first slots has its own slot, and slot 0 past them
slots_at : (m from n k i : ℕ) → i < m → i < n → get_or (take m (range_with_len from n ++ replicate k 0)) i 0 ≡ from + i
slots_at zero from n k i low there = absurd (omega arith)
slots_at (suc m) from zero k i low there = absurd (omega arith)
slots_at (suc m) from (suc n) k zero low there = omega arith
slots_at (suc m) from (suc n) k (suc i) low there = slots_at m (from + 1) n k i (omega arith) (omega arith) ∙ omega arith

slots_past : (m from n k i : ℕ) → n ≤ i → get_or (take m (range_with_len from n ++ replicate k 0)) i 0 ≡ 0
slots_past zero from n k i past = refl
slots_past (suc m) from zero zero i past = refl
slots_past (suc m) from zero (suc k) zero past = refl
slots_past (suc m) from zero (suc k) (suc i) past = slots_past m from zero k i (omega arith)
slots_past (suc m) from (suc n) k zero past = absurd (omega arith)
slots_past (suc m) from (suc n) k (suc i) past = slots_past m (from + 1) n k i (omega arith)

pub first_listed : (policy : Policy) (n : ℕ) → n ≤ 8 → IsOrder (order_of 0 policy (range_with_len 0 n))
first_listed policy n few =
    let len : length (range_with_len 0 n) ≡ n = length-range_with_len 0 n in
    let zeros : List ℕ = replicate 8 0 in
    let all : List ℕ = range_with_len 0 n ++ zeros in
    let more : length all ≡ length (range_with_len 0 n) + length zeros = length-append (range_with_len 0 n) zeros in
    let eight : length zeros ≡ 8 = refl in
    record {
      within = omega (arith, len, few);
      places = length-take-le 8 all (omega (arith, more, eight));
      distinct = λ i j a b e.
          let at_i : get_or (take 8 all) i 0 ≡ 0 + i = slots_at 8 0 n 8 i (omega (arith, len, few, a)) (omega (arith, len, a)) in
          let at_j : get_or (take 8 all) j 0 ≡ 0 + j = slots_at 8 0 n 8 j (omega (arith, len, few, b)) (omega (arith, len, b)) in
          omega (arith, at_i, at_j, e);
      past = λ i l. slots_past 8 0 n 8 i (omega (arith, len, l));
    }

is_same : (a b : ℕ) → (a == b) ≡ true → a ≡ b
is_same a b e = grind (arith, nat_tests)

-- only slots below their number are listed
listed_below : (s len m from n k : ℕ) → len ≤ n → has s (take len (take m (range_with_len from n ++ replicate k 0))) ≡ true → s < from + n
listed_below s zero m from n k few e = absurd (true≢false (sym e))
listed_below s (suc len) zero from n k few e = absurd (true≢false (sym e))
listed_below s (suc len) (suc m) from zero k few e = absurd (omega arith)
listed_below s (suc len) (suc m) from (suc n) k few e = by_test (from == s) refl e (listed_below s len m (from + 1) n k (omega (arith, few)))
  where
    rest : List ℕ
    rest = take len (take m (range_with_len (from + 1) n ++ replicate k 0))

    by_test : (b : Bool) → (from == s) ≡ b → (b || has s rest) ≡ true → (has s rest ≡ true → s < (from + 1) + n) → s < from + suc n
    by_test true is h below = let at : from ≡ s = is_same from s is in omega (arith, at)
    by_test false is h below = let low : s < (from + 1) + n = below h in omega (arith, low)

-- of so many of the same each is that
pub same : {X : Type 0} → (n s : ℕ) (x : X) → get_or (replicate n x) s x ≡ x
same zero s x = refl
same (suc n) zero x = refl
same (suc n) (suc s) x = same n s x

-- What the opening is made of: few opening paths, of controllers that are there and differ, and pages that state
-- states.
pub record IsOpened (i : Inputs) : Type 0 where
  pub few : length i.topology.opening ≤ 8
  pub there : All (λ ctrl. ctrl < length i.topology.controllers) i.topology.opening
  pub once : AllPairs (λ p q. p ≢ q) i.topology.opening
  pub states : IsStatedIn i

pub world_opened : PagesState → (w : World) → IsTopology w.topology → IsOpened (inputs_of w)
world_opened law w t = record { few = t.opening_most; there = t.opening_there; once = t.opening_once; states = world_states law w }

listed_given : (i : Inputs) → IsOpened i → (s : ℕ) → lists s (opening i).order ≡ true → is_given (row_at (memory_of (opening i)) s) ≡ true
listed_given i o s e =
    let n = length i.topology.opening in
    let len : length (range_with_len 0 n) ≡ n = length-range_with_len 0 n in
    let below : s < 0 + n = listed_below s (length (range_with_len 0 n)) 8 0 n 8 (omega (arith, len)) e in
    let opened : ℕ → Row = λ ctrl. opening_row i ctrl (slice_get i.topology.controllers ctrl) in
    let few = o.few in
    let there : get_or i.topology.opening s 0 < length i.topology.controllers = o.there s 0 (omega (arith, below)) in
    subst (λ (row : Row). is_given row ≡ true) (sym (rows_opened opened 15 15 i.topology.opening s (omega (arith, below, few)) (omega (arith, below))))
    (opened_given i o.states (get_or i.topology.opening s 0) (get_or i.topology.opening s 0) i.topology.controllers there)

abbrev some_slot : Option ℕ → Type 0
some_slot None = ⊥
some_slot (Some s) = Unit {0}

none_some : {s : ℕ} → None ≡ Some s → ⊥
none_some e = subst some_slot (sym e) tt

pub opening_lawful : (i : Inputs) → IsOpened i → IsLawful (memory_of (opening i))
opening_lawful i o = record {
  sized = record { sides = refl; rows = rows_length i; depths = refl; currents = refl };
  index = omega arith;
  nobody = λ x. ap (λ (side : Side). side.inside) (same 2 x no_side);
  idle = λ s. same 15 s 0;
  given = listed_given i o;
  off = λ s e. absurd (true≢false (sym e ∙ (row_first i o.states s).unmarked));
  named = λ n s l e. absurd (none_some (sym (same 8 n None) ∙ e));
  rows = λ s. (row_first i o.states s).stored;
  order = first_listed i.topology.policy (length i.topology.opening) o.few;
}

pub opening_room : (i : Inputs) → IsOpened i → HasRoom (memory_of (opening i)) (17 * 2097152)
opening_room i o = record {
  entries = λ x. let e : (get_or (replicate 2 no_side) x no_side).entries ≡ 0 = ap (λ (side : Side). side.entries) (same 2 x no_side) in omega (arith, e);
  rows = λ s. let e = (row_first i o.states s).first in omega (arith, e);
  order = omega arith;
}

not_same : (x y : ℕ) → (x == y) ≡ false → x ≡ y → ⊥
not_same x y e f = grind (arith, nat_tests)

or_later : (b : Bool) (x y : ℕ) (rest : Bool) → (x == y) ≡ b → (b ≡ false → rest ≡ true) → ((x == y) || rest) ≡ true
or_later true x y rest is later = rw is refl
or_later false x y rest is later = rw (is, later refl) refl

further : (x y : ℕ) → x ≤ y → (x ≡ y → ⊥) → x + 1 ≤ y
further x y le apart = grind arith

-- each first slot is listed
listed_there : (s len m from n k : ℕ) → from ≤ s → s < from + n → n ≤ len → n ≤ m → has s (take len (take m (range_with_len from n ++ replicate k 0))) ≡ true
listed_there s len m from zero k low high a b = absurd (omega arith)
listed_there s zero m from (suc n) k low high a b = absurd (omega arith)
listed_there s (suc len) zero from (suc n) k low high a b = absurd (omega arith)
listed_there s (suc len) (suc m) from (suc n) k low high a b =
    or_later (from == s) from s (has s (take len (take m (range_with_len (from + 1) n ++ replicate k 0)))) refl
    (λ apart. listed_there s len m (from + 1) n k (further from s low (not_same from s apart)) (omega (arith, high)) (omega (arith, a)) (omega (arith, b)))

-- the row of each slot past the opened ones is a free one
rows_free : (f : ℕ → Row) (n k : ℕ) (cs : List ℕ) (s : ℕ) → length cs ≤ s → get_or (take n (map f cs ++ replicate k (free_row 0))) s (free_row 0) ≡ free_row 0
rows_free f zero k cs s past = refl
rows_free f (suc n) zero [] s past = refl
rows_free f (suc n) (suc k) [] zero past = refl
rows_free f (suc n) (suc k) [] (suc s) past = rows_free f n k [] s (omega arith)
rows_free f (suc n) k (c ∷ cs) zero past = absurd (omega arith)
rows_free f (suc n) k (c ∷ cs) (suc s) past = rows_free f n k cs s (omega arith)

-- a slot of the opening has a path exactly where it is listed
pub opening_given : (i : Inputs) → IsOpened i → (s : ℕ) → is_given (row_at (memory_of (opening i)) s) ≡ lists s (opening i).order
opening_given i o s = by_list (lists s (opening i).order) refl
  where
    past : (n len : ℕ) → len ≡ n → n ≤ 8 → has s (take len (take 8 (range_with_len 0 n ++ replicate 8 0))) ≡ false → n ≤ s
    past n len is few none =
        elim (cases_lt s n) [
          | inl low ↦ absurd (true≢false (sym (listed_there s len 8 0 n 8 (omega arith) (omega (arith, low)) (omega (arith, is)) (omega (arith, few))) ∙ none))
          | inr high ↦ high
        ]

    by_list : (b : Bool) → lists s (opening i).order ≡ b → is_given (row_at (memory_of (opening i)) s) ≡ b
    by_list true is = listed_given i o s is
    by_list false is =
        let n = length i.topology.opening in
        let high : n ≤ s = past n (length (range_with_len 0 n)) (length-range_with_len 0 n) o.few is in
        ap is_given (rows_free (λ ctrl. opening_row i ctrl (slice_get i.topology.controllers ctrl)) 15 15 i.topology.opening s high)

-- no path of the opening is marked
pub opening_unmarked : (i : Inputs) → IsOpened i → (s : ℕ) → (row_at (memory_of (opening i)) s).marked ≡ false
opening_unmarked i o s = (row_first i o.states s).unmarked

-- the list of the opening has slots of the table alone
within_first : (len m from n k : ℕ) → from + n ≤ 15 → list_all (λ s. nat_lt s 15) (take len (take m (range_with_len from n ++ replicate k 0))) ≡ true
within_first zero m from n k few = refl
within_first (suc len) zero from n k few = refl
within_first (suc len) (suc m) from zero zero few = refl
within_first (suc len) (suc m) from zero (suc k) few = within_first len m from zero k few
within_first (suc len) (suc m) from (suc n) k few =
    let low : nat_lt from 15 ≡ true = grind (arith, nat_tests) in
    let rest = within_first len m (from + 1) n k (omega (arith, few)) in
    λ i. low i && rest i

pub opening_within : (i : Inputs) → IsOpened i → list_all (λ s. nat_lt s 15) (slots_of (opening i).order) ≡ true
opening_within i o = let few = o.few in within_first _ 8 0 (length i.topology.opening) 8 (omega (arith, few))

-- ---- the controllers of the opening

stated_ctrl : (ctrl : ℕ) (armed : Bool) (state : Option ℕ) → (stated_gift ctrl armed state).ctrl ≡ ctrl
stated_ctrl ctrl armed None = refl
stated_ctrl ctrl armed (Some state) = refl

gift_ctrl : (nsid ctrl : ℕ) (page : Option Page) → (gift_of nsid ctrl page).ctrl ≡ ctrl
gift_ctrl nsid ctrl None = refl
gift_ctrl nsid ctrl (Some page) = stated_ctrl ctrl _ (state_for page nsid)

owner_some : (row : Row) (c : ℕ) → owner_of row ≡ Some c → row.ctrl ≡ c
owner_some row c e = by (is_given row) e
  where
    by : (b : Bool) → (if b then Some row.ctrl else None) ≡ Some c → row.ctrl ≡ c
    by true f = cc
    by false f = absurd (none_some f)

opened_owner : (i : Inputs) (ctrl : ℕ) (o : Option Controller) (c : ℕ) → owner_of (opening_row i ctrl o) ≡ Some c → ctrl ≡ c
opened_owner i ctrl None c e = absurd (none_some e)
opened_owner i ctrl (Some k) c e = sym (gift_ctrl i.topology.nsid ctrl (opening_page i k)) ∙ owner_some (opening_row i ctrl (Some k)) c e

owner_there : (f : ℕ → Row) → ((x c : ℕ) → owner_of (f x) ≡ Some c → x ≡ c) → (n k : ℕ) (cs : List ℕ) (s c : ℕ)
    → owner_of (get_or (take n (map f cs ++ replicate k (free_row 0))) s (free_row 0)) ≡ Some c → (s < length cs) × (c ≡ get_or cs s 0)
owner_there f law zero k cs s c e = absurd (none_some e)
owner_there f law (suc n) zero [] s c e = absurd (none_some e)
owner_there f law (suc n) (suc k) [] zero c e = absurd (none_some e)
owner_there f law (suc n) (suc k) [] (suc s) c e = let r = owner_there f law n k [] s c e in absurd (omega (arith, r.0))
owner_there f law (suc n) k (x ∷ cs) zero c e = (omega arith, sym (law x c e))
owner_there f law (suc n) k (x ∷ cs) (suc s) c e = let r = owner_there f law n k cs s c e in (omega (arith, r.0), r.1)

-- no two slots of the opening have the same controller
pub opening_apart : (i : Inputs) → IsOpened i → (s t ctrl : ℕ) → get_or (map owner_of (opening i).rows) s None ≡ Some ctrl → get_or (map owner_of (opening i).rows) t None ≡ Some ctrl → s ≡ t
opening_apart i o s t ctrl a b =
    let opened : ℕ → Row = λ c. opening_row i c (slice_get i.topology.controllers c) in
    let there : (x : ℕ) → get_or (map owner_of (opening i).rows) x None ≡ Some ctrl → (x < length i.topology.opening) × (ctrl ≡ get_or i.topology.opening x 0) =
    λ x e. owner_there opened (λ c d. opened_owner i c (slice_get i.topology.controllers c) d) 15 15 i.topology.opening x ctrl (sym (get_or-map owner_of (opening_rows i) x (free_row 0)) ∙ e) in
    let p = there s a in
    let q = there t b in
    elim (cases_eq s t) [
      | inl is ↦ is
      | inr apart ↦ elim (cases_lt s t) [
        | inl low ↦ absurd (o.once s t 0 low q.0 (sym p.1 ∙ q.1))
        | inr high ↦ absurd (o.once t s 0 (further t s high apart) p.0 (sym q.1 ∙ p.1))
      ]
    ]
  where
    further : (t s : ℕ) → t ≤ s → (s ≡ t → ⊥) → t < s
    further t s le apart = grind arith

-- words that say rows

passed : {X : Type 0} → (b : Bool) (x y : X) → (if b then None else Some x) ≡ Some y → (b ≡ false) × (x ≡ y)
passed true x y e = absurd (cc)
passed false x y e = (refl, cc)

some_map : (rows : List Row) (s : ℕ) → get_or (map Some rows) s (Some (free_row 0)) ≡ Some (get_or rows s (free_row 0))
some_map [] s = refl
some_map (r ∷ rows) zero = refl
some_map (r ∷ rows) (suc s) = some_map rows s

word_map : (ws : List ℕ) (s : ℕ) → get_or (map row_of_word ws) s (Some (free_row 0)) ≡ row_of_word (get_or ws s 0)
word_map [] s = refl
word_map (w ∷ ws) zero = refl
word_map (w ∷ ws) (suc s) = word_map ws s

pub rows_packed : (ws : List ℕ) (rows : List Row) → map row_of_word ws ≡ map Some rows → (s : ℕ) → is_no_row (get_or ws s 0) ≡ false
rows_packed ws rows e s =
    let w = get_or ws s 0 in
    (passed (is_no_row w) (row_in w) (get_or rows s (free_row 0)) (sym (word_map ws s) ∙ ap (λ (os : List (Option Row)). get_or os s (Some (free_row 0))) e ∙ some_map rows s)).0

abbrev first_of : List (Option Row) → Option Row
first_of [] = None
first_of (o ∷ os) = o

abbrev rest_of : List (Option Row) → List (Option Row)
rest_of [] = []
rest_of (o ∷ os) = os

abbrev some_row : Option Row → Type 0
some_row None = ⊥
some_row (Some row) = Unit {0}

by_first : {row : Row} → None ≡ Some row → ⊥
by_first e = subst some_row (sym e) tt

by_len : {n : ℕ} → suc n ≡ 0 → ⊥
by_len e = absurd (omega arith)

pub rows_in : (ws : List ℕ) (rows : List Row) → map row_of_word ws ≡ map Some rows → map row_in ws ≡ rows
rows_in [] [] e = refl
rows_in [] (r ∷ rows) e = absurd (by_first (ap first_of e))
rows_in (w ∷ ws) [] e = absurd (by_len (ap length e))
rows_in (w ∷ ws) (r ∷ rows) e = λ i. (passed (is_no_row w) (row_in w) r (ap first_of e)).1 i ∷ rows_in ws rows (ap rest_of e) i

-- one more word
pub one_more : (rows : List Row) (s r : ℕ) (z y : Option Row) → s < length rows → Some (get_or rows s (free_row 0)) ≡ y
    → set (map Some (take s rows) ++ replicate (suc r) z) s y ≡ map Some (take (suc s) rows) ++ replicate r z
one_more [] s r z y l is = absurd (omega arith)
one_more (row ∷ rows) zero r z y l is = ap (λ (o : Option Row). o ∷ replicate r z) (sym is)
one_more (row ∷ rows) (suc s) r z y l is = ap (λ (os : List (Option Row)). Some row ∷ os) (one_more rows s r z y (omega arith) is)

pub words_more : (rows : List Row) (words : List ℕ) (s w : ℕ) (row : Row) → s < length rows → length rows ≡ 15 → row ≡ get_or rows s row → row_of_word w ≡ Some row
    → map row_of_word words ≡ map Some (take s rows) ++ replicate (15 - s) (Some (free_row 0)) → map row_of_word (set words s w) ≡ map Some (take (s + 1) rows) ++ replicate (15 - (s + 1)) (Some (free_row 0))
words_more rows words s w row l len at is so_far =
    let left : 15 - s ≡ suc (15 - (s + 1)) = omega (arith, l, len) in
    let next : suc s ≡ s + 1 = omega arith in
    map-set row_of_word words s w
    ∙ (λ j. set (so_far j) s (is j))
    ∙ (λ j. set (map Some (take s rows) ++ replicate (left j) (Some (free_row 0))) s (Some row))
    ∙ one_more rows s (15 - (s + 1)) (Some (free_row 0)) (Some row) l (ap Some (get_or_default rows s (free_row 0) row l ∙ sym at))
    ∙ (λ j. map Some (take (next j) rows) ++ replicate (15 - (s + 1)) (Some (free_row 0)))

pub words_all : (rows : List Row) (words : List ℕ) (s : ℕ) → length rows ≤ s → length rows ≡ 15 → s ≤ length rows → map row_of_word words ≡ map Some (take s rows) ++ replicate (15 - s) (Some (free_row 0))
    → map row_of_word words ≡ map Some rows
words_all rows words s all len most so_far =
    let none : 15 - s ≡ 0 = omega (arith, all, len) in
    so_far
    ∙ (λ j. map Some (take s rows) ++ replicate (none j) (Some (free_row 0)))
    ∙ append-nil (map Some (take s rows))
    ∙ ap (map Some) (take_all s rows (omega (arith, all)))

-- the words of the table that a run begins with
abbrev first_words : ℕ → List ℕ → Words
first_words order rows = record { index = 0; sides = replicate 2 0; order = order; rows = rows; depths = replicate 15 0; currents = replicate 8 0 }

pub words_say : (i : Inputs) (w : ℕ) (ws : List ℕ) (order : Order) (rows : List Row) → order_of_word w ≡ Some order → order ≡ (opening i).order → map row_of_word ws ≡ map Some rows → rows ≡ opening_rows i
    → unpacked (first_words w ws) ≡ memory_of (opening i)
words_say i w ws order rows a b c d = λ j. record (memory_of (opening i)) { order = ((passed (is_no_order w) (order_in w) order a).1 ∙ b) j; rows = (rows_in ws rows c ∙ d) j }

pub words_packed : (w : ℕ) (ws : List ℕ) (order : Order) (rows : List Row) → order_of_word w ≡ Some order → map row_of_word ws ≡ map Some rows → IsPacked (first_words w ws)
words_packed w ws order rows a c = record { rows = λ s l. rows_packed ws rows c s; order = (passed (is_no_order w) (order_in w) order a).0 }

pub rows_stored : (i : Inputs) → IsOpened i → (rows : List Row) → rows ≡ opening_rows i → All IsRow rows
rows_stored i o rows is k d l = subst IsRow (get_or_default rows k (free_row 0) d l) (subst (λ (rs : List Row). IsRow (get_or rs k (free_row 0))) (sym is) (row_first i o.states k).stored)
