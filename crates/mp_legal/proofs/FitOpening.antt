-- Paths fit at the opening, and the laws of a whole run.
use Rattle.std.proofs.Common.{◌≡◌, ℕ, zero, suc, ◌+◌, ◌*◌, ◌<◌, ◌≤◌, ◌==◌, nat_lt, Bool, true, false, List, [], ◌∷◌, ◌++◌, inl, inr, length, map, get_or, take, replicate, Option, Some, None, refl, sym, ap, ◌∙◌, subst, arith, append_assoc, if◌then◌else◌}
use Rattle.std.specs.Prelude.{IfSome, slice_get, Result, Ok, Err}
use Rattle.std.specs.List.{AllByRecursion, range_with_len, enumerate_from}
use Rattle.std.proofs.lemmas.Bool.{eqb-true, ltb-true, ltb-false, both_ways}
use Rattle.std.proofs.lemmas.List.FromFn.{length-range_with_len}
use Rattle.mp_words.specs.declared.flight.Flight.{Flight}
use Rattle.mp_words.specs.declared.row.Row.{Row}
use Rattle.mp_words.specs.declared.order.Order.{Order}
use Rattle.mp_words.specs.declared.entry.RowEntry.{RowEntry}
use Rattle.mp_words.specs.declared.entry.OrderEntry.{OrderEntry}
use Rattle.mp_words.specs.declared.entry.KeepEntry.TheVariants as keep
use Rattle.mp_words.specs.Effect.{free_row, given_row, IsState}
use Rattle.mp_words.specs.Order.{slots_of}
use Rattle.mp_words.specs.Row.{is_given}
use Rattle.mp_page.specs.declared.page.Page.{Page}
use Rattle.mp_page.specs.declared.page.PageError.{PageError}
use Rattle.mp_page.specs.Gifts.{page_at, state_for, changing, stated_gift, gift_of}
use Rattle.mp_topology.specs.declared.topology.Controller.{Controller}
use Rattle.mp_page.specs.Page.{page_in}
use Rattle.mp_topology.specs.Facts.{IsTopology}
use Rattle.mp_script.specs.declared.script.Script.{Script}
use Rattle.mp_script.specs.declared.script.World.{World}
use Rattle.mp_legal.specs.Inputs.{inputs_for}
use Rattle.mp_script.specs.Distinct.{IsDistinct}
use Rattle.mp_script.specs.declared.script.LanePlan.{LanePlan}
use Rattle.mp_legal.specs.Fitting.{AreRead, EntryFits, ListFits, PathsFit, AllFollow, IsHistory, unlistings}
use Rattle.mp_legal.specs.PlainState.{State}
use Rattle.mp_legal.specs.PlainCall.{Inputs}
use Rattle.mp_legal.specs.PlainKeep.{is_among}
use Rattle.mp_legal.specs.PlainRun.{plain_run, rows_in, state_left}
use Rattle.mp_legal.specs.Opening.{opening, opening_rows, opening_row, named_page, page_or_empty, opening_entry, first_order}
use Rattle.mp_legal.specs.Turns.{turns_of}
use Rattle.mp_legal.specs.Units.{needs, uses}
use Rattle.mp_legal.specs.RunCalls.{Called, run_calls, rows_made, orders_made}
use Rattle.mp_legal.proofs.KeptWords.{slots_next}
use Rattle.mp_legal.proofs.MadeCalls.{run_rows, run_orders}
use Rattle.mp_legal.proofs.RowMoves.{row_of, stated_given}
use Rattle.mp_legal.proofs.Trails.{of_slot}
use Rattle.mp_legal.proofs.FitMoves.{all_map, or_cases}
use Rattle.mp_legal.proofs.FitCalls.{FitsAt, TrailAt, Chooses}
use Rattle.mp_legal.proofs.FitRun.{Along, FitsBoth, Went, gift_state, went_all}

-- ---- numbers from 0 on

pub among_range : (a n x : ℕ) → is_among (range_with_len a n) x ≡ true → (a ≤ x) × (x < a + n)
among_range a zero x e = absurd cc
among_range a (suc n) x e =
    elim (or_cases (a == x) (is_among (range_with_len (a + 1) n) x) e) [
      | inl same ↦ let is : a ≡ x = eqb-true a x same in (omega (arith, is), omega (arith, is))
      | inr rest ↦ let it = among_range (a + 1) n x rest in (omega (arith, it.0), omega (arith, it.1))
    ]

range_once : (a n : ℕ) → IsDistinct (range_with_len a n)
range_once a zero = tt
range_once a (suc n) = (none (is_among (range_with_len (a + 1) n) a) refl, range_once (a + 1) n)
  where
    none : (b : Bool) → is_among (range_with_len (a + 1) n) a ≡ b → b ≡ false
    none false e = refl
    none true e = let it = among_range (a + 1) n a e in absurd (omega (arith, it.0))

-- ---- the rows

rows_length : (n : ℕ) (z : Row) (rows : List Row) → length (take n (rows ++ replicate n z)) ≡ n
rows_length zero z rows = refl
rows_length (suc n) z [] = ap suc (rows_length n z [])
rows_length (suc n) z (r ∷ rows) = ap suc (shorter n (suc n) z rows (omega arith))
  where
    shorter : (n m : ℕ) (z : Row) (rows : List Row) → n ≤ m → length (take n (rows ++ replicate m z)) ≡ n
    shorter zero m z rows le = refl
    shorter (suc n) zero z rows le = absurd (omega arith)
    shorter (suc n) (suc m) z [] le = ap suc (shorter n m z [] (omega arith))
    shorter (suc n) (suc m) z (r ∷ rows) le = ap suc (shorter n (suc m) z rows (omega arith))

-- the row of an opening slot
pub row_inside : (f : ℕ → Row) (n m x d : ℕ) (z : Row) (xs : List ℕ) → x < length xs → x < n
    → get_or (take n (map f xs ++ replicate m z)) x z ≡ f (get_or xs x d)
row_inside f n m x d z [] lt below = absurd (omega arith)
row_inside f zero m x d z (y ∷ xs) lt below = absurd (omega arith)
row_inside f (suc n) m zero d z (y ∷ xs) lt below = refl
row_inside f (suc n) m (suc x) d z (y ∷ xs) lt below = row_inside f n m x d z xs (omega arith) (omega arith)

-- the row of another slot
row_blank : (n m x : ℕ) (z : Row) → get_or (take n (replicate m z)) x z ≡ z
row_blank zero m x z = refl
row_blank (suc n) zero x z = refl
row_blank (suc n) (suc m) zero z = refl
row_blank (suc n) (suc m) (suc x) z = row_blank n m x z

row_outside : (f : ℕ → Row) (n m x : ℕ) (z : Row) (xs : List ℕ) → length xs ≤ x
    → get_or (take n (map f xs ++ replicate m z)) x z ≡ z
row_outside f n m x z [] le = row_blank n m x z
row_outside f zero m x z (y ∷ xs) le = refl
row_outside f (suc n) m zero z (y ∷ xs) le = absurd (omega arith)
row_outside f (suc n) m (suc x) z (y ∷ xs) le = row_outside f n m x z xs (omega arith)

-- What an opening path begins with: version 0, its controller, and an ANA state.
record Opens (ctrl : ℕ) (row : Row) : Type 0 where
  version : row.version ≡ 0
  given : is_given row ≡ true
  ctrl_is : row.ctrl ≡ ctrl

-- the page of an opening path states what a page that was read states
named_states : (i : Inputs) (box : Option ℕ) → AreRead i → IfSome (state_for (named_page i box) i.topology.nsid) IsState
named_states i None read = tt
named_states i (Some box) read = by (page_at i.pages box) refl
  where
    by : (r : Result Page PageError) → page_at i.pages box ≡ r
        → IfSome (state_for (page_or_empty r) i.topology.nsid) IsState
    by (Ok page) e = read.stated box page e
    by (Err error) e = tt

its_ctrl : (ctrl : ℕ) (armed : Bool) (o : Option ℕ) → (stated_gift ctrl armed o).ctrl ≡ ctrl
its_ctrl ctrl armed None = refl
its_ctrl ctrl armed (Some state) = refl

row_opens : (i : Inputs) (ctrl : ℕ) (c : Controller) → AreRead i → Opens ctrl (opening_row i ctrl (Some c))
row_opens i ctrl c read = by c.ana
  where
    by : (b : Bool)
        → Opens ctrl (record (given_row 0 (gift_of i.topology.nsid ctrl (if b then Some (named_page i c.page) else None))) { cstate = c.state })
    by false = record { version = refl; given = refl; ctrl_is = refl }
    by true = record {
      version = refl;
      given =
          stated_given
          (stated_gift ctrl (changing (named_page i c.page)) (state_for (named_page i c.page) i.topology.nsid)).state
          (gift_state ctrl (changing (named_page i c.page)) (state_for (named_page i c.page) i.topology.nsid) (named_states i c.page read)).0;
      ctrl_is = its_ctrl ctrl (changing (named_page i c.page)) (state_for (named_page i c.page) i.topology.nsid);
    }

get_there : (cs : List Controller) (n : ℕ) → n < length cs → (c : Controller) × (slice_get cs n ≡ Some c)
get_there [] n lt = absurd (omega arith)
get_there (c ∷ cs) zero lt = (c, refl)
get_there (c ∷ cs) (suc n) lt = get_there cs n (omega arith)

-- the rows of the opening
record OpenRows (i : Inputs) : Type 0 where
  inside : (x : ℕ) → x < length i.topology.opening → Opens (get_or i.topology.opening x 0) (row_of (opening_rows i) x)
  outside : (x : ℕ) → length i.topology.opening ≤ x → row_of (opening_rows i) x ≡ free_row 0

open_rows : (i : Inputs) → AreRead i → OpenRows i
open_rows i read =
    let f : ℕ → Row = λ ctrl. opening_row i ctrl (slice_get i.topology.controllers ctrl) in
    record {
      inside = λ x lt.
          let ctrl : ℕ = get_or i.topology.opening x 0 in
          let most = read.topology.opening_most in
          let there = get_there i.topology.controllers ctrl (read.topology.opening_there x 0 lt) in
          subst (λ (r : Row). Opens ctrl r)
          (sym (row_inside f 15 15 x 0 (free_row 0) i.topology.opening lt (omega (arith, lt, most)) ∙ ap (opening_row i ctrl) there.1))
          (row_opens i ctrl there.0 read);
      outside = λ x le. row_outside f 15 15 x (free_row 0) i.topology.opening le;
    }

none_flies : (n lane : ℕ) → get_or {A = List Flight} (replicate n []) lane [] ≡ []
none_flies zero lane = refl
none_flies (suc n) zero = refl
none_flies (suc n) (suc lane) = none_flies n lane

-- a slot of the opening with a path
given_inside : (i : Inputs) (x : ℕ) → OpenRows i → is_given (row_of (opening_rows i) x) ≡ true
    → x < length i.topology.opening
given_inside i x rows given = by (nat_lt x (length i.topology.opening)) refl
  where
    by : (b : Bool) → nat_lt x (length i.topology.opening) ≡ b → x < length i.topology.opening
    by true e = ltb-true x (length i.topology.opening) e
    by false e =
        absurd
        (both_ways (is_given (free_row 0)) refl (ap is_given (sym (rows.outside x (ltb-false x (length i.topology.opening) e))) ∙ given))

-- opening paths of one controller are one
once_open : (i : Inputs) (x y : ℕ) → AreRead i → x < length i.topology.opening → y < length i.topology.opening
    → get_or i.topology.opening x 0 ≡ get_or i.topology.opening y 0 → x ≡ y
once_open i x y read lx ly same = by (nat_lt x y) refl (nat_lt y x) refl
  where
    by : (b : Bool) → nat_lt x y ≡ b → (c : Bool) → nat_lt y x ≡ c → x ≡ y
    by true e c f = absurd (read.topology.opening_once x y 0 (ltb-true x y e) ly same)
    by false e true f = absurd (read.topology.opening_once y x 0 (ltb-true y x f) lx (sym same))
    by false e false f = let p = ltb-false x y e in let q = ltb-false y x f in omega (arith, p, q)

pub opening_fits : (i : Inputs) → AreRead i → FitsAt (opening i)
opening_fits i read =
    let n : ℕ = length i.topology.opening in
    let rows = open_rows i read in
    let count : length (range_with_len 0 n) ≡ n = length-range_with_len 0 n in
    let most = read.topology.opening_most in
    let slots : slots_of (opening i).order ≡ range_with_len 0 n =
    slots_next (opening i).order i.topology.policy (range_with_len 0 n) (omega (arith, count, most)) in
    record {
      sized =
          rows_length 15 (free_row 0)
          (map (λ ctrl. opening_row i ctrl (slice_get i.topology.controllers ctrl)) i.topology.opening);
      len = ap length (sym slots);
      list = record { few = omega (arith, count, most); once = subst IsDistinct (sym slots) (range_once 0 n) };
      listed =
          λ x there.
          (rows.inside x (omega (arith, (among_range 0 n x (ap (λ (xs : List ℕ). is_among xs x) (sym slots) ∙ there)).1))).given;
      apart = λ x y gx gy same.
          let lx = given_inside i x rows gx in
          let ly = given_inside i y rows gy in
          once_open i x y read lx ly (sym (rows.inside x lx).ctrl_is ∙ same ∙ (rows.inside y ly).ctrl_is);
      removing = λ x e. absurd cc;
      once = tt;
      flying =
          λ lane. subst (AllByRecursion (λ f. is_given (row_of (opening_rows i) f.slot) ≡ true))
          (sym (none_flies 17 lane)) tt;
    }

pub opening_trail : (i : Inputs) → TrailAt (opening_rows i) (opening i).order (opening i) [] []
opening_trail i = record { follow = λ slot. tt; last = λ slot. refl; lists = tt; ends = refl; counted = refl }

-- ---- the laws

-- what fits between calls fits as a reader sees it
fits_read : (s : State) → FitsAt s → PathsFit s
fits_read s fits = record { list = fits.list; listed = fits.listed; apart = fits.apart }

run_went : (law : Chooses) (i : Inputs) (lanes : List LanePlan) → AreRead i
    → Went (opening_rows i) (opening i).order (opening i) (state_left i lanes) (run_calls i lanes)
run_went law i lanes read =
    went_all law (opening_rows i) (opening i).order i (opening i) (turns_of lanes) read (opening_fits i read)

pub run_fits : (law : Chooses) (i : Inputs) (lanes : List LanePlan) → AreRead i
    → PathsFit (opening i) × AllByRecursion (λ c. PathsFit c.before × PathsFit c.step.state) (run_calls i lanes) × PathsFit (state_left i lanes)
run_fits law i lanes read =
    let went = run_went law i lanes read in (
      fits_read (opening i) (opening_fits i read),
      all_map FitsBoth (λ (c : Called). PathsFit c.before × PathsFit c.step.state) (run_calls i lanes)
          (λ c both. (fits_read c.before both.0, fits_read c.step.state both.1)) went.all,
      fits_read (state_left i lanes) went.fits,
    )

run_trail : (law : Chooses) (i : Inputs) (lanes : List LanePlan) → AreRead i
    → TrailAt (opening_rows i) (opening i).order (state_left i lanes) (rows_made (run_calls i lanes)) (orders_made (run_calls i lanes))
run_trail law i lanes read = (run_went law i lanes read).trail [] [] (opening_trail i)

entries_fit : (es : List OrderEntry) → AllByRecursion (λ e. ListFits e.order) es → AllByRecursion EntryFits (map keep.Order es)
entries_fit [] all = tt
entries_fit (e ∷ es) all = (all.0, entries_fit es all.1)

pub run_lists : (law : Chooses) (i : Inputs) (lanes : List LanePlan) → AreRead i
    → AllByRecursion EntryFits (plain_run i lanes).keeping
run_lists law i lanes read =
    subst (AllByRecursion EntryFits) (sym (run_orders i lanes))
    (entries_fit (first_order i ∷ orders_made (run_calls i lanes)) ((opening_fits i read).list, (run_trail law i lanes read).lists))

-- the histories of the slots from one on
histories : (made : List RowEntry) (rows : List Row) (k : ℕ) → ((x : ℕ) → (row_of rows x).version ≡ 0)
    → ((x : ℕ) → AllFollow (row_of rows x) (of_slot (k + x) made))
    → AllByRecursion IsHistory (map (rows_in made) (map opening_entry (enumerate_from k rows)))
histories made [] k versions follow = tt
histories made (r ∷ rows) k versions follow = (
  (versions 0, subst (λ n. AllFollow r (of_slot n made)) (plus k) (follow 0)),
  histories made rows (k + 1) (λ x. versions (suc x))
      (λ x. subst (λ n. AllFollow (row_of rows x) (of_slot n made)) (more k x) (follow (suc x))),
)
  where
    plus : (k : ℕ) → k + 0 ≡ k
    plus k = omega arith

    more : (k x : ℕ) → k + suc x ≡ k + 1 + x
    more k x = omega arith

first_versions : (i : Inputs) → AreRead i → (x : ℕ) → (row_of (opening_rows i) x).version ≡ 0
first_versions i read x = by (nat_lt x (length i.topology.opening)) refl
  where
    by : (b : Bool) → nat_lt x (length i.topology.opening) ≡ b → (row_of (opening_rows i) x).version ≡ 0
    by true e = ((open_rows i read).inside x (ltb-true x (length i.topology.opening) e)).version
    by false e = ap (λ (r : Row). r.version) ((open_rows i read).outside x (ltb-false x (length i.topology.opening) e))

pub run_histories : (law : Chooses) (i : Inputs) (lanes : List LanePlan) → AreRead i
    → AllByRecursion IsHistory (plain_run i lanes).rows
run_histories law i lanes read =
    subst (AllByRecursion IsHistory) (sym (run_rows i lanes))
    (histories (rows_made (run_calls i lanes)) (opening_rows i) 0 (first_versions i read)
    (λ x. subst (λ n. AllFollow (row_of (opening_rows i) x) (of_slot n (rows_made (run_calls i lanes)))) (none_more x) ((run_trail law i lanes read).follow x)))
  where
    none_more : (x : ℕ) → x ≡ 0 + x
    none_more x = omega arith

-- what holds along calls holds behind any of them
counted_at : (first : List Row) (o : Order) (rs : List RowEntry) (os : List OrderEntry) (before : List Called)
    (c : Called) (behind : List Called) → Along first o rs os (before ++ c ∷ behind)
    → c.step.state.flips ≡ 2 * unlistings o (os ++ (orders_made before ++ c.step.orders))
counted_at first o rs os [] c behind all = all.0.counted
counted_at first o rs os (b ∷ before) c behind all =
    counted_at first o (rs ++ b.step.rows) (os ++ b.step.orders) before c behind all.1
    ∙ ap (λ (es : List OrderEntry). 2 * unlistings o es)
    (append_assoc os b.step.orders (orders_made before ++ c.step.orders) ∙ ap (λ (es : List OrderEntry). os ++ es) (sym (append_assoc b.step.orders (orders_made before) c.step.orders)))

pub run_counted : (law : Chooses) (i : Inputs) (lanes : List LanePlan) (before behind : List Called) (c : Called)
    → AreRead i → run_calls i lanes ≡ before ++ c ∷ behind
    → c.step.state.flips ≡ 2 * unlistings (opening i).order (orders_made before ++ c.step.orders)
run_counted law i lanes before behind c read is =
    counted_at (opening_rows i) (opening i).order [] [] before c behind
    (subst (Along (opening_rows i) (opening i).order [] []) is ((run_went law i lanes read).along [] [] (opening_trail i)))

-- the pages of a world are read
pub page_read : (read : List ℕ → Result Page PageError) (pages : List (List ℕ)) (box : ℕ) (page : Page)
    → page_at (map read pages) box ≡ Ok page → (bytes : List ℕ) × (read bytes ≡ Ok page)
page_read read [] box page is = absurd cc
page_read read (bytes ∷ pages) zero page is = (bytes, is)
page_read read (bytes ∷ pages) (suc box) page is = page_read read pages box page is

pub world_read : (world : World) (script : Script)
    → ((max : ℕ) (bytes : List ℕ) (page : Page) (nsid : ℕ) → page_in max bytes ≡ Ok page → IfSome (state_for page nsid) (λ state. (1 ≤ state) × (state ≤ 15)))
    → IsTopology world.topology → AreRead (inputs_for world script)
world_read world script law topology = record {
  topology = topology;
  stated = λ box page is.
      let it = page_read (page_in world.topology.anagrpmax) world.pages box page is in
      law world.topology.anagrpmax it.0 page world.topology.nsid it.1;
}

pub run_uses : (law : Chooses) (i : Inputs) (lanes : List LanePlan) → AreRead i
    → AllByRecursion (λ c. uses c.done c.step ≤ needs c.done) (run_calls i lanes)
run_uses law i lanes read =
    all_map FitsBoth (λ (c : Called). uses c.done c.step ≤ needs c.done) (run_calls i lanes) (λ c all. all.2)
    (run_went law i lanes read).all
