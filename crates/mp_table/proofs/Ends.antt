-- How a table begins and ends, and what a split and a join leave.
use Rattle.std.proofs.Common.{[], ◌≡◌, ℕ, zero, suc, ◌+◌, ◌<◌, ◌≤◌, List, ◌∷◌, length, get_or, set, sym, refl, ap, ◌∙◌, subst, arith, None, length-set, get_or-set_same, get_or-set_other}
use mathlib.Core.Logic.{dite}
use native.Mathlib.Decide.{ℕ_discrete}
use mathlib.Core.Option.{some, some-ne-none, some-injective}
use lib.ListN.{get_elem?}
use Rattle.atomic_table.specs.Table.{State, Final, Seen, Splits, Joins}
use Rattle.mp_words.specs.declared.words.Words.{Words}
use Rattle.mp_core.specs.declared.view.Start.{Start}
use Rattle.mp_core.specs.declared.view.Role.{Role}
use Rattle.mp_core.specs.declared.view.Role.TheVariants as role
use Rattle.mp_core.specs.declared.view.View.{View}
use Rattle.mp_core.specs.Unpacked.{unpacked}
use Rattle.mp_core.specs.Views as view
use Rattle.mp_core.specs.Views.{last_version}
use Rattle.mp_rule.specs.Sums.{units, times}
use Rattle.mp_rule.specs.Holds.{Holds}
use Rattle.mp_rule.specs.Lawful.{IsLawful, HasRoom, opening_view}
use Rattle.mp_rule.proofs.Kept as kept
use Rattle.mp_rule.proofs.Opening as opening
use Rattle.mp_rule.proofs.Views.{none_held, none_section, le-total}
use Rattle.mp_plain.specs.Packed.{IsPacked}
use Rattle.mp_table.specs.Words.{collect, part, words_of, said}
use Rattle.mp_table.proofs.Words.{collect_is}
use Rattle.mp_table.specs.Known.{RowsFit, Fits}
use Rattle.mp_table.specs.Table.{Kept, Keeps, Told}
use Rattle.mp_table.proofs.Table.{loaded, rows_same, fits_of}

-- what is found at a place of a list
elem_is : (l : List ℕ) (i a : ℕ) → get_elem? l i ≡ some a → get_or l i 0 ≡ a
elem_is [] i a e = absurd (some-ne-none a (sym e))
elem_is (x ∷ l) zero a e = some-injective x a e
elem_is (x ∷ l) (suc i) a e = elem_is l i a e

-- the first words of a part are read
pub record IsFilled (n i from : ℕ) (items words : List ℕ) : Type 0 where
  pub count : length words ≡ n
  pub read : (j : ℕ) → j < i → get_or words j 0 ≡ get_or items (from + j) 0

pub filled_more : (n i from w : ℕ) (items words : List ℕ) → i < n → IsFilled n i from items words → get_elem? items (from + i) ≡ some w → IsFilled n (i + 1) from items (set words i w)
filled_more n i from w items words low h e = record {
  count = length-set words i w ∙ h.count;
  read = λ j l. dite (ℕ_discrete i j)
      (λ same. subst (λ (k : ℕ). get_or (set words i w) k 0 ≡ get_or items (from + k) 0) same (get_or-set_same words i w 0 (let c = h.count in omega arith) ∙ sym (elem_is items (from + i) w e)))
      (λ apart. get_or-set_other words i j w 0 (λ e. apart (sym e)) ∙ h.read j (omega arith));
}

pub filled_all : (n i from : ℕ) (items words : List ℕ) → n ≤ i → IsFilled n i from items words → words ≡ part items from n
filled_all n i from items words most h = collect_is words (λ j. get_or items (from + j) 0) n h.count (λ j l. h.read j (omega arith))

pub words_read : (items : List ℕ) (a b c d : ℕ) → get_elem? items 0 ≡ some a → get_elem? items 1 ≡ some b → get_elem? items 2 ≡ some c → get_elem? items 3 ≡ some d → (rows depths currents : List ℕ) → rows ≡ part items 4 15 → depths ≡ part items 19 15 → currents ≡ part items 34 8
    → record { index = a; sides = b ∷ c ∷ []; order = d; rows = rows; depths = depths; currents = currents } ≡ words_of items
words_read items a b c d ea eb ec ed rows depths currents er es et = λ i. record { index = sym (elem_is items 0 a ea) i; sides = sym (elem_is items 1 b eb) i ∷ sym (elem_is items 2 c ec) i ∷ []; order = sym (elem_is items 3 d ed) i; rows = er i; depths = es i; currents = et i }

-- the words that are laid
pub laid_is : (w : Words) (sides rows depths currents : List ℕ) → sides ≡ w.sides → rows ≡ w.rows → depths ≡ w.depths → currents ≡ w.currents → length sides ≡ 2 → length rows ≡ 15 → length depths ≡ 15 → length currents ≡ 8
    → record { index = w.index; sides = collect (λ j. get_or sides j 0) 2; order = w.order; rows = collect (λ j. get_or rows j 0) 15; depths = collect (λ j. get_or depths j 0) 15; currents = collect (λ j. get_or currents j 0) 8 } ≡ w
laid_is w sides rows depths currents is ir id ic ls lr ld lc = λ i. record {
  index = w.index;
  sides = (sym (collect_is sides (λ j. get_or sides j 0) 2 ls (λ j l. refl)) ∙ is) i;
  order = w.order;
  rows = (sym (collect_is rows (λ j. get_or rows j 0) 15 lr (λ j l. refl)) ∙ ir) i;
  depths = (sym (collect_is depths (λ j. get_or depths j 0) 15 ld (λ j l. refl)) ∙ id) i;
  currents = (sym (collect_is currents (λ j. get_or currents j 0) 8 lc (λ j l. refl)) ∙ ic) i;
}

-- the first state of a table
pub opens : (words : List ℕ) (w : Words) (n : ℕ) → words_of words ≡ w → length words ≡ 42 → IsPacked w → IsLawful (unpacked w) → HasRoom (unpacked w) n → Kept (record { words = w; units = n }) words (opening_view (record { words = w; units = n }) ∷ [])
opens words w n is count packed lawful room = record {
  count = count;
  packed = subst IsPacked (sym is) packed;
  units = (let o = room.order in omega arith);
  rule = subst (λ (x : Words). Holds (record { words = w; units = n }) (unpacked x) (opening_view (record { words = w; units = n }) ∷ [])) (sym is) (opening.opens (record { words = w; units = n }) lawful room);
}

pub opens_fit : (words : List ℕ) (w : Words) (n : ℕ) → words_of words ≡ w → length words ≡ 42 → IsPacked w → IsLawful (unpacked w) → HasRoom (unpacked w) n → Fits (opening_view (record { words = w; units = n }))
opens_fit words w n is count packed lawful room =
    let v : View = opening_view (record { words = w; units = n }) in
    fits_of (record { words = w; units = n }) words (v ∷ []) 0 v (opens words w n is count packed lawful room) refl (record { rows = λ t e. absurd (none_section t e); held = λ l e. absurd (none_held v refl l e) })

-- a split and a join
pub splits : (start : Start) (id : ℕ) (v : View) (lane n : ℕ) → v.role ≡ role.Keeper → n ≤ v.left → times lane v.keeping.out ≡ 0 → Splits (λ (s : State (Unit {0}) View). Kept start s.words s.views) id v (view.kept_part lane n v) (view.new_part lane n v)
splits start id v lane n keeper enough fresh s h at = record { count = h.count; packed = h.packed; units = h.units; rule = kept.k6 start id v lane n keeper enough fresh (said s.words) s.views h.rule at }

pub joins : (start : Start) (id : ℕ) (v : View) (other : ℕ) (w : View) → v.role ≡ role.Keeper → w.inside ≡ None → w.flights ≡ [] → Joins (λ (s : State (Unit {0}) View). Kept start s.words s.views) id v other w (view.joined v w) (view.spent w)
joins start id v other w keeper closed landed s h at apart there = record { count = h.count; packed = h.packed; units = h.units; rule = kept.k7 start id v other w keeper closed landed (said s.words) s.views h.rule at apart there }

-- what the two passes know after a split fits
pub kept_fits : (lane n : ℕ) (v : View) → n ≤ v.left → Fits v → Fits (view.kept_part lane n v)
kept_fits lane n v enough f = record { rows = rows_same v (view.kept_part lane n v) refl refl f.rows; formed = f.formed; lists = λ k. let l = f.lists k in omega arith }

pub new_fits : (lane n : ℕ) (v : View) → Fits (view.new_part lane n v)
new_fits lane n v = record {
  rows = record { rows = λ t e. absurd (none_section t e); held = λ l e. absurd (none_held (view.new_part lane n v) refl l e) };
  formed = λ t e. absurd (none_section t e);
  lists = λ e. absurd (lane_keeper e);
}
  where
    is_lane : Role → Type 0
    is_lane role.Keeper = ⊥
    is_lane role.Spent = Unit {0}
    is_lane (role.Lane l) = Unit {0}

    lane_keeper : role.Lane lane ≡ role.Keeper → ⊥
    lane_keeper e = subst is_lane e tt

pub joined_rows : (v w : View) → RowsFit v → RowsFit (view.joined v w)
joined_rows v w r = rows_same v (view.joined v w) refl refl r

-- a load that tells that the rule holds
pub tells_rule : (id : ℕ) (v : View) → v.keeping.last ≡ None → RowsFit v → Keeps id v 0 (λ n. n) (λ _ w. (w ≡ v) × Told w × (w.left < 1073741824))
tells_rule id v last rows start words views h at small =
    let same : view.passed v ≡ v = λ i. record v { keeping = record (v.keeping) { last = sym last i } } in
    let k : Holds start (said words) (set views id v) = subst (λ (u : View). Holds start (said words) (set views id u)) same (kept.k1 start id v (said words) views h.rule at) in
    let most = le-total units views id v at in
    let bound = h.rule.sums.entries 0 in
    (v, loaded start words views (set views id v) 0 h k, rows, (refl, (words_of words, h.packed, (views, id, subst (λ (x : Start). Holds x (said words) views) (sym (h.rule.starts id v at)) h.rule, at)), omega arith))

-- the last state of a table
pub closes : (start : Start) (id : ℕ) (v : View) (words : List ℕ) (slots : List (Unit {0})) (w : Words) → Final (Seen (λ (s : State (Unit {0}) View). Kept start s.words s.views) id v) words slots → w ≡ words_of words
    → v.role ≡ role.Keeper → v.keeping.out ≡ [] → v.inside ≡ None → v.flights ≡ []
    → IsPacked w × (IsLawful (unpacked w) × HasRoom (unpacked w) v.left) × ((views : List View) × (id : ℕ) × Holds v.keeping.start (unpacked w) views × (get_elem? views id ≡ some v))
closes start id v words slots w f is keeper alone closed landed =
    let s = f.0 in
    let seen = f.1 in
    let same : words_of s.words ≡ w = ap words_of f.2 ∙ sym is in
    let rule : Holds start (unpacked w) s.views = subst (λ (x : Words). Holds start (unpacked x) s.views) same seen.0.rule in
    let first : id ≡ 0 = rule.graces.keeper id v seen.1 keeper in
    let begun : v.keeping.start ≡ start = rule.starts id v seen.1 in (
      subst IsPacked same seen.0.packed,
      opening.closes start v (unpacked w) s.views rule (subst (λ (k : ℕ). get_elem? s.views k ≡ some v) first seen.1) keeper alone closed landed,
      (s.views, id, subst (λ (x : Start). Holds x (unpacked w) s.views) (sym begun) rule, seen.1),
    )
