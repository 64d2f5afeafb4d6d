-- The values of a list, seen as data.
use Rattle.std.proofs.Common.{◌≡◌, ℕ, ◌+◌, ◌<◌, Bool, true, false, List, [], ◌∷◌, ◌++◌, length, take, get_or, map, Option, Some, None, is_some, option_map, Bor, refl, sym, ap, ◌∙◌, arith, String, Global, BTreeMap}
use Rattle.std.proofs.lemmas.Bool.{false≢true}
use Rattle.std.proofs.lemmas.List.{take_more, get_or-map, length-map, map-append}
use Rattle.std.proofs.lemmas.List.Folds.{list_all_at}
use Rattle.std.specs.List.{list_all}
use Rattle.toml.specs.Data.{Data, Members, as_table}
use Rattle.toml.specs.View.{view, table_view}
use Rattle.toml.specs.declared.value.Value.{Value}
use Rattle.mp_topology.specs.Controllers.{is_table}

abbrev pub some_table : Members → Option Members
some_table t = Some t

abbrev none : Option Members
none = None

-- an item of a list, as data
pub seen : (vs : List Value) (i : ℕ) (x : Value) → i < length vs → x ≡ get_or vs i x → view x ≡ get_or (map view vs) i (view x)
seen vs i x lt is = ap view is ∙ sym (get_or-map view vs i x (view x) lt)

pub seen_within : (vs : List Value) (i : ℕ) → i < length vs → i < length (map view vs)
seen_within vs i lt = omega (arith, length-map vs view)

abbrev table_seen : Bor (BTreeMap (String Global) Value) → Members
table_seen m = table_view m.now

no_table : (r : Option (Bor (BTreeMap (String Global) Value))) (o : Option Members) → option_map table_seen r ≡ o → is_some r ≡ false → is_some o ≡ false
no_table None o e h = rw (← e) refl
no_table (Some m) o e h = absurd cc

pub not_all_tables : (vs : List Value) (i : ℕ) (x : Value) (r : Option (Bor (BTreeMap (String Global) Value))) → i < length vs → x ≡ get_or vs i x
    → option_map table_seen r ≡ as_table (view x) → is_some r ≡ false → false ≡ list_all is_table (map view vs)
not_all_tables vs i x r lt is found none =
    let here : is_table (view x) ≡ false = no_table r (as_table (view x)) found none in
    sym (list_all_at is_table (map view vs) i (view x) (seen_within vs i lt) (rw (← seen vs i x lt is) here))

pub all_tables : (vs : List Value) (i : ℕ) (x : Value) → i < length vs → x ≡ get_or vs i x → list_all is_table (map view vs) ≡ true → none ≡ as_table (view x) → ⊥
all_tables vs i x lt is all missing =
    let here : is_table (view x) ≡ false = rw (← missing) refl in
    let not_all = list_all_at is_table (map view vs) i (view x) (seen_within vs i lt) (rw (← seen vs i x lt is) here) in
    false≢true (sym not_all ∙ all)

pub not_all : (p : Data → Bool) (vs : List Value) (i : ℕ) (x : Value) → i < length vs → x ≡ get_or vs i x → p (view x) ≡ false → false ≡ list_all p (map view vs)
not_all p vs i x lt is here = sym (list_all_at p (map view vs) i (view x) (seen_within vs i lt) (rw (← seen vs i x lt is) here))

pub map_more : {B : Type 0} (f : Data → B) (vs : List Value) (i : ℕ) (x : Value) (b : B) (found : List B) → i < length vs → x ≡ get_or vs i x → found ≡ map f (take i (map view vs)) → b ≡ f (view x)
    → found ++ b ∷ [] ≡ map f (take (i + 1) (map view vs))
map_more f vs i x b found lt is so_far made = rw (take_more (map view vs) i (view x) (seen_within vs i lt), ← seen vs i x lt is, map-append, so_far, made) refl
