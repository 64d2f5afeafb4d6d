-- The places of names, as a map.
use Rattle.std.proofs.Common.{inl, inr, ◌≡◌, ◌==◌, ℕ, ◌+◌, ◌<◌, ◌≤◌, Bool, true, false, List, [], ◌∷◌, ◌++◌, length, map, take, get_or, nat_lt, Option, Some, None, Bor, refl, sym, ap, ◌∙◌, arith}
use Rattle.std.specs.Prelude.{is_some, cond, not, if◌then◌else◌}
use Rattle.std.specs.List.{position_or_len}
use Rattle.std.specs.Str.{bytes_eq}
use Rattle.std.specs.Map.{lookup}
use Rattle.std.specs.BTreeMap.{BTreeMap, get, get_by, is_at}
use Rattle.std.specs.Cmp.Lexicographic.{slice_cmp}
use Rattle.std.specs.Ordering.{nat_cmp, is_eq}
use Rattle.std.proofs.lemmas.Bool.{cases_Bool, cases_lt}
use Rattle.std.proofs.lemmas.Bool.Decides.{nat_tests}
use Rattle.std.proofs.lemmas.List.{take_more, length-take-le, length-append, length-map}
use Rattle.std.proofs.lemmas.List.Sums.{prefix_len-le-length}
use Rattle.std.proofs.lemmas.List.Folds.{position_or_len_push}
use Rattle.std.proofs.lemmas.Map.Text.{is_eq-slice_cmp}
use Rattle.std.proofs.lemmas.Slice.Eq.{bytes_eq-Decides}
use Rattle.mp_topology.specs.Controllers.{place_of}
use Rattle.mp_topology.specs.declared.topology.Controller.{Controller}
use Rattle.mp_script.specs.Places.{key_cmp, HasPlaces}

abbrev Places : Type 0
Places = BTreeMap (Bor (List ℕ)) ℕ

-- the later of two places, where the earlier is none
abbrev pub or_place : Option ℕ → Bool → ℕ → Option ℕ
or_place o hit n = if is_some o then o else (if hit then Some n else None)

or_same : (o : Option ℕ) (n : ℕ) → o ≡ or_place o false n
or_same None n = refl
or_same (Some x) n = refl

no_place : (o : Option ℕ) (n : ℕ) → is_some o ≡ false → Some n ≡ or_place o true n
no_place o n e = rw e refl

-- what a map with one key more has
pub put_is : (name w : Bor (List ℕ)) (m new : Places) (n : ℕ) → ((q : Bor (List ℕ)) → get key_cmp new q ≡ cond (is_at (key_cmp name) q) (Some n) (get key_cmp m q)) → is_some (get_by (key_cmp name) m) ≡ false
    → get key_cmp new w ≡ or_place (get key_cmp m w) (bytes_eq name.now w.now) n
put_is name w m new n updates absent =
    let test : is_at (key_cmp name) w ≡ bytes_eq name.now w.now = is_eq-slice_cmp name.now w.now in
    elim (cases_Bool (bytes_eq name.now w.now)) [
      | inl e ↦
          let same : name.now ≡ w.now = (bytes_eq-Decides name.now w.now).0 e in
          let none : is_some (get key_cmp m w) ≡ false = ap (λ (bs : List ℕ). is_some (lookup (λ (k : Bor (List ℕ)). is_eq (slice_cmp nat_cmp bs k.now)) m.entries)) (sym same) ∙ absent in
          updates w ∙ rw (test, e) (no_place (get key_cmp m w) n none)
      | inr e ↦ updates w ∙ rw (test, e) (or_same (get key_cmp m w) n)
    ]

-- a first place among n, or none
abbrev place_at : ℕ → ℕ → Option ℕ
place_at k n = cond (nat_lt k n) (Some k) None

place_more : (k n : ℕ) (hit : Bool) → k ≤ n → place_at (cond (k == n) (n + cond hit 0 1) k) (n + 1) ≡ or_place (place_at k n) hit n
place_more k n hit le = elim (cases_lt k n) [
  | inl lt ↦
      let a : nat_lt k n ≡ true = grind (arith, nat_tests) in
      let b : (k == n) ≡ false = grind (arith, nat_tests) in
      let d : nat_lt k (n + 1) ≡ true = grind (arith, nat_tests) in
      rw (b, a, d) refl
  | inr ge ↦
      let a : nat_lt k n ≡ false = grind (arith, nat_tests) in
      let b : (k == n) ≡ true = grind (arith, nat_tests) in
      elim (cases_Bool hit) [
        | inl h ↦ let d : nat_lt (n + 0) (n + 1) ≡ true = grind (arith, nat_tests) in
            let z : n + 0 ≡ n = omega arith in
            rw (b, h, d, a, z) refl
        | inr h ↦ let d : nat_lt (n + 1) (n + 1) ≡ false = grind (arith, nat_tests) in
            rw (b, h, d, a) refl
      ]
]

place_push : (w : List ℕ) (names : List (List ℕ)) (name : List ℕ) → place_of w (names ++ name ∷ []) ≡ or_place (place_of w names) (bytes_eq name w) (length names)
unfolding place_of
place_push w names name =
    let le : position_or_len (λ x. bytes_eq x w) names ≤ length names = prefix_len-le-length (λ x. not (bytes_eq x w)) names in
    rw (position_or_len_push (λ x. bytes_eq x w) names name, length-append names (name ∷ [])) (place_more (position_or_len (λ x. bytes_eq x w) names) (length names) (bytes_eq name w) le)

pub no_places : (m : Places) → m.entries ≡ [] → HasPlaces [] m
unfolding place_of
no_places m empty = λ w. rw empty refl

abbrev name_of : Controller → List ℕ
name_of c = c.name

map_push : (cs : List Controller) (c : Controller) → map name_of (cs ++ c ∷ []) ≡ map name_of cs ++ c.name ∷ []
map_push [] c = refl
map_push (x ∷ cs) c = ap (λ (ns : List (List ℕ)). x.name ∷ ns) (map_push cs c)

-- one controller more
pub places_more : (cs : List Controller) (i : ℕ) (c d : Controller) (name : Bor (List ℕ)) (m new : Places) (n : ℕ) → i < length cs → c ≡ get_or cs i d → name.now ≡ c.name → n ≡ i → HasPlaces (take i cs) m
    → ((w : Bor (List ℕ)) → get key_cmp new w ≡ or_place (get key_cmp m w) (bytes_eq name.now w.now) n) → HasPlaces (take (i + 1) cs) new
places_more cs i c d name m new n lt is named number has updated = λ w.
    let count : length (map name_of (take i cs)) ≡ i = length-map (take i cs) name_of ∙ length-take-le i cs (omega arith) in
    updated w ∙ rw (take_more cs i d lt, ← is, map_push (take i cs) c, place_push w.now (map name_of (take i cs)) c.name, has w, named, number, count) refl
