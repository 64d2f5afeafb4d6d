-- A list of words joined by commas, item by item.
use Rattle.std.proofs.Common.{◌≡◌, ℕ, ◌+◌, ◌<◌, ◌≤◌, Bool, true, false, Option, List, [], ◌∷◌, ◌++◌, length, take, get_or, zip, filter_map, codes, refl, sym, ◌∙◌, ap, append_assoc, append-nil, arith}
use Rattle.std.specs.List.{flat_map, items_where_true}
use Rattle.std.proofs.lemmas.List.{take_more, take_all, length-take-le}
use Rattle.std.proofs.lemmas.List.Concat.{flat_map-append}
use Rattle.std.proofs.lemmas.List.Elements.{filter_map-append}
use Rattle.std.proofs.lemmas.Slice.Zip.{get_or-zip, length-zip}
use Rattle.mp_line.specs.Words.{joined, list_word}
use Rattle.mp_record.specs.Words.{comma, dash}

-- the list has an item
abbrev pub has_items : {X : Type 0} → List X → Bool
has_items [] = false
has_items (x ∷ xs) = true

-- one more item
pub joined-more : {X : Type 0} (word : X → List ℕ) (xs : List X) (x : X) → joined word (xs ++ x ∷ []) ≡ (joined word xs ++ comma (has_items xs)) ++ word x
joined-more word [] x = append-nil (word x)
joined-more word (y ∷ ys) x =
    let f : _ → List ℕ = λ other. codes "," ++ word other in
    ap (λ rest. word y ++ rest) (flat_map-append f ys (x ∷ []) ∙ ap (λ last. flat_map f ys ++ last) (append-nil (f x)))
    ∙ sym (append_assoc (word y) (flat_map f ys) (f x))
    ∙ sym (append_assoc (word y ++ flat_map f ys) (codes ",") (word x))

pub has_items-more : {X : Type 0} (xs : List X) (x : X) → has_items (xs ++ x ∷ []) ≡ true
has_items-more [] x = refl
has_items-more (y ∷ ys) x = refl

picked-append : {X : Type 0} (bs cs : List Bool) (xs ys : List X) → length bs ≡ length xs → items_where_true (bs ++ cs) (xs ++ ys) ≡ items_where_true bs xs ++ items_where_true cs ys
picked-append [] cs [] ys e = refl
picked-append [] cs (x ∷ xs) ys e = absurd (omega arith)
picked-append (b ∷ bs) cs [] ys e = absurd (omega arith)
picked-append (true ∷ bs) cs (x ∷ xs) ys e = ap (λ l. x ∷ l) (picked-append bs cs xs ys (omega arith))
picked-append (false ∷ bs) cs (x ∷ xs) ys e = picked-append bs cs xs ys (omega arith)

-- one more place of a list, that is picked or not
picked-more : {X : Type 0} (bs : List Bool) (xs : List X) (i : ℕ) (b : Bool) (x d : X) → i < length bs → i < length xs → get_or bs i false ≡ b → x ≡ get_or xs i d → items_where_true (take (i + 1) bs) (take (i + 1) xs) ≡ items_where_true (take i bs) (take i xs) ++ items_where_true (b ∷ []) (x ∷ [])
picked-more bs xs i b x d h k is_b is_x =
    let e : take (i + 1) bs ≡ take i bs ++ b ∷ [] = take_more bs i false h ∙ ap (λ v. take i bs ++ v ∷ []) is_b in
    let f : take (i + 1) xs ≡ take i xs ++ x ∷ [] = take_more xs i d k ∙ ap (λ v. take i xs ++ v ∷ []) (sym is_x) in
    let len : length (take i bs) ≡ length (take i xs) = omega (arith, length-take-le i bs (omega arith), length-take-le i xs (omega arith)) in
    rw (e, f) (picked-append (take i bs) (b ∷ []) (take i xs) (x ∷ []) len)

-- one more pair of two lists
zipped : {A B : Type 0} (xs : List A) (ys : List B) (i : ℕ) (x d : A) (y e : B) → i < length xs → i < length ys → x ≡ get_or xs i d → y ≡ get_or ys i e → (x, y) ≡ get_or (zip xs ys) i (d, e)
zipped xs ys i x d y e h k is_x is_y = ap (λ v. (v, y)) is_x ∙ ap (λ v. (get_or xs i d, v)) is_y ∙ sym (get_or-zip xs ys i (d, e) h k)

-- the pairs of two lists that are picked among the first places
abbrev pub picked : {A B : Type 0} → List Bool → List A → List B → ℕ → List (A × B)
picked on xs ys i = items_where_true (take i on) (take i (zip xs ys))

pub picked_pairs-more : {A B : Type 0} (on : List Bool) (xs : List A) (ys : List B) (i : ℕ) (b : Bool) (x d : A) (y e : B) → i < length on → i < length xs → i < length ys → get_or on i false ≡ b → x ≡ get_or xs i d → y ≡ get_or ys i e → picked on xs ys (i + 1) ≡ picked on xs ys i ++ items_where_true (b ∷ []) ((x, y) ∷ [])
picked_pairs-more on xs ys i b x d y e h k m is_b is_x is_y =
    picked-more on (zip xs ys) i b (x, y) (d, e) h (omega (arith, length-zip xs ys)) is_b (zipped xs ys i x d y e k m is_x is_y)

pub picked_pairs-all : {A B : Type 0} (on : List Bool) (xs : List A) (ys : List B) (i : ℕ) → length on ≤ i → length xs ≤ i → picked on xs ys i ≡ items_where_true on (zip xs ys)
picked_pairs-all on xs ys i h k =
    let len : length (zip xs ys) ≤ i = omega (arith, length-zip xs ys) in
    rw (take_all i on h, take_all i (zip xs ys) len) refl

-- what is given by the first pairs of two lists
abbrev pub given : {A B C : Type 0} → (A × B → Option C) → List A → List B → ℕ → List C
given f xs ys i = filter_map f (take i (zip xs ys))

pub given-more : {A B C : Type 0} (f : A × B → Option C) (xs : List A) (ys : List B) (i : ℕ) (x d : A) (y e : B) → i < length xs → i < length ys → x ≡ get_or xs i d → y ≡ get_or ys i e → given f xs ys (i + 1) ≡ given f xs ys i ++ filter_map f ((x, y) ∷ [])
given-more f xs ys i x d y e h k is_x is_y =
    let more : take (i + 1) (zip xs ys) ≡ take i (zip xs ys) ++ (x, y) ∷ [] = take_more (zip xs ys) i (d, e) (omega (arith, length-zip xs ys)) ∙ ap (λ v. take i (zip xs ys) ++ v ∷ []) (sym (zipped xs ys i x d y e h k is_x is_y)) in
    rw more (filter_map-append f (take i (zip xs ys)) ((x, y) ∷ []))

pub given-all : {A B C : Type 0} (f : A × B → Option C) (xs : List A) (ys : List B) (i : ℕ) → length xs ≤ i → given f xs ys i ≡ filter_map f (zip xs ys)
given-all f xs ys i h =
    let len : length (zip xs ys) ≤ i = omega (arith, length-zip xs ys) in
    rw (take_all i (zip xs ys) len) refl

-- the text after one more item
pub text-more : {X : Type 0} (word : X → List ℕ) (xs : List X) (x : X) (old now between after : List ℕ) (further : Bool) → now ≡ old ++ joined word xs → further ≡ has_items xs → between ≡ now ++ comma further → after ≡ between ++ word x → after ≡ old ++ joined word (xs ++ x ∷ [])
text-more word xs x old now between after further e f g h =
    rw (joined-more word xs x, h, g, e, f) (simp append_assoc)

-- the text of a whole list
pub text-listed : {X : Type 0} (word : X → List ℕ) (xs : List X) (old now after : List ℕ) (further : Bool) → now ≡ old ++ joined word xs → further ≡ has_items xs → after ≡ now ++ dash further → after ≡ old ++ list_word word xs
text-listed word [] old now after further e f g = rw (g, e, f, append-nil old) refl
text-listed word (x ∷ xs) old now after further e f g = rw (g, e, f) (append-nil (old ++ joined word (x ∷ xs)))
