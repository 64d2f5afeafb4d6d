-- One of the 42 words becomes another, or is read.
use Rattle.std.proofs.Common.{◌≡◌, ◌≢◌, ℕ, zero, suc, ◌+◌, ◌<◌, ◌≤◌, false, List, [], ◌∷◌, length, map, get_or, set, sym, refl, ap, ◌∙◌, subst, arith, Option, None, get_or-set_same, get_or-set_other}
use Rattle.std.proofs.lemmas.List.{map-set}
use Rattle.mp_words.specs.declared.order.Order.{Order}
use Rattle.mp_words.specs.declared.row.Row.{Row}
use Rattle.mp_words.specs.declared.words.Side.{Side}
use Rattle.mp_words.specs.Effect.{free_row}
use Rattle.mp_words.specs.OrderWord.{is_no_order, order_in}
use Rattle.mp_words.specs.RowWord.{is_no_row, row_in}
use Rattle.mp_words.specs.SideWord.{side_of_word}
use Rattle.mp_core.specs.Memory as memory
use Rattle.mp_core.specs.Memory.{Memory, no_side, side_at, row_at, depth_at, current_at}
use Rattle.mp_core.specs.Unpacked.{unpacked, current_in_word}
use Rattle.mp_plain.specs.Packed.{IsPacked}
use Rattle.mp_table.specs.Words.{collect, part, words_of, said}

collect_same : {A : Type 0} → (f g : ℕ → A) (n : ℕ) → ((j : ℕ) → j < n → g j ≡ f j) → collect g n ≡ collect f n
collect_same f g zero h = refl
collect_same f g (suc n) h = λ i. h 0 (omega arith) i ∷ collect_same (λ j. f (suc j)) (λ j. g (suc j)) n (λ j l. h (suc j) (omega arith)) i

collect_set : {A : Type 0} → (f g : ℕ → A) (n x : ℕ) (a : A) → x < n → g x ≡ a → ((j : ℕ) → j ≢ x → g j ≡ f j) → collect g n ≡ set (collect f n) x a
collect_set f g zero x a low here other = absurd (omega arith)
collect_set f g (suc n) zero a low here other = λ i. here i ∷ collect_same (λ j. f (suc j)) (λ j. g (suc j)) n (λ j l. other (suc j) (λ e. absurd (omega arith))) i
collect_set f g (suc n) (suc x) a low here other = λ i. other 0 (λ e. absurd (omega arith)) i ∷ collect_set (λ j. f (suc j)) (λ j. g (suc j)) n x a (omega arith) here (λ j d. other (suc j) (λ e. d (omega arith))) i

collect_at : {A : Type 0} → (f : ℕ → A) (n x : ℕ) (d : A) → x < n → get_or (collect f n) x d ≡ f x
collect_at f zero x d low = absurd (omega arith)
collect_at f (suc n) zero d low = refl
collect_at f (suc n) (suc x) d low = collect_at (λ j. f (suc j)) n x d (omega arith)

map_at : {A B : Type 0} → (g : A → B) (f : ℕ → A) (n x : ℕ) (d : B) → x < n → get_or (map g (collect f n)) x d ≡ g (f x)
map_at g f zero x d low = absurd (omega arith)
map_at g f (suc n) zero d low = refl
map_at g f (suc n) (suc x) d low = map_at g (λ j. f (suc j)) n x d (omega arith)

-- so many numbers of a list are the list
pub collect_all : (xs : List ℕ) → collect (λ j. get_or xs j 0) (length xs) ≡ xs
collect_all [] = refl
collect_all (x ∷ xs) = λ i. x ∷ collect_all xs i

pub collect_is : (xs : List ℕ) (f : ℕ → ℕ) (n : ℕ) → length xs ≡ n → ((j : ℕ) → j < n → get_or xs j 0 ≡ f j) → xs ≡ collect f n
collect_is xs f n len h = sym (collect_all xs) ∙ ap (collect (λ j. get_or xs j 0)) len ∙ collect_same f (λ j. get_or xs j 0) n h

-- a word outside of a part
part_else : (words : List ℕ) (from n i w : ℕ) → ((j : ℕ) → j < n → i ≢ from + j) → part (set words i w) from n ≡ part words from n
part_else words from n i w apart = collect_same (λ j. get_or words (from + j) 0) (λ j. get_or (set words i w) (from + j) 0) n (λ j l. get_or-set_other words i (from + j) w 0 (λ e. apart j l (sym e)))

-- a word of a part
part_set : (words : List ℕ) (from n x w : ℕ) → x < n → from + n ≤ length words → part (set words (from + x) w) from n ≡ set (part words from n) x w
part_set words from n x w low len = collect_set (λ j. get_or words (from + j) 0) (λ j. get_or (set words (from + x) w) (from + j) 0) n x w low (get_or-set_same words (from + x) w 0 (omega arith)) (λ j d. get_or-set_other words (from + x) (from + j) w 0 (λ e. d (omega arith)))

set_index : (words : List ℕ) (w : ℕ) → length words ≡ 42 → words_of (set words 0 w) ≡ record (words_of words) { index = w }
set_index words w len =
    let index = get_or-set_same words 0 w 0 (omega arith) in
    let sides = part_else words 1 2 0 w (λ j l. omega arith) in
    let order = get_or-set_other words 0 3 w 0 (omega arith) in
    let rows = part_else words 4 15 0 w (λ j l. omega arith) in
    let depths = part_else words 19 15 0 w (λ j l. omega arith) in
    let currents = part_else words 34 8 0 w (λ j l. omega arith) in
    λ i. record { index = index i; sides = sides i; order = order i; rows = rows i; depths = depths i; currents = currents i }

set_side : (words : List ℕ) (x w : ℕ) → x < 2 → length words ≡ 42 → words_of (set words (1 + x) w) ≡ record (words_of words) { sides = set (words_of words).sides x w }
set_side words x w low len =
    let index = get_or-set_other words (1 + x) 0 w 0 (omega arith) in
    let sides = part_set words 1 2 x w low (omega arith) in
    let order = get_or-set_other words (1 + x) 3 w 0 (omega arith) in
    let rows = part_else words 4 15 (1 + x) w (λ j l. omega arith) in
    let depths = part_else words 19 15 (1 + x) w (λ j l. omega arith) in
    let currents = part_else words 34 8 (1 + x) w (λ j l. omega arith) in
    λ i. record { index = index i; sides = sides i; order = order i; rows = rows i; depths = depths i; currents = currents i }

set_order : (words : List ℕ) (w : ℕ) → length words ≡ 42 → words_of (set words 3 w) ≡ record (words_of words) { order = w }
set_order words w len =
    let index = get_or-set_other words 3 0 w 0 (omega arith) in
    let sides = part_else words 1 2 3 w (λ j l. omega arith) in
    let order = get_or-set_same words 3 w 0 (omega arith) in
    let rows = part_else words 4 15 3 w (λ j l. omega arith) in
    let depths = part_else words 19 15 3 w (λ j l. omega arith) in
    let currents = part_else words 34 8 3 w (λ j l. omega arith) in
    λ i. record { index = index i; sides = sides i; order = order i; rows = rows i; depths = depths i; currents = currents i }

set_row : (words : List ℕ) (x w : ℕ) → x < 15 → length words ≡ 42 → words_of (set words (4 + x) w) ≡ record (words_of words) { rows = set (words_of words).rows x w }
set_row words x w low len =
    let index = get_or-set_other words (4 + x) 0 w 0 (omega arith) in
    let sides = part_else words 1 2 (4 + x) w (λ j l. omega arith) in
    let order = get_or-set_other words (4 + x) 3 w 0 (omega arith) in
    let rows = part_set words 4 15 x w low (omega arith) in
    let depths = part_else words 19 15 (4 + x) w (λ j l. omega arith) in
    let currents = part_else words 34 8 (4 + x) w (λ j l. omega arith) in
    λ i. record { index = index i; sides = sides i; order = order i; rows = rows i; depths = depths i; currents = currents i }

set_depth : (words : List ℕ) (x w : ℕ) → x < 15 → length words ≡ 42 → words_of (set words (19 + x) w) ≡ record (words_of words) { depths = set (words_of words).depths x w }
set_depth words x w low len =
    let index = get_or-set_other words (19 + x) 0 w 0 (omega arith) in
    let sides = part_else words 1 2 (19 + x) w (λ j l. omega arith) in
    let order = get_or-set_other words (19 + x) 3 w 0 (omega arith) in
    let rows = part_else words 4 15 (19 + x) w (λ j l. omega arith) in
    let depths = part_set words 19 15 x w low (omega arith) in
    let currents = part_else words 34 8 (19 + x) w (λ j l. omega arith) in
    λ i. record { index = index i; sides = sides i; order = order i; rows = rows i; depths = depths i; currents = currents i }

set_current : (words : List ℕ) (x w : ℕ) → x < 8 → length words ≡ 42 → words_of (set words (34 + x) w) ≡ record (words_of words) { currents = set (words_of words).currents x w }
set_current words x w low len =
    let index = get_or-set_other words (34 + x) 0 w 0 (omega arith) in
    let sides = part_else words 1 2 (34 + x) w (λ j l. omega arith) in
    let order = get_or-set_other words (34 + x) 3 w 0 (omega arith) in
    let rows = part_else words 4 15 (34 + x) w (λ j l. omega arith) in
    let depths = part_else words 19 15 (34 + x) w (λ j l. omega arith) in
    let currents = part_set words 34 8 x w low (omega arith) in
    λ i. record { index = index i; sides = sides i; order = order i; rows = rows i; depths = depths i; currents = currents i }

-- what the words say after a write
pub said_index : (words : List ℕ) (w : ℕ) → length words ≡ 42 → said (set words 0 w) ≡ record (said words) { index = w }
said_index words w len = ap unpacked (set_index words w len)

pub said_side : (words : List ℕ) (x w : ℕ) (to : Side) → x < 2 → length words ≡ 42 → side_of_word w ≡ to → said (set words (1 + x) w) ≡ record (said words) { sides = set (said words).sides x to }
said_side words x w to low len is = ap unpacked (set_side words x w low len) ∙ (λ i. record (said words) { sides = (map-set side_of_word (words_of words).sides x w ∙ ap (set (said words).sides x) is) i })

pub said_order : (words : List ℕ) (w : ℕ) (to : Order) → length words ≡ 42 → order_in w ≡ to → said (set words 3 w) ≡ memory.order_in to (said words)
said_order words w to len is = ap unpacked (set_order words w len) ∙ (λ i. record (said words) { order = is i })

pub said_row : (words : List ℕ) (x w : ℕ) (to : Row) → x < 15 → length words ≡ 42 → row_in w ≡ to → said (set words (4 + x) w) ≡ memory.row_in x to (said words)
said_row words x w to low len is = ap unpacked (set_row words x w low len) ∙ (λ i. record (said words) { rows = (map-set row_in (words_of words).rows x w ∙ ap (set (said words).rows x) is) i })

pub said_depth : (words : List ℕ) (x w : ℕ) → x < 15 → length words ≡ 42 → said (set words (19 + x) w) ≡ record (said words) { depths = set (said words).depths x w }
said_depth words x w low len = ap unpacked (set_depth words x w low len)

pub said_current : (words : List ℕ) (x w : ℕ) (to : Option ℕ) → x < 8 → length words ≡ 42 → current_in_word w ≡ to → said (set words (34 + x) w) ≡ memory.current_in x to (said words)
said_current words x w to low len is = ap unpacked (set_current words x w low len) ∙ (λ i. record (said words) { currents = (map-set current_in_word (words_of words).currents x w ∙ ap (set (said words).currents x) is) i })

-- a write leaves what holds of each item and of the new one
set_all : (P : ℕ → Type 0) (xs : List ℕ) (i s w : ℕ) → P w → P (get_or xs s 0) → P (get_or (set xs i w) s 0)
set_all P [] i s w new old = old
set_all P (x ∷ xs) zero zero w new old = new
set_all P (x ∷ xs) zero (suc s) w new old = old
set_all P (x ∷ xs) (suc i) zero w new old = old
set_all P (x ∷ xs) (suc i) (suc s) w new old = set_all P xs i s w new old

-- a packing stays one
pub packed_index : (words : List ℕ) (w : ℕ) → length words ≡ 42 → IsPacked (words_of words) → IsPacked (words_of (set words 0 w))
packed_index words w len p = subst IsPacked (sym (set_index words w len)) (record { rows = p.rows; order = p.order })

pub packed_side : (words : List ℕ) (x w : ℕ) → x < 2 → length words ≡ 42 → IsPacked (words_of words) → IsPacked (words_of (set words (1 + x) w))
packed_side words x w low len p = subst IsPacked (sym (set_side words x w low len)) (record { rows = p.rows; order = p.order })

pub packed_order : (words : List ℕ) (w : ℕ) → length words ≡ 42 → is_no_order w ≡ false → IsPacked (words_of words) → IsPacked (words_of (set words 3 w))
packed_order words w len is p = subst IsPacked (sym (set_order words w len)) (record { rows = p.rows; order = is })

pub packed_row : (words : List ℕ) (x w : ℕ) → x < 15 → length words ≡ 42 → is_no_row w ≡ false → IsPacked (words_of words) → IsPacked (words_of (set words (4 + x) w))
packed_row words x w low len is p = subst IsPacked (sym (set_row words x w low len)) (record { rows = λ s l. set_all (λ (y : ℕ). is_no_row y ≡ false) (words_of words).rows x s w is (p.rows s l); order = p.order })

pub packed_depth : (words : List ℕ) (x w : ℕ) → x < 15 → length words ≡ 42 → IsPacked (words_of words) → IsPacked (words_of (set words (19 + x) w))
packed_depth words x w low len p = subst IsPacked (sym (set_depth words x w low len)) (record { rows = p.rows; order = p.order })

pub packed_current : (words : List ℕ) (x w : ℕ) → x < 8 → length words ≡ 42 → IsPacked (words_of words) → IsPacked (words_of (set words (34 + x) w))
packed_current words x w low len p = subst IsPacked (sym (set_current words x w low len)) (record { rows = p.rows; order = p.order })

-- what one word says
pub side_is : (words : List ℕ) (x : ℕ) → x < 2 → side_at (said words) x ≡ side_of_word (get_or words (1 + x) 0)
side_is words x low = map_at side_of_word (λ j. get_or words (1 + j) 0) 2 x no_side low

pub row_is : (words : List ℕ) (x : ℕ) → x < 15 → row_at (said words) x ≡ row_in (get_or words (4 + x) 0)
row_is words x low = map_at row_in (λ j. get_or words (4 + j) 0) 15 x (free_row 0) low

pub depth_is : (words : List ℕ) (x : ℕ) → x < 15 → depth_at (said words) x ≡ get_or words (19 + x) 0
depth_is words x low = collect_at (λ j. get_or words (19 + j) 0) 15 x 0 low

pub current_is : (words : List ℕ) (x : ℕ) → x < 8 → current_at (said words) x ≡ current_in_word (get_or words (34 + x) 0)
current_is words x low = map_at current_in_word (λ j. get_or words (34 + j) 0) 8 x None low

pub row_packed : (words : List ℕ) (x : ℕ) → x < 15 → IsPacked (words_of words) → is_no_row (get_or words (4 + x) 0) ≡ false
row_packed words x low p = subst (λ (y : ℕ). is_no_row y ≡ false) (collect_at (λ j. get_or words (4 + j) 0) 15 x 0 low) (p.rows x low)
