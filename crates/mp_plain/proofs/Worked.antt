-- The words of the worked case are packed and lawful, and have room.
use Rattle.std.proofs.Common.{◌≡◌, ℕ, zero, suc, ◌+◌, ◌*◌, ◌<◌, ◌≤◌, ◌==◌, ◌||◌, ◌&&◌, eq-eqb, Bool, true, false, true≢false, List, [], ◌∷◌, ◌++◌, get_or, replicate, sym, refl, ap, ◌∙◌, subst, arith, Option, None, Some}
use Rattle.std.specs.List.{list_any}
use Rattle.mp_words.specs.declared.flight.Flight.{Flight}
use Rattle.mp_words.specs.declared.note.Note.{Note}
use Rattle.mp_words.specs.declared.order.Order.{Order}
use Rattle.mp_words.specs.declared.row.Row.{Row}
use Rattle.mp_core.specs.declared.view.Section.{Section}
use Rattle.mp_core.specs.Notes.{order_noted, row_noted, with_note, HasUsable}
use Rattle.mp_core.specs.Views.{is_flight}
use Rattle.mp_words.specs.declared.words.Words.{Words}
use Rattle.mp_words.specs.Effect.{free_row}
use Rattle.mp_words.specs.Facts.{IsRow, IsOrder}
use Rattle.mp_words.specs.Row.{is_given}
use Rattle.mp_words.specs.RowWord.{is_no_row}
use Rattle.mp_words.specs.TwoPaths.{first_path, second_path, two_paths}
use Rattle.mp_core.specs.Memory.{Memory, side_at, row_at, depth_at, current_at}
use Rattle.mp_core.specs.Status.{has, lists}
use Rattle.mp_core.specs.Unpacked.{unpacked}
use Rattle.mp_rule.specs.Lawful.{IsLawful, HasRoom}
use Rattle.mp_rule.proofs.Views.{by_case}
use Rattle.mp_plain.specs.Packed.{IsPacked}
use Rattle.mp_plain.specs.TwoPaths.{two_path_words}

abbrev pub worked : Memory
worked = unpacked two_path_words

-- of so many of the same each is that
pub same : {X : Type 0} → (n s : ℕ) (x : X) → get_or (replicate n x) s x ≡ x
same zero s x = refl
same (suc n) zero x = refl
same (suc n) (suc s) x = same n s x

each_row : (P : Row → Type 0) → P first_path → P second_path → P (free_row 0) → (s : ℕ) → P (row_at worked s)
each_row P a b c zero = a
each_row P a b c (suc zero) = b
each_row P a b c (suc (suc s)) = subst P (sym (same 13 s (free_row 0))) c

pub unlisted : (s : ℕ) → has (suc (suc s)) (0 ∷ 1 ∷ []) ≡ false
unlisted s = by_case (λ b. b || ((1 == suc (suc s)) || false) ≡ false) 0 (suc (suc s)) (λ e. absurd (omega arith)) (λ _. by_case (λ b. b || false ≡ false) 1 (suc (suc s)) (λ e. absurd (omega arith)) (λ _. refl))

never : {A : Type 0} → false ≡ true → A
never e = absurd (true≢false (sym e))

pub two_paths_packed : IsPacked two_path_words
two_paths_packed = record { rows = rows; order = refl }
  where
    rows : (s : ℕ) → s < 15 → is_no_row (get_or two_path_words.rows s 0) ≡ false
    rows zero l = refl
    rows (suc zero) l = refl
    rows (suc (suc s)) l = ap is_no_row (same 13 s 0)

order_lawful : IsOrder two_paths
order_lawful = record { within = omega arith; places = refl; distinct = distinct; past = past }
  where
    distinct : (i j : ℕ) → i < 2 → j < 2 → get_or two_paths.slots i 0 ≡ get_or two_paths.slots j 0 → i ≡ j
    distinct zero zero a b e = refl
    distinct zero (suc zero) a b e = e
    distinct (suc zero) zero a b e = e
    distinct (suc zero) (suc zero) a b e = refl
    distinct (suc (suc i)) j a b e = absurd (omega arith)
    distinct i (suc (suc j)) a b e = absurd (omega arith)

    past : (i : ℕ) → 2 ≤ i → get_or two_paths.slots i 0 ≡ 0
    past zero l = absurd (omega arith)
    past (suc zero) l = absurd (omega arith)
    past (suc (suc i)) l = same 6 i 0

pub two_paths_lawful : IsLawful worked
two_paths_lawful = record {
  sized = record { sides = refl; rows = refl; depths = refl; currents = refl };
  index = omega arith;
  nobody = nobody;
  idle = λ s. same 15 s 0;
  given = given;
  off = each_row (λ r. r.marked ≡ true → r.ready ≡ false) never never never;
  named = λ n s l e. absurd (none_some (sym (same 8 n None) ∙ e));
  rows = each_row IsRow record { state = omega arith; free = λ e. absurd (omega arith) } record { state = omega arith; free = λ e. absurd (omega arith) } record { state = omega arith; free = λ e. refl };
  order = order_lawful;
}
  where
    nobody : (x : ℕ) → (side_at worked x).inside ≡ 0
    nobody zero = refl
    nobody (suc zero) = refl
    nobody (suc (suc x)) = refl

    given : (s : ℕ) → lists s worked.order ≡ true → is_given (row_at worked s) ≡ true
    given zero l = refl
    given (suc zero) l = refl
    given (suc (suc s)) l = never (sym (unlisted s) ∙ l)

    some_slot : Option ℕ → Type 0
    some_slot None = ⊥
    some_slot (Some s) = Unit {0}

    none_some : {s : ℕ} → None ≡ Some s → ⊥
    none_some e = subst some_slot (sym e) tt

pub two_paths_room : HasRoom worked 1700
two_paths_room = record { entries = entries; rows = each_row (λ r. r.version + 1700 < 1073741824) (omega arith) (omega arith) (omega arith); order = omega arith }
  where
    entries : (x : ℕ) → (side_at worked x).entries + 1700 < 1073741824
    entries zero = omega arith
    entries (suc zero) = omega arith
    entries (suc (suc x)) = omega arith

-- a section that has read the list of paths and the first row has a usable row of it
pub sent_usable : (s t u : Section) (order : Order) (row : Row) (slot : ℕ) → t ≡ with_note (order_noted order s.note) s → u ≡ with_note (row_noted slot row t.note) t → order ≡ two_paths → row ≡ first_path → slot ≡ 0 → HasUsable u.note slot
sent_usable s t u order row slot a b is_order is_row is_slot =
    let note : u.note ≡ row_noted slot row (order_noted order s.note) = ap (λ (x : Section). x.note) b ∙ ap (λ (x : Section). row_noted slot row x.note) a in
    let all : u.note ≡ row_noted 0 first_path (order_noted two_paths s.note) = note ∙ (λ i. row_noted (is_slot i) (is_row i) (order_noted (is_order i) s.note)) in
    subst (λ (p : Note × ℕ). HasUsable p.0 p.1) (λ i. (sym all i, sym is_slot i)) (record { listed = omega arith; loaded = refl; is = refl }, refl)

-- a flight that was sent flies
same_flight : (f : Flight) → is_flight f f ≡ true
same_flight f = λ i. eq-eqb f.slot f.slot refl i && eq-eqb f.version f.version refl i && eq-eqb f.req f.req refl i && eq-eqb f.lane f.lane refl i

pub sent_flies : (f : Flight) (fs : List Flight) → list_any (is_flight f) (fs ++ f ∷ []) ≡ true
sent_flies f [] = ap (λ (b : Bool). b || false) (same_flight f)
sent_flies f (g ∷ fs) = ap (λ (b : Bool). is_flight f g || b) (sent_flies f fs) ∙ by_or (is_flight f g)
  where
    by_or : (b : Bool) → b || true ≡ true
    by_or true = refl
    by_or false = refl
