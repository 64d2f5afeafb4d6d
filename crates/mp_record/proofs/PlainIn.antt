-- Kept events that tell no section.
use Rattle.std.proofs.Common.{◌≡◌, ℕ, ◌+◌, ◌<◌, ◌≤◌, zero, suc, Bool, true, false, List, [], ◌∷◌, length, map, filter, drop, get_or, refl, sym, ap, subst, ◌∙◌, arith}
use Rattle.std.specs.Prelude.{if◌then◌else◌}
use Rattle.std.proofs.lemmas.List.{drop_more}
use Rattle.mp_record.specs.declared.event.Event.{Event}
use Rattle.mp_record.specs.declared.event.Event.TheVariants as event
use Rattle.mp_record.specs.declared.event.Said.TheVariants as word
use Rattle.mp_record.specs.declared.kept.Kept.{Kept}
use Rattle.mp_record.specs.declared.kept.Kept.TheVariants as kept
use Rattle.mp_record.specs.RunView.{is_plain}
use Rattle.mp_record.specs.Kept.{retold, told, IsBelow, AreBelow, IsSection, IsInOrder, AreInOrder, past, IsPlainIn, ArePlainIn}

-- whether a kept event tells no section
abbrev pub tells_plain : List Event → Kept → Bool
tells_plain apart k = is_plain (told apart k)

-- what is told by those that tell no section
pub told-plain : (apart : List Event) (ks : List Kept) → map (told apart) (filter (tells_plain apart) ks) ≡ filter is_plain (map (told apart) ks)
told-plain apart [] = refl
told-plain apart (k ∷ ks) =
    let some = filter (tells_plain apart) ks in
    elim (tells_plain apart k) as (λ b. map (told apart) (if b then k ∷ some else some) ≡ (if b then told apart k ∷ filter is_plain (map (told apart) ks) else filter is_plain (map (told apart) ks))) [ true ↦ ap (λ es. told apart k ∷ es) (told-plain apart ks) | false ↦ told-plain apart ks ]

no_section : (ticket : ℕ) (current : _) (e : Event) → IsSection e → is_plain (retold ticket current e) ≡ false
no_section ticket current (event.Sec note moved) h = refl
no_section ticket current (event.At line said) h = absurd h
no_section ticket current (event.Try req hop end) h = absurd h
no_section ticket current (event.Fin req hop statuses count back) h = absurd h

-- the same from a place before
pub plain-from : (n m from : ℕ) (ks : List Kept) → m ≤ from → ArePlainIn n from ks → ArePlainIn n m ks
plain-from n m from [] h a = tt
plain-from n m from (kept.Apart place ∷ ks) h a = ((omega (arith, a.0.0), a.0.1), a.1)
plain-from n m from (kept.Section like ticket current ∷ ks) h a = absurd a.0
plain-from n m from (kept.At line said ∷ ks) h a = (tt, plain-from n m from ks h a.1)
plain-from n m from (kept.Try req hop end ∷ ks) h a = (tt, plain-from n m from ks h a.1)
plain-from n m from (kept.Done count req hop statuses ∷ ks) h a = (tt, plain-from n m from ks h a.1)
plain-from n m from (kept.Unset count req hop statuses ∷ ks) h a = (tt, plain-from n m from ks h a.1)

-- those that tell no section
pub plain-in : (apart : List Event) (n m : ℕ) (ks : List Kept) → AreBelow n ks → AreInOrder apart m ks → ArePlainIn n m (filter (tells_plain apart) ks)
plain-in apart n m [] b a = tt
plain-in apart n m (kept.Apart place ∷ ks) b a =
    let some = filter (tells_plain apart) ks in
    let more = plain-in apart n (place + 1) ks b.1 a.1 in
    elim (tells_plain apart (kept.Apart place)) as (λ on. ArePlainIn n m (if on then kept.Apart place ∷ some else some)) [ true ↦ ((a.0, b.0), more) | false ↦ plain-from n m (place + 1) some (omega (arith, a.0)) more ]
plain-in apart n m (kept.Section like ticket current ∷ ks) b a =
    let some = filter (tells_plain apart) ks in
    subst (λ on. ArePlainIn n m (if on then kept.Section like ticket current ∷ some else some)) (sym (no_section ticket current (get_or apart like (event.At 0 word.Idle)) a.0)) (plain-in apart n m ks b.1 a.1)
plain-in apart n m (kept.At line said ∷ ks) b a = (tt, plain-in apart n m ks b.1 a.1)
plain-in apart n m (kept.Try req hop end ∷ ks) b a = (tt, plain-in apart n m ks b.1 a.1)
plain-in apart n m (kept.Done count req hop statuses ∷ ks) b a = (tt, plain-in apart n m ks b.1 a.1)
plain-in apart n m (kept.Unset count req hop statuses ∷ ks) b a = (tt, plain-in apart n m ks b.1 a.1)

below-one : (n m : ℕ) (k : Kept) → IsPlainIn n m k → IsBelow n k
below-one n m (kept.Apart place) a = a.1
below-one n m (kept.Section like ticket current) a = absurd a
below-one n m (kept.At line said) a = tt
below-one n m (kept.Try req hop end) a = tt
below-one n m (kept.Done count req hop statuses) a = tt
below-one n m (kept.Unset count req hop statuses) a = tt

pub plain-below : (n m : ℕ) (ks : List Kept) → ArePlainIn n m ks → AreBelow n ks
plain-below n m [] a = tt
plain-below n m (k ∷ ks) a = (below-one n m k a.0, plain-below n (past m k) ks a.1)

in_order-one : (apart : List Event) (n m : ℕ) (k : Kept) → IsPlainIn n m k → IsInOrder apart m k
in_order-one apart n m (kept.Apart place) a = a.0
in_order-one apart n m (kept.Section like ticket current) a = absurd a
in_order-one apart n m (kept.At line said) a = tt
in_order-one apart n m (kept.Try req hop end) a = tt
in_order-one apart n m (kept.Done count req hop statuses) a = tt
in_order-one apart n m (kept.Unset count req hop statuses) a = tt

pub plain-order : (apart : List Event) (n m : ℕ) (ks : List Kept) → ArePlainIn n m ks → AreInOrder apart m ks
plain-order apart n m [] a = tt
plain-order apart n m (k ∷ ks) a = (in_order-one apart n m k a.0, plain-order apart n (past m k) ks a.1)

-- what is ahead at a place
pub ahead : (now : List Kept) (i : ℕ) (k : Kept) → i < length now → k ≡ get_or now i k → drop i now ≡ k ∷ drop (i + 1) now
ahead now i k h at = drop_more now i k h ∙ ap (λ y. y ∷ drop (i + 1) now) (sym at)

below-drop : (n i : ℕ) (ks : List Kept) → AreBelow n ks → AreBelow n (drop i ks)
below-drop n zero ks a = a
below-drop n (suc i) [] a = tt
below-drop n (suc i) (k ∷ ks) a = below-drop n i ks a.1

-- one of those that stand as they were
pub rest-below : (n : ℕ) (old now : List Kept) (i : ℕ) (k : Kept) → AreBelow n old → drop i now ≡ drop i old → i < length now → k ≡ get_or now i k → IsBelow n k
rest-below n old now i k a same h at =
    let low : AreBelow n (k ∷ drop (i + 1) now) = subst (AreBelow n) (sym same ∙ ahead now i k h at) (below-drop n i old a) in
    low.0
