-- The events apart that kept ones name, moved to the front.
use Rattle.std.proofs.Common.{◌≡◌, ◌≢◌, ℕ, ◌+◌, ◌<◌, ◌≤◌, List, [], ◌∷◌, ◌++◌, length, map, take, drop, set, get_or, refl, sym, ap, subst, ◌∙◌, append_assoc, arith}
use Rattle.std.proofs.lemmas.List.{map-append, get_or-take, get_or-set_same, get_or-set_other, length-set, length-take-le, take_more, take_more_set, drop-set-lt, take_all, take-append-drop}
use Rattle.mp_record.specs.declared.event.Event.{Event}
use Rattle.mp_record.specs.declared.event.Event.TheVariants as event
use Rattle.mp_record.specs.declared.event.Said.TheVariants as word
use Rattle.mp_record.specs.declared.kept.Kept.{Kept}
use Rattle.mp_record.specs.declared.kept.Kept.TheVariants as kept
use Rattle.mp_record.specs.Kept.{told, past, IsPlainIn, ArePlainIn, IsPacking}
use Rattle.mp_record.proofs.Apart.{same-at}
use Rattle.mp_record.proofs.PlainIn.{plain-from, ahead}

-- the place of a kept event, where it has one, is not this
abbrev IsElse : ℕ → Kept → Type 0
IsElse w (kept.Apart place) = place ≢ w
IsElse w (kept.Section like ticket current) = ⊥
IsElse w (kept.At line said) = Unit {0}
IsElse w (kept.Try req hop end) = Unit {0}
IsElse w (kept.Done count req hop statuses) = Unit {0}
IsElse w (kept.Unset count req hop statuses) = Unit {0}

told-else : (apart : List Event) (e : Event) (w : ℕ) (k : Kept) → IsElse w k → told (set apart w e) k ≡ told apart k
told-else apart e w (kept.Apart place) h = get_or-set_other apart w place e (event.At 0 word.Idle) h
told-else apart e w (kept.Section like ticket current) h = absurd h
told-else apart e w (kept.At line said) h = refl
told-else apart e w (kept.Try req hop end) h = refl
told-else apart e w (kept.Done count req hop statuses) h = refl
told-else apart e w (kept.Unset count req hop statuses) h = refl

else-one : (n m w : ℕ) (k : Kept) → ((p : ℕ) → m ≤ p → p < n → p ≢ w) → IsPlainIn n m k → IsElse w k
else-one n m w (kept.Apart place) ne a = ne place a.0 a.1
else-one n m w (kept.Section like ticket current) ne a = a
else-one n m w (kept.At line said) ne a = tt
else-one n m w (kept.Try req hop end) ne a = tt
else-one n m w (kept.Done count req hop statuses) ne a = tt
else-one n m w (kept.Unset count req hop statuses) ne a = tt

past-more : (n m : ℕ) (k : Kept) → IsPlainIn n m k → m ≤ past m k
past-more n m (kept.Apart place) a = omega (arith, a.0)
past-more n m (kept.Section like ticket current) a = absurd a
past-more n m (kept.At line said) a = omega arith
past-more n m (kept.Try req hop end) a = omega arith
past-more n m (kept.Done count req hop statuses) a = omega arith
past-more n m (kept.Unset count req hop statuses) a = omega arith

-- another event at a place that none names
elsewhere : (apart : List Event) (e : Event) (n m w : ℕ) (ks : List Kept) → ((p : ℕ) → m ≤ p → p < n → p ≢ w) → ArePlainIn n m ks → map (told (set apart w e)) ks ≡ map (told apart) ks
elsewhere apart e n m w [] ne a = refl
elsewhere apart e n m w (k ∷ ks) ne a =
    let more = past-more n m k a.0 in
    ap (λ x. x ∷ map (told (set apart w e)) ks) (told-else apart e w k (else-one n m w k ne a.0))
    ∙ ap (λ xs. told apart k ∷ xs) (elsewhere apart e n (past m k) w ks (λ p h l. ne p (omega (arith, h, more)) l) a.1)

moved : (apart : List Event) (front rest : List Kept) (w p : ℕ) (x : Event) → ArePlainIn w 0 front → ArePlainIn (length apart) w (kept.Apart p ∷ rest) → x ≡ get_or apart p x → map (told (set apart w x)) (front ++ kept.Apart w ∷ rest) ≡ map (told apart) (front ++ kept.Apart p ∷ rest)
moved apart front rest w p x f r is =
    let d : Event = event.At 0 word.Idle in
    let within : w < length apart = omega (arith, r.0.0, r.0.1) in
    let here : get_or (set apart w x) w d ≡ get_or apart p d = get_or-set_same apart w x d within ∙ sym (same-at apart p d x r.0.1 is) in
    map-append (told (set apart w x)) front (kept.Apart w ∷ rest)
    ∙ ap (λ es. es ++ map (told (set apart w x)) (kept.Apart w ∷ rest)) (elsewhere apart x w 0 w front (λ q h l e. omega (arith, l, e)) f)
    ∙ ap (λ e. map (told apart) front ++ e ∷ map (told (set apart w x)) rest) here
    ∙ ap (λ es. map (told apart) front ++ get_or apart p d ∷ es) (elsewhere apart x (length apart) (p + 1) w rest (λ q h l e. omega (arith, h, e, r.0.0)) r.1)
    ∙ sym (map-append (told apart) front (kept.Apart p ∷ rest))

split : (now : List Kept) (i : ℕ) (k : Kept) → i < length now → set now i k ≡ take i now ++ k ∷ drop (i + 1) now
split now i k h =
    sym (take-append-drop (i + 1) (set now i k))
    ∙ ap (λ xs. xs ++ drop (i + 1) (set now i k)) (take_more_set now i k h)
    ∙ ap (λ xs. (take i now ++ k ∷ []) ++ xs) (drop-set-lt (i + 1) now i k (omega arith))
    ∙ append_assoc (take i now) (k ∷ []) (drop (i + 1) now)

front-apart : (w m : ℕ) (ks : List Kept) → m ≤ w → ArePlainIn w m ks → ArePlainIn (w + 1) m (ks ++ kept.Apart w ∷ [])
front-apart w m [] h a = ((h, omega arith), tt)
front-apart w m (kept.Apart place ∷ ks) h a = ((a.0.0, omega (arith, a.0.1)), front-apart w (place + 1) ks (omega (arith, a.0.1)) a.1)
front-apart w m (kept.Section like ticket current ∷ ks) h a = absurd a.0
front-apart w m (kept.At line said ∷ ks) h a = (tt, front-apart w m ks h a.1)
front-apart w m (kept.Try req hop end ∷ ks) h a = (tt, front-apart w m ks h a.1)
front-apart w m (kept.Done count req hop statuses ∷ ks) h a = (tt, front-apart w m ks h a.1)
front-apart w m (kept.Unset count req hop statuses ∷ ks) h a = (tt, front-apart w m ks h a.1)

front-small : (w m : ℕ) (ks : List Kept) (k : Kept) → ((o : ℕ) → IsPlainIn w o k) → ArePlainIn w m ks → ArePlainIn w m (ks ++ k ∷ [])
front-small w m [] k b a = (b m, tt)
front-small w m (x ∷ xs) k b a = (a.0, front-small w (past m x) xs k b a.1)

small : (n m w : ℕ) (k : Kept) → ((p : ℕ) → k ≡ kept.Apart p → ⊥) → IsPlainIn n m k → (past m k ≡ m) × ((o : ℕ) → IsPlainIn w o k)
small n m w (kept.Apart place) none a = absurd (none place refl)
small n m w (kept.Section like ticket current) none a = absurd a
small n m w (kept.At line said) none a = (refl, λ o. tt)
small n m w (kept.Try req hop end) none a = (refl, λ o. tt)
small n m w (kept.Done count req hop statuses) none a = (refl, λ o. tt)
small n m w (kept.Unset count req hop statuses) none a = (refl, λ o. tt)

-- the start
pub packing : (ks : List Kept) (es : List Event) → ArePlainIn (length es) 0 ks → IsPacking ks es 0 0 ks es
packing ks es a = record { told = refl; front = tt; rest = a; within = omega arith }

-- one more kept event, that names one apart
pub packing-apart : (ks : List Kept) (es : List Event) (i w : ℕ) (now : List Kept) (apart : List Event) (k : Kept) (p : ℕ) (x : Event) → IsPacking ks es i w now apart → i < length now → k ≡ get_or now i k → k ≡ kept.Apart p → x ≡ get_or apart p x → IsPacking ks es (i + 1) (w + 1) (set now i (kept.Apart w)) (set apart w x)
packing-apart ks es i w now apart k p x is h at a from =
    let behind = drop (i + 1) now in
    let next : drop i now ≡ kept.Apart p ∷ behind = ahead now i k h at ∙ ap (λ y. y ∷ behind) a in
    let rest : ArePlainIn (length apart) w (kept.Apart p ∷ behind) = subst (ArePlainIn (length apart) w) next is.rest in
    let whole : now ≡ take i now ++ kept.Apart p ∷ behind = sym (take-append-drop i now) ∙ ap (λ xs. take i now ++ xs) next in
    let low = plain-from (length apart) (w + 1) (p + 1) behind (omega (arith, rest.0.0)) rest.1 in
    let same : drop (i + 1) (set now i (kept.Apart w)) ≡ behind = drop-set-lt (i + 1) now i (kept.Apart w) (omega arith) in
    record {
      told = ap (map (told (set apart w x))) (split now i (kept.Apart w) h) ∙ moved apart (take i now) behind w p x is.front rest from ∙ ap (map (told apart)) (sym whole) ∙ is.told;
      front = subst (ArePlainIn (w + 1) 0) (sym (take_more_set now i (kept.Apart w) h)) (front-apart w 0 (take i now) (omega arith) is.front);
      rest = subst (λ n. ArePlainIn n (w + 1) (drop (i + 1) (set now i (kept.Apart w)))) (sym (length-set apart w x)) (subst (ArePlainIn (length apart) (w + 1)) (sym same) low);
      within = omega (arith, length-set apart w x, rest.0.0, rest.0.1);
    }

-- one more that names none
pub packing-small : (ks : List Kept) (es : List Event) (i w : ℕ) (now : List Kept) (apart : List Event) (k : Kept) → IsPacking ks es i w now apart → i < length now → k ≡ get_or now i k → ((p : ℕ) → k ≡ kept.Apart p → ⊥) → IsPacking ks es (i + 1) w now apart
packing-small ks es i w now apart k is h at none =
    let rest = subst (ArePlainIn (length apart) w) (ahead now i k h at) is.rest in
    let s = small (length apart) w w k none rest.0 in
    record {
      told = is.told;
      front = subst (ArePlainIn w 0) (sym (take_more now i k h ∙ ap (λ y. take i now ++ y ∷ []) (sym at))) (front-small w 0 (take i now) k s.1 is.front);
      rest = subst (λ m. ArePlainIn (length apart) m (drop (i + 1) now)) s.0 rest.1;
      within = is.within;
    }

told-take : (apart : List Event) (w m : ℕ) (ks : List Kept) → ArePlainIn w m ks → map (told (take w apart)) ks ≡ map (told apart) ks
told-take apart w m [] a = refl
told-take apart w m (kept.Apart place ∷ ks) a =
    ap (λ e. e ∷ map (told (take w apart)) ks) (get_or-take w apart place (event.At 0 word.Idle) a.0.1) ∙ ap (λ es. told apart (kept.Apart place) ∷ es) (told-take apart w (place + 1) ks a.1)
told-take apart w m (kept.Section like ticket current ∷ ks) a = absurd a.0
told-take apart w m (kept.At line said ∷ ks) a = ap (λ es. event.At line said ∷ es) (told-take apart w m ks a.1)
told-take apart w m (kept.Try req hop end ∷ ks) a = ap (λ es. event.Try req hop end ∷ es) (told-take apart w m ks a.1)
told-take apart w m (kept.Done count req hop statuses ∷ ks) a = ap (λ es. told apart (kept.Done count req hop statuses) ∷ es) (told-take apart w m ks a.1)
told-take apart w m (kept.Unset count req hop statuses ∷ ks) a = ap (λ es. told apart (kept.Unset count req hop statuses) ∷ es) (told-take apart w m ks a.1)

-- the end
pub packed : (ks : List Kept) (es : List Event) (i w : ℕ) (now : List Kept) (apart : List Event) → IsPacking ks es i w now apart → length now ≤ i → (map (told (take w apart)) now ≡ map (told es) ks) × ArePlainIn (length (take w apart)) 0 now
packed ks es i w now apart is h =
    let all = subst (ArePlainIn w 0) (take_all i now h) is.front in
    (told-take apart w 0 now all ∙ is.told, subst (λ n. ArePlainIn n 0 now) (sym (length-take-le w apart is.within)) all)
