-- Kept events tell what they told when others come.
use Rattle.std.proofs.Common.{◌≡◌, ℕ, ◌+◌, ◌<◌, ◌≤◌, zero, suc, List, [], ◌∷◌, ◌++◌, length, map, get_or, refl, sym, ap, subst, ◌∙◌, Some, arith}
use Rattle.std.specs.Prelude.{slice_get}
use Rattle.std.proofs.lemmas.Option.{slice_get-get_or, get_or_from_slice_get}
use Rattle.std.proofs.lemmas.List.{get_or-map, length-map}
use Rattle.std.proofs.Math.ListN.{get_or-append}
use Rattle.std.proofs.Math.Seq.{get_or-append_seam}
use Rattle.std.proofs.lemmas.List.{map-append}
use Rattle.mp_record.specs.declared.event.Event.{Event}
use Rattle.mp_record.specs.declared.event.Event.TheVariants as event
use Rattle.mp_record.specs.declared.event.Said.TheVariants as word
use Rattle.mp_record.specs.declared.kept.Kept.{Kept}
use Rattle.mp_record.specs.declared.kept.Kept.TheVariants as kept
use Rattle.mp_record.specs.Kept.{retold, told, IsBelow, AreBelow, IsSection, IsInOrder, AreInOrder, past}

pub at-below : (n : ℕ) (ks : List Kept) (i : ℕ) (d : Kept) → i < length ks → AreBelow n ks → IsBelow n (get_or ks i d)
at-below n [] i d h a = absurd (omega arith)
at-below n (k ∷ ks) zero d h a = a.0
at-below n (k ∷ ks) (suc i) d h a = at-below n ks i d (omega arith) a.1

pub below-push : (n : ℕ) (ks : List Kept) (k : Kept) → AreBelow n ks → IsBelow n k → AreBelow n (ks ++ k ∷ [])
below-push n [] k a b = (b, tt)
below-push n (x ∷ xs) k a b = (a.0, below-push n xs k a.1 b)

below-one : (n : ℕ) (k : Kept) → IsBelow n k → IsBelow (n + 1) k
below-one n (kept.Apart place) h = omega arith
below-one n (kept.Section like ticket current) h = omega arith
below-one n (kept.At line said) h = tt
below-one n (kept.Try req hop end) h = tt
below-one n (kept.Done count req hop statuses) h = tt
below-one n (kept.Unset count req hop statuses) h = tt

pub below-more : (n : ℕ) (ks : List Kept) → AreBelow n ks → AreBelow (n + 1) ks
below-more n [] a = tt
below-more n (k ∷ ks) a = (below-one n k a.0, below-more n ks a.1)

told-one : (apart : List Event) (e : Event) (k : Kept) → IsBelow (length apart) k → told (apart ++ e ∷ []) k ≡ told apart k
told-one apart e (kept.Apart place) h = get_or-append apart (e ∷ []) (event.At 0 word.Idle) place h
told-one apart e (kept.Section like ticket current) h = ap (retold ticket current) (get_or-append apart (e ∷ []) (event.At 0 word.Idle) like h)
told-one apart e (kept.At line said) h = refl
told-one apart e (kept.Try req hop end) h = refl
told-one apart e (kept.Done count req hop statuses) h = refl
told-one apart e (kept.Unset count req hop statuses) h = refl

told-more : (apart : List Event) (e : Event) (ks : List Kept) → AreBelow (length apart) ks → map (told (apart ++ e ∷ [])) ks ≡ map (told apart) ks
told-more apart e [] a = refl
told-more apart e (k ∷ ks) a = ap (λ x. x ∷ map (told (apart ++ e ∷ [])) ks) (told-one apart e k a.0) ∙ ap (λ xs. told apart k ∷ xs) (told-more apart e ks a.1)

-- one more event that stands apart
pub told-apart : (apart : List Event) (e : Event) (ks : List Kept) → AreBelow (length apart) ks → map (told (apart ++ e ∷ [])) (ks ++ kept.Apart (length apart) ∷ []) ≡ map (told apart) ks ++ e ∷ []
told-apart apart e ks a =
    map-append (told (apart ++ e ∷ [])) ks (kept.Apart (length apart) ∷ [])
    ∙ ap (λ xs. xs ++ map (told (apart ++ e ∷ [])) (kept.Apart (length apart) ∷ [])) (told-more apart e ks a)
    ∙ ap (λ x. map (told apart) ks ++ x ∷ []) (get_or-append_seam apart e [] (event.At 0 word.Idle))

-- what is told at a place
pub told-at : (events apart : List Event) (ks : List Kept) (i : ℕ) (k : Kept) → events ≡ map (told apart) ks → i < length events → k ≡ get_or ks i k → slice_get events i ≡ Some (told apart k)
told-at events apart ks i k is h at =
    let len : length events ≡ length ks = rw is (length-map ks (told apart)) in
    let lt : i < length ks = omega arith in
    slice_get-get_or events i (told apart k) h
    ∙ ap (λ es. Some (get_or es i (told apart k))) is
    ∙ ap Some (get_or-map (told apart) ks i k (told apart k) lt ∙ ap (told apart) (sym at))

pub same-at : (xs : List Event) (i : ℕ) (d x : Event) → i < length xs → x ≡ get_or xs i x → get_or xs i d ≡ x
same-at xs i d x h at = get_or_from_slice_get xs i x d (slice_get-get_or xs i x h ∙ ap Some (sym at))

-- one that has no place tells the same beside any
pub below-any : (n : ℕ) (k : Kept) → IsBelow 0 k → IsBelow n k
below-any n (kept.Apart place) h = absurd (omega arith)
below-any n (kept.Section like ticket current) h = absurd (omega arith)
below-any n (kept.At line said) h = tt
below-any n (kept.Try req hop end) h = tt
below-any n (kept.Done count req hop statuses) h = tt
below-any n (kept.Unset count req hop statuses) h = tt

told-any : (apart : List Event) (k : Kept) → IsBelow 0 k → told apart k ≡ told [] k
told-any apart (kept.Apart place) h = absurd (omega arith)
told-any apart (kept.Section like ticket current) h = absurd (omega arith)
told-any apart (kept.At line said) h = refl
told-any apart (kept.Try req hop end) h = refl
told-any apart (kept.Done count req hop statuses) h = refl
told-any apart (kept.Unset count req hop statuses) h = refl

-- one more event that has no place
pub told-small : (apart : List Event) (k : Kept) (ks : List Kept) → IsBelow 0 k → map (told apart) (ks ++ k ∷ []) ≡ map (told apart) ks ++ told [] k ∷ []
told-small apart k ks h = map-append (told apart) ks (k ∷ []) ∙ ap (λ e. map (told apart) ks ++ e ∷ []) (told-any apart k h)

-- one more that is in order behind any
pub order-push : (apart : List Event) (m : ℕ) (ks : List Kept) (k : Kept) → AreInOrder apart m ks → ((n : ℕ) → IsInOrder apart n k) → AreInOrder apart m (ks ++ k ∷ [])
order-push apart m [] k a b = (b m, tt)
order-push apart m (x ∷ xs) k a b = (a.0, order-push apart (past m x) xs k a.1 b)

pub order-any : (apart : List Event) (k : Kept) → IsBelow 0 k → (n : ℕ) → IsInOrder apart n k
order-any apart (kept.Apart place) h n = absurd (omega arith)
order-any apart (kept.Section like ticket current) h n = absurd (omega arith)
order-any apart (kept.At line said) h n = tt
order-any apart (kept.Try req hop end) h n = tt
order-any apart (kept.Done count req hop statuses) h n = tt
order-any apart (kept.Unset count req hop statuses) h n = tt

order-one : (apart : List Event) (e : Event) (m : ℕ) (k : Kept) → IsBelow (length apart) k → IsInOrder apart m k → IsInOrder (apart ++ e ∷ []) m k
order-one apart e m (kept.Apart place) h a = a
order-one apart e m (kept.Section like ticket current) h a = subst IsSection (sym (get_or-append apart (e ∷ []) (event.At 0 word.Idle) like h)) a
order-one apart e m (kept.At line said) h a = tt
order-one apart e m (kept.Try req hop end) h a = tt
order-one apart e m (kept.Done count req hop statuses) h a = tt
order-one apart e m (kept.Unset count req hop statuses) h a = tt

past-below : (n m : ℕ) (k : Kept) → m ≤ n → IsBelow n k → past m k ≤ n
past-below n m (kept.Apart place) h b = omega arith
past-below n m (kept.Section like ticket current) h b = h
past-below n m (kept.At line said) h b = h
past-below n m (kept.Try req hop end) h b = h
past-below n m (kept.Done count req hop statuses) h b = h
past-below n m (kept.Unset count req hop statuses) h b = h

-- one more event that stands apart, behind those that do
pub order-apart : (apart : List Event) (e : Event) (m : ℕ) (ks : List Kept) → m ≤ length apart → AreBelow (length apart) ks → AreInOrder apart m ks → AreInOrder (apart ++ e ∷ []) m (ks ++ kept.Apart (length apart) ∷ [])
order-apart apart e m [] h b a = (h, tt)
order-apart apart e m (k ∷ ks) h b a = (order-one apart e m k b.0 a.0, order-apart apart e (past m k) ks (past-below (length apart) m k h b.0) b.1 a.1)
