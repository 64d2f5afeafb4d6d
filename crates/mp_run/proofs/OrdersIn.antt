-- The lists of paths among what the keeper made, one entry after the other.
use Rattle.std.proofs.Common.{◌≡◌, ℕ, ◌<◌, ◌+◌, List, [], ◌∷◌, ◌++◌, length, map, take, get_or, refl, sym, ap, ◌∙◌}
use Rattle.std.proofs.lemmas.List.{map-append, take_more}
use Rattle.mp_words.specs.declared.entry.KeepEntry.{KeepEntry}
use Rattle.mp_words.specs.declared.entry.KeepEntry.TheVariants as keep
use Rattle.mp_words.specs.declared.entry.OrderEntry.{OrderEntry}
use Rattle.mp_legal.specs.ToldKeeper.{orders_in}

orders_append : (xs ys : List KeepEntry) → orders_in (xs ++ ys) ≡ orders_in xs ++ orders_in ys
orders_append [] ys = refl
orders_append (keep.Order e ∷ xs) ys = ap (λ (es : List OrderEntry). e ∷ es) (orders_append xs ys)
orders_append (keep.Closing c ∷ xs) ys = orders_append xs ys

-- one entry more
pub kept_more : (first x : KeepEntry) (made : List KeepEntry) (n : ℕ) (old new : List KeepEntry) → n < length made → x ≡ get_or made n x → old ≡ first ∷ map keep.Order (orders_in (take n made))
    → new ≡ old ++ map keep.Order (orders_in (x ∷ [])) → new ≡ first ∷ map keep.Order (orders_in (take (n + 1) made))
kept_more first x made n old new lt is was pushed =
    pushed ∙ ap (λ (es : List KeepEntry). es ++ map keep.Order (orders_in (x ∷ []))) was
    ∙ ap (λ (es : List KeepEntry). first ∷ es) (sym (map-append keep.Order (orders_in (take n made)) (orders_in (x ∷ [])))
    ∙ ap (map keep.Order) (sym (orders_append (take n made) (x ∷ [])) ∙ ap orders_in (ap (λ (e : KeepEntry). take n made ++ e ∷ []) is ∙ sym (take_more made n x lt))))
