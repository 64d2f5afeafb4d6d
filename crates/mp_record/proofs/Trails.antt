-- The trail and the outcome of a request, try by try.
use Rattle.std.proofs.Common.{◌≡◌, ℕ, ◌+◌, ◌<◌, List, [], ◌∷◌, ◌++◌, length, map, take, get_or, refl, sym, subst, ◌∙◌, ap, append-nil, arith}
use Rattle.std.specs.Prelude.{IfSome, slice_get}
use Rattle.std.proofs.lemmas.Option.{slice_get-get_or}
use Rattle.std.proofs.lemmas.List.{take_more, map-append, get_or_default}
use Rattle.std.proofs.lemmas.List.Concat.{flat_map-append}
use Rattle.mp_words.specs.declared.entry.RowEntry.{RowEntry}
use Rattle.mp_words.specs.declared.trying.Try.{Try}
use Rattle.mp_words.specs.declared.trying.TryEnd.{TryEnd}
use Rattle.mp_words.specs.declared.trying.TryEnd.TheVariants.{Sent, Listed, Failed}
use Rattle.mp_words.specs.Request.{Tried, tried_of}
use Rattle.mp_topology.specs.declared.topology.Topology.{Topology}
use Rattle.mp_record.specs.RunText.{trail, try_names}

-- the trail of the first tries
abbrev pub trail_of : Topology → List (List RowEntry) → List Try → ℕ → List (List ℕ)
trail_of t rows tries i = trail t rows (map tried_of (take i tries))

trail-one : (t : Topology) (rows : List (List RowEntry)) (tries : List Try) (i : ℕ) (made : Try) (end : TryEnd) → i < length tries → made ≡ get_or tries i made → made.end ≡ end → trail_of t rows tries (i + 1) ≡ trail_of t rows tries i ++ try_names t rows end
trail-one t rows tries i made end h is ends =
    let names : Tried → List (List ℕ) = λ tried. try_names t rows tried.end in
    let more : take (i + 1) tries ≡ take i tries ++ made ∷ [] = take_more tries i made h ∙ ap (λ v. take i tries ++ v ∷ []) (sym is) in
    rw (more, map-append tried_of (take i tries) (made ∷ []))
    (flat_map-append names (map tried_of (take i tries)) (tried_of made ∷ []) ∙ ap (λ rest. trail_of t rows tries i ++ rest) (append-nil (try_names t rows made.end) ∙ ap (try_names t rows) ends))

-- one more try
pub trail-more : (t : Topology) (rows : List (List RowEntry)) (tries : List Try) (i : ℕ) (end : TryEnd) → i < length tries → IfSome (slice_get tries i) (λ made. end ≡ made.end) → trail_of t rows tries (i + 1) ≡ trail_of t rows tries i ++ try_names t rows end
trail-more t rows [] i end h is = absurd (omega arith)
trail-more t rows (x ∷ xs) i end h is =
    let made = get_or (x ∷ xs) i x in
    let own : end ≡ made.end = subst (λ o. IfSome o (λ made. end ≡ made.end)) (slice_get-get_or (x ∷ xs) i x h) is in
    trail-one t rows (x ∷ xs) i made end h (get_or_default (x ∷ xs) i x made h) (sym own)

-- a try that was not sent has no name
pub unsent : (t : Topology) (rows : List (List RowEntry)) (end : TryEnd) → ((slot version : ℕ) → end ≡ Sent slot version → ⊥) → try_names t rows end ≡ []
unsent t rows (Sent slot version) h = absurd (h slot version refl)
unsent t rows Listed h = refl
unsent t rows Failed h = refl
