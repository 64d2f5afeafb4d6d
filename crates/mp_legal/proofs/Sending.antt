-- A flight that is sent, among the flights of its lane and in the depths.
use Rattle.std.proofs.Common.{◌≡◌, ℕ, ◌+◌, ◌<◌, ◌==◌, Bool, true, false, List, [], ◌∷◌, ◌++◌, length, get_or, set, refl, sym, ap, ◌∙◌, arith, eqb-true, get_or-set_same, get_or-set_other}
use Rattle.std.specs.List.{sum_by}
use Rattle.std.proofs.lemmas.Bool.Decides.{nat_tests}
use Rattle.std.proofs.lemmas.List.Sums.{sum_by-set, sum_by_push}
use Rattle.mp_words.specs.declared.flight.Flight.{Flight}
use Rattle.mp_core.proofs.Flights.{one_on, on_here, on_else}
use Rattle.mp_legal.proofs.Landing.{counted}

-- the depths, once a flight was sent
pub greater : (depths : List ℕ) (flights : List (List Flight)) (lane : ℕ) (f : Flight) (slot : ℕ) → ((s : ℕ) → get_or depths s 0 ≡ sum_by (counted s) flights) → lane < length flights → f.slot < length depths
    → get_or (set depths f.slot (get_or depths f.slot 0 + 1)) slot 0 ≡ sum_by (counted slot) (set flights lane (get_or flights lane [] ++ f ∷ []))
greater depths flights lane f slot all below within = by (slot == f.slot) refl
  where
    is_apart : (x y : ℕ) → (x == y) ≡ false → x ≡ y → ⊥
    is_apart x y e f = grind (arith, nat_tests)

    more : (s : ℕ) → counted s (get_or flights lane [] ++ f ∷ []) ≡ counted s (get_or flights lane []) + one_on s f
    more s = sum_by_push (one_on s) (get_or flights lane []) f

    total : (s : ℕ) → sum_by (counted s) (set flights lane (get_or flights lane [] ++ f ∷ [])) + counted s (get_or flights lane []) ≡ sum_by (counted s) flights + counted s (get_or flights lane [] ++ f ∷ [])
    total s = sum_by-set (counted s) flights lane (get_or flights lane [] ++ f ∷ []) [] below

    by : (b : Bool) → (slot == f.slot) ≡ b → get_or (set depths f.slot (get_or depths f.slot 0 + 1)) slot 0 ≡ sum_by (counted slot) (set flights lane (get_or flights lane [] ++ f ∷ []))
    by true is =
        let same : slot ≡ f.slot = eqb-true slot f.slot is in
        let at : get_or (set depths f.slot (get_or depths f.slot 0 + 1)) f.slot 0 ≡ get_or depths f.slot 0 + 1 = get_or-set_same depths f.slot (get_or depths f.slot 0 + 1) 0 within in
        let one = on_here f.slot f refl in
        let l = more f.slot in
        let t = total f.slot in
        let a = all f.slot in
        let it : get_or depths f.slot 0 + 1 ≡ sum_by (counted f.slot) (set flights lane (get_or flights lane [] ++ f ∷ [])) = omega arith in
        ap (λ s. get_or (set depths f.slot (get_or depths f.slot 0 + 1)) s 0) same ∙ at ∙ it ∙ ap (λ s. sum_by (counted s) (set flights lane (get_or flights lane [] ++ f ∷ []))) (sym same)
    by false off =
        let at : get_or (set depths f.slot (get_or depths f.slot 0 + 1)) slot 0 ≡ get_or depths slot 0 = get_or-set_other depths f.slot slot (get_or depths f.slot 0 + 1) 0 (is_apart slot f.slot off) in
        let one = on_else slot f (λ e. is_apart slot f.slot off (sym e)) in
        let l = more slot in
        let t = total slot in
        let a = all slot in
        at ∙ (omega arith)
