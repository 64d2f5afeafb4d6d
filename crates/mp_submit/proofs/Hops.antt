-- One more attempt of a hop.
use Rattle.std.specs.Prelude.{◌≡◌, ℕ, zero, suc, ◌+◌, ◌-◌, ◌<◌, ◌≤◌, true, false, List, [], ◌∷◌, ◌++◌, length, take, replicate, slice_set, refl}
use Rattle.std.proofs.Common.{arith, append_assoc, ap, sym, ◌∙◌, get_or, get_or-set_other}
use Rattle.std.proofs.lemmas.List.{take_more_set, length-take}
use Rattle.mp_words.specs.declared.answers.Answer.{Answer}
use Rattle.mp_words.specs.Answers.{answer_for}
use Rattle.mp_status.specs.Hop.{ends_hop, hop_statuses, statuses_behind}
use Rattle.mp_submit.specs.Finishes.{six_of}

-- before the first attempt all statuses are still to come
pub behind_none : (answers : List Answer) (req attempt : ℕ) → statuses_behind (answer_for answers req) attempt 0 ≡ hop_statuses (answer_for answers req) attempt
behind_none answers req attempt = let none : attempt + 0 ≡ attempt = omega arith in rw none refl

-- an attempt that ends the hop
pub behind_last : (answers : List Answer) (req attempt k : ℕ) → k < 6 → ends_hop (k, answer_for answers req (attempt + k)) ≡ true
    → statuses_behind (answer_for answers req) attempt k ≡ answer_for answers req (attempt + k) ∷ []
behind_last answers req attempt k below ends =
    let count : 6 - k ≡ suc (5 - k) = omega arith in
    rw count (rw ends refl)

-- an attempt that is retried
pub behind_more : (answers : List Answer) (req attempt k : ℕ) → k < 6 → ends_hop (k, answer_for answers req (attempt + k)) ≡ false
    → statuses_behind (answer_for answers req) attempt k ≡ answer_for answers req (attempt + k) ∷ statuses_behind (answer_for answers req) attempt (k + 1)
behind_more answers req attempt k below goes_on =
    let count : 6 - k ≡ suc (6 - (k + 1)) = omega arith in
    let next : attempt + (k + 1) ≡ attempt + k + 1 = omega arith in
    rw count (rw goes_on (rw next refl))

-- the last status is put behind the others
pub last_taken : (statuses : List ℕ) (k status : ℕ) (behind whole : List ℕ) → k < length statuses → take k statuses ++ behind ≡ whole → behind ≡ status ∷ []
    → take (k + 1) (slice_set statuses k status) ≡ whole
last_taken statuses k status behind whole below all is =
    take_more_set statuses k status below ∙ ap (λ b. take k statuses ++ b) (sym is) ∙ all

-- a status is put behind the others, and more follow
pub more_taken : (statuses : List ℕ) (k status : ℕ) (behind more whole : List ℕ) → k < length statuses → take k statuses ++ behind ≡ whole → behind ≡ status ∷ more
    → take (k + 1) (slice_set statuses k status) ++ more ≡ whole
more_taken statuses k status behind more whole below all is =
    ap (λ b. b ++ more) (take_more_set statuses k status below) ∙ append_assoc (take k statuses) (status ∷ []) more ∙ ap (λ b. take k statuses ++ b) (sym is) ∙ all

-- before the first attempt each place is 0
pub zeros : (i : ℕ) → get_or {A = ℕ} (replicate 6 0) i 0 ≡ 0
zeros zero = refl
zeros (suc zero) = refl
zeros (suc (suc zero)) = refl
zeros (suc (suc (suc zero))) = refl
zeros (suc (suc (suc (suc zero)))) = refl
zeros (suc (suc (suc (suc (suc zero))))) = refl
zeros (suc (suc (suc (suc (suc (suc i)))))) = refl

-- a status that is put leaves the places behind it
pub rest_zero : (statuses : List ℕ) (k status : ℕ) → ((i : ℕ) → k ≤ i → get_or statuses i 0 ≡ 0) → (i : ℕ) → k + 1 ≤ i → get_or (slice_set statuses k status) i 0 ≡ 0
rest_zero statuses k status none i past = get_or-set_other statuses k i status 0 (omega arith) ∙ none i (omega arith)

padded : (n r k : ℕ) (xs : List ℕ) → length xs ≡ n → n ≤ r → ((i : ℕ) → k ≤ i → get_or xs i 0 ≡ 0) → xs ≡ take n (take k xs ++ replicate r 0)
padded n r k [] len room none = rw (← len) (end (take k [] ++ replicate r 0))
  where
    end : (xs : List ℕ) → [] ≡ take 0 xs
    end xs = refl
padded zero r k (x ∷ xs) len room none = absurd (omega arith)
padded (suc n) zero k (x ∷ xs) len room none = absurd (omega arith)
padded (suc n) (suc r) zero (x ∷ xs) len room none =
    let first : x ≡ 0 = none 0 (omega arith) in
    let rest : xs ≡ take n (replicate r 0) = padded n r zero xs (omega arith) (omega arith) (λ i past. none (suc i) (omega arith)) in
    λ i. first i ∷ rest i
padded (suc n) (suc r) (suc k) (x ∷ xs) len room none =
    ap (λ ys. x ∷ ys) (padded n (suc r) k xs (omega arith) (omega arith) (λ i past. none (suc i) (omega arith)))

-- the six places hold the statuses, and 0 behind them
pub six_places : (statuses : List ℕ) (count : ℕ) (whole : List ℕ) → length statuses ≡ 6 → ((i : ℕ) → count ≤ i → get_or statuses i 0 ≡ 0) → take count statuses ≡ whole → statuses ≡ six_of whole
six_places statuses count whole len none is = padded 6 6 count statuses len (omega arith) none ∙ ap six_of is

pub six_count : (statuses : List ℕ) (count : ℕ) (whole : List ℕ) → length statuses ≡ 6 → count ≤ 6 → take count statuses ≡ whole → count ≡ length whole
six_count statuses count whole len most is = let e : length (take count statuses) ≡ count = omega (arith, length-take count statuses) in sym e ∙ ap length is
