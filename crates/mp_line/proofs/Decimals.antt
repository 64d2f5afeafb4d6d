-- A number digit by digit.
use Rattle.std.proofs.Common.{◌≡◌, ℕ, ◌+◌, ◌/◌, ◌%◌, ◌<◌, ◌≤◌, ◌^◌, List, [], ◌∷◌, ◌++◌, sym, ap, ◌∙◌, append_assoc}
use Rattle.std.specs.Fmt.{decimal}
use Rattle.std.proofs.lemmas.Fmt.{decimal_step}

-- one more digit
pub digit-more : (n : ℕ) (old now after : List ℕ) → 10 ≤ n → n < 2 ^ 64 → now ≡ old ++ decimal (n / 10) → after ≡ now ++ (48 + n % 10) ∷ [] → after ≡ old ++ decimal n
digit-more n old now after h small is more =
    more ∙ ap (λ t. t ++ (48 + n % 10) ∷ []) is ∙ append_assoc old (decimal (n / 10)) ((48 + n % 10) ∷ []) ∙ ap (λ d. old ++ d) (sym (decimal_step n h small))
