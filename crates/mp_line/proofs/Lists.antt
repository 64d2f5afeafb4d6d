-- A list of numbers behind what stands in the text and the line.
use Rattle.std.proofs.Common.{◌≡◌, ℕ, ◌≤◌, List, ◌∷◌, ◌++◌, length, take, codes, sym, ap, ◌∙◌, append_assoc}
use Rattle.std.specs.List.{flat_map}
use Rattle.std.specs.Fmt.{decimal}
use Rattle.std.proofs.lemmas.List.{take_all}
use Rattle.mp_line.specs.Words.{list_word}

-- numbers, each behind a comma
abbrev pub further : List ℕ → List ℕ
further ns = flat_map (λ other. codes "," ++ decimal other) ns

-- the first number, and then all others
pub list_more : (text line placed now : List ℕ) (n count : ℕ) (ns all : List ℕ) → all ≡ n ∷ ns → placed ≡ line ++ decimal n → now ≡ text ++ placed ++ further (take count ns) → length ns ≤ count → now ≡ text ++ line ++ list_word decimal all
list_more text line placed now n count ns all is first more end =
    more ∙ ap (λ ms. text ++ placed ++ further ms) (take_all count ns end) ∙ ap (λ p. text ++ p ++ further ns) first ∙ ap (λ t. t ++ further ns) (sym (append_assoc text line (decimal n))) ∙ append_assoc (text ++ line) (decimal n) (further ns) ∙ ap (λ ms. text ++ line ++ list_word decimal ms) (sym is)
