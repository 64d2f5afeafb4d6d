-- How a line writes numbers and lists.
use Rattle.std.specs.Prelude.{ℕ, List, [], ◌∷◌, ◌++◌, codes}
use Rattle.std.specs.List.{flat_map}
use Rattle.std.specs.Fmt.{decimal}

-- a word and a number
abbrev pub one_number : List ℕ → ℕ → List ℕ
one_number word a = word ++ codes " " ++ decimal a

-- a word and two numbers
abbrev pub two_numbers : List ℕ → ℕ → ℕ → List ℕ
two_numbers word a b = word ++ codes " " ++ decimal a ++ codes " " ++ decimal b

-- a word and three numbers
abbrev pub three_numbers : List ℕ → ℕ → ℕ → ℕ → List ℕ
three_numbers word a b c = word ++ codes " " ++ decimal a ++ codes " " ++ decimal b ++ codes " " ++ decimal c

-- two numbers with a colon between them
abbrev pub pair_word : ℕ → ℕ → List ℕ
pair_word a b = decimal a ++ codes ":" ++ decimal b

-- the words of these, joined by commas
abbrev pub joined : {X : Type 0} → (X → List ℕ) → List X → List ℕ
joined word [] = []
joined word (x ∷ xs) = word x ++ flat_map (λ other. codes "," ++ word other) xs

-- a text, or a dash for an empty list
abbrev pub or_dash : {X : Type 0} → List X → List ℕ → List ℕ
or_dash [] text = codes "-"
or_dash (x ∷ xs) text = text

-- the words of these, joined by commas, or a dash where there is none
abbrev pub list_word : {X : Type 0} → (X → List ℕ) → List X → List ℕ
list_word word xs = or_dash xs (joined word xs)
