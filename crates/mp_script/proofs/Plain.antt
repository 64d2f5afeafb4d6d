-- Lines of single blanks, whose words are seen at once.
use Rattle.std.proofs.Common.{◌≡◌, ℕ, List, [], ◌∷◌, ◌++◌, refl, sym, ap, ◌∙◌}
use Rattle.std.specs.Prelude.{codes}
use Rattle.mp_script.specs.Splitting.{first_line, words_of}
use Rattle.mp_script.specs.Shape.{finish, submit, shape_1, shape_2, shape_of, shape_of_words}

pub finish_is : (bytes words r rest : List ℕ) → bytes ≡ codes "finish " ++ words → words_of (first_line words) ≡ r ∷ words_of (first_line rest) → first_line rest ≡ [] → finish r ≡ shape_of (first_line bytes)
unfolding shape_of shape_1
finish_is bytes words r rest is cut over =
    let found : words_of (first_line words) ≡ r ∷ [] = cut ∙ rw over refl in
    let all : words_of (first_line (codes "finish " ++ words)) ≡ codes "finish" ∷ r ∷ [] = ap (λ (ws : List (List ℕ)). codes "finish" ∷ ws) found in
    rw is (sym (ap shape_of_words all))

pub submit_is : (bytes words r more last k rest : List ℕ) → bytes ≡ codes "submit " ++ words → words_of (first_line words) ≡ r ∷ words_of (first_line more) → more ≡ codes " " ++ last → words_of (first_line last) ≡ k ∷ words_of (first_line rest) → first_line rest ≡ []
    → submit r k ≡ shape_of (first_line bytes)
unfolding shape_of shape_2
submit_is bytes words r more last k rest is cut blank next over =
    let found : words_of (first_line last) ≡ k ∷ [] = next ∙ rw over refl in
    let behind : words_of (first_line more) ≡ k ∷ [] = rw blank found in
    let both : words_of (first_line words) ≡ r ∷ k ∷ [] = cut ∙ ap (λ (ws : List (List ℕ)). r ∷ ws) behind in
    let all : words_of (first_line (codes "submit " ++ words)) ≡ codes "submit" ∷ r ∷ k ∷ [] = ap (λ (ws : List (List ℕ)). codes "submit" ∷ ws) both in
    rw is (sym (ap shape_of_words all))
