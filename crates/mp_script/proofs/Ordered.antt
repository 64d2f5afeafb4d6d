-- Answers put in order.
use Rattle.std.proofs.Common.{inl, inr, ◌≡◌, ◌||◌, Bool, true, false, List, [], ◌∷◌, ◌++◌, Option, Some, None, refl, sym, ap, ◌∙◌, arith}
use Rattle.std.specs.Option.{option_to_list}
use Rattle.std.specs.List.{list_any}
use Rattle.std.proofs.lemmas.Bool.{cases_Bool}
use Rattle.std.proofs.lemmas.Bool.Decides.{nat_tests}
use Rattle.std.proofs.lemmas.List.{append-nil}
use Rattle.mp_words.specs.declared.answers.Answer.{Answer}
use Rattle.mp_words.specs.Answers.{is_of, is_earlier, put_answer, in_order}
use Rattle.mp_words.proofs.Rising.{any_in_order}
use Rattle.mp_script.specs.Building.{has_some, put_some}

-- of two with different pairs, the one isn't earlier where the other is
not_both : (a b : Answer) → is_earlier a.req a.attempt b ≡ true → is_earlier b.req b.attempt a ≡ false
not_both a b e = grind (arith, nat_tests)

one_of : (a b : Answer) → is_of b.req b.attempt a ≡ false → is_earlier a.req a.attempt b ≡ false → is_earlier b.req b.attempt a ≡ true
one_of a b apart e = grind (arith, nat_tests)

through : (a b x : Answer) → is_earlier b.req b.attempt a ≡ true → is_earlier a.req a.attempt x ≡ true → is_earlier b.req b.attempt x ≡ true
through a b x e f = grind (arith, nat_tests)

-- where a is earlier than b
put_swap_lt : (a b : Answer) (xs : List Answer) → is_earlier b.req b.attempt a ≡ true → put_answer a (put_answer b xs) ≡ put_answer b (put_answer a xs)
put_swap_lt a b [] e = rw (e, not_both b a e) refl
put_swap_lt a b (x ∷ xs) e = elim (cases_Bool (is_earlier a.req a.attempt x)) [
  | inl f ↦ let g : is_earlier b.req b.attempt x ≡ true = through a b x e f in rw (f, g, f) (ap (λ (ys : List Answer). x ∷ ys) (put_swap_lt a b xs e))
  | inr f ↦ elim (cases_Bool (is_earlier b.req b.attempt x)) [
    | inl g ↦ rw (f, g, f, e) refl
    | inr g ↦ rw (f, g, e, not_both b a e) refl
  ]
]

put_swap : (a b : Answer) (xs : List Answer) → is_of b.req b.attempt a ≡ false → put_answer a (put_answer b xs) ≡ put_answer b (put_answer a xs)
put_swap a b xs apart = elim (cases_Bool (is_earlier a.req a.attempt b)) [
  | inl e ↦ sym (put_swap_lt b a xs e)
  | inr e ↦ put_swap_lt a b xs (one_of a b apart e)
]

of_swap : (a b : Answer) → is_of a.req a.attempt b ≡ false → is_of b.req b.attempt a ≡ false
of_swap a b e = grind (arith, nat_tests)

or_parts : (a b : Bool) → (a || b) ≡ false → (a ≡ false) × (b ≡ false)
or_parts true b e = absurd cc
or_parts false b e = (refl, e)

-- one more at the end
order_one : (a : Answer) (xs : List Answer) → list_any (is_of a.req a.attempt) xs ≡ false → in_order (xs ++ a ∷ []) ≡ put_answer a (in_order xs)
order_one a [] apart = refl
order_one a (x ∷ xs) apart =
    let p = or_parts (is_of a.req a.attempt x) (list_any (is_of a.req a.attempt) xs) apart in
    ap (put_answer x) (order_one a xs p.1) ∙ put_swap x a (in_order xs) p.0

pub order_more : (o : Option Answer) (known answers : List Answer) → known ≡ in_order answers → has_some o known ≡ false → put_some o known ≡ in_order (answers ++ option_to_list o)
order_more None known answers is fresh = rw append-nil is
order_more (Some a) known answers is fresh =
    let apart : list_any (is_of a.req a.attempt) answers ≡ false = sym (any_in_order (is_of a.req a.attempt) answers) ∙ ap (list_any (is_of a.req a.attempt)) (sym is) ∙ fresh in
    rw is (sym (order_one a answers apart))
