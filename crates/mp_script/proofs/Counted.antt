-- The numbers of the words of a line, by its first word.
use Rattle.std.proofs.Common.{inl, inr, ◌≡◌, ℕ, List}
use Rattle.std.specs.Prelude.{codes}
use Rattle.std.proofs.lemmas.Bool.{cases_Bool}
use Rattle.mp_script.specs.Splitting.{number_of}
use Rattle.mp_script.specs.Shape.{Shape, shape_0, shape_1, shape_2, shape_3, is_word}
use Rattle.mp_script.specs.Numbers.{AreNumbers}
use Rattle.mp_script.specs.declared.numbers.Numbers.{Numbers}

pub counted_0 : (n : Numbers) (s : Shape) (w : List ℕ) → s ≡ shape_0 w → AreNumbers n s
unfolding shape_0
counted_0 n s w is = rw is (elim (cases_Bool (is_word w (codes "lane"))) [
  | inl e ↦ rw e tt
  | inr e ↦ elim (cases_Bool (is_word w (codes "keeper"))) [
    | inl f ↦ rw (e, f) tt
    | inr f ↦ elim (cases_Bool (is_word w (codes "requeue"))) [
      | inl g ↦ rw (e, f, g) tt
      | inr g ↦ elim (cases_Bool (is_word w (codes "reap"))) [ inl h ↦ rw (e, f, g, h) tt | inr h ↦ rw (e, f, g, h) tt ]
    ]
  ]
])

pub counted_1 : (n : Numbers) (s : Shape) (w a : List ℕ) → s ≡ shape_1 w a → n.first ≡ number_of a → AreNumbers n s
unfolding shape_1
counted_1 n s w a is first = rw is (elim (cases_Bool (is_word w (codes "finish"))) [
  | inl e ↦ rw e first
  | inr e ↦ elim (cases_Bool (is_word w (codes "anatt"))) [
    | inl f ↦ rw (e, f) tt
    | inr f ↦ elim (cases_Bool (is_word w (codes "remove"))) [
      | inl g ↦ rw (e, f, g) tt
      | inr g ↦ elim (cases_Bool (is_word w (codes "policy"))) [ inl h ↦ rw (e, f, g, h) tt | inr h ↦ rw (e, f, g, h) tt ]
    ]
  ]
])

pub counted_2 : (n : Numbers) (s : Shape) (w a b : List ℕ) → s ≡ shape_2 w a b → n.first ≡ number_of a → n.second ≡ number_of b → AreNumbers n s
unfolding shape_2
counted_2 n s w a b is first second = rw is (elim (cases_Bool (is_word w (codes "submit"))) [
  | inl e ↦ rw e (first, second)
  | inr e ↦ elim (cases_Bool (is_word w (codes "log"))) [
    | inl f ↦ rw (e, f) second
    | inr f ↦ elim (cases_Bool (is_word w (codes "ctrl"))) [
      | inl g ↦ rw (e, f, g) tt
      | inr g ↦ elim (cases_Bool (is_word w (codes "add"))) [ inl h ↦ rw (e, f, g, h) second | inr h ↦ rw (e, f, g, h) tt ]
    ]
  ]
])

pub counted_3 : (n : Numbers) (s : Shape) (w a b c : List ℕ) → s ≡ shape_3 w a b c → n.first ≡ number_of a → n.second ≡ number_of b → AreNumbers n s
unfolding shape_3
counted_3 n s w a b c is first second = rw is (elim (cases_Bool (is_word w (codes "answer"))) [ inl e ↦ rw e (first, second) | inr e ↦ rw e tt ])
