-- The lines of a text, from the first on.
use Rattle.std.proofs.Common.{inl, inr, ◌≡◌, ℕ, Bool, true, false, List, [], ◌∷◌, ◌++◌, length, Option, refl, sym, ap, ◌∙◌, append_assoc, arith}
use Rattle.std.specs.Prelude.{◌||◌, ◌==◌}
use Rattle.std.specs.Option.{option_to_list}
use Rattle.std.specs.List.{list_any}
use Rattle.std.proofs.lemmas.Bool.{cases_Bool}
use Rattle.std.proofs.lemmas.Bool.Decides.{nat_tests}
use Rattle.std.proofs.lemmas.List.{append-nil}
use Rattle.mp_checks.specs.Marks.{has, HaveSame}
use Rattle.mp_script.specs.Splitting.{lines_of}
use Rattle.mp_script.specs.Shape.{Shape, shape_of}
use Rattle.mp_script.specs.Before.{begins_lane, each_of, in_lanes, right_submit, submit_in, submitted_in}

-- a line of these begins a lane
abbrev pub have_begun : List (List ℕ) → Bool
have_begun ls = list_any (λ l. begins_lane (shape_of l)) ls

pub each_of_append : {X : Type 0} (f : Shape → Option X) (ls : List (List ℕ)) (l : List ℕ) → each_of f (ls ++ l ∷ []) ≡ each_of f ls ++ option_to_list (f (shape_of l))
each_of_append f [] l = append-nil _
each_of_append f (x ∷ ls) l = rw (each_of_append f ls l, append_assoc) refl

any_append : (p : List ℕ → Bool) (ls : List (List ℕ)) (l : List ℕ) → list_any p (ls ++ l ∷ []) ≡ (list_any p ls || p l)
any_append p [] l = elim (cases_Bool (p l)) [ inl e ↦ rw e refl | inr e ↦ rw e refl ]
any_append p (x ∷ ls) l = elim (cases_Bool (p x)) [ inl e ↦ rw e refl | inr e ↦ rw e (any_append p ls l) ]

pub begun_append : (ls : List (List ℕ)) (l : List ℕ) → have_begun (ls ++ l ∷ []) ≡ (have_begun ls || begins_lane (shape_of l))
begun_append ls l = any_append (λ x. begins_lane (shape_of x)) ls l

pub submits_append : (nodes : ℕ) (ls : List (List ℕ)) (l : List ℕ)
    → each_of (right_submit nodes) (in_lanes (ls ++ l ∷ [])) ≡ each_of (right_submit nodes) (in_lanes ls) ++ option_to_list (submit_in nodes (have_begun ls) (shape_of l))
submits_append nodes [] l = elim (cases_Bool (begins_lane (shape_of l))) [ inl e ↦ rw e refl | inr e ↦ rw e refl ]
submits_append nodes (x ∷ ls) l = elim (cases_Bool (begins_lane (shape_of x))) [
  | inl e ↦ rw e (each_of_append (right_submit nodes) ls l)
  | inr e ↦ rw e (submits_append nodes ls l)
]

-- What was marked of a text: the lines so far and those that are left are its lines, and the requests are those that the
-- lines so far submit.
pub record AreMarked (nodes : ℕ) (bytes rest : List ℕ) (begun : Bool) (submits : List ℕ) : Type 0 where
  pub done : List (List ℕ)
  pub parts : done ++ lines_of rest ≡ lines_of bytes
  pub begins : begun ≡ have_begun done
  pub same : HaveSame submits (each_of (right_submit nodes) (in_lanes done))

pub marked_start : (nodes : ℕ) (bytes submits : List ℕ) → submits ≡ [] → AreMarked nodes bytes bytes false submits
marked_start nodes bytes submits none = record { done = []; parts = refl; begins = refl; same = λ n. rw none refl }

-- what is put behind lists with the same numbers
pub has_both : (xs ys : List ℕ) (n : ℕ) → has (xs ++ ys) n ≡ (has xs n || has ys n)
has_both [] ys n = refl
has_both (x ∷ xs) ys n = elim (cases_Bool (x == n)) [ inl e ↦ rw e refl | inr e ↦ rw e (has_both xs ys n) ]

pub same_behind : (ms ns more : List ℕ) → HaveSame ms ns → HaveSame (ms ++ more) (ns ++ more)
same_behind ms ns more same = λ n. has_both ms more n ∙ rw (same n) (sym (has_both ns more n))

-- a line more
pub parts_more : (done : List (List ℕ)) (line rest after bytes : List ℕ) → lines_of rest ≡ line ∷ lines_of after → done ++ lines_of rest ≡ lines_of bytes → (done ++ line ∷ []) ++ lines_of after ≡ lines_of bytes
parts_more done line rest after bytes cut parts = append_assoc done (line ∷ []) (lines_of after) ∙ ap (λ (ls : List (List ℕ)). done ++ ls) (sym cut) ∙ parts

pub marked_more : (nodes : ℕ) (bytes rest line after : List ℕ) (begun begun' : Bool) (submits submits' : List ℕ) (s : Shape) → AreMarked nodes bytes rest begun submits → lines_of rest ≡ line ∷ lines_of after → s ≡ shape_of line
    → HaveSame submits' (submits ++ option_to_list (submit_in nodes begun s)) → begun' ≡ (begun || begins_lane s) → AreMarked nodes bytes after begun' submits'
marked_more nodes bytes rest line after begun begun' submits submits' s m cut is mark begins = record {
  done = m.done ++ line ∷ [];
  parts = parts_more m.done line rest after bytes cut m.parts;
  begins = begins ∙ rw (m.begins, is, begun_append m.done line) refl;
  same = rw (submits_append nodes m.done line, ← m.begins, ← is) (λ n. mark n ∙ same_behind submits _ (option_to_list (submit_in nodes begun s)) m.same n);
}

-- nothing has no lines
pub no_lines : (rest : List ℕ) → true ≡ (length rest == 0) → lines_of rest ≡ []
no_lines [] e = refl
no_lines (b ∷ rest) e = absurd (grind (arith, nat_tests))

pub marked_end : (nodes : ℕ) (bytes rest : List ℕ) (begun : Bool) (submits : List ℕ) → AreMarked nodes bytes rest begun submits → true ≡ (length rest == 0) → HaveSame submits (submitted_in nodes (lines_of bytes))
unfolding submitted_in
marked_end nodes bytes rest begun submits m over =
    let all : m.done ≡ lines_of bytes = sym (append-nil m.done) ∙ ap (λ (ls : List (List ℕ)). m.done ++ ls) (sym (no_lines rest over)) ∙ m.parts in
    rw (← all) m.same
