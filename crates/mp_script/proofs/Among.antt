-- What the lines so far submit is among what the whole text submits.
use Rattle.std.proofs.Common.{inl, inr, ◌≡◌, ℕ, suc, ◌||◌, Bool, true, false, List, [], ◌∷◌, ◌++◌, length, Option, Some, None, refl, sym, ◌∙◌, append_assoc, arith}
use Rattle.std.specs.Prelude.{not, ◌==◌, is_some, unwrap_or, codes, IfSome}
use Rattle.std.specs.Option.{option_to_list}
use Rattle.std.proofs.lemmas.Bool.{cases_Bool, and_parts, false≢true}
use Rattle.std.proofs.lemmas.Bool.Decides.{nat_tests}
use Rattle.mp_checks.specs.Checks.{first_fault}
use Rattle.mp_checks.specs.Marks.{has, HaveSame}
use Rattle.mp_checks.proofs.CheckLaws.{all_pass, no_fault}
use Rattle.mp_topology.specs.declared.topology.Topology.{Topology}
use Rattle.mp_script.specs.Splitting.{lines_of, value_of}
use Rattle.mp_script.specs.Shape.{Shape, submit, finish, is_word, shape_of}
use Rattle.mp_script.specs.Wording.{has_numbers, is_named, is_submitted}
use Rattle.mp_script.specs.Before.{Before, before, begins_lane, lanes_in, each_of, submitted_of, in_lanes, right_submit, submit_in, submitted_in}
use Rattle.mp_script.specs.Lines.{stands, shape_checks}
use Rattle.mp_script.specs.Building.{IsEarlier}
use Rattle.mp_script.specs.declared.earlier.Earlier.{Earlier}
use Rattle.mp_script.proofs.Lanes.{have_begun, each_of_append, submits_append, has_both}

-- each number of the first list is one of the second's
abbrev pub AreAmong : List ℕ → List ℕ → Type 0
AreAmong ms ns = (n : ℕ) → has ms n ≡ true → has ns n ≡ true

or_left : (a b : Bool) → a ≡ true → (a || b) ≡ true
or_left true b h = refl
or_left false b h = absurd (false≢true h)

each_of_join : {X : Type 0} (f : Shape → Option X) (ls ms : List (List ℕ)) → each_of f (ls ++ ms) ≡ each_of f ls ++ each_of f ms
each_of_join f [] ms = refl
each_of_join f (l ∷ ls) ms = rw (each_of_join f ls ms, append_assoc) refl

-- more lines submit more
lanes_among : (nodes : ℕ) (done more : List (List ℕ)) → AreAmong (each_of (right_submit nodes) (in_lanes done)) (each_of (right_submit nodes) (in_lanes (done ++ more)))
lanes_among nodes [] more = λ n h. absurd (false≢true h)
lanes_among nodes (l ∷ done) more = elim (cases_Bool (begins_lane (shape_of l))) [
  | inl e ↦ rw e (λ n h. rw (each_of_join (right_submit nodes) done more) (has_both (each_of (right_submit nodes) done) (each_of (right_submit nodes) more) n ∙ or_left _ _ h))
  | inr e ↦ rw e (lanes_among nodes done more)
]

-- ---- a line that stands where it may and has right numbers

not_none : (n : ℕ) → not (suc n == 0) ≡ true
not_none n = elim (cases_Bool (suc n == 0)) [ inl e ↦ absurd (grind (arith, nat_tests)) | inr e ↦ rw e refl ]

begun_some : (ls : List (List ℕ)) → not (length (lanes_in ls) == 0) ≡ have_begun ls
begun_some [] = refl
begun_some (l ∷ ls) = elim (cases_Bool (begins_lane (shape_of l))) [ inl e ↦ rw (e, not_none (length (lanes_in ls))) refl | inr e ↦ rw e (begun_some ls) ]

nothing_in : (nodes : ℕ) (begun : Bool) (s : Shape) → submitted_of s ≡ None → option_to_list (submitted_of s) ≡ option_to_list (submit_in nodes begun s)
nothing_in nodes true s e = elim (cases_Bool (has_numbers nodes s)) [ inl h ↦ rw (h, e) refl | inr h ↦ rw (h, e) refl ]
nothing_in nodes false s e = rw e refl

-- it submits in the text what it says
own_line : (nodes : ℕ) (done : List (List ℕ)) (s : Shape) → stands (length (lanes_in done)) s ≡ true → has_numbers nodes s ≡ true → option_to_list (submitted_of s) ≡ option_to_list (submit_in nodes (have_begun done) s)
own_line nodes done (submit r n) stand right = rw (sym (begun_some done) ∙ stand, right) refl
own_line nodes done s stand right = nothing_in nodes (have_begun done) s refl

-- what the lines so far submit, with a line more
pub own_more : (t : Topology) (pages : ℕ) (submits : List ℕ) (done : List (List ℕ)) (n : ℕ) (l : List ℕ) → each_of submitted_of done ≡ each_of (right_submit t.near.nodes) (in_lanes done)
    → first_fault (shape_checks t pages submits (before done) n (shape_of l)) ≡ None → each_of submitted_of (done ++ l ∷ []) ≡ each_of (right_submit t.near.nodes) (in_lanes (done ++ l ∷ []))
unfolding shape_checks before
own_more t pages submits done n l own pass =
    let p = all_pass (shape_checks t pages submits (before done) n (shape_of l)) pass in
    rw (each_of_append submitted_of done l, submits_append t.near.nodes done l, own, own_line t.near.nodes done (shape_of l) p.1.0 p.1.1.1.0) refl

pub earlier_among : (nodes : ℕ) (bytes rest : List ℕ) (done : List (List ℕ)) (k : Earlier) → done ++ lines_of rest ≡ lines_of bytes → each_of submitted_of done ≡ each_of (right_submit nodes) (in_lanes done)
    → IsEarlier k (before done) → AreAmong k.submitted (submitted_in nodes (lines_of bytes))
unfolding submitted_in before
earlier_among nodes bytes rest done k parts own known = λ n h. rw (← parts) (lanes_among nodes done (lines_of rest) n (rw (← own) (sym (known.submitted n) ∙ h)))

-- ---- the checks of a line

-- a line that finishes one of the fewer finishes one of the more
finishes_among : (ms ns : List ℕ) (s : Shape) → AreAmong ms ns → is_submitted ms s ≡ true → is_submitted ns s ≡ true
unfolding is_submitted
finishes_among ms ns (finish r) among h = elim (cases_Bool (is_word r (codes "all"))) [ inl e ↦ rw e refl | inr e ↦ rw e (among (value_of r) (rw e at h)) ]
finishes_among ms ns _ among h = refl

-- a line without a fault has none either where more is submitted
pub passes_among : (t : Topology) (pages : ℕ) (ms ns : List ℕ) (b : Before) (n : ℕ) (s : Shape) → AreAmong ms ns → first_fault (shape_checks t pages ms b n s) ≡ None → first_fault (shape_checks t pages ns b n s) ≡ None
unfolding shape_checks
passes_among t pages ms ns b n s among pass =
    let p = all_pass (shape_checks t pages ms b n s) pass in
    let q = and_parts (is_named t.controllers pages s) (is_submitted ms s) p.1.1.1.1.0 in
    no_fault (shape_checks t pages ns b n s) (p.0, (p.1.0, (p.1.1.0, (p.1.1.1.0, (rw (q.0, finishes_among ms ns s among q.1) refl, p.1.1.1.1.1)))))

-- ---- what is known of the whole text, or else the lines so far

pub known_among : (o : Option (List ℕ)) (own full : List ℕ) → IfSome o (λ all. HaveSame all full) → AreAmong own full → AreAmong (unwrap_or o own) full
known_among None own full known among = among
known_among (Some all) own full known among = λ n h. sym (known n) ∙ h

pub known_same : (o : Option (List ℕ)) (own full : List ℕ) → is_some o ≡ true → IfSome o (λ all. HaveSame all full) → HaveSame (unwrap_or o own) full
known_same None own full some known = absurd (false≢true some)
known_same (Some all) own full some known = known
