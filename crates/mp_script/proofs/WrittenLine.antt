-- The line that is written of what a line asks for.
use Rattle.std.proofs.Common.{inl, inr, ◌≡◌, ℕ, ◌<◌, ◌≤◌, Bool, true, false, ◌&&◌, List, [], ◌∷◌, length, map, Option, Some, None, refl, sym, arith}
use Rattle.std.specs.Prelude.{not, nat_le, is_some, codes, if◌then◌else◌, option_map, option_and_then, HoldsAt, All}
use Rattle.std.specs.Option.{option_to_list}
use Rattle.std.specs.List.{list_all}
use Rattle.std.proofs.lemmas.Bool.{false≢true, and_parts, cases_Bool}
use Rattle.std.proofs.lemmas.Bool.Decides.{nat_tests}
use Rattle.mp_words.specs.declared.row.CState.{CState}
use Rattle.mp_words.specs.declared.row.CState.TheVariants.{New, Live, Resetting, Connecting, Deleting, DeletingNoio, Dead}
use Rattle.mp_words.specs.declared.row.Policy.{Policy}
use Rattle.mp_words.specs.declared.row.Policy.TheVariants.{Numa, RoundRobin, QueueDepth}
use Rattle.mp_words.specs.Names.{policy_named, cstate_named}
use Rattle.mp_words.proofs.NameLaws.{policy_is_named, cstate_is_named}
use Rattle.mp_topology.specs.Controllers.{is_letter, is_name_byte, is_name}
use Rattle.mp_topology.specs.declared.topology.Controller.{Controller}
use Rattle.mp_topology.specs.declared.topology.Topology.{Topology}
use Rattle.mp_topology.proofs.Places.{placed_there}
use Rattle.std.proofs.lemmas.Option.{slice_get-get_or}
use Rattle.mp_script.specs.Shape.{Shape, skipped, unknown, answer, lane, keeper, submit, finish, requeue, log, ctrl, anatt, add, remove, reap, policy, is_word}
use Rattle.mp_script.specs.Wording.{has_numbers, is_named, has_box, has_ana, is_there, place_in}
use Rattle.mp_script.specs.Before.{begins_lane}
use Rattle.mp_script.specs.Plans.{line_of, page_of, finish_of}
use Rattle.mp_script.specs.Written.{name_of, cstate_word, policy_word, line_words}
use Rattle.mp_script.specs.declared.script.Line.TheVariants as line
use Rattle.mp_script.proofs.Holding.{some_is}
use Rattle.mp_script.proofs.WrittenWords.{is_dark, is_plain}
use Rattle.mp_script.proofs.WrittenShapes.{words_of_shape, is_form, canon, canon_unless, IsNumber, plain_number, submit_numbers, finish_number, log_number, add_number}

-- ---- names

-- a name is that of the controller which it names
named_at : (controllers : List Controller) (w : List ℕ) → is_there controllers w ≡ true
    → (p : ℕ) × (place_in controllers w ≡ Some p) × HoldsAt (λ c. c.name ≡ w) controllers p × (p < length controllers)
unfolding is_there
named_at controllers w h =
    let found = some_is (place_in controllers w) h in
    let there = placed_there w controllers (Some found.0) found.1 in
    (found.0, found.1, there.1, there.0)

no_controller : Controller
no_controller = record { name = []; node = None; ana = false; state = Live; page = None }

name_in_place : (t : Topology) (w : List ℕ) (p : ℕ) (d : Controller) → HoldsAt (λ c. c.name ≡ w) t.controllers p → p < length t.controllers → name_of t p ≡ w
name_in_place t w p d holds lt = rw (slice_get-get_or t.controllers p d lt) (holds d)

name_is : (t : Topology) (w : List ℕ) → is_there t.controllers w ≡ true → (p : ℕ) × (place_in t.controllers w ≡ Some p) × (name_of t p ≡ w)
name_is t w h =
    let found = named_at t.controllers w h in
    (found.0, found.1, name_in_place t w found.0 no_controller found.2 found.3)

-- a name of the topology is a word
dark_name : (bs : List ℕ) → list_all is_name_byte bs ≡ true → list_all is_dark bs ≡ true
dark_name [] h = refl
dark_name (b ∷ bs) h =
    let p = and_parts (is_name_byte b) (list_all is_name_byte bs) h in
    let here : is_dark b ≡ true = grind (arith, nat_tests) in
    rw (here, dark_name bs p.1) refl

plain_name : (w : List ℕ) → is_name w ≡ true → is_plain w ≡ true
plain_name [] h = absurd (false≢true h)
plain_name (b ∷ bs) h =
    let p = and_parts (is_letter b && nat_le (length bs) 15) (list_all is_name_byte bs) h in
    let q = and_parts (is_letter b) (nat_le (length bs) 15) p.0 in
    let here : is_dark b ≡ true = grind (arith, nat_tests) in
    let few : nat_le (length bs) 59 ≡ true = grind (arith, nat_tests, q.1) in
    rw (few, here, dark_name bs p.1) refl

plain_at : (controllers : List Controller) (w : List ℕ) (p : ℕ) → All (λ c. is_name c.name ≡ true) controllers → HoldsAt (λ c. c.name ≡ w) controllers p → p < length controllers → is_plain w ≡ true
plain_at controllers w p names holds lt = plain_name w (rw (← holds no_controller) (names p no_controller lt))

pub plain_named : (controllers : List Controller) (w : List ℕ) → All (λ c. is_name c.name ≡ true) controllers → is_there controllers w ≡ true → is_plain w ≡ true
plain_named controllers w names h =
    let found = named_at controllers w h in
    plain_at controllers w found.0 names found.2 found.3

-- ---- states and policies

state_is : (w : List ℕ) → is_some (cstate_named w) ≡ true → (s : CState) × (cstate_named w ≡ Some s) × (cstate_word s ≡ w)
state_is w h = let found = some_is (cstate_named w) h in (found.0, found.1, cstate_is_named w found.0 found.1)

policy_is : (w : List ℕ) → is_some (policy_named w) ≡ true → (p : Policy) × (policy_named w ≡ Some p) × (policy_word p ≡ w)
policy_is w h = let found = some_is (policy_named w) h in (found.0, found.1, policy_is_named w found.0 found.1)

plain_cstate : (s : CState) → is_plain (cstate_word s) ≡ true
plain_cstate New = refl
plain_cstate Live = refl
plain_cstate Resetting = refl
plain_cstate Connecting = refl
plain_cstate Deleting = refl
plain_cstate DeletingNoio = refl
plain_cstate Dead = refl

plain_policy : (p : Policy) → is_plain (policy_word p) ≡ true
plain_policy Numa = refl
plain_policy RoundRobin = refl
plain_policy QueueDepth = refl

-- ---- the canonical line

-- the line stands in a lane, or begins one
abbrev pub is_kept : Shape → Bool
is_kept skipped = false
is_kept unknown = false
is_kept (answer r a s) = false
is_kept _ = true

pub kept_form : (s : Shape) → is_kept s ≡ true → is_form (canon s) ≡ true
kept_form skipped h = absurd (false≢true h)
kept_form unknown h = absurd (false≢true h)
kept_form (answer r a s) h = absurd (false≢true h)
kept_form lane h = refl
kept_form keeper h = refl
kept_form (submit r n) h = refl
kept_form (finish r) h = refl
kept_form requeue h = refl
kept_form (log c k) h = refl
kept_form (ctrl c s) h = refl
kept_form (anatt c) h = refl
kept_form (add c k) h = refl
kept_form (remove c) h = refl
kept_form reap h = refl
kept_form (policy p) h = refl

-- what holds of a line that has passed its checks of numbers and names
pub record IsRight (t : Topology) (pages : ℕ) (s : Shape) : Type 0 where
  pub nodes : t.near.nodes ≤ 8
  pub names : All (λ c. is_name c.name ≡ true) t.controllers
  pub numbers : has_numbers t.near.nodes s ≡ true
  pub named : is_named t.controllers pages s ≡ true

plain_unless : (word w : List ℕ) → is_plain word ≡ true → (is_word w word ≡ false → IsNumber w) → is_plain (canon_unless word w) ≡ true
plain_unless word w plain number = elim (cases_Bool (is_word w word)) [
  | inl e ↦ rw e plain
  | inr e ↦ rw e (plain_number w (number e))
]

-- its words
pub plain_words : (t : Topology) (pages : ℕ) (s : Shape) → IsRight t pages s → is_kept s ≡ true → list_all is_plain (words_of_shape (canon s)) ≡ true
unfolding is_named
plain_words t pages skipped right h = absurd (false≢true h)
plain_words t pages unknown right h = absurd (false≢true h)
plain_words t pages (answer r a s) right h = absurd (false≢true h)
plain_words t pages lane right h = refl
plain_words t pages keeper right h = refl
plain_words t pages (submit r n) right h =
    let e = submit_numbers t.near.nodes r n right.nodes right.numbers in
    rw (plain_number r e.0, plain_number n e.1) refl
plain_words t pages (finish r) right h = rw (plain_unless (codes "all") r refl (λ other. finish_number t.near.nodes r other right.numbers)) refl
plain_words t pages requeue right h = refl
plain_words t pages (log c k) right h =
    let p = and_parts (is_there t.controllers c) (has_ana t.controllers c && has_box pages k) right.named in
    rw (plain_named t.controllers c right.names p.0, plain_number k (log_number t.controllers t.near.nodes pages c k right.numbers right.named)) refl
plain_words t pages (ctrl c s) right h =
    let p = and_parts (is_there t.controllers c) (is_some (cstate_named s)) right.named in
    let found = state_is s p.1 in
    let plain : is_plain s ≡ true = rw (← found.2) (plain_cstate found.0) in
    rw (plain_named t.controllers c right.names p.0, plain) refl
plain_words t pages (anatt c) right h = rw (plain_named t.controllers c right.names right.named) refl
plain_words t pages (add c k) right h =
    let p = and_parts (is_there t.controllers c) (if is_word k (codes "-") then not (has_ana t.controllers c) else has_ana t.controllers c && has_box pages k) right.named in
    rw (plain_named t.controllers c right.names p.0, plain_unless (codes "-") k refl (λ other. add_number t.controllers t.near.nodes pages c k other right.numbers right.named)) refl
plain_words t pages (remove c) right h = rw (plain_named t.controllers c right.names right.named) refl
plain_words t pages reap right h = refl
plain_words t pages (policy p) right h =
    let found = policy_is p right.named in
    let plain : is_plain p ≡ true = rw (← found.2) (plain_policy found.0) in
    rw plain refl

ctrl_words : (t : Topology) (o : Option ℕ) (q : Option CState) (p : ℕ) (st : CState) (c s : List ℕ) → o ≡ Some p → q ≡ Some st → name_of t p ≡ c → cstate_word st ≡ s
    → map (line_words t) (option_to_list (option_and_then (λ x. option_map (line.Ctrl x) q) o)) ≡ (codes "ctrl" ∷ c ∷ s ∷ []) ∷ []
ctrl_words t o q p st c s e f g h = rw (e, f, g, h) refl

-- what is written of what the line asks for
pub written_words : (t : Topology) (pages : ℕ) (s : Shape) → IsRight t pages s → is_kept s ≡ true → begins_lane s ≡ false
    → map (line_words t) (option_to_list (line_of t.controllers s)) ≡ words_of_shape (canon s) ∷ []
unfolding is_named line_of finish_of page_of
written_words t pages skipped right h in_lane = absurd (false≢true h)
written_words t pages unknown right h in_lane = absurd (false≢true h)
written_words t pages (answer r a s) right h in_lane = absurd (false≢true h)
written_words t pages lane right h in_lane = absurd (false≢true (sym in_lane))
written_words t pages keeper right h in_lane = absurd (false≢true (sym in_lane))
written_words t pages (submit r n) right h in_lane = refl
written_words t pages (finish r) right h in_lane = elim (cases_Bool (is_word r (codes "all"))) [
  | inl e ↦ rw e refl
  | inr e ↦ rw e refl
]
written_words t pages requeue right h in_lane = refl
written_words t pages (log c k) right h in_lane =
    let p = and_parts (is_there t.controllers c) (has_ana t.controllers c && has_box pages k) right.named in
    let found = name_is t c p.0 in
    rw (found.1, found.2) refl
written_words t pages (ctrl c s) right h in_lane =
    let p = and_parts (is_there t.controllers c) (is_some (cstate_named s)) right.named in
    let found = name_is t c p.0 in
    let state = state_is s p.1 in
    ctrl_words t (place_in t.controllers c) (cstate_named s) found.0 state.0 c s found.1 state.1 found.2 state.2
written_words t pages (anatt c) right h in_lane = let found = name_is t c right.named in rw (found.1, found.2) refl
written_words t pages (add c k) right h in_lane =
    let p = and_parts (is_there t.controllers c) (if is_word k (codes "-") then not (has_ana t.controllers c) else has_ana t.controllers c && has_box pages k) right.named in
    let found = name_is t c p.0 in
    elim (cases_Bool (is_word k (codes "-"))) [
      | inl e ↦ rw (found.1, found.2, e) refl
      | inr e ↦ rw (found.1, found.2, e) refl
    ]
written_words t pages (remove c) right h in_lane = let found = name_is t c right.named in rw (found.1, found.2) refl
written_words t pages reap right h in_lane = refl
written_words t pages (policy p) right h in_lane = let found = policy_is p right.named in rw (found.1, found.2) refl
