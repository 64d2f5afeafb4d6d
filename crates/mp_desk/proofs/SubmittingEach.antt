-- Submits at a desk, one after the other.
use Rattle.std.proofs.Common.{◌≡◌, ◌≤◌, ◌+◌, ℕ, List, [], ◌∷◌, ◌++◌, length, map, append-nil, append_assoc, refl, sym, ap, ◌∙◌, subst, arith}
use Rattle.std.specs.Prelude.{Result, Ok, Err}
use Rattle.std.specs.List.{AllByRecursion}
use Rattle.mp_words.specs.declared.answers.Answer.{Answer}
use Rattle.mp_words.specs.declared.near.Near.{Near}
use Rattle.mp_words.specs.RequestView.{RequestView}
use Rattle.mp_core.specs.Core.{Core}
use Rattle.mp_keep.specs.Keeper.{KeeperView}
use Rattle.mp_desk.specs.declared.halt.Halt.{Halt}
use Rattle.mp_desk.specs.declared.halt.Halt.TheVariants as halt
use Rattle.mp_desk.specs.DeskView.{DeskView, unended}
use Rattle.mp_desk.specs.Calls.{DeskCall, Means, Stand, submit, CallTo, CallsTo, StopTo, StopsTo, BreakTo, BreaksTo, Does, IfWant, Sits, IsWaiting, KeepsPass}
use Rattle.mp_desk.specs.Desks.{BreaksCall, DoesCall, KeepsStand, Leaves, stand}
use Rattle.mp_desk.proofs.Finishing.{means}
use Rattle.mp_desk.proofs.FinishingEach.{call_more}
use Rattle.mp_desk.proofs.Sitting.{kept_on}

-- The first of these requests were submitted, and these are left.
pub record Submitted (w : Means) (all rest : List RequestView) (p q : Stand) : Type 0 where
  pub gone : List RequestView
  pub split : all ≡ gone ++ rest
  pub calls : CallsTo w (map submit gone) p q

-- The submits go on from here.
pub record GoesOn (near : Near) (all rest : List RequestView) (a c : Core) (d e : DeskView) : Type 0 where
  pub sits : Sits c e
  pub kept : KeepsPass a c
  pub waiting : AllByRecursion IsWaiting rest
  pub stands : KeepsStand a c
  pub weight : unended e + length rest ≤ unended d + length all
  pub done : (answers : List Answer) (line : ℕ) (k : KeeperView) → Submitted (means near answers line) all rest (stand a d k) (stand c e k)

map_more : (gone : List RequestView) (r : RequestView) → map submit gone ++ submit r ∷ [] ≡ map submit (gone ++ r ∷ [])
map_more [] r = refl
map_more (g ∷ gone) r = ap (λ (cs : List DeskCall). submit g ∷ cs) (map_more gone r)

map_split : (gone : List RequestView) (r : RequestView) (rest : List RequestView) → map submit (gone ++ r ∷ rest) ≡ map submit gone ++ submit r ∷ map submit rest
map_split [] r rest = refl
map_split (g ∷ gone) r rest = ap (λ (cs : List DeskCall). submit g ∷ cs) (map_split gone r rest)

pub starts : (near : Near) (all : List RequestView) (a : Core) (d : DeskView) → Sits a d → KeepsPass a a → AllByRecursion IsWaiting all → GoesOn near all all a a d d
starts near all a d s kept waiting = record { sits = s; kept = kept; waiting = waiting; stands = λ k h. h; weight = omega arith; done = λ answers line k. record { gone = []; split = refl; calls = refl } }

pub first_waits : (near : Near) (all now rest : List RequestView) (r : RequestView) (a c : Core) (d e : DeskView) → GoesOn near all now a c d e → now ≡ r ∷ rest → IsWaiting r
first_waits near all now rest r a c d e on is = (subst (AllByRecursion IsWaiting) is on.waiting).0

pub goes_on : {T : Type 0} (result : Result T Halt) (x : T) (near : Near) (all now rest : List RequestView) (r : RequestView) (a c b : Core) (d e g : DeskView) → GoesOn near all now a c d e → now ≡ r ∷ rest → result ≡ Ok x
    → ((answers : List Answer) (line : ℕ) → DoesCall result (means near answers line) (submit r) c b e g) → Leaves c b g → KeepsStand c b → unended g ≤ unended e + 1 → GoesOn near all rest a b d g
goes_on result x near all now rest r a c b d e g on is ok does l stands weight = record {
  sits = l.sits;
  kept = kept_on a c b on.kept l.kept;
  waiting = (subst (AllByRecursion IsWaiting) is on.waiting).1;
  stands = λ k s. stands k (on.stands k s);
  weight = let one : length now ≡ length (r ∷ rest) = ap length is in omega (arith, one, weight, on.weight);
  done = λ answers line k.
      let w = means near answers line in
      let so = on.done answers line k in
      let h : CallTo w (submit r) (stand c e k) (stand b g k) = subst (λ z. Does z (CallTo w (submit r) (stand c e k) (stand b g k)) (StopTo w (submit r) (stand c e k) (stand b g k))) ok (does answers line k) in
      record {
        gone = so.gone ++ r ∷ [];
        split = so.split ∙ ap (λ (rs : List RequestView). so.gone ++ rs) is ∙ sym (append_assoc so.gone (r ∷ []) rest);
        calls = subst (λ (cs : List DeskCall). CallsTo w cs (stand a d k) (stand b g k)) (map_more so.gone r) (call_more w (map submit so.gone) (submit r) (stand a d k) (stand c e k) (stand b g k) so.calls h);
      };
}

-- at most so many came as there were to be submitted
pub weighs : (near : Near) (all now rest : List RequestView) (r : RequestView) (a c : Core) (d e g : DeskView) → GoesOn near all now a c d e → now ≡ r ∷ rest → unended g ≤ unended e + 1 → unended g ≤ unended d + length all
weighs near all now rest r a c d e g on is weight = let one : length now ≡ length (r ∷ rest) = ap length is in omega (arith, one, weight, on.weight)

pub ends : (near : Near) (all now : List RequestView) (a c : Core) (d e : DeskView) → GoesOn near all now a c d e → now ≡ []
    → (answers : List Answer) (line : ℕ) (k : KeeperView) → CallsTo (means near answers line) (map submit all) (stand a d k) (stand c e k)
ends near all now a c d e on is answers line k =
    let so = on.done answers line k in
    let same : so.gone ≡ all = sym (so.split ∙ ap (λ (rs : List RequestView). so.gone ++ rs) is ∙ append-nil so.gone) in
    subst (λ (rs : List RequestView). CallsTo (means near answers line) (map submit rs) (stand a d k) (stand c e k)) same so.calls

pub stops : (U : Type 0) {T : Type 0} (result : Result T Halt) (why : Halt) (near : Near) (all now rest : List RequestView) (r : RequestView) (a c b : Core) (d e g : DeskView) → GoesOn near all now a c d e → now ≡ r ∷ rest → result ≡ Err why
    → ((answers : List Answer) (line : ℕ) → DoesCall result (means near answers line) (submit r) c b e g)
    → (answers : List Answer) (line : ℕ) (k : KeeperView) → Does {T = U} (Err why) (CallsTo (means near answers line) (map submit all) (stand a d k) (stand b g k)) (StopsTo (means near answers line) (map submit all) (stand a d k) (stand b g k))
stops U result halt.NoMemory near all now rest r a c b d e g on is failed does answers line k = tt
stops U result halt.Spent near all now rest r a c b d e g on is failed does answers line k =
    let w = means near answers line in
    let so = on.done answers line k in
    let h : StopTo w (submit r) (stand c e k) (stand b g k) = subst (λ z. Does z (CallTo w (submit r) (stand c e k) (stand b g k)) (StopTo w (submit r) (stand c e k) (stand b g k))) failed (does answers line k) in
    record {
      before = map submit so.gone;
      stopped = submit r;
      behind = map submit rest;
      split = ap (map submit) (so.split ∙ ap (λ (rs : List RequestView). so.gone ++ rs) is) ∙ map_split so.gone r rest;
      mid = stand c e k;
      done = so.calls;
      stops = h;
    }

-- memory ran out at one
pub breaks : (U : Type 0) {T : Type 0} (result : Result T Halt) (why : Halt) (near : Near) (all now rest : List RequestView) (r : RequestView) (a c b : Core) (d e g : DeskView) → GoesOn near all now a c d e → now ≡ r ∷ rest → result ≡ Err why
    → ((answers : List Answer) (line : ℕ) → BreaksCall result (means near answers line) (submit r) c b e g)
    → (answers : List Answer) (line : ℕ) (k : KeeperView) → IfWant {T = U} (Err why) (BreaksTo (means near answers line) (map submit all) (stand a d k) (stand b g k))
breaks U result halt.Spent near all now rest r a c b d e g on is failed broke answers line k = tt
breaks U result halt.NoMemory near all now rest r a c b d e g on is failed broke answers line k =
    let w = means near answers line in
    let so = on.done answers line k in
    let h : BreakTo w (submit r) (stand c e k) (stand b g k) = subst (λ z. IfWant z (BreakTo w (submit r) (stand c e k) (stand b g k))) failed (broke answers line k) in
    record {
      before = map submit so.gone;
      broken = submit r;
      behind = map submit rest;
      split = ap (map submit) (so.split ∙ ap (λ (rs : List RequestView). so.gone ++ rs) is) ∙ map_split so.gone r rest;
      mid = stand c e k;
      done = so.calls;
      breaks = h;
    }
