-- What the drain does at its desk.
use Rattle.std.specs.Prelude.{[], ◌≡◌, ◌||◌, ◌⊎◌, ℕ, zero, suc, Bool, true, false, List, ◌∷◌, map, length, replicate, Result, Ok, Err}
use Rattle.mp_words.specs.declared.answers.Answer.{Answer}
use Rattle.mp_words.specs.declared.near.Near.{Near}
use Rattle.mp_words.specs.RequestView.{RequestView}
use Rattle.mp_record.specs.declared.event.Event.TheVariants as event
use Rattle.mp_record.specs.declared.event.Said.TheVariants as said
use Rattle.mp_keep.specs.Keeper.{KeeperView}
use Rattle.mp_plain.specs.declared.plain.Plain.{Plain}
use Rattle.mp_plain.specs.Told.{told_core}
use Rattle.mp_desk.specs.declared.desk.Desk.{Desk}
use Rattle.mp_desk.specs.declared.flying.Flying.{Flying}
use Rattle.mp_desk.specs.declared.halt.Halt.{Halt}
use Rattle.mp_desk.specs.declared.halt.Halt.TheVariants as halt
use Rattle.mp_desk.specs.Calls.{CallTo, CallsTo, Does, Means, Stand, StopTo, StopsTo, finish, reap, submit}
use Rattle.mp_desk.specs.DeskView.{noting}
use Rattle.mp_desk.specs.Desks.{desk_of, stand}

-- where the drain stands
abbrev pub drain_stand : Plain → Desk → KeeperView → Stand
drain_stand p d k = stand (told_core p) (desk_of d) k

-- by what the drain goes
abbrev pub drain_means : Near → List Answer → Means
drain_means near answers = record { near = near; answers = answers; line = 0 }

-- something flies
abbrev pub some_fly : List Flying → Bool
some_fly [] = false
some_fly (f ∷ fs) = true

-- A request was submitted, and what flew then was finished.
pub record SendsTo (w : Means) (r : RequestView) (sent : Bool) (p q : Stand) : Type 0 where
  pub mid : Stand
  pub submits : CallTo w (submit r) p mid
  pub sent_is : sent ≡ some_fly mid.desk.flying
  pub finishes : CallsTo w (map finish mid.desk.flying) mid q

-- A request was submitted, or not for want of units, or not finished for want of units.
abbrev pub SendStops : Means → RequestView → Stand → Stand → Type 0
SendStops w r p q = StopTo w (submit r) p q ⊎ ((mid : Stand) × CallTo w (submit r) p mid × StopsTo w (map finish mid.desk.flying) mid q)

-- What was done with a request, by the answer. Want of memory tells nothing.
abbrev pub Sends : Result Bool Halt → Means → RequestView → Stand → Stand → Type 0
Sends (Ok sent) w r p q = SendsTo w r sent p q
Sends (Err halt.Spent) w r p q = SendStops w r p q
Sends (Err halt.NoMemory) w r p q = Unit {0}

-- What was done with each of these requests; whether one was sent.
abbrev pub EachTo : Means → List RequestView → Bool → Stand → Stand → Type 0
EachTo w [] any p q = (any ≡ false) × (q ≡ p)
EachTo w (r ∷ rs) any p q =
    (mid : Stand) × (sent : Bool) × (more : Bool) × SendsTo w r sent p mid × EachTo w rs more mid q × (any ≡ (sent || more))

-- Units were short for one of these requests.
abbrev pub EachStops : Means → List RequestView → Stand → Stand → Type 0
EachStops w [] p q = ⊥
EachStops w (r ∷ rs) p q = SendStops w r p q ⊎ ((mid : Stand) × (sent : Bool) × SendsTo w r sent p mid × EachStops w rs mid q)

-- What was done with requests, by the answer. Want of memory tells nothing.
abbrev pub SendsEach : Result Bool Halt → Means → List RequestView → Stand → Stand → Type 0
SendsEach (Ok any) w rs p q = EachTo w rs any p q
SendsEach (Err halt.Spent) w rs p q = EachStops w rs p q
SendsEach (Err halt.NoMemory) w rs p q = Unit {0}

-- a stand once it has said that the list is submitted
abbrev pub round_said : List RequestView → Stand → Stand
round_said list p = record p { desk = noting (event.At 0 (said.Requeue (length list)) ∷ []) p.desk }

-- One round over a list, which is taken whole: each request was submitted and finished, and those to be listed are the
-- list then.
pub record RoundTo (w : Means) (any : Bool) (list after : List RequestView) (p q : Stand) : Type 0 where
  pub mid : Stand
  pub each : EachTo w list any (round_said list p) mid
  pub stand_is : q ≡ record mid { desk = record (mid.desk) { out = [] } }
  pub list_is : after ≡ mid.desk.out

-- What was done in a round, by the answer. Want of memory tells nothing.
abbrev pub Rounds : Result Bool Halt → Means → List RequestView → List RequestView → Stand → Stand → Type 0
Rounds (Ok any) w list after p q = RoundTo w any list after p q
Rounds (Err halt.Spent) w list after p q = EachStops w list (round_said list p) q
Rounds (Err halt.NoMemory) w list after p q = Unit {0}

-- what was done in at most so many rounds behind one that sent something or didn't
abbrev pub RoundsTo : Means → ℕ → Bool → List RequestView → List RequestView → Stand → Stand → Type 0
RoundsTo w n false list after p q = (after ≡ list) × (q ≡ p)
RoundsTo w zero true list after p q = (after ≡ list) × (q ≡ p)
RoundsTo w (suc n) true list after p q =
    (mid : Stand) × (any : Bool) × (next : List RequestView) × RoundTo w any list next p mid × RoundsTo w n any next after mid q

-- units were short in one of at most so many rounds behind one that sent something or didn't
abbrev pub RoundsStop : Means → ℕ → Bool → List RequestView → Stand → Stand → Type 0
RoundsStop w n false list p q = ⊥
RoundsStop w zero true list p q = ⊥
RoundsStop w (suc n) true list p q =
    EachStops w list (round_said list p) q
    ⊎ ((mid : Stand) × (any : Bool) × (next : List RequestView) × RoundTo w any list next p mid × RoundsStop w n any next mid q)

-- What was done in rounds, by the answer. Want of memory tells nothing.
abbrev pub RoundsDo : {T : Type 0} → Result T Halt → Means → ℕ → Bool → List RequestView → List RequestView → Stand → Stand → Type 0
RoundsDo (Ok x) w n any list after p q = RoundsTo w n any list after p q
RoundsDo (Err halt.Spent) w n any list after p q = RoundsStop w n any list p q
RoundsDo (Err halt.NoMemory) w n any list after p q = Unit {0}

-- What was done where the removals are carried so many times, by the answer. Want of memory tells nothing.
abbrev pub ReapsDo : {T : Type 0} → Result T Halt → Means → ℕ → Stand → Stand → Type 0
ReapsDo result w n p q = Does result (CallsTo w (replicate n reap) p q) (StopsTo w (replicate n reap) p q)
