-- What the drain does with requests, one after the other.
use Rattle.std.proofs.Common.{[], ◌≡◌, ℕ, zero, suc, ◌||◌, Bool, true, false, List, ◌∷◌, map, inl, inr, refl, sym, subst}
use Rattle.std.specs.Prelude.{Result, Ok, Err}
use Rattle.mp_words.specs.RequestView.{RequestView}
use Rattle.mp_desk.specs.declared.halt.Halt.{Halt}
use Rattle.mp_desk.specs.declared.halt.Halt.TheVariants as halt
use Rattle.mp_desk.specs.Calls.{CallTo, CallsTo, Does, Means, Stand, StopTo, StopsTo, finish, submit}
use Rattle.mp_run.specs.Draining.{EachStops, EachTo, RoundTo, Rounds, RoundsDo, RoundsStop, RoundsTo, SendStops, Sends, SendsEach, SendsTo, round_said}

-- What was done with the first of these requests; the rest goes on from here.
pub record SentSoFar (w : Means) (all rest : List RequestView) (any : Bool) (p now : Stand) : Type 0 where
  pub on : (more : Bool) (q : Stand) → EachTo w rest more now q → EachTo w all (any || more) p q
  pub stops : (q : Stand) → EachStops w rest now q → EachStops w all p q

pub sent_first : (w : Means) (all : List RequestView) (p : Stand) → SentSoFar w all all false p p
sent_first w all p = record { on = λ more q e. e; stops = λ q e. e }

or_assoc : (a b c : Bool) → (a || (b || c)) ≡ ((a || b) || c)
or_assoc true b c = refl
or_assoc false b c = refl

or_last : (a : Bool) → (a || false) ≡ a
or_last true = refl
or_last false = refl

sends_ok : (result : Result Bool Halt) (sent : Bool) (w : Means) (r : RequestView) (p q : Stand) → result ≡ Ok sent → Sends result w r p q → SendsTo w r sent p q
sends_ok result sent w r p q is s = subst (λ (z : Result Bool Halt). Sends z w r p q) is s

pub sent_next : (result : Result Bool Halt) (w : Means) (all now rest : List RequestView) (r : RequestView) (any sent : Bool) (p here q : Stand) → SentSoFar w all now any p here → now ≡ r ∷ rest → result ≡ Ok sent → Sends result w r here q
    → SentSoFar w all rest (any || sent) p q
sent_next result w all now rest r any sent p here q so is ok s =
    let to : SendsTo w r sent here q = sends_ok result sent w r here q ok s in
    record {
      on = λ more t e.
          let whole : EachTo w (r ∷ rest) (sent || more) here t = (q, sent, more, to, e, refl) in
          subst (λ (b : Bool). EachTo w all b p t) (or_assoc any sent more) (so.on (sent || more) t (subst (λ (rs : List RequestView). EachTo w rs (sent || more) here t) (sym is) whole));
      stops = λ t e.
          let whole : EachStops w (r ∷ rest) here t = inr (q, sent, to, e) in
          so.stops t (subst (λ (rs : List RequestView). EachStops w rs here t) (sym is) whole);
    }

pub sent_all : (w : Means) (all rest : List RequestView) (any : Bool) (p now : Stand) → SentSoFar w all rest any p now → rest ≡ [] → EachTo w all any p now
sent_all w all rest any p now so none =
    let nothing : EachTo w [] false now now = (refl, refl) in
    subst (λ (b : Bool). EachTo w all b p now) (or_last any) (so.on false now (subst (λ (rs : List RequestView). EachTo w rs false now now) (sym none) nothing))

pub sent_err : (result : Result Bool Halt) (h : Halt) (w : Means) (all now rest : List RequestView) (r : RequestView) (any : Bool) (p here q : Stand) → SentSoFar w all now any p here → now ≡ r ∷ rest → result ≡ Err h → Sends result w r here q
    → SendsEach (Err h) w all p q
sent_err result halt.Spent w all now rest r any p here q so is err s =
    let stop : SendStops w r here q = subst (λ (z : Result Bool Halt). Sends z w r here q) err s in
    let whole : EachStops w (r ∷ rest) here q = inl stop in
    so.stops q (subst (λ (rs : List RequestView). EachStops w rs here q) (sym is) whole)
sent_err result halt.NoMemory w all now rest r any p here q so is err s = tt

-- ---- one request

pub submit_ok : {T : Type 0} (result : Result T Halt) (y : T) (w : Means) (r : RequestView) (p q : Stand) → result ≡ Ok y → Does result (CallTo w (submit r) p q) (StopTo w (submit r) p q) → CallTo w (submit r) p q
submit_ok result y w r p q is d = subst (λ z. Does z (CallTo w (submit r) p q) (StopTo w (submit r) p q)) is d

pub submit_err : {T : Type 0} (result : Result T Halt) (h : Halt) (w : Means) (r : RequestView) (p q : Stand) → result ≡ Err h → Does result (CallTo w (submit r) p q) (StopTo w (submit r) p q) → Sends (Err h) w r p q
submit_err result halt.Spent w r p q is d = inl (subst (λ z. Does z (CallTo w (submit r) p q) (StopTo w (submit r) p q)) is d)
submit_err result halt.NoMemory w r p q is d = tt

pub finish_ok : {T : Type 0} (result : Result T Halt) (y : T) (w : Means) (p q : Stand) → result ≡ Ok y → Does result (CallsTo w (map finish p.desk.flying) p q) (StopsTo w (map finish p.desk.flying) p q) → CallsTo w (map finish p.desk.flying) p q
finish_ok result y w p q is d = subst (λ z. Does z (CallsTo w (map finish p.desk.flying) p q) (StopsTo w (map finish p.desk.flying) p q)) is d

pub finish_err : {T : Type 0} (result : Result T Halt) (h : Halt) (w : Means) (r : RequestView) (p mid q : Stand) → CallTo w (submit r) p mid → result ≡ Err h
    → Does result (CallsTo w (map finish mid.desk.flying) mid q) (StopsTo w (map finish mid.desk.flying) mid q) → Sends (Err h) w r p q
finish_err result halt.Spent w r p mid q to is d = inr (mid, to, subst (λ z. Does z (CallsTo w (map finish mid.desk.flying) mid q) (StopsTo w (map finish mid.desk.flying) mid q)) is d)
finish_err result halt.NoMemory w r p mid q to is d = tt

-- ---- rounds

-- what was done with the list in a round
pub round_err : (result : Result Bool Halt) (h : Halt) (w : Means) (list after : List RequestView) (p s q : Stand) → s ≡ round_said list p → result ≡ Err h → SendsEach result w list s q → Rounds (Err h) w list after p q
round_err result halt.Spent w list after p s q said is d =
    subst (λ (z : Stand). EachStops w list z q) said (subst (λ (z : Result Bool Halt). SendsEach z w list s q) is d)
round_err result halt.NoMemory w list after p s q said is d = tt

pub round_ok : (result : Result Bool Halt) (any : Bool) (w : Means) (list : List RequestView) (p s q : Stand) → s ≡ round_said list p → result ≡ Ok any → SendsEach result w list s q → EachTo w list any (round_said list p) q
round_ok result any w list p s q said is d =
    subst (λ (z : Stand). EachTo w list any z q) said (subst (λ (z : Result Bool Halt). SendsEach z w list s q) is d)

-- What was done in the first rounds; the rest go on from here.
pub record RoundsSoFar (w : Means) (most rest : ℕ) (first any : Bool) (list now : List RequestView) (p here : Stand) : Type 0 where
  pub on : (after : List RequestView) (q : Stand) → RoundsTo w rest any now after here q → RoundsTo w most first list after p q
  pub stops : (q : Stand) → RoundsStop w rest any now here q → RoundsStop w most first list p q

pub rounds_next : (result : Result Bool Halt) (w : Means) (most rest less : ℕ) (first any more : Bool) (list now next : List RequestView) (p here q : Stand) → RoundsSoFar w most rest first any list now p here → rest ≡ suc less → any ≡ true
    → result ≡ Ok more → Rounds result w now next here q → RoundsSoFar w most less first more list next p q
rounds_next result w most rest less first any more list now next p here q so is sent ok d =
    let to : RoundTo w more now next here q = subst (λ (z : Result Bool Halt). Rounds z w now next here q) ok d in
    record {
      on = λ after t e.
          let whole : RoundsTo w (suc less) true now after here t = (q, more, next, to, e) in
          so.on after t (subst (λ (n : ℕ). RoundsTo w n any now after here t) (sym is) (subst (λ (b : Bool). RoundsTo w (suc less) b now after here t) (sym sent) whole));
      stops = λ t e.
          let whole : RoundsStop w (suc less) true now here t = inr (q, more, next, to, e) in
          so.stops t (subst (λ (n : ℕ). RoundsStop w n any now here t) (sym is) (subst (λ (b : Bool). RoundsStop w (suc less) b now here t) (sym sent) whole));
    }

-- no request was sent by the last round
pub rounds_over : (w : Means) (most rest : ℕ) (first any : Bool) (list now : List RequestView) (p here : Stand) → RoundsSoFar w most rest first any list now p here → any ≡ false → RoundsTo w most first list now p here
rounds_over w most rest first any list now p here so off =
    let nothing : RoundsTo w rest false now now here here = none rest in
    so.on now here (subst (λ (b : Bool). RoundsTo w rest b now now here here) (sym off) nothing)
  where
    none : (n : ℕ) → RoundsTo w n false now now here here
    none zero = (refl, refl)
    none (suc n) = (refl, refl)

-- no round is left
pub rounds_last : (w : Means) (most rest : ℕ) (first any : Bool) (list now : List RequestView) (p here : Stand) → RoundsSoFar w most rest first any list now p here → rest ≡ 0 → RoundsTo w most first list now p here
rounds_last w most rest first any list now p here so none =
    so.on now here (subst (λ (n : ℕ). RoundsTo w n any now now here here) (sym none) (last any))
  where
    last : (b : Bool) → RoundsTo w 0 b now now here here
    last true = (refl, refl)
    last false = (refl, refl)

-- units were short in a round
pub rounds_err : (T : Type 0) (result : Result Bool Halt) (h : Halt) (w : Means) (most rest less : ℕ) (first any : Bool) (list now next after : List RequestView) (p here q : Stand) → RoundsSoFar w most rest first any list now p here → rest ≡ suc less → any ≡ true
    → result ≡ Err h → Rounds result w now next here q → RoundsDo {T = T} (Err h) w most first list after p q
rounds_err T result halt.Spent w most rest less first any list now next after p here q so is sent err d =
    let stop : EachStops w now (round_said now here) q = subst (λ (z : Result Bool Halt). Rounds z w now next here q) err d in
    let whole : RoundsStop w (suc less) true now here q = inl stop in
    so.stops q (subst (λ (n : ℕ). RoundsStop w n any now here q) (sym is) (subst (λ (b : Bool). RoundsStop w (suc less) b now here q) (sym sent) whole))
rounds_err T result halt.NoMemory w most rest less first any list now next after p here q so is sent err d = tt
