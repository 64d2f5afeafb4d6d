-- The removals that the drain carries.
use Rattle.std.proofs.Common.{[], ◌≡◌, ℕ, suc, List, ◌∷◌, replicate, refl, sym, ap, subst}
use Rattle.std.specs.Prelude.{Result, Ok, Err}
use Rattle.mp_desk.specs.declared.halt.Halt.{Halt}
use Rattle.mp_desk.specs.declared.halt.Halt.TheVariants as halt
use Rattle.mp_desk.specs.Calls.{CallTo, CallsTo, DeskCall, Does, Means, Stand, StopTo, StopsTo, reap}
use Rattle.mp_run.specs.Draining.{ReapsDo}

-- What was done in the first calls; the rest go on from here.
pub record ReapsSoFar (w : Means) (all rest : ℕ) (p here : Stand) : Type 0 where
  pub on : (q : Stand) → CallsTo w (replicate rest reap) here q → CallsTo w (replicate all reap) p q
  pub stops : (q : Stand) → StopsTo w (replicate rest reap) here q → StopsTo w (replicate all reap) p q

stops_later : (w : Means) (c : DeskCall) (cs : List DeskCall) (p r q : Stand) → CallTo w c p r → StopsTo w cs r q → StopsTo w (c ∷ cs) p q
stops_later w c cs p r q to s = record { before = c ∷ s.before; stopped = s.stopped; behind = s.behind; split = ap (λ (ds : List DeskCall). c ∷ ds) s.split; mid = s.mid; done = (r, to, s.done); stops = s.stops }

pub reaps_next : {T : Type 0} (result : Result T Halt) (y : T) (w : Means) (all rest less : ℕ) (p here q : Stand) → ReapsSoFar w all rest p here → rest ≡ suc less → result ≡ Ok y → Does result (CallTo w reap here q) (StopTo w reap here q) → ReapsSoFar w all less p q
reaps_next result y w all rest less p here q so is ok d =
    let to : CallTo w reap here q = subst (λ z. Does z (CallTo w reap here q) (StopTo w reap here q)) ok d in
    record {
      on = λ t e. let whole : CallsTo w (replicate (suc less) reap) here t = (q, to, e) in so.on t (subst (λ (n : ℕ). CallsTo w (replicate n reap) here t) (sym is) whole);
      stops = λ t e. so.stops t (subst (λ (n : ℕ). StopsTo w (replicate n reap) here t) (sym is) (stops_later w reap (replicate less reap) here q t to e));
    }

pub reaps_last : (w : Means) (all rest : ℕ) (p here : Stand) → ReapsSoFar w all rest p here → rest ≡ 0 → CallsTo w (replicate all reap) p here
reaps_last w all rest p here so none = so.on here (subst (λ (n : ℕ). CallsTo w (replicate n reap) here here) (sym none) refl)

pub reaps_err : {T : Type 0} (result : Result T Halt) (U : Type 0) (h : Halt) (w : Means) (all rest less : ℕ) (p here q : Stand) → ReapsSoFar w all rest p here → rest ≡ suc less → result ≡ Err h → Does result (CallTo w reap here q) (StopTo w reap here q)
    → ReapsDo {T = U} (Err h) w all p q
reaps_err result U halt.Spent w all rest less p here q so is err d =
    let stop : StopTo w reap here q = subst (λ z. Does z (CallTo w reap here q) (StopTo w reap here q)) err d in
    let first : StopsTo w (replicate (suc less) reap) here q = record { before = []; stopped = reap; behind = replicate less reap; split = refl; mid = here; done = refl; stops = stop } in
    so.stops q (subst (λ (n : ℕ). StopsTo w (replicate n reap) here q) (sym is) first)
reaps_err result U halt.NoMemory w all rest less p here q so is err d = tt
