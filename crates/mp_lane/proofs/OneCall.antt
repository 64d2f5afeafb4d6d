-- Lines of one call.
use Rattle.std.proofs.Common.{◌≡◌, ◌⊎◌, [], ◌∷◌, append-nil, inr, refl, sym, ◌∙◌, subst}
use Rattle.std.specs.Prelude.{Result, Ok, Err}
use Rattle.mp_words.specs.RequestView.{RequestView}
use Rattle.mp_desk.specs.declared.halt.Halt.{Halt}
use Rattle.mp_desk.specs.declared.halt.Halt.TheVariants as halt
use Rattle.mp_desk.specs.DeskView.{DeskView, noting}
use Rattle.mp_desk.specs.Calls.{DeskCall, Means, Stand, BreakTo, BreaksTo, CallTo, CallsTo, StopTo, StopsTo, Does, DoesNothing, IfWant, bare, submit}
use Rattle.mp_lane.specs.Steps.{Told}

-- one call is a line of one
pub one : {T : Type 0} (result : Result T Halt) (w : Means) (c : DeskCall) (p q : Stand) (Untold : Type 0) → Does result (CallTo w c p q) (StopTo w c p q) → IfWant result (BreakTo w c p q) → Told result (CallsTo w (c ∷ []) p q) (StopsTo w (c ∷ []) p q) (Untold ⊎ BreaksTo w (c ∷ []) p q)
one (Ok x) w c p q Untold h b = (q, h, refl)
one (Err halt.Spent) w c p q Untold h b = record { before = []; stopped = c; behind = []; split = refl; mid = p; done = refl; stops = h }
one (Err halt.NoMemory) w c p q Untold h b = inr (record { before = []; broken = c; behind = []; split = refl; mid = p; done = refl; breaks = b })

pub silent : (d : DeskView) → noting [] d ≡ d
silent d = λ i. record d { events = append-nil d.events i }

-- and says nothing before
pub one_silent : {T : Type 0} (result : Result T Halt) (w : Means) (c : DeskCall) (p q : Stand) → Does result (CallTo w c p q) (StopTo w c p q) → IfWant result (BreakTo w c p q)
    → Told result (CallsTo w (c ∷ []) (record p { desk = noting [] p.desk }) q) (StopsTo w (c ∷ []) (record p { desk = noting [] p.desk }) q) (DoesNothing p q ⊎ BreaksTo w (c ∷ []) (record p { desk = noting [] p.desk }) q)
one_silent result w c p q h b = subst (λ (d : DeskView). Told result (CallsTo w (c ∷ []) (record p { desk = d }) q) (StopsTo w (c ∷ []) (record p { desk = d }) q) (DoesNothing p q ⊎ BreaksTo w (c ∷ []) (record p { desk = d }) q)) (sym (silent p.desk)) (one result w c p q (DoesNothing p q) h b)

-- a request is submitted whatever its room
pub any_room : {T : Type 0} (result : Result T Halt) (w : Means) (r s : RequestView) (p q : Stand) → bare r ≡ bare s → Does result (CallTo w (submit r) p q) (StopTo w (submit r) p q) → Does result (CallTo w (submit s) p q) (StopTo w (submit s) p q)
any_room (Ok x) w r s p q same h =
    let g = h.goes in
    record { enough = h.enough; goes = record { before = g.before; after = g.after; answer = g.answer; made = g.made; same = g.same ∙ same; submits = g.submits; desk = g.desk; keeper = g.keeper } }
any_room (Err halt.Spent) w r s p q same h = h
any_room (Err halt.NoMemory) w r s p q same h = tt
