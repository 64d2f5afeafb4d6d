use Rattle.std.proofs.Common.{ap, sym, ◌∙◌, ◌≡◌, ◌++◌, ◌∷◌, ◌==◌, ℕ, Some, [], false, cond, length, arith}
use Rattle.std.specs.Prelude.{slice_index}
use Rattle.mp_desk.specs.Indexed.{flying, is_at}
use Rattle.mp_desk.proofs.Indexed.{flying-append, flying-length-le, kept_once, kept_twice}
use Rattle.mp_desk.proofs.flights.Flights.push.Goals as goal
use Rattle.mp_desk.proofs.flights.Flights.push.Goals.{then-there, else-there}

pub overflow_add-self : goal.overflow_add-self
overflow_add-self c =
    elim c.if-there.branch [
      | then-there w ↦ omega (arith, ap (λ i. i.count) w.self-inside-is, c.self.invariant.count_is, flying-length-le c.self.inside.sent.items)
      | else-there w ↦ omega (arith, ap (λ i. i.count) w.self-inside-is, c.self.invariant.count_is, flying-length-le c.self.inside.sent.items)
    ]

pub invariant_of-self : goal.invariant_of-self
invariant_of-self c =
    rw c.push_some.ensures (
    elim c.if-there.branch [
      | then-there w ↦ rw w.self-inside-is (kept_twice c.self.inside.index c.self.inside.sent.items c.self.inside.first c.self.inside.count c.self.inside.twice c.args.sent c.self.invariant)
      | else-there w ↦
          let req = c.req-req.ensures in
          let hasnt : is_at c.self.inside.sent.items (slice_index c.self.inside.index c.args.sent.flight.req) (Some c.args.sent.flight.req) ≡ false =
          ap (λ r. is_at c.self.inside.sent.items (slice_index c.self.inside.index r) (Some r)) (sym req) ∙ ap (λ n. is_at c.self.inside.sent.items n (Some c.req-req.result)) (sym c.at.ensures) ∙ ap (λ s. is_at s c.at.result (Some c.req-req.result)) (sym c.deref.ensures.value) ∙ sym c.is_at-there.ensures ∙ w.if-there.false in
          let place : (number : ℕ) → slice_index w.put.new.self number ≡ cond (number == c.args.sent.flight.req) (length c.self.inside.sent.items) (slice_index c.self.inside.index number) =
          λ number. w.put.ensures number ∙ ap (λ r. cond (number == r) c.len-place.result (slice_index c.self.inside.index number)) req ∙ ap (λ n. cond (number == c.args.sent.flight.req) n (slice_index c.self.inside.index number)) (omega (arith, c.len-place.ensures)) in
          rw w.self-inside-is (kept_once c.self.inside.index w.put.new.self c.self.inside.sent.items c.self.inside.first c.self.inside.count c.self.inside.twice c.args.sent c.self.invariant hasnt place)
    ])

pub returns : goal.returns
returns c =
    ap flying c.push_some.ensures ∙ ap (λ s. flying (s ++ Some c.args.sent ∷ [])) (elim c.if-there.branch [ then-there w ↦ ap (λ i. i.sent.items) w.self-inside-is | else-there w ↦ ap (λ i. i.sent.items) w.self-inside-is ])
    ∙ flying-append c.self.inside.sent.items (Some c.args.sent ∷ []) ∙ ap (λ f. f.flying ++ c.args.sent ∷ []) c.self.view_is
