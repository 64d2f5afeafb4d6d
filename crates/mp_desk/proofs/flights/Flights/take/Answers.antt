use Rattle.std.proofs.Common.{ap, sym, ◌∙◌, ◌≡◌, ◌++◌, take, drop, suc, set, None, arith}
use Rattle.std.proofs.lemmas.List.{nil_from_length}
use Rattle.mp_desk.specs.Indexed.{flying, flying_of}
use Rattle.mp_desk.proofs.Indexed.{taken-length, placed_none, none_all, within_all, splits, taken}
use Rattle.mp_desk.proofs.flights.Flights.take.Goals as goal
use Rattle.mp_desk.proofs.flights.Flights.take.Goals.{then-self-eq0, else-self-eq0}

pub overflow_sub-self : goal.overflow_sub-self
overflow_sub-self c =
    omega (arith, c.self.invariant.count_is, taken-length c.place_of-place.result c.self.inside.sent.items c.in_ok-taken.taken c.in_ok-taken.ensures.1)

pub invariant_of-self-else-self-eq0 : goal.invariant_of-self-else-self-eq0
invariant_of-self-else-self-eq0 c =
    let sent = c.self.inside.sent.items in
    let n = c.place_of-place.result in
    let took = c.in_ok-taken.ensures in
    let before = ap (λ s. flying_of c.args.named.now (flying (take n s))) (sym c.deref.ensures.value) ∙ c.place_of-place.ensures.before in
    rw (took.2, c.first_behind-self-inside.ensures) (record {
      placed = λ once. placed_none c.self.inside.index 0 n sent (c.self.invariant.placed once);
      before = none_all c.args.named.now c.self.inside.first n sent before c.self.invariant.before;
      within = within_all c.args.named.now c.self.inside.first n sent took.0 c.self.invariant.within;
      count_is = omega (arith, c.self.invariant.count_is, taken-length n sent c.in_ok-taken.taken took.1);
    })

pub returns : goal.returns
returns c =
    let sent = c.self.inside.sent.items in
    let n = c.place_of-place.result in
    let took = c.in_ok-taken.ensures in
    let less = taken-length n sent c.in_ok-taken.taken took.1 in
    let new : c.if-self-eq0.self.flying ≡ flying (take n sent) ++ flying (drop (suc n) sent) =
    elim c.if-self-eq0.branch [
      | then-self-eq0 w ↦
          ap (λ f. f.flying) w.self-is ∙ ap flying w.clear.ensures.items
          ∙ sym (nil_from_length (flying (set sent n None)) (omega (arith, less, c.self.invariant.count_is, w.if-self-eq0.true))) ∙ taken n sent took.0
      | else-self-eq0 w ↦ ap (λ f. f.flying) w.self-is ∙ ap flying took.2 ∙ taken n sent took.0
    ] in
    record {
      before = flying (take n sent);
      after = flying (drop (suc n) sent);
      was = sym (ap (λ f. f.flying) c.self.view_is) ∙ splits n sent c.in_ok-taken.taken took.1;
      is = new;
      none = ap (λ s. flying_of c.args.named.now (flying (take n s))) (sym c.deref.ensures.value) ∙ c.place_of-place.ensures.before;
      named_so = took.3;
    }
