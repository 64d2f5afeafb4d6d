use Rattle.mp_desk.proofs.Indexed.{placed_same}
use Rattle.mp_desk.proofs.flights.Flights.reserve.Goals as goal

pub invariant_of-self : goal.invariant_of-self
invariant_of-self c =
    record {
      placed = λ once. placed_same c.self.inside.index c.reserve.new.self 0 c.self.inside.sent.items (c.self.invariant.placed once) c.reserve.ensures.same;
      before = c.self.invariant.before;
      within = c.self.invariant.within;
      count_is = c.self.invariant.count_is;
    }

pub invariant_of-self-2 : goal.invariant_of-self-2
invariant_of-self-2 c =
    rw c.reserve-2.ensures.items (record {
      placed = λ once. placed_same c.self.inside.index c.reserve.new.self 0 c.self.inside.sent.items (c.self.invariant.placed once) c.reserve.ensures.same;
      before = c.self.invariant.before;
      within = c.self.invariant.within;
      count_is = c.self.invariant.count_is;
    })
