use Rattle.std.proofs.Common.{rules}
use Rattle.std.proofs.lemmas.List.Sorted.{IsNonDecreasingBy-from_sort_by_key}
use Rattle.mp_words.specs.RequestView.{RequestView}
use Rattle.mp_legal.proofs.OnceByNumber.{numbered, still_once}
use Rattle.mp_legal.proofs.in_order.put_in_order.Goals as goal

pub returns-clause-numbered : goal.returns-clause-numbered
returns-clause-numbered c =
    numbered c.sort_by_key.new.self.items
    (IsNonDecreasingBy-from_sort_by_key (λ (r : RequestView). r.id) c.sort_by_key.new.self.items c.in_ok-sort_by_key.ensures.sorted (λ a r q k. search rules))
    (still_once c.args.requests.now.items c.sort_by_key.new.self.items c.sort_by_key.ensures.permutation c.requires)
