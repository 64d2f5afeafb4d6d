use Rattle.std.proofs.Common.{length, refl}
use Rattle.std.proofs.lemmas.List.FromFn.{length-range_with_len}
use Rattle.mp_run.proofs.OpeningSlots.{slots_upto-is}
use Rattle.mp_run.proofs.opening.opening_order.Goals as goal

pub returns : goal.returns
returns c =
    let n = length c.args.topology.now.opening in
    rw (
      c.slot_at.ensures,
      c.slot_at-2.ensures,
      c.slot_at-3.ensures,
      c.slot_at-4.ensures,
      c.slot_at-5.ensures,
      c.slot_at-6.ensures,
      c.slot_at-7.ensures,
      c.slot_at-8.ensures,
      c.len-len.ensures,
      slots_upto-is n c.requires,
      length-range_with_len 0 n,
    ) refl
