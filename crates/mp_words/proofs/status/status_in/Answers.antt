use Rattle.std.proofs.Common.{◌<◌, ◌+◌, ◌*◌, arith}
use Rattle.mp_words.proofs.Hex.{hex_fits}
use Rattle.mp_words.proofs.status.status_in.Goals as goal

pub overflow_add-status : goal.overflow_add-status
overflow_add-status c =
    let fits : c.loop-b.status * 16 + c.hex_value.result < 65536 =
    hex_fits c.loop-b.b-index c.loop-b.status c.hex_value.result (omega (arith, c.loop-b-test.true, c.if-word-ne4.false)) c.loop-b.invariant.small c.hex_value.ensures.below in
    omega (arith, fits)
