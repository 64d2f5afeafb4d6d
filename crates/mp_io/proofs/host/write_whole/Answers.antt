use Rattle.std.proofs.Common.{◌≡◌, ℕ, ◌+◌, ◌-◌, List, Option, take, drop, length, arith, take-add, length-drop, take_all}
use Rattle.std.specs.Io.KnownBytes.{Appends}
use Rattle.std.proofs.KnownBytes.{Appends-trans}
use Rattle.mp_io.proofs.host.write_whole.Goals as goal

-- a front was written, and then the next n of the bytes
written_more : (old now new : Option (List ℕ)) (bytes : List ℕ) (at n : ℕ) → Appends old now (take at bytes)
    → Appends now new (take n (take (length bytes - at) (drop at bytes))) → Appends old new (take (at + n) bytes)
written_more old now new bytes at n before next =
    let rest : take (length bytes - at) (drop at bytes) ≡ drop at bytes = take_all (length bytes - at) (drop at bytes) (omega (arith, length-drop at bytes)) in
    rw (take-add at n bytes) (Appends-trans _ _ _ _ _ before (rw rest at next))

pub writes-preserved : goal.writes-preserved
writes-preserved g c = record {
  within = omega (arith, c.writes.invariant.within, c.in-Ok.ensures.bound, length-drop c.writes.at c.args.bytes.now);
  written = written_more _ _ _ c.args.bytes.now c.writes.at c.in-Ok.n c.writes.invariant.written c.in-Ok.ensures.bytes;
}
