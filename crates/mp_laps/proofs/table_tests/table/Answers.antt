use Rattle.std.proofs.Common.{◌≤◌, ℕ, sym, subst, arith}
use Rattle.mp_words.specs.declared.words.Words.{Words}
use Rattle.mp_core.specs.Unpacked.{unpacked}
use Rattle.mp_rule.specs.Lawful.{IsLawful, HasRoom}
use Rattle.mp_plain.specs.Packed.{IsPacked}
use Rattle.mp_plain.proofs.Worked.{two_paths_packed, two_paths_lawful, two_paths_room, worked}
use Rattle.mp_laps.proofs.table_tests.table.Goals as goal

few : (n : ℕ) → n ≤ 1700 → HasRoom worked n
few n l = record { entries = λ x. let r = two_paths_room.entries x in omega arith; rows = λ s. let r = two_paths_room.rows s in omega arith; order = let r = two_paths_room.order in omega arith }

pub make-requires-clause-packed : goal.make-requires-clause-packed
make-requires-clause-packed c = subst IsPacked (sym c.two_paths.ensures) two_paths_packed

pub make-requires-clause-lawful : goal.make-requires-clause-lawful
make-requires-clause-lawful c = subst (λ (w : Words). IsLawful (unpacked w)) (sym c.two_paths.ensures) two_paths_lawful

pub make-requires-clause-room : goal.make-requires-clause-room
make-requires-clause-room c = subst (λ (w : Words). HasRoom (unpacked w) 200) (sym c.two_paths.ensures) (few 200 (omega arith))
