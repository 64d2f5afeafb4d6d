use Rattle.std.proofs.Common.{rules, ◌≡◌, ◌≢◌, ◌-◌, ◌<◌, Some, ℕ, arith}
use Rattle.mp_core.specs.Unpacked.{current_in_word}
use Rattle.mp_plain.proofs.Words.{some_word}
use Rattle.mp_table.proofs.unpack.current_of.Goals as goal

-- the slot that a word names
named : (word : ℕ) → word ≢ 0 → ((slot : ℕ) → current_in_word word ≡ Some slot → slot < 15) → word - 1 < 15
named word some low = low (word - 1) (some_word (word - 1) word (omega arith))

pub overflow_cast-word : goal.overflow_cast-word
overflow_cast-word c = let l = named c.args.word c.if-word-eq0.false c.requires in omega arith

pub unwrap-requires : goal.unwrap-requires
unwrap-requires c = let l = named c.args.word c.if-word-eq0.false c.requires in search rules
