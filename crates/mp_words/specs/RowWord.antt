-- How a row stands in a word of the table.
use Rattle.std.specs.Prelude.{ℕ, ◌+◌, ◌*◌, ◌/◌, ◌%◌, ◌^◌, ◌==◌, ◌<◌, Bool, not, ◌&&◌, ◌||◌, Option, None, Some, if◌then◌else◌}
use Rattle.mp_words.specs.declared.row.Row.{Row}
use Rattle.mp_words.specs.declared.row.CState.{CState}
use Rattle.mp_words.specs.declared.row.CState.TheVariants.{New, Live, Resetting, Connecting, Deleting, DeletingNoio, Dead}
use Rattle.mp_words.specs.Facts.{IsRow}
use Rattle.mp_words.specs.WordBits.{word_bits, has_bit, flag_bit}

-- The number of a controller state in a row's word: new is 0, live 1, resetting 2, connecting 3, deleting 4,
-- deleting-noio 5 and dead 6.
abbrev pub cstate_code : CState → ℕ
cstate_code New = 0
cstate_code Live = 1
cstate_code Resetting = 2
cstate_code Connecting = 3
cstate_code Deleting = 4
cstate_code DeletingNoio = 5
cstate_code Dead = 6

-- The controller state that has this number; above 6 it is dead.
abbrev pub cstate_of : ℕ → CState
cstate_of code =
    if code == 0 then New
    else (if code == 1 then Live
    else (if code == 2 then Resetting
    else (if code == 3 then Connecting
    else (if code == 4 then Deleting
    else (if code == 5 then DeletingNoio
    else Dead)))))

-- The word of a row: bits 0 to 31 are the version, 32 to 37 the controller, 38 to 40 the controller state, 41 to 44 the
-- ANA state, and 45 pending, 46 ready, 47 armed, 48 marked, 49 ana.
abbrev pub row_word : Row → ℕ
row_word row =
    row.version + row.ctrl * 2 ^ 32 + cstate_code row.cstate * 2 ^ 38 + row.state * 2 ^ 41 + flag_bit row.pending * 2 ^ 45
    + flag_bit row.ready * 2 ^ 46 + flag_bit row.armed * 2 ^ 47 + flag_bit row.marked * 2 ^ 48 + flag_bit row.ana * 2 ^ 49

-- The row that the bits of a row's word spell.
abbrev pub row_in : ℕ → Row
row_in word = record {
  version = word % 2 ^ 32;
  ctrl = word_bits 32 6 word;
  cstate = cstate_of (word_bits 38 3 word);
  state = word_bits 41 4 word;
  pending = has_bit 45 word;
  ready = has_bit 46 word;
  armed = has_bit 47 word;
  marked = has_bit 48 word;
  ana = has_bit 49 word;
}

-- The word is no row's: a bit above 49 is set, the controller state is 7, or the ANA state is 0 and another bit from 32
-- on is set.
abbrev pub is_no_row : ℕ → Bool
is_no_row word =
    not (word / 2 ^ 50 == 0) || (word_bits 38 3 word == 7) || ((word_bits 41 4 word == 0) && not (word / 2 ^ 32 == 0))

-- The row that has this word, if one has.
abbrev pub row_of_word : ℕ → Option Row
row_of_word word = if is_no_row word then None else Some (row_in word)

-- The row fits a word: it is one that is stored, its version is below 2^32, and its controller below 64.
pub record FitsRowWord (row : Row) : Type 0 where
  pub stored : IsRow row
  pub version_fits : row.version < 2 ^ 32
  pub ctrl_fits : row.ctrl < 64
