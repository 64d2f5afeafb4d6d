-- How the run text writes an event.
use Rattle.std.specs.Prelude.{ℕ, List, ◌++◌, take, codes, Option, Some, None}
use Rattle.std.specs.List.{flat_map}
use Rattle.mp_words.specs.declared.trying.TryEnd.{TryEnd}
use Rattle.mp_words.specs.declared.trying.TryEnd.TheVariants.{Sent, Listed, Failed}
use Rattle.mp_words.specs.declared.trying.Back.{Back}
use Rattle.mp_words.specs.declared.trying.Back.TheVariants.{Set, Unset}
use Rattle.mp_record.specs.declared.event.Event.{Event}
use Rattle.mp_record.specs.declared.event.Event.TheVariants.{Sec, At, Try, Fin}
use Rattle.mp_record.specs.declared.event.Said.{Said}
use Rattle.mp_record.specs.declared.event.Said.TheVariants.{Submit, Finish, Requeue, Changed, Refused, NotArmed, NoPath, Page, Added, Already, NoSlot, OrderFull, Marked, Idle, Freed, AgainSection, AgainDepth, Policy}
use Rattle.mp_line.specs.Words.{one_number, two_numbers, three_numbers, pair_word, list_word}
use Rattle.mp_record.specs.Words.{grace_word}
use Rattle.mp_words.specs.Names.{status_word, cstate_word, page_check_word}
use Rattle.mp_record.specs.NoteText.{section_line}

-- what a line says of itself
abbrev pub said_word : Said → List ℕ
said_word Submit = codes "submit"
said_word (Finish count) = one_number (codes "finish") count
said_word (Requeue count) = one_number (codes "requeue") count
said_word (Changed slot version) = two_numbers (codes "changed") slot version
said_word (Refused slot version cstate) = two_numbers (codes "refused") slot version ++ codes " " ++ cstate_word cstate
said_word (NotArmed slot version) = two_numbers (codes "not-armed") slot version
said_word (NoPath order) = one_number (codes "no-path") order
said_word (Page kind offset) = codes "page " ++ one_number (page_check_word kind) offset
said_word (Added slot version order) = three_numbers (codes "added") slot version order
said_word (Already slot) = one_number (codes "already") slot
said_word NoSlot = codes "no-slot"
said_word OrderFull = codes "order-full"
said_word (Marked slot version) = two_numbers (codes "marked") slot version
said_word Idle = codes "idle"
said_word (Freed slot version flips) = three_numbers (codes "freed") slot version flips
said_word (AgainSection slot grace side inside) = one_number (codes "again") slot ++ codes " " ++ two_numbers (grace_word grace) side inside
said_word (AgainDepth slot depth) = one_number (codes "again") slot ++ codes " " ++ one_number (codes "depth") depth
said_word (Policy order) = one_number (codes "policy") order

-- how a try ended
abbrev pub end_word : TryEnd → List ℕ
end_word (Sent slot version) = two_numbers (codes "sent") slot version
end_word Listed = codes "listed"
end_word Failed = codes "failed"

-- how a flight came back, with the slot and version where pending was set, or that it is done
abbrev pub back_word : Option Back → List ℕ
back_word None = codes "done"
back_word (Some Unset) = codes "back -"
back_word (Some (Set entry)) = codes "back " ++ pair_word entry.slot entry.row.version

-- the line of an event
abbrev pub event_line : Event → List ℕ
event_line (Sec note moved) = section_line note moved
event_line (At line said) = one_number (codes "at") line ++ codes " " ++ said_word said ++ codes "\n"
event_line (Try req hop end) = two_numbers (codes "try") req hop ++ codes " " ++ end_word end ++ codes "\n"
event_line (Fin req hop statuses count back) =
    two_numbers (codes "fin") req hop ++ codes " " ++ list_word status_word (take count statuses) ++ codes " " ++ back_word back ++ codes "\n"

-- the lines of events
abbrev pub events_text : List Event → List ℕ
events_text events = flat_map event_line events
