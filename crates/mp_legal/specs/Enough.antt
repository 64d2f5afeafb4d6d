-- Where units are enough.
use Rattle.std.specs.Prelude.{ℕ, ◌≤◌, ◌-◌, Bool, true, false, List, [], ◌∷◌, sum_by, count_by}
use Rattle.std.specs.List.{list_any}
use Rattle.mp_words.specs.declared.trying.TryEnd.TheVariants.{Sent, Listed, Failed}
use Rattle.mp_record.specs.declared.event.Event.{Event}
use Rattle.mp_record.specs.declared.event.Event.TheVariants.{Sec, At, Try, Fin}
use Rattle.mp_legal.specs.RunCalls.{Called}
use Rattle.mp_legal.specs.Units.{needs, uses}

-- how many units these calls use
abbrev pub units_used : List Called → ℕ
units_used calls = sum_by (λ c. uses c.done c.step) calls

-- So many units pay for these calls: each needs at most what those before it leave.
abbrev pub CanPay : ℕ → List Called → Type 0
CanPay left [] = Unit {0}
CanPay left (c ∷ calls) = (needs c.done ≤ left) × CanPay (left - uses c.done c.step) calls

-- the event is a try that was listed
abbrev pub is_listed : Event → Bool
is_listed (Try req hop Listed) = true
is_listed (Try req hop (Sent slot version)) = false
is_listed (Try req hop Failed) = false
is_listed (At line said) = false
is_listed (Sec note moved) = false
is_listed (Fin req hop statuses count back) = false

-- the call is a try that was listed for want of a usable path
abbrev pub lists : Called → Bool
lists c = list_any is_listed c.step.events

-- how many of these calls are tries that were listed
abbrev pub listings : List Called → ℕ
listings calls = count_by lists calls
