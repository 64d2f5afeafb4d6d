-- A failover from its parts.
use Rattle.std.proofs.Common.{◌≡◌, ◌∙◌, ℕ, ◌≤◌, true, List, length, Option, Some, sym, subst}
use Rattle.mp_words.specs.declared.answers.Answer.{Answer}
use Rattle.mp_words.specs.declared.flight.Flight.{Flight}
use Rattle.mp_words.specs.declared.op.Maker.{Maker}
use Rattle.mp_words.specs.declared.note.Note.{Note}
use Rattle.mp_words.specs.declared.trying.Back.{Back}
use Rattle.mp_words.specs.Request.{ended_tries}
use Rattle.mp_words.specs.RequestView.{RequestView}
use Rattle.mp_status.specs.declared.class.Class.{Class}
use Rattle.mp_status.specs.declared.class.Class.TheVariants as class
use Rattle.mp_core.specs.Core.{Core}
use Rattle.mp_core.specs.Kinds.{Lands}
use Rattle.mp_change.specs.declared.pending.PendingEnd.{PendingEnd}
use Rattle.mp_change.specs.Pending.{MarksPending}
use Rattle.mp_submit.specs.declared.finish.Finished.TheVariants as finished
use Rattle.mp_status.specs.Hop.{class_of_hop}
use Rattle.mp_submit.specs.Finishes.{Finishes, FailsOver, Ended, statuses_of, hop_of, back_of, six_of}

-- the request's last try has the statuses of its hop
pub ended : (before after : RequestView) (six : List ℕ) (count : ℕ) (statuses : List ℕ) (way : Option Back) → six ≡ six_of statuses → count ≡ length statuses → count ≤ 6
    → after.tries ≡ ended_tries six count way before.tries → after.id ≡ before.id → after.node ≡ before.node → Ended before after statuses way
ended before after six count statuses way places number most tries id node = record {
  few = subst (λ n. n ≤ 6) number most;
  tries = tries ∙ (λ i. ended_tries (places i) (number i) way before.tries);
  id = id;
  node = node;
}

pub came_back : (answers : List Answer) (a c b : Core) (f : Flight) (before after : RequestView) (by : Maker) (ending : PendingEnd) (n : Note) (way : Back) (six : List ℕ) (count : ℕ)
    → class_of_hop (statuses_of answers before) ≡ class.Failover true → six ≡ six_of (statuses_of answers before) → count ≡ length (statuses_of answers before) → count ≤ 6 → by ≡ hop_of a.lane before → MarksPending f.slot by a c ending n → back_of ending ≡ Some way
    → Lands c b f → after.tries ≡ ended_tries six count (Some way) before.tries → after.id ≡ before.id → after.node ≡ before.node
    → Finishes answers a b f before after (finished.Back n)
came_back answers a c b f before after by ending n way six count class_is places number most maker marks is lands tries id node = record {
  to = (
    c,
    way,
    subst (λ (k : Class). FailsOver k a c f (hop_of a.lane before) n way) (sym class_is) (ending, subst (λ (m : Maker). MarksPending f.slot m a c ending n) maker marks, is),
    lands,
    ended before after six count (statuses_of answers before) (Some way) places number most tries id node,
  );
}
