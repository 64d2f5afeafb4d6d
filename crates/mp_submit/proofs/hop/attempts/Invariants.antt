use Rattle.std.proofs.Common.{◌≡◌, ℕ, ◌≤◌, ◌++◌, take, length, get_or}
use Rattle.mp_words.specs.Answers.{answer_for}
use Rattle.mp_status.specs.Hop.{hop_statuses, statuses_behind}
use Rattle.mp_submit.proofs.hop.attempts.Given as goal

-- the statuses so far, and those that are left, are the hop's, and the places behind them are 0
abbrev pub invariant-attempts : goal.invariant-attempts
invariant-attempts l =
    (l.hop.count ≡ l.k) × (length l.hop.statuses ≡ 6) × (take l.k l.hop.statuses ++ statuses_behind (answer_for l.answers l.req) l.attempt l.k ≡ hop_statuses (answer_for l.answers l.req) l.attempt) × ((i : ℕ) → l.k ≤ i → get_or l.hop.statuses i 0 ≡ 0)
