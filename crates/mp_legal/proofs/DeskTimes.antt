-- Calls of a desk lose no request.
use Rattle.std.proofs.Common.{◌≡◌, ℕ, zero, suc, ◌+◌, ◌==◌, cond, List, [], ◌∷◌, ◌++◌, count_by, None, sym, ap, ◌∙◌, arith}
use Rattle.std.specs.List.{flat_map, last_or}
use Rattle.std.proofs.lemmas.List.Sums.{sum_by-append, sum_by-cons}
use Rattle.mp_words.specs.declared.answers.Answer.{Answer}
use Rattle.mp_words.specs.declared.entry.RowEntry.{RowEntry}
use Rattle.mp_words.specs.declared.flight.Flight.{Flight}
use Rattle.mp_words.specs.RequestView.{RequestView}
use Rattle.mp_record.specs.declared.event.Event.{Event}
use Rattle.mp_core.specs.Core.{Core}
use Rattle.mp_submit.specs.declared.finish.Finished.{Finished}
use Rattle.mp_submit.specs.declared.finish.Finished.TheVariants as finished
use Rattle.mp_submit.specs.Finishes.{FinishTo}
use Rattle.mp_desk.specs.declared.flying.Flying.{Flying}
use Rattle.mp_desk.specs.DeskView.{DeskView, noting, entering}
use Rattle.mp_desk.specs.Says.{back_in}
use Rattle.mp_desk.specs.Calls.{DeskCall, submit, finish, change, add, remove, set_policy, reap, Means, Stand, CallsTo, GoesTo, After, FlightStays, FlightEnds, ChangeStays, ChangeEnds, RemovalStays, RemovalBegins, at_desk}
use Rattle.mp_legal.specs.ToldDesks.{times, submitted_by}
use Rattle.mp_legal.proofs.DeskFinish.{landed_times, numbered_middle, request_in}
use Rattle.mp_legal.proofs.DeskRequests.{numbered, numbered-append}
use Rattle.mp_legal.proofs.DeskSubmit.{placed_times}

-- how often a number is among these
abbrev pub often : ℕ → List ℕ → ℕ
often req ns = count_by (λ n. n == req) ns

often_one : (req n : ℕ) → often req (n ∷ []) ≡ cond (n == req) 1 0
often_one req n = let e = sum_by-cons (λ (k : ℕ). cond (k == req) 1 0) n [] in e ∙ omega arith

-- a desk to which something was noted, and which made entries
same_times : (req : ℕ) (d e : DeskView) (rows : List RowEntry) (events : List Event) → e ≡ entering rows (noting events d) → times req e ≡ times req d
same_times req d e rows events is = ap (times req) is

noted_times : (req : ℕ) (d e : DeskView) (events : List Event) → e ≡ noting events d → times req e ≡ times req d
noted_times req d e events is = ap (times req) is

-- tries in a row that each leave the requests
after_times : (req : ℕ) (Stays Ends : Stand → Stand → Type 0) → ((a b : Stand) → Stays a b → times req b.desk ≡ times req a.desk) → (more : ℕ) → ((a b : Stand) → Ends a b → times req b.desk ≡ times req a.desk + more)
    → (n : ℕ) (p q : Stand) → After n Stays Ends p q → times req q.desk ≡ times req p.desk + more
after_times req Stays Ends stay more done zero p q to = done p q to
after_times req Stays Ends stay more done (suc n) p q to = after_times req Stays Ends stay more done n to.0 q to.2 ∙ ap (λ k. k + more) (stay p to.0 to.1)

-- the number of a finished request
id_kept : (answers : List Answer) (a b : Core) (f : Flight) (before after : RequestView) (answer : Finished) → FinishTo answers a b f before after answer → after.id ≡ before.id
id_kept answers a b f before after (finished.Done status) to = to.3.id
id_kept answers a b f before after (finished.Back n) to = to.4.id
id_kept answers a b f before after (finished.Moved g row n) to = ap (λ (r : RequestView). r.id) to.3

flight_ends : (w : Means) (f : Flying) (req : ℕ) (p q : Stand) → FlightEnds w f p q → times req q.desk ≡ times req p.desk + cond (f.request.id == req) 1 0
flight_ends w f req p q s =
    let id = id_kept w.answers p.core q.core f.flight f.request s.after s.answer s.finishes.to in
    ap (times req) s.desk ∙ landed_times s.after (back_in (last_or None s.after.tries)) _ req ∙ ap (λ (n : ℕ). times req p.desk + cond (n == req) 1 0) id

-- a flight that is taken leaves the desk with one request less
taken_times : (req : ℕ) (before after : List Flying) (f : Flying) (d e : DeskView) → d.flying ≡ before ++ f ∷ after → e ≡ record d { flying = before ++ after } → times req d ≡ times req e + cond (f.request.id == req) 1 0
taken_times req before after f d e was is =
    let all = ap (numbered request_in req) was ∙ numbered_middle req before f after in
    let rest = numbered-append request_in req before after in
    let less : times req e ≡ times req (record d { flying = before ++ after }) = ap (times req) is in
    sum (numbered request_in req d.flying) (numbered request_in req before) (cond (f.request.id == req) 1 0) (numbered request_in req after) (numbered request_in req (before ++ after)) (numbered (λ (r : RequestView). r) req d.out) (numbered (λ (r : RequestView). r) req d.ended) (times req e) all rest less
  where
    sum : (n x c y k o e t : ℕ) → n ≡ x + (c + y) → k ≡ x + y → t ≡ k + (o + e) → n + (o + e) ≡ t + c
    sum n x c y k o e t a b d = omega (arith, a, b, d)

nothing : (n : ℕ) → n ≡ n + 0
nothing n = omega arith

pub call_times : (w : Means) (c : DeskCall) (p q : Stand) (req : ℕ) → GoesTo w c p q → times req q.desk ≡ times req p.desk + often req (submitted_by c)
call_times w (submit r) p q req to =
    let id : to.after.id ≡ r.id = to.submits.id ∙ ap (λ (z : RequestView). z.id) to.same in
    ap (times req) to.desk ∙ placed_times p.core.lane to.after to.made.end _ req ∙ ap (λ (n : ℕ). times req p.desk + cond (n == req) 1 0) id ∙ ap (λ (n : ℕ). times req p.desk + n) (sym (often_one req r.id))
call_times w (finish f) p q req to =
    let t = to.1 in
    let back = after_times req (FlightStays w f) (FlightEnds w f) (λ a b s. noted_times req a.desk b.desk _ s.desk) (cond (f.request.id == req) 1 0) (flight_ends w f req) to.0 (at_desk t.desk p) q t.goes in
    back ∙ sym (taken_times req t.takes.before t.takes.after f p.desk t.desk t.takes.was t.takes.is) ∙ nothing (times req p.desk)
call_times w (change ctrl o) p q req to =
    after_times req (ChangeStays w ctrl o) (ChangeEnds w ctrl o) (λ a b s. noted_times req a.desk b.desk _ s.desk) 0 (λ a b s. same_times req a.desk b.desk _ _ s.desk ∙ nothing (times req a.desk)) to.0 p q to.1
call_times w (add gift) p q req to = same_times req p.desk q.desk _ _ to.desk ∙ nothing (times req p.desk)
call_times w (remove ctrl) p q req to =
    after_times req (RemovalStays w ctrl) (RemovalBegins w ctrl) (λ a b s. ap (times req) s.desk) 0 (λ a b s. same_times req a.desk b.desk _ _ s.desk ∙ nothing (times req a.desk)) to.0 p q to.1
call_times w (set_policy policy) p q req to = noted_times req p.desk q.desk _ to.desk ∙ nothing (times req p.desk)
call_times w reap p q req to = same_times req p.desk q.desk _ _ to.desk ∙ nothing (times req p.desk)

often_append : (req : ℕ) (ms ns : List ℕ) → often req (ms ++ ns) ≡ often req ms + often req ns
often_append req ms ns = sum_by-append (λ (k : ℕ). cond (k == req) 1 0) ms ns

pub calls_times : (w : Means) (cs : List DeskCall) (p q : Stand) → CallsTo w cs p q → (req : ℕ) → times req q.desk ≡ times req p.desk + often req (flat_map submitted_by cs)
calls_times w [] p q to req = ap (λ (z : Stand). times req z.desk) to ∙ nothing (times req p.desk)
calls_times w (c ∷ cs) p q to req =
    let one = call_times w c p to.0 req to.1.goes in
    let rest = calls_times w cs to.0 q to.2 req in
    let both = often_append req (submitted_by c) (flat_map submitted_by cs) in
    sum (times req p.desk) (times req to.0.desk) (times req q.desk) (often req (submitted_by c)) (often req (flat_map submitted_by cs)) (often req (flat_map submitted_by (c ∷ cs))) one rest both
  where
    sum : (a b c m n k : ℕ) → b ≡ a + m → c ≡ b + n → k ≡ m + n → c ≡ a + k
    sum a b c m n k e f g = omega (arith, e, f, g)
