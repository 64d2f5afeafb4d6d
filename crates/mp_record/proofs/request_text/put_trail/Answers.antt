use Rattle.std.proofs.Common.{◌≡◌, ◌++◌, ◌∷◌, [], ◌+◌, arith, slice_get, slice_index_or, sym, subst, ◌∙◌, append-nil, take_all}
use Rattle.std.specs.Prelude.{IfSome}
use Rattle.std.proofs.lemmas.Result.{on_ok_weaker}
use Rattle.mp_record.specs.RunText.{as_written, try_names, version_name}
use Rattle.mp_record.proofs.Joined.{has_items-more, text-more, text-listed}
use Rattle.mp_record.proofs.Trails.{trail_of, trail-more, unsent}
use Rattle.mp_record.proofs.request_text.put_trail.Goals as goal
use Rattle.mp_record.proofs.request_text.put_trail.Goals.{in-Sent+in_ok-put_comma+in_ok-put_name, in_default}
use Rattle.mp_words.specs.declared.trying.TryEnd.TheVariants.{Sent}

pub loop-place-preserved : goal.loop-place-preserved
loop-place-preserved c =
    let t = c.args.topology.now in
    let rows = c.args.rows.now in
    let tries = c.args.tries.now.items in
    let i = c.loop-place.place in
    let end = c.end_at.result in
    let sofar = trail_of t rows tries i in
    elim c.match-end_at.branch [
      | in-Sent+in_ok-put_comma+in_ok-put_name w ↦
          let slot = w.in-Sent.slot in
          let version = w.in-Sent.version in
          let name = version_name t (slice_get (slice_index_or rows slot []) version) in
          let more : trail_of t rows tries (i + 1) ≡ sofar ++ name ∷ [] = trail-more t rows tries i (Sent slot version) (omega arith) (subst (λ e. IfSome (slice_get tries i) (λ made. e ≡ made.end)) w.in-Sent.is c.end_at.ensures) in
          let after : w.put_name.new.text.items ≡ w.put_comma.new.text.items ++ name = rw w.sent_name.ensures at w.in_ok-put_name.ensures in
          record {
            text = rw (w.text-is, more) (text-more as_written sofar name (c.args.text.now.items) (c.loop-place.text.items) (w.put_comma.new.text.items) (w.put_name.new.text.items) c.loop-place.further c.loop-place.invariant.text c.loop-place.invariant.further w.in_ok-put_comma.ensures after);
            further = rw (w.further-is, more) (sym (has_items-more sofar name));
          }
      | in_default w ↦
          let none : try_names t rows end ≡ [] = unsent t rows end w.in_default.not-Sent in
          let one : trail_of t rows tries (i + 1) ≡ sofar ++ try_names t rows end = trail-more t rows tries i end (omega arith) c.end_at.ensures in
          let more : trail_of t rows tries (i + 1) ≡ sofar = rw none at one ∙ append-nil sofar in
          record {
            text = rw (w.text-is, more) c.loop-place.invariant.text;
            further = rw (w.further-is, more) c.loop-place.invariant.further;
          }
    ]

pub returns : goal.returns
returns c =
    let all = take_all c.loop-place.place c.args.tries.now.items (omega arith) in
    on_ok_weaker c.put_dash.result (λ dash. rw (← all) (text-listed as_written (trail_of c.args.topology.now c.args.rows.now c.args.tries.now.items c.loop-place.place) (c.args.text.now.items) (c.loop-place.text.items) (c.put_dash.new.text.items) c.loop-place.further c.loop-place.invariant.text c.loop-place.invariant.further dash)) c.put_dash.ensures
