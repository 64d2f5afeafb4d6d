use Rattle.std.proofs.Common.{◌≡◌, ◌++◌, ◌∷◌, [], ◌+◌, true, false, get_or, refl, arith, sym, ◌∙◌, append-nil}
use Rattle.std.proofs.lemmas.Result.{on_ok_weaker}
use Rattle.mp_record.specs.NoteText.{row_word}
use Rattle.mp_record.proofs.Joined.{has_items-more, picked, picked_pairs-more, picked_pairs-all, text-more, text-listed}
use Rattle.mp_record.proofs.note_text.put_rows.Goals as goal
use Rattle.mp_record.proofs.note_text.put_rows.Goals.{then-on+in_ok-put_comma+in_ok-put_pair, else-on}

pub loop-i-preserved : goal.loop-i-preserved
loop-i-preserved c =
    let on = c.args.read.now in
    let xs = c.args.slots.now in
    let ys = c.args.rows.now in
    let i = c.loop-i.i in
    let x = c.get-slot.result in
    let d = c.index-slots-i.result in
    let e = c.index-rows-i.result in
    let y = get_or ys i e in
    let old = c.args.text.now.items in
    let sofar = picked on xs ys i in
    elim c.if-on.branch [
      | then-on+in_ok-put_comma+in_ok-put_pair w ↦
          let more : picked on xs ys (i + 1) ≡ sofar ++ (x, y) ∷ [] = picked_pairs-more on xs ys i true x d y e (omega arith) (omega arith) (omega arith) w.if-on.true c.get-slot.ensures.number refl in
          record {
            text = rw (w.text-is, more) (text-more row_word sofar (x, y) old (c.loop-i.text.items) (w.put_comma.new.text.items) (w.put_pair.new.text.items) c.loop-i.further c.loop-i.invariant.text c.loop-i.invariant.further (w.in_ok-put_comma.ensures) (w.in_ok-put_pair.ensures));
            further = rw (w.further-is, more) (sym (has_items-more sofar (x, y)));
          }
      | else-on w ↦
          let more : picked on xs ys (i + 1) ≡ sofar = picked_pairs-more on xs ys i false x d y e (omega arith) (omega arith) (omega arith) w.if-on.false c.get-slot.ensures.number refl ∙ append-nil sofar in
          record {
            text = rw (w.text-is, more) c.loop-i.invariant.text;
            further = rw (w.further-is, more) c.loop-i.invariant.further;
          }
    ]

pub returns : goal.returns
returns c =
    let all = picked_pairs-all c.args.read.now c.args.slots.now c.args.rows.now c.loop-i.i (omega arith) (omega arith) in
    on_ok_weaker c.put_dash.result (λ dash. rw (← all) (text-listed row_word (picked c.args.read.now c.args.slots.now c.args.rows.now c.loop-i.i) (c.args.text.now.items) (c.loop-i.text.items) (c.put_dash.new.text.items) c.loop-i.further c.loop-i.invariant.text c.loop-i.invariant.further dash)) c.put_dash.ensures
