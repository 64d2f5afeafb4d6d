use Rattle.std.proofs.Common.{◌≡◌, ◌++◌, ◌∷◌, [], ◌+◌, get_or, arith, sym, ◌∙◌, append-nil, Some, None}
use Rattle.std.proofs.lemmas.Result.{on_ok_weaker}
use Rattle.mp_record.specs.NoteText.{depth_word, loaded_depth}
use Rattle.mp_record.proofs.Joined.{has_items-more, given, given-more, given-all, text-more, text-listed}
use Rattle.mp_record.proofs.note_text.put_depths.Goals as goal
use Rattle.mp_record.proofs.note_text.put_depths.Goals.{in-Some+in_ok-put_comma+in_ok-put_pair, in_default}

pub loop-i-preserved : goal.loop-i-preserved
loop-i-preserved c =
    let xs = c.args.slots.now in
    let ys = c.args.depths.now in
    let i = c.loop-i.i in
    let x = c.get-slot.result in
    let d = c.index-slots-i.result in
    let old = c.args.text.now.items in
    let sofar = given loaded_depth xs ys i in
    elim c.match-depths-i.branch [
      | in-Some+in_ok-put_comma+in_ok-put_pair w ↦
          let depth = w.in-Some.depth in
          let is : get_or ys i None ≡ Some depth = w.in-Some.is in
          let more : given loaded_depth xs ys (i + 1) ≡ sofar ++ (x, depth) ∷ [] = given-more loaded_depth xs ys i x d (Some depth) None (omega arith) (omega arith) c.get-slot.ensures.number (sym is) in
          record {
            text = rw (w.text-is, more) (text-more depth_word sofar (x, depth) old (c.loop-i.text.items) (w.put_comma.new.text.items) (w.put_pair.new.text.items) c.loop-i.further c.loop-i.invariant.text c.loop-i.invariant.further w.in_ok-put_comma.ensures w.in_ok-put_pair.ensures);
            further = rw (w.further-is, more) (sym (has_items-more sofar (x, depth)));
          }
      | in_default w ↦
          let more : given loaded_depth xs ys (i + 1) ≡ sofar = given-more loaded_depth xs ys i x d None None (omega arith) (omega arith) c.get-slot.ensures.number (sym w.in_default.is) ∙ append-nil sofar in
          record {
            text = rw (w.text-is, more) c.loop-i.invariant.text;
            further = rw (w.further-is, more) c.loop-i.invariant.further;
          }
    ]

pub returns : goal.returns
returns c =
    let all = given-all loaded_depth c.args.slots.now c.args.depths.now c.loop-i.i (omega arith) in
    on_ok_weaker c.put_dash.result (λ dash. rw (← all) (text-listed depth_word (given loaded_depth c.args.slots.now c.args.depths.now c.loop-i.i) (c.args.text.now.items) (c.loop-i.text.items) (c.put_dash.new.text.items) c.loop-i.further c.loop-i.invariant.text c.loop-i.invariant.further dash)) c.put_dash.ensures
