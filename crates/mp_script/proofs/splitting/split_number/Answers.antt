use Rattle.std.proofs.Common.{arith}
use Rattle.mp_script.proofs.Pieces.{IsCut, no_word, first_word, behind_word}
use Rattle.mp_script.proofs.splitting.split_number.Goals as goal

pub returns-then-len-eq0-clause-none : goal.returns-then-len-eq0-clause-none
returns-then-len-eq0-clause-none c =
    let cut : IsCut c.args.bytes.now c.split_at.result.1.now c.blanks-start.result c.number_len-len.result.0 = record {
      blank = c.blanks-start.ensures.blank;
      dark = c.blanks-start.ensures.ends;
      is = c.split_at.ensures.back;
      le = c.number_len-len.ensures.within;
      text = c.number_len-len.ensures.word;
      ends = c.number_len-len.ensures.ends;
    } in
    no_word c.args.bytes.now c.split_at.result.1.now c.blanks-start.result c.number_len-len.result.0 cut (omega (arith, c.if-len-eq0.true))

pub returns-clause-word : goal.returns-clause-word
returns-clause-word c =
    let cut : IsCut c.args.bytes.now c.split_at.result.1.now c.blanks-start.result c.number_len-len.result.0 = record {
      blank = c.blanks-start.ensures.blank;
      dark = c.blanks-start.ensures.ends;
      is = c.split_at.ensures.back;
      le = c.number_len-len.ensures.within;
      text = c.number_len-len.ensures.word;
      ends = c.number_len-len.ensures.ends;
    } in
    rw (c.split_at-2.ensures.front, c.split_at-2.ensures.back) (first_word c.args.bytes.now c.split_at.result.1.now c.blanks-start.result c.number_len-len.result.0 cut (omega (arith, c.if-len-eq0.false)))

pub returns-clause-behind : goal.returns-clause-behind
returns-clause-behind c =
    let cut : IsCut c.args.bytes.now c.split_at.result.1.now c.blanks-start.result c.number_len-len.result.0 = record {
      blank = c.blanks-start.ensures.blank;
      dark = c.blanks-start.ensures.ends;
      is = c.split_at.ensures.back;
      le = c.number_len-len.ensures.within;
      text = c.number_len-len.ensures.word;
      ends = c.number_len-len.ensures.ends;
    } in
    rw c.split_at-2.ensures.back (behind_word c.args.bytes.now c.split_at.result.1.now c.blanks-start.result c.number_len-len.result.0 cut)
