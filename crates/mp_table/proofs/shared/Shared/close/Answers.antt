use Rattle.mp_table.proofs.Ends.{closes}
use Rattle.mp_table.proofs.shared.Shared.close.Goals as goal

pub returns-clause-packed : goal.returns-clause-packed
returns-clause-packed c = (closes c.args.self.table.shared.key c.args.pass.token.seat.id c.args.pass.token.seat.me.0 _ _ c.words_in-words.result c.close_with-closed.ensures.values.2 c.words_in-words.ensures c.args.pass.keeps c.requires.joined c.requires.closed c.requires.landed).0

pub returns-clause-lawful : goal.returns-clause-lawful
returns-clause-lawful c = (closes c.args.self.table.shared.key c.args.pass.token.seat.id c.args.pass.token.seat.me.0 _ _ c.words_in-words.result c.close_with-closed.ensures.values.2 c.words_in-words.ensures c.args.pass.keeps c.requires.joined c.requires.closed c.requires.landed).1.0

pub returns-clause-room : goal.returns-clause-room
returns-clause-room c = (closes c.args.self.table.shared.key c.args.pass.token.seat.id c.args.pass.token.seat.me.0 _ _ c.words_in-words.result c.close_with-closed.ensures.values.2 c.words_in-words.ensures c.args.pass.keeps c.requires.joined c.requires.closed c.requires.landed).1.1

pub returns-clause-told : goal.returns-clause-told
returns-clause-told c = (closes c.args.self.table.shared.key c.args.pass.token.seat.id c.args.pass.token.seat.me.0 _ _ c.words_in-words.result c.close_with-closed.ensures.values.2 c.words_in-words.ensures c.args.pass.keeps c.requires.joined c.requires.closed c.requires.landed).2
