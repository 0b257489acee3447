use Rattle.std.proofs.Common.{arith}
use Rattle.std.specs.Slots.{slots_items}
use Rattle.nd_history.proofs.Steps.{learns, counts}
use Rattle.nd_history.proofs.board.end_board.Goals as goal

pub free-requires : goal.free-requires
free-requires g c = λ k below. absurd (omega arith)

pub returns-clause-each : goal.returns-clause-each
returns-clause-each g c =
    let closed = c.close_with-closed.result in
    learns c.args.board.shared.key.1 c.args.ticket.id c.args.ticket.me.0 (slots_items closed.words) (slots_items closed.slots) c.word-word.result
    c.close_with-closed.ensures.values.2 c.word-word.ensures c.requires.whole

pub returns-clause-count : goal.returns-clause-count
returns-clause-count g c =
    let closed = c.close_with-closed.result in
    counts c.args.board.shared.key.1 c.args.ticket.id c.args.ticket.me.0 (slots_items closed.words) (slots_items closed.slots) c.word-word.result
    c.close_with-closed.ensures.values.2 c.word-word.ensures c.requires.whole
