use Rattle.nd_history.proofs.Steps.{draws}
use Rattle.nd_history.proofs.board.draw.Goals as goal

pub fetch_add-requires : goal.fetch_add-requires
fetch_add-requires c =
    let me = c.args.ticket.now.me in (
      c.requires.word.0,
      c.requires.word.1,
      draws c.args.word.now.key.1 c.args.word.now.table_id.slots c.args.ticket.now.id me.0 me.1 c.requires.allowed,
    )
