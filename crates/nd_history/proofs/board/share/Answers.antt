use Rattle.nd_history.proofs.Steps.{deals}
use Rattle.nd_history.proofs.board.share.Goals as goal

pub split_seat-requires : goal.split_seat-requires
split_seat-requires c = (
  c.requires.word.0,
  c.requires.word.1,
  deals c.args.word.now.key.1 c.args.ticket.now.id c.args.ticket.now.me.0 c.requires.allowed,
)
