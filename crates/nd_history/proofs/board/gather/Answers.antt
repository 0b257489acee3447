use Rattle.nd_history.proofs.Steps.{merges}
use Rattle.nd_history.proofs.board.gather.Goals as goal

pub join_seat-requires : goal.join_seat-requires
join_seat-requires c = (
  c.requires.word.0,
  c.requires.other.0,
  c.requires.other.1,
  c.requires.word.1,
  merges c.args.word.now.key.1 c.args.ticket.now.id c.args.ticket.now.me.0 c.args.other.id c.args.other.me.0,
)
