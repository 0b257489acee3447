use Rattle.nd_map.proofs.Cuts.{take_at, take_gap}
use Rattle.nd_map.proofs.up_to.Goals as goal

pub returns-in-Ok-clause-value : goal.returns-in-Ok-clause-value
returns-in-Ok-clause-value g c = take_at g.K.Ord.cmp g.met.K.Ord.total c.args.key.now c.args.entries.now c.in-Ok.i c.requires c.in-Ok.ensures.found

pub returns-in-Err-clause-value : goal.returns-in-Err-clause-value
returns-in-Err-clause-value g c = take_gap g.K.Ord.cmp g.met.K.Ord.total c.args.key.now c.args.entries.now c.in-Err.i c.requires c.in-Err.ensures.absent
