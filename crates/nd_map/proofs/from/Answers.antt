use Rattle.std.proofs.Common.{refl}
use Rattle.nd_map.proofs.Cuts.{rest_at, rest_gap, listed_rest}
use Rattle.nd_map.proofs.from.Goals as goal

pub returns-in-Ok-clause-value : goal.returns-in-Ok-clause-value
returns-in-Ok-clause-value g c = rest_at g.K.Ord.cmp g.met.K.Ord.total c.args.key.now c.args.entries.now c.in-Ok.i _ refl c.requires c.in-Ok.ensures.found

pub returns-in-Err-clause-value : goal.returns-in-Err-clause-value
returns-in-Err-clause-value g c = rest_gap g.K.Ord.cmp g.met.K.Ord.total c.args.key.now c.args.entries.now c.in-Err.i _ refl c.requires c.in-Err.ensures.absent

pub returns-in-Ok-clause-listed : goal.returns-in-Ok-clause-listed
returns-in-Ok-clause-listed g c = listed_rest g.K.Ord.cmp c.args.entries.now c.in-Ok.i _ refl c.requires

pub returns-in-Err-clause-listed : goal.returns-in-Err-clause-listed
returns-in-Err-clause-listed g c = listed_rest g.K.Ord.cmp c.args.entries.now c.in-Err.i _ refl c.requires
