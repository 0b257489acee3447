use Rattle.std.proofs.Common.{◌+◌, ◌*◌, ◌^◌, ℕ, refl, ap}
use Rattle.nd_machine.specs.Seeds.{cut, folded, mix}
use Rattle.nd_machine.proofs.SeedsLemmas.{cut_at_each}
use Rattle.nd_machine.proofs.seeds.mix.Goals as goal

-- the lot of the first number on the way to it
abbrev lot_of : ℕ → ℕ
lot_of z = folded 31 (cut (folded 27 (cut (folded 30 z * 0xbf58476d1ce4e5b9)) * 0x94d049bb133111eb))

pub returns-clause-value : goal.returns-clause-value
unfolding mix
returns-clause-value c = ap lot_of (cut_at_each (2 ^ 64) c.args.seed (c.args.cursor + 1) 0x9e3779b97f4a7c15)

pub returns-clause-known : goal.returns-clause-known
unfolding mix
returns-clause-known c = (refl, refl, refl)
