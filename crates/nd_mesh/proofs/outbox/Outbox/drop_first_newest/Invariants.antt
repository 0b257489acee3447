use Rattle.std.proofs.Common.{◌≡◌}
use Rattle.nd_mesh.specs.Mesh.{without_newest, first_mapped}
use Rattle.nd_mesh.proofs.outbox.Outbox.drop_first_newest.Given as goal

abbrev pub invariant-loop-to : goal.invariant-loop-to
invariant-loop-to g l = l.self ≡ first_mapped without_newest l.to l.initial.self
