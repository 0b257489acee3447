use Rattle.std.proofs.Common.{◌≡◌, ◌++◌}
use Rattle.nd_mesh.specs.Mesh.{queue}
use Rattle.nd_why.specs.Why.{in_turn, queued_behind}
use Rattle.nd_why.proofs.news.push_queued.Given as goal

abbrev pub invariant-loop-behind : goal.invariant-loop-behind
invariant-loop-behind g l = l.unheard.items ≡ l.initial.unheard.items ++ in_turn l.behind (queued_behind l.p (queue l.mesh l.p l.q) l.point)
