use Rattle.std.proofs.Common.{◌≡◌, take}
use Rattle.nd_protocol.proofs.parts.copied_views.Given as goal

abbrev pub invariant-loop-view : goal.invariant-loop-view
invariant-loop-view g l = l.copied.items ≡ take l.view-index l.views
