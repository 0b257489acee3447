use Rattle.std.proofs.Common.{◌≤◌, refl, arith}
use Rattle.nd_view.proofs.links.is_strictly_before.Goals as goal

pub returns-then-is_outside-2 : goal.returns-then-is_outside-2
returns-then-is_outside-2 g c =
    let s = c.args.first.now in
    let t = c.args.second.now in
    let later : s.time.epoch ≤ t.time.epoch = omega (arith, c.if-epoch.false, c.epoch.ensures, c.epoch-2.ensures) in
    let could = c.requires c.if-is_epochal.true s t refl refl (c.if-is_outside.ensures.0 refl) (c.if-is_outside-2.ensures.0 refl) later in
    (λ yes. (could, c.differ.ensures.0 yes), λ before. c.differ.ensures.1 before.1)
