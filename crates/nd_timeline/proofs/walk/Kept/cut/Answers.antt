use Rattle.std.proofs.Common.{◌≡◌, ◌≤◌, ◌-◌, length, vec_len, arith, rules}
use Rattle.nd_timeline.proofs.CheckpointLemmas.{are_after_cut, are_front}
use Rattle.nd_timeline.proofs.walk.Kept.cut.Goals as goal

pub loop-last-preserved-in-loop-last : goal.loop-last-preserved-in-loop-last
loop-last-preserved-in-loop-last g c =
    let k = c.args.self.now in
    let cs = c.loop-last.self.checkpoints in
    let counted : length c.loop-last.self.checkpoints.items ≡ vec_len c.loop-last.self.checkpoints = search rules in
    let within : vec_len c.loop-last.self.checkpoints - 1 ≤ length c.loop-last.self.checkpoints.items = omega (arith, counted) in
    record {
      base = c.loop-last.invariant.base;
      steps = c.loop-last.invariant.steps;
      all = rw c.pop-past.ensures.rest (are_front k.base k.steps.items cs.items (vec_len c.loop-last.self.checkpoints - 1) c.loop-last.invariant.all within);
      last = c.last_checkpoint-last-in-loop-last.ensures;
    }

pub returns-clause-checkpoints : goal.returns-clause-checkpoints
returns-clause-checkpoints g c =
    let k = c.args.self.now in
    rw (c.loop-last.invariant.base, c.loop-last.invariant.steps, c.truncate.ensures.items)
    (are_after_cut k.base k.steps.items c.loop-last.self.checkpoints.items c.loop-last.last c.args.at c.loop-last.invariant.all c.loop-last.invariant.last c.loop-last-test.false c.requires.within)
