use Rattle.nd_rest.proofs.Moving.{Laws}
use Rattle.nd_rest.proofs.Ends.{one_end, rest_has_passed, rest_has_finished}
use Rattle.nd_rest.proofs.Bound.{moves_end}
use Rattle.nd_rest.proofs.Stuck.{end_is_there}
use Rattle.nd_rest.proofs.laws.order_does_not_matter.Goals as goal

pub returns : goal.returns
returns g c =
    let laws : Laws g.row.A.Denot = record {
      state = c.steps_keep_protocol.ensures.state;
      keeps = c.steps_keep_protocol.ensures.protocol;
      last = c.protocol_is_safe.ensures.last;
      passed = c.protocol_is_safe.ensures.passed;
      before = c.protocol_is_safe.ensures.before;
      strictly = c.order_is_transitive.ensures.strictly;
      could = c.order_is_transitive.ensures.could;
    } in
    record { end = one_end laws; passed = rest_has_passed laws; finished = rest_has_finished laws; moves = moves_end laws; there = end_is_there laws }
