use Rattle.std.proofs.Common.{◌≡◌, drop}
use Rattle.nd_reach.specs.Forms.{processor_form, change_form, row_form}
use Rattle.nd_reach.proofs.Written.{to_come}
use Rattle.nd_reach.proofs.form.Form.write.Given as goal

abbrev pub invariant-loop-p : goal.invariant-loop-p
invariant-loop-p g l = to_come processor_form l.bytes.items (drop l.p l.cluster.processors) ≡ to_come processor_form l.initial.bytes.items l.cluster.processors

abbrev pub invariant-loop-q : goal.invariant-loop-q
invariant-loop-q g l = to_come change_form l.bytes.items (drop l.q l.cluster.views) ≡ to_come change_form l.initial.bytes.items l.cluster.views

abbrev pub invariant-loop-from : goal.invariant-loop-from
invariant-loop-from g l = to_come row_form l.bytes.items (drop l.from l.cluster.queues) ≡ to_come row_form l.initial.bytes.items l.cluster.queues
