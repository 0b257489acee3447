use Rattle.std.proofs.Common.{◌≡◌, ◌<◌, length, refl, subst, ◌∙◌, arith}
use Rattle.nd_mesh.specs.Mesh.{AreVacant}
use Rattle.nd_protocol.specs.State.{queue}
use Rattle.nd_cluster.proofs.CandidatesLemmas.{next_receive, no_receive, no_receives, none_queued}
use Rattle.nd_cluster.proofs.cluster.Cluster.next_sender.Goals as goal

pub returns-then-is_vacant-clause-next : goal.returns-then-is_vacant-clause-next
returns-then-is_vacant-clause-next g c =
    none_queued {A = g.row.A.Denot} c.args.self.now c.args.p (subst AreVacant c.mesh.ensures.value (c.if-is_vacant.ensures.vacant.0 refl)) c.args.from

pub returns-then-queue_len-gt0-clause-next : goal.returns-then-queue_len-gt0-clause-next
returns-then-queue_len-gt0-clause-next g c =
    let s = c.args.self.now in
    let from = c.loop-sender.sender in
    let here : from < length s.processors = omega (arith, c.loop-sender-test.true, c.loop-sender.invariant.end) in
    let some : 0 < length (queue s from c.args.p) = omega (arith, c.if-queue_len-gt0.true, c.queue_len.ensures) in
    (here, c.loop-sender.invariant.same ∙ next_receive {A = g.row.A.Denot} s c.args.p from here some)

pub loop-sender-preserved : goal.loop-sender-preserved
loop-sender-preserved g c =
    let s = c.args.self.now in
    let from = c.loop-sender.sender in
    let here : from < length s.processors = omega (arith, c.loop-sender-test.true, c.loop-sender.invariant.end) in
    let none : length (queue s from c.args.p) ≡ 0 = omega (arith, c.if-queue_len-gt0.false, c.queue_len.ensures) in
    record {
      same = c.loop-sender.invariant.same ∙ no_receive {A = g.row.A.Denot} s c.args.p from here none;
      end = c.loop-sender.invariant.end;
    }

pub returns-clause-next : goal.returns-clause-next
returns-clause-next g c =
    c.loop-sender.invariant.same ∙ no_receives {A = g.row.A.Denot} c.args.self.now c.args.p c.loop-sender.sender (omega (arith, c.loop-sender-test.false, c.loop-sender.invariant.end))
