use Rattle.std.proofs.Common.{◌≡◌, List, [], length, ap, ◌∙◌, arith}
use Rattle.nd_delta.specs.Delta.{DeltaValue, at}
use Rattle.nd_mesh.specs.Mesh.{queue as queue_in}
use Rattle.nd_protocol.specs.State.{processor, queue}
use Rattle.nd_why.specs.Why.{in_turn, unheard_from}
use Rattle.nd_why.proofs.Turns.{small, turn_more, unheard_more}
use Rattle.nd_why.proofs.news.unheard_at.Goals as goal

pub push_queued-requires-clause-sender : goal.push_queued-requires-clause-sender
push_queued-requires-clause-sender g c =
    let many : length c.mesh.result.now ≡ length c.args.parts.now.processors = ap (λ (m : List (List (List DeltaValue))). length m) c.mesh.ensures ∙ c.requires.state.fits.each_sender in
    omega (arith, many, c.loop-p-test.true, c.n-p-end.ensures)

pub push_queued-requires-clause-receiver : goal.push_queued-requires-clause-receiver
push_queued-requires-clause-receiver g c =
    let many : length c.mesh.result.now ≡ length c.args.parts.now.processors = ap (λ (m : List (List (List DeltaValue))). length m) c.mesh.ensures ∙ c.requires.state.fits.each_sender in
    omega (arith, many, c.requires.q)

pub loop-p-preserved : goal.loop-p-preserved
loop-p-preserved g c =
    let s = c.args.parts.now in
    let p = c.loop-p.p in
    let q = c.args.q in
    let r = c.processor.result.now in
    let b = c.args.point.now in
    let cs = queue_in c.mesh.result.now p q in
    let number : c.get-n.result ≡ at r.unsent b = c.get-n.ensures.value ∙ ap (λ d. at d b) c.unsent.ensures in
    turn_more [] c.loop-p.unheard.items c.push_queued.new.unheard.items (unheard_from p r.unsent cs b) p (λ k. unheard_from k (processor s k).unsent (queue s k q) b) c.loop-p.invariant
    (unheard_more p c.get-n.result r.unsent cs b c.loop-p.unheard.items c.push_unless_zero.new.unheard.items c.push_queued.new.unheard.items number (rw (small c.get-n.result c.get-n.ensures.within) at c.in_ok-push_unless_zero.ensures) c.in_ok-push_queued.ensures)
    (λ i. unheard_from p (c.processor.ensures i).unsent (queue_in (c.mesh.ensures i) p q) b)

pub returns : goal.returns
returns g c =
    let s = c.args.parts.now in
    let all : c.loop-p.p ≡ length s.processors = omega (arith, c.loop-p-test.false, c.n-p-end.ensures) in
    c.loop-p.invariant ∙ ap (λ n. in_turn n (λ k. unheard_from k (processor s k).unsent (queue s k c.args.q) c.args.point.now)) all
