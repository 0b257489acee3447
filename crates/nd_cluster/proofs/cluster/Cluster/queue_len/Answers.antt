use Rattle.std.proofs.Common.{◌≡◌, length, ap, ◌∙◌, arith}
use Rattle.nd_protocol.specs.Fitting.{IsState}
use Rattle.nd_cluster.proofs.cluster.Cluster.queue_len.Goals as goal

pub len-requires-clause-sender : goal.len-requires-clause-sender
len-requires-clause-sender g c =
    let state : IsState c.args.self.now = c.mesh.ensures.state in
    let many : length c.mesh.result.now ≡ length c.args.self.now.processors = ap length c.mesh.ensures.value ∙ state.fits.each_sender in
    omega (arith, many, c.requires.sender)

pub len-requires-clause-receiver : goal.len-requires-clause-receiver
len-requires-clause-receiver g c =
    let state : IsState c.args.self.now = c.mesh.ensures.state in
    let many : length c.mesh.result.now ≡ length c.args.self.now.processors = ap length c.mesh.ensures.value ∙ state.fits.each_sender in
    omega (arith, many, c.requires.receiver)
