use Rattle.std.proofs.Common.{◌≡◌, Bool, List, sym, ap, ◌∙◌}
use Rattle.std.proofs.lemmas.Result.{on_ok_weaker}
use Rattle.nd_graph.specs.Graph.{Dataflow, op_at}
use Rattle.nd_graph.specs.Operators.{facts}
use Rattle.nd_graph.specs.declared.op.Op.{Op}
use Rattle.nd_protocol.specs.declared.step.Step.{Step}
use Rattle.nd_cluster.specs.Moves.{AddsPlanned, feeds_into}
use Rattle.nd_cluster.proofs.MovesLemmas.{adds_if, adds_unless}
use Rattle.nd_cluster.proofs.cluster.Cluster.add_feeds_at.Goals as goal

pub returns-then-not-is_input : goal.returns-then-not-is_input
returns-then-not-is_input g c =
    let s = c.args.self.now in
    let fed : Bool = (facts (op_at s.graph c.args.vertex)).fed in
    let same : c.is_input.result ≡ fed = c.is_input.ensures ∙ ap (λ (o : Op). (facts o).fed) (c.op_at.ensures.op ∙ ap (λ (d : Dataflow). op_at d c.args.vertex) c.graph.ensures) in
    adds_unless s fed (feeds_into {A = g.row.A.Denot} c.args.p c.args.vertex) c.args.moves.now.items (sym same ∙ c.if-not-is_input.true)

pub returns : goal.returns
returns g c =
    let s = c.args.self.now in
    let fed : Bool = (facts (op_at s.graph c.args.vertex)).fed in
    let same : c.is_input.result ≡ fed = c.is_input.ensures ∙ ap (λ (o : Op). (facts o).fed) (c.op_at.ensures.op ∙ ap (λ (d : Dataflow). op_at d c.args.vertex) c.graph.ensures) in
    let both : List (Step g.row.A.Denot) = feeds_into c.args.p c.args.vertex in
    on_ok_weaker c.add_feeds_into.result
    (λ (h : AddsPlanned s both c.args.moves.now.items c.add_feeds_into.new.moves.items). adds_if s fed both c.args.moves.now.items c.add_feeds_into.new.moves.items (sym same ∙ c.if-not-is_input.false) h)
    c.add_feeds_into.ensures
