use Rattle.std.proofs.Common.{◌≡◌, ℕ, Bool, List, [], ◌∷◌, None, sym, ap, subst, ◌∙◌}
use Rattle.std.proofs.lemmas.Result.{on_ok_weaker}
use Rattle.nd_time.specs.Time.{Time}
use Rattle.nd_graph.specs.Graph.{Dataflow, op_at}
use Rattle.nd_graph.specs.Operators.{facts}
use Rattle.nd_graph.specs.declared.op.Op.{Op}
use Rattle.nd_paths.specs.declared.point.Pointstamp.{Pointstamp}
use Rattle.nd_protocol.specs.declared.step.Step.{Step}
use Rattle.nd_protocol.specs.declared.step.Step.TheVariants.{Release}
use Rattle.nd_protocol.specs.declared.times.Times.{Times}
use Rattle.nd_cluster.specs.Moves.{AddsPlanned}
use Rattle.nd_cluster.proofs.MovesLemmas.{adds_if, adds_unless}
use Rattle.nd_cluster.proofs.cluster.Cluster.add_releases_at.Goals as goal

-- the release of a capability at a pointstamp, alone
abbrev drops : {A : Type 0} → Pointstamp → ℕ → Times → List (Step A)
drops x p times = Release p x.location times ∷ []

pub returns-then-not-holds : goal.returns-then-not-holds
returns-then-not-holds g c =
    let s = c.args.self.now in
    let x = c.args.point.now in
    let holds : Bool = (facts (op_at s.graph x.location)).holds in
    let same : c.holds.result ≡ holds = c.holds.ensures ∙ ap (λ (o : Op). (facts o).holds) (c.op_at.ensures.op ∙ ap (λ (d : Dataflow). op_at d x.location) c.graph.ensures) in
    let times : Times = record { time = x.time; to = None } in
    let one : List (Step g.row.A.Denot) = Release c.args.p x.location times ∷ [] in
    adds_unless s holds one c.args.moves.now.items (sym same ∙ c.if-not-holds.true)

pub returns : goal.returns
returns g c =
    let s = c.args.self.now in
    let x = c.args.point.now in
    let holds : Bool = (facts (op_at s.graph x.location)).holds in
    let same : c.holds.result ≡ holds = c.holds.ensures ∙ ap (λ (o : Op). (facts o).holds) (c.op_at.ensures.op ∙ ap (λ (d : Dataflow). op_at d x.location) c.graph.ensures) in
    let times : Times = record { time = x.time; to = None } in
    let is : c.in-Ok.times ≡ times = c.in-Ok.ensures ∙ ap (λ (t : Time). record { time = t; to = None }) c.copy.ensures in
    let old = c.args.moves.now.items in
    let new = c.add_move.new.moves.items in
    on_ok_weaker c.add_move.result
    (λ (h : AddsPlanned s (drops x c.args.p c.in-Ok.times) old new). adds_if s holds (drops x c.args.p times) old new (sym same ∙ c.if-not-holds.false) (subst (λ (ts : Times). AddsPlanned s (drops x c.args.p ts) old new) is h))
    c.add_move.ensures
