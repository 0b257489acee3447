use Rattle.std.proofs.Common.{◌≡◌, ◌<◌, ◌≤◌, ◌+◌, ◌-◌, length, List, sym, ap, subst, ◌∙◌, arith}
use Rattle.std.specs.List.{flat_map, range_with_len}
use Rattle.nd_protocol.specs.declared.step.Step.{Step}
use Rattle.nd_steps.specs.declared.record.Record.{Record}
use Rattle.nd_graph.specs.Graph.{Dataflow}
use Rattle.nd_cluster.specs.Moves.{AddsPlanned, feeds_at}
use Rattle.nd_cluster.proofs.CandidatesLemmas.{next_of, none_left}
use Rattle.nd_cluster.proofs.MovesLemmas.{adds_none, adds_both}
use Rattle.nd_cluster.proofs.cluster.Cluster.add_feeds_of.Goals as goal

pub loop-vertex-init : goal.loop-vertex-init
loop-vertex-init g c =
    let s = c.args.self.now in
    let end = (length c.vertices-vertex-end.result.now) in
    let all : end - 0 ≡ length s.graph.vertices = omega (arith, (ap length c.vertices-vertex-end.ensures.vertices ∙ ap (λ (d : Dataflow). length d.vertices) c.graph.ensures)) in
    record {
      adds = λ new rest. subst (λ n. AddsPlanned {A = g.row.A.Denot} s (flat_map (feeds_at s c.args.p) (range_with_len 0 n)) c.args.moves.now.items new) all rest;
      end = (ap length c.vertices-vertex-end.ensures.vertices ∙ ap (λ (d : Dataflow). length d.vertices) c.graph.ensures);
    }

pub loop-vertex-preserved : goal.loop-vertex-preserved
loop-vertex-preserved g c =
    let s = c.args.self.now in
    let k = c.loop-vertex.vertex in
    let end = (length c.vertices-vertex-end.result.now) in
    let more : k < end = omega (arith, c.loop-vertex-test.true) in
    let here : List (Record g.row.A.Denot) = c.loop-vertex.moves.items in
    let rest : List (Step g.row.A.Denot) = flat_map (feeds_at s c.args.p) (range_with_len (k + 1) (end - (k + 1))) in
    record {
      adds = λ new later. c.loop-vertex.invariant.adds new
          (subst (λ (xs : List (Step g.row.A.Denot)). AddsPlanned s xs here new) (sym (next_of (feeds_at s c.args.p) k end more))
          (adds_both s here c.add_feeds_at.new.moves.items new (feeds_at s c.args.p k) rest c.in_ok-add_feeds_at.ensures later));
      end = c.loop-vertex.invariant.end;
    }

pub returns : goal.returns
returns g c =
    let s = c.args.self.now in
    let end = (length c.vertices-vertex-end.result.now) in
    let all : end ≤ c.loop-vertex.vertex = omega (arith, c.loop-vertex-test.false) in
    let here : List (Record g.row.A.Denot) = c.loop-vertex.moves.items in
    c.loop-vertex.invariant.adds here (subst (λ (xs : List (Step g.row.A.Denot)). AddsPlanned s xs here here) (sym (none_left (feeds_at s c.args.p) c.loop-vertex.vertex end all)) (adds_none s here))
