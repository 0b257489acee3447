use Rattle.std.proofs.Common.{◌∙◌, ap, sym, arith, [], map, below_more}
use Rattle.std.proofs.lemmas.List.{length-append, length-map}
use Rattle.std.proofs.lemmas.Option.{get_or_from_slice_get, slice_get_within}
use Rattle.std.specs.Str.{bytes_eq}
use Rattle.nd_graph.specs.Graph.{names}
use Rattle.nd_graph.proofs.NameLaws.{position_found, position_none}
use Rattle.nd_graph.proofs.graph.Graph.location_of.Goals as goal

pub returns-then-eq : goal.returns-then-eq
returns-then-eq g c =
    let all = names c.args.self.now in
    let here = get_or_from_slice_get all c.loop-location.location c.location_name.result.now [] c.location_name.ensures in
    sym (position_found (bytes_eq c.args.name.now) all c.loop-location.location []
    (slice_get_within all c.loop-location.location c.location_name.result.now c.location_name.ensures) c.loop-location.invariant
    (ap (bytes_eq c.args.name.now) here ∙ sym c.eq.ensures ∙ c.if-eq.true))

pub returns : goal.returns
returns g c =
    let graph = c.args.self.now in
    let front = map (λ v. v.name) graph.vertices in
    let back = map (λ e. e.name) graph.edges in
    sym (position_none (bytes_eq c.args.name.now) (names graph) []
    (λ k within. c.loop-location.invariant k
    (omega (arith, length-append front back, length-map graph.vertices (λ v. v.name), length-map graph.edges (λ e. e.name), c.location_count-location-end.ensures.count))))

pub loop-location-preserved : goal.loop-location-preserved
loop-location-preserved g c =
    let here = get_or_from_slice_get (names c.args.self.now) c.loop-location.location c.location_name.result.now [] c.location_name.ensures in
    below_more _ _ c.loop-location.invariant (ap (bytes_eq c.args.name.now) here ∙ sym c.eq.ensures ∙ c.if-eq.false)
