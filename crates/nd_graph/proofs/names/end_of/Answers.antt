use Rattle.std.proofs.Common.{◌∙◌, sym, ap}
use Rattle.std.specs.Str.{bytes_eq}
use Rattle.nd_graph.specs.Checked.{end_of}
use Rattle.nd_graph.proofs.NameLaws.{position-front, position-past, position-nowhere}
use Rattle.nd_graph.proofs.names.end_of.Goals as goal

pub returns-in_err-location : goal.returns-in_err-location
unfolding end_of
returns-in_err-location g c =
    c.from_residual-in_err-location.ensures
    ∙ sym (position-nowhere (λ v. v.name) (bytes_eq c.in_ok-name.name.now) c.args.vertices.now c.args.names.now.keys c.requires (sym c.in_err-location.ensures.index))
    ∙ ap (end_of c.args.vertices.now) c.in_ok-name.ensures.value

pub returns-then-location-vertices : goal.returns-then-location-vertices
unfolding end_of
returns-then-location-vertices g c =
    sym (position-front (λ v. v.name) (bytes_eq c.in_ok-name.name.now) c.args.vertices.now c.args.names.now.keys c.in_ok-location.location
    c.requires (sym c.in_ok-location.ensures.index) c.if-location-vertices.true)
    ∙ ap (end_of c.args.vertices.now) c.in_ok-name.ensures.value

pub returns-else-location-vertices : goal.returns-else-location-vertices
unfolding end_of
returns-else-location-vertices g c =
    sym (position-past (λ v. v.name) (bytes_eq c.in_ok-name.name.now) c.args.vertices.now c.args.names.now.keys c.in_ok-location.location
    c.requires (sym c.in_ok-location.ensures.index) c.if-location-vertices.false)
    ∙ ap (end_of c.args.vertices.now) c.in_ok-name.ensures.value
