use Rattle.std.proofs.Common.{◌∙◌}
use Rattle.std.proofs.lemmas.Slice.Eq.{slice_eq-Decides}
use Rattle.nd_protocol.proofs.Equality.{points_tell, matched}
use Rattle.nd_protocol.proofs.part.Points.same.Goals as goal

-- src/part.rt:67:5
pub returns : goal.returns
returns g c =
    let these = c.as_slice.result.now in
    let those = c.as_slice-2.result.now in
    matched c.eq.result c.args.self.now c.args.other.now these those (c.as_slice.ensures.value ∙ c.self.view_is) (c.as_slice-2.ensures.value ∙ c.other.view_is)
    (slice_eq-Decides points_tell these those c.eq.result c.eq.ensures)
