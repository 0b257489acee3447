use Rattle.std.proofs.lemmas.Bool.Decides.{Decides-int_eq}
use Rattle.std.proofs.lemmas.Slice.Eq.{slice_eq-Decides}
use Rattle.nd_protocol.proofs.Equality.{matched}
use Rattle.nd_protocol.proofs.values.Values.same.Goals as goal

pub returns : goal.returns
returns g c =
    let these = c.as_slice.result.now in
    let those = c.as_slice-2.result.now in
    matched c.eq.result c.args.self.now c.args.other.now these those c.as_slice.ensures c.as_slice-2.ensures
    (slice_eq-Decides Decides-int_eq these those c.eq.result c.eq.ensures)
