use Rattle.std.proofs.Common.{ap, w64}
use Rattle.std.proofs.lemmas.Int.{to_z-of_z}
use Rattle.nd_view.specs.Kept.{kept_of}
use Rattle.nd_view.specs.Rows.{joined}
use Rattle.nd_view.proofs.Fors.{for_same}
use Rattle.nd_view.proofs.View.stay.Goals as goal

pub returns-clause-paths : goal.returns-clause-paths
returns-clause-paths g c = λ d for.
    for_same d c.put.result c.args.self.now (kept_of c.put.new.self (joined c.self.inside.precursor_counts)) c.args.point.now c.args.n
    (rw (ap (λ v. v.map) c.self.view_is, to_z-of_z w64 c.args.n c.ranges.n) at c.put.ensures.ok)
    (rw (ap (λ v. v.map) c.self.view_is) at c.put.ensures.err)
    (ap (λ v. v.counts) c.self.view_is) c.requires.sign for
