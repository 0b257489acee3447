use Rattle.std.proofs.Common.{sym, subst}
use Rattle.nd_view.specs.Kept.{IsFor}
use Rattle.nd_view.specs.Rows.{joined}
use Rattle.nd_view.specs.View.{IsPrecursor, IsCount}
use Rattle.nd_view.proofs.Anew.{are_kept, are_positive, kept_among}
use Rattle.nd_view.proofs.View.count_before.Goals as goal

pub count_before-requires-clause-kept : goal.count_before-requires-clause-kept
count_before-requires-clause-kept g c =
    let d = c.args.paths.now in
    let m = c.self.inside.counts in
    let es = joined c.self.inside.precursor_counts in
    kept_among d m es c.at_location-near.result.now c.at_location-near.ensures.all c.at_location-near.ensures.among (are_kept d m es (subst (IsFor d) (sym c.self.view_is) c.requires))

pub count_before-requires-clause-positive : goal.count_before-requires-clause-positive
count_before-requires-clause-positive g c =
    are_positive c.args.paths.now c.self.inside.counts (joined c.self.inside.precursor_counts) (subst (IsFor c.args.paths.now) (sym c.self.view_is) c.requires)

pub returns : goal.returns
returns g c = subst (λ v. IsCount (IsPrecursor c.args.paths.now v.map c.args.point.now) v.map c.count_before.result) c.self.view_is c.count_before.ensures
