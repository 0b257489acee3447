use Rattle.std.proofs.Common.{sym, ap, subst, ◌∙◌}
use Rattle.std.specs.FinMap.{find}
use Rattle.nd_paths.specs.Point.{point_cmp}
use Rattle.nd_view.specs.Kept.{IsKeptAt}
use Rattle.nd_view.proofs.View.kept.Goals as goal

pub returns : goal.returns
returns g c = λ d for.
    let q = c.args.point.now in
    subst (IsKeptAt d c.args.self.now.map q) (sym (c.get.ensures.value ∙ ap (λ v. find point_cmp q v.counts) c.self.view_is)) (for.each q)
