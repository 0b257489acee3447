use Rattle.std.proofs.Common.{◌≡◌, pos, sym, ap, subst, ◌∙◌, w64, true, arith}
use Rattle.std.specs.Prelude.{◌<ℤ◌}
use Rattle.std.proofs.lemmas.Int.{to_z-of_z}
use Rattle.std.specs.FinMap.{find, put}
use Rattle.nd_map.specs.Listed.{without}
use Rattle.nd_paths.specs.Point.{point_cmp}
use Rattle.nd_delta.specs.Delta.{at, set, at-set_same}
use Rattle.nd_view.specs.Kept.{IsFor, IsReady, kept_of}
use Rattle.nd_view.specs.Rows.{joined}
use Rattle.nd_view.proofs.Anew.{few_counts}
use Rattle.nd_view.proofs.Fors.{kept_none, taken_out}
use Rattle.nd_view.proofs.Moves.{ready_up}
use Rattle.nd_view.proofs.View.come.Given.{Over}
use Rattle.nd_view.proofs.View.come.Goals as goal

pub put-requires-clause-most : goal.put-requires-clause-most
put-requires-clause-most g c =
    let few = few_counts c.args.paths.now c.self.inside.counts (joined c.self.inside.precursor_counts) (subst (IsFor c.args.paths.now) (sym c.self.view_is) c.requires.paths) in
    omega (arith, few, c.len-most.ensures)

pub put-requires-clause-fresh : goal.put-requires-clause-fresh
put-requires-clause-fresh g c =
    let d = c.args.paths.now in
    let x = c.args.point.now in
    let v = c.args.self.now in
    ap (λ k. find point_cmp x k.counts) c.self.view_is ∙ kept_none d v.map x (find point_cmp x v.counts) (c.requires.paths.each x) c.requires.was

pub shift-requires-clause-ready : goal.shift-requires-clause-ready
shift-requires-clause-ready g c = λ q.
    let d = c.args.paths.now in
    let x = c.args.point.now in
    let v = c.args.self.now in
    let put_is : joined c.put.new.self ≡ put point_cmp x c.count_before-count.result v.counts = rw (ap (λ k. k.counts) c.self.view_is) at c.in_ok-put.ensures.ok in
    let set_is : c.put-2.new.self ≡ set v.map x c.args.n = rw (ap (λ k. k.map) c.self.view_is, to_z-of_z w64 c.args.n c.ranges.n) at c.in-Ok.ensures.ok in
    subst (λ es. IsReady d c.put-2.new.self x true q (find point_cmp q es)) (sym put_is)
    (ready_up v.map c.put-2.new.self x c.args.n set_is d c.count_before-count.result v.counts c.requires.was c.requires.is c.count_before-count.ensures c.requires.paths.each q)

pub shift-requires-clause-up : goal.shift-requires-clause-up
shift-requires-clause-up g c = λ _.
    let x = c.args.point.now in
    let m = c.args.self.now.map in
    let set_is : c.put-2.new.self ≡ set m x c.args.n = rw (ap (λ k. k.map) c.self.view_is, to_z-of_z w64 c.args.n c.ranges.n) at c.in-Ok.ensures.ok in
    subst (λ z. pos 0 <ℤ z) (sym (ap (λ y. at y x) set_is ∙ at-set_same m x c.args.n)) c.requires.is

-- what was put is removed
out : (g : Over) (c : goal.After-remove g) → joined c.remove.new.self ≡ c.args.self.now.counts
out g c =
    let x = c.args.point.now in
    let v = c.args.self.now in
    let put_is : joined c.put.new.self ≡ put point_cmp x c.count_before-count.result v.counts = rw (ap (λ k. k.counts) c.self.view_is) at c.in_ok-put.ensures.ok in
    c.remove.ensures.value ∙ ap (without point_cmp x) put_is ∙ taken_out c.args.paths.now v x c.count_before-count.result c.requires.paths c.requires.was

pub returns-in_default-clause-paths : goal.returns-in_default-clause-paths
returns-in_default-clause-paths g c =
    let same : c.put-2.new.self ≡ c.args.self.now.map = c.in_default.ensures.err ∙ ap (λ k. k.map) c.self.view_is in
    let gone = out g c in
    subst (IsFor c.args.paths.now) (λ j. kept_of (sym same j) (sym gone j)) c.requires.paths
