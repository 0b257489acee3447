use Rattle.std.proofs.Common.{◌≡◌, sym, ap, subst, w64, false}
use Rattle.std.proofs.lemmas.Int.{to_z-of_z}
use Rattle.std.specs.FinMap.{find}
use Rattle.nd_map.specs.Listed.{without}
use Rattle.nd_paths.specs.Point.{point_cmp}
use Rattle.nd_delta.specs.Delta.{set}
use Rattle.nd_view.specs.Kept.{IsReady}
use Rattle.nd_view.specs.Rows.{joined}
use Rattle.nd_view.proofs.Moves.{ready_down}
use Rattle.nd_view.proofs.View.go.Goals as goal

pub shift-requires-clause-ready : goal.shift-requires-clause-ready
shift-requires-clause-ready g c = λ q.
    let d = c.args.paths.now in
    let x = c.args.point.now in
    let v = c.args.self.now in
    let gone : joined c.remove.new.self ≡ without point_cmp x v.counts = rw (ap (λ k. k.counts) c.self.view_is) at c.remove.ensures.value in
    let set_is : c.put.new.self ≡ set v.map x c.args.n = rw (ap (λ k. k.map) c.self.view_is, to_z-of_z w64 c.args.n c.ranges.n) at c.in-Ok.ensures.ok in
    subst (λ es. IsReady d c.put.new.self x false q (find point_cmp q es)) (sym gone)
    (ready_down v.map c.put.new.self x c.args.n set_is d v.counts c.requires.was c.requires.is c.requires.paths.each q)
