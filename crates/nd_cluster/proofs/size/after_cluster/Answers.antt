use Rattle.std.proofs.Common.{◌+◌, sum_by, ap, sym, ◌∙◌, arith}
use Rattle.nd_delta.specs.Delta.{size}
use Rattle.nd_processor.specs.HeldLaws.{sum_by-map}
use Rattle.nd_view.specs.Kept.{Kept}
use Rattle.nd_cluster.specs.Size.{processor_size, queues_size, size_of}
use Rattle.nd_cluster.proofs.Sizes.{none_left, left_of_more}
use Rattle.nd_cluster.proofs.size.after_cluster.Goals as goal

pub returns-in_err-rest-2 : goal.returns-in_err-rest-2
returns-in_err-rest-2 g c =
    let processors = ap (sum_by processor_size) c.processors.ensures in
    let views = sym (sum_by-map size (λ (v : Kept). v.map) c.views.result.now) ∙ ap (sum_by size) c.views.ensures.maps in
    none_left _ _ _ c.from_residual-in_err-rest-2.ensures (omega (arith, processors, views, c.in_ok-rest.ensures, c.in_err-rest-2.ensures))

pub returns : goal.returns
returns g c =
    let s = c.args.parts.now in
    let processors = ap (sum_by processor_size) c.processors.ensures in
    let views = sym (sum_by-map size (λ (v : Kept). v.map) c.views.result.now) ∙ ap (sum_by size) c.views.ensures.maps in
    let queues = ap queues_size c.mesh.ensures in
    left_of_more c.args.left (sum_by processor_size s.processors + sum_by size s.views) _ _ (size_of s) c.after_mesh.result
    (omega (arith, processors, views, c.in_ok-rest.ensures, c.in_ok-rest-2.ensures)) (omega (arith, queues)) c.after_mesh.ensures
