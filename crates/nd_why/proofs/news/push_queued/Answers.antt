use Rattle.std.proofs.Common.{◌≡◌, get_or, ap, sym, ◌∙◌}
use Rattle.std.proofs.lemmas.Option.{get_or_from_slice_get}
use Rattle.std.specs.Prelude.{option_copied}
use Rattle.nd_delta.specs.Delta.{none, at}
use Rattle.nd_mesh.specs.Mesh.{queue}
use Rattle.nd_why.specs.Why.{unless_zero, queued_behind}
use Rattle.nd_why.specs.declared.answer.Unheard.TheVariants.{Queued}
use Rattle.nd_why.proofs.Turns.{small, turn_more}
use Rattle.nd_why.proofs.news.push_queued.Goals as goal

pub loop-behind-preserved : goal.loop-behind-preserved
loop-behind-preserved g c =
    let p = c.args.p in
    let cs = queue c.args.mesh.now p c.args.q in
    let k = c.loop-behind.behind in
    let b = c.args.point.now in
    let n = c.get-n.result in
    let is : get_or cs k none ≡ c.unwrap.result.now = get_or_from_slice_get cs k c.unwrap.result.now none (sym c.get.ensures.value ∙ ap option_copied c.unwrap.ensures) in
    let number : n ≡ at (get_or cs k none) b = c.get-n.ensures.value ∙ ap (λ d. at d b) (sym is) in
    turn_more c.args.unheard.now.items c.loop-behind.unheard.items c.push_unless_zero.new.unheard.items (unless_zero n (Queued p k n)) k (queued_behind p cs b) c.loop-behind.invariant
    (rw (small n c.get-n.ensures.within) at c.in_ok-push_unless_zero.ensures) (ap (λ m. unless_zero m (Queued p k m)) number)
