use Rattle.std.proofs.Common.{[], ◌∷◌, ◌++◌, sym, ◌∙◌}
use Rattle.std.proofs.lemmas.List.{take_all, take_more}
use Rattle.nd_mesh.proofs.outbox.Outbox.copy.Goals as goal

pub loop-queue-preserved : goal.loop-queue-preserved
loop-queue-preserved g c = record {
  items = c.loop-queue.invariant.items;
  copied = c.in_ok-push.ensures.items
      ∙ (λ i. c.loop-queue.invariant.copied i ++ (c.in_ok-copy.ensures ∙ c.queue-item.is) i ∷ [])
      ∙ sym (take_more c.deref-queue-items.result.now c.loop-queue.queue-index c.queue-item.result c.loop-queue-test.true);
}

pub returns : goal.returns
returns g c = c.loop-queue.invariant.copied ∙ take_all c.loop-queue.queue-index c.deref-queue-items.result.now c.loop-queue-test.false ∙ c.loop-queue.invariant.items
