use Rattle.std.proofs.Common.{ℕ, ◌+◌, List, ◌∷◌, [], ◌++◌, get_or, take, sym, subst, add-one}
use Rattle.nd_protocol.specs.Steps.{stepped}
use Rattle.nd_steps.specs.declared.record.Record.{Record}
use Rattle.nd_timeline.specs.Reached.{IsCopy, AreCopies}
use Rattle.nd_timeline.proofs.CopiesLemmas.{copied_next, copy_planned}
use Rattle.nd_timeline.proofs.timeline.copied_steps.Goals as goal

pub loop-record-preserved : goal.loop-record-preserved
loop-record-preserved g c =
    let rs : List (Record g.row.A.Denot) = c.args.steps.now in
    let i : ℕ = c.loop-record.record-index in
    let d : Record g.row.A.Denot = c.record-item.result in
    let q : Record g.row.A.Denot = c.in_ok-copy.field-0 in
    let told = c.in_ok-copy.ensures in
    let is : IsCopy d q = record { step = told.step; planned = λ s. copy_planned s d q told.step told.changes (told.makes s (stepped s d.step)) } in
    let copy : IsCopy (get_or rs i d) q = subst (λ (r : Record g.row.A.Denot). IsCopy r q) c.record-item.is is in
    let more : AreCopies (take (i + 1) rs) (c.loop-record.list.items ++ q ∷ []) =
    subst (λ (k : ℕ). AreCopies (take k rs) (c.loop-record.list.items ++ q ∷ [])) (sym (add-one i)) (copied_next i rs c.loop-record.list.items d q c.loop-record-test.true c.loop-record.invariant copy) in
    subst (λ (qs : List (Record g.row.A.Denot)). AreCopies (take (i + 1) rs) qs) (sym c.in_ok-push.ensures.items) more
