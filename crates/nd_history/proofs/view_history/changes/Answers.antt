use Rattle.std.proofs.Common.{◌≡◌, ℕ, ℤ, subst}
use Rattle.nd_history.specs.ViewChanges.{entry_after}
use Rattle.nd_history.specs.History.{IsHistory}
use Rattle.nd_history.proofs.ChangeListLemmas.{told_of}
use Rattle.nd_history.proofs.view_history.changes.Goals as goal

pub returns-clause-told : goal.returns-clause-told
returns-clause-told g c =
    let entry : ℕ → ℤ = entry_after c.args.timeline.now c.args.q c.args.point.now in
    let told = c.in_ok-history.field-0 in
    told_of entry c.args.lo c.args.hi told (subst (λ lo. IsHistory (λ i n. n ≡ entry i) lo c.args.hi told) c.in_ok-walk.ensures.there c.in_ok-history.ensures)
