use Rattle.std.proofs.Common.{◌≡◌, List, sym, ap, subst, ◌∙◌, negsuc, arith}
use Rattle.std.proofs.lemmas.Result.{err_from_is_err_and}
use Rattle.nd_steps.specs.Plans.{Each}
use Rattle.nd_steps.specs.Turns.{IsReadable, FirstLeaves}
use Rattle.nd_steps.specs.Changes.{at_key}
use Rattle.nd_steps.specs.Keyed.{taken_in}
use Rattle.nd_steps.specs.Orders.{StayWithin, StayFails}
use Rattle.nd_processor.specs.declared.key.ValueAt.{ValueAt}
use Rattle.nd_steps.specs.declared.change.Change.{Change}
use Rattle.nd_steps.specs.declared.slot.Slot.TheVariants.{Unsent}
use Rattle.nd_steps.proofs.ReachesLemmas.{readable, passes}
use Rattle.nd_steps.proofs.FlowLemmas.{early, early_reached, ordered}
use Rattle.nd_steps.proofs.flow.ordered_flow.Goals as goal

pub read_all-requires : goal.read_all-requires
read_all-requires g c =
    let a = c.args in
    let ps = a.processors.now in
    let listed : taken_in c.new-early.result ≡ early ps a.p a.gone.now a.come = c.new-early.ensures ∙ ap (λ (q : ValueAt). early ps a.p q a.come) c.copy.ensures in
    subst (Each (IsReadable ps)) (sym listed)
    (readable ps c.requires.0 c.requires.1 (early ps a.p a.gone.now a.come) (early_reached ps a.p a.gone.now a.come c.requires.0 c.requires.1 c.requires.2))

pub returns-in_err-late-clause-refused : goal.returns-in_err-late-clause-refused
returns-in_err-late-clause-refused g c =
    let a = c.args in
    let ps = a.processors.now in
    let listed : taken_in c.new-early.result ≡ early ps a.p a.gone.now a.come = c.new-early.ensures ∙ ap (λ (q : ValueAt). early ps a.p q a.come) c.copy.ensures in
    let p = err_from_is_err_and c.from_residual.result c.from_residual.ensures.1 in
    let fails = subst (λ (cs : List Change). StayFails ps cs c.in_err-late.field-0.0) listed c.in_err-late.ensures.refused in
    let first = early ps a.p a.gone.now a.come in
    rw (p.1) (λ s t h. passes ps s t first (early_reached ps a.p a.gone.now a.come s t h) p.0 (subst (StayFails ps first) (sym p.2) fails))

pub returns-clause-ok : goal.returns-clause-ok
returns-clause-ok g c =
    let a = c.args in
    let ps = a.processors.now in
    let is : taken_in c.new-early.result ≡ early ps a.p a.gone.now a.come = c.new-early.ensures ∙ ap (λ (q : ValueAt). early ps a.p q a.come) c.copy.ensures in
    let told = c.in_ok-late.ensures in
    let first = subst (λ (cs : List Change). FirstLeaves ps cs c.in_ok-late.field-0) is told.first (at_key a.p (Unsent a.gone.now.point) (negsuc 0)) (omega arith) in
    ordered ps a.p a.gone.now a.come (subst (StayWithin ps) is told.within) c.in_ok-late.field-0 first
