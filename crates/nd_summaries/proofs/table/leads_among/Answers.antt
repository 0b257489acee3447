use Rattle.std.proofs.Common.{sym, subst, length, refl, IsTrue, false}
use Rattle.std.specs.Prelude.{Contains}
use Rattle.std.proofs.lemmas.List.{take_all}
use Rattle.std.proofs.lemmas.List.Elements.{All-get_or, Contains-get_or}
use Rattle.nd_summaries.specs.declared.summary.Summary.{Summary}
use Rattle.nd_time.specs.Order.{AreAtMost}
use Rattle.nd_summaries.specs.Summary.{applied}
use Rattle.nd_summaries.specs.Table.{Fit, SomeLeads}
use Rattle.nd_summaries.proofs.Decisions.{none_more}
use Rattle.nd_summaries.proofs.table.leads_among.Goals as goal

no_truth : IsTrue false → ⊥
no_truth yes' = cc

pub leads-requires : goal.leads-requires
leads-requires c =
    let fits = All-get_or (Fit (length c.args.from.now) (length c.args.to.now)) c.args.list.now c.loop-summary.summary-index c.summary-item.result c.loop-summary-test.true c.requires in
    let one = subst (Fit (length c.args.from.now) (length c.args.to.now)) (sym c.summary-item.is) fits in
    record { keep = one.0; to = sym one.1 }

pub returns-then-leads : goal.returns-then-leads
returns-then-leads c =
    let in' = subst (Contains c.args.list.now) (sym c.summary-item.is) (Contains-get_or c.args.list.now c.loop-summary.summary-index c.summary-item.result c.loop-summary-test.true) in
    (λ _. (c.summary-item.result, in', c.if-leads.ensures.0 refl), λ _. refl)

pub loop-summary-preserved : goal.loop-summary-preserved
loop-summary-preserved c =
    let P : Summary → Type 0 = λ u. AreAtMost c.args.order (applied u c.args.from.now) c.args.to.now in
    λ some. none_more P c.args.list.now c.loop-summary.summary-index c.summary-item.result c.loop-summary-test.true c.summary-item.is
    (λ u k less. c.loop-summary.invariant (u, k, less))
    (λ less. no_truth (c.if-leads.ensures.1 less)) some.0 some.1 some.2

pub returns : goal.returns
returns c = (
  λ yes'. absurd (no_truth yes'),
  λ some. absurd (c.loop-summary.invariant (subst (λ l. SomeLeads c.args.order l c.args.from.now c.args.to.now) (sym (take_all c.loop-summary.summary-index c.args.list.now c.loop-summary-test.false)) some)),
)
