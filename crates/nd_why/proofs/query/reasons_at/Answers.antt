use Rattle.std.proofs.Common.{◌<◌, ℤ, map, ap, sym, subst, ◌∙◌, w64, to_z, of_z}
use Rattle.std.proofs.lemmas.List.{take_all}
use Rattle.nd_paths.specs.declared.point.Pointstamp.{Pointstamp}
use Rattle.nd_delta.specs.Delta.{at}
use Rattle.nd_why.specs.Account.{Account}
use Rattle.nd_why.specs.Why.{held_at, unheard_at, account}
use Rattle.nd_why.proofs.Turns.{small, map_more}
use Rattle.nd_why.proofs.query.reasons_at.Goals as goal

pub view-requires : goal.view-requires
view-requires g c = subst (λ n. c.args.q < n) (sym c.requires.state.fits.each_view) c.requires.q

pub loop-entry-preserved : goal.loop-entry-preserved
loop-entry-preserved g c =
    let s = c.args.parts.now in
    let q = c.args.q in
    let told : Pointstamp × ℤ → Account = λ e. account s q e.0 in
    let b = c.copy-point in
    let reason : Account = record { point = b.result; held = c.in_ok-held_at.field-0.items; unheard = c.in_ok-unheard_at.field-0.items; view = to_z w64 (of_z w64 c.get.result) } in
    map_more told c.entries-entry-items.result.now c.loop-entry.entry-index c.entry-item.result c.loop-entry-test.true c.entry-item.is c.loop-entry.reasons.items c.push.new.self.items reason c.loop-entry.invariant c.in_ok-push.ensures.items
    (λ i. record {
      point = b.ensures i;
      held = (c.in_ok-held_at.ensures ∙ (λ j. held_at (c.processors.ensures j) (b.ensures j))) i;
      unheard = (c.in_ok-unheard_at.ensures ∙ ap (unheard_at s q) b.ensures) i;
      view = (small c.get.result c.get.ensures.within ∙ c.get.ensures.value ∙ (λ j. at (c.view.ensures.map j) (b.ensures j))) i;
    })

pub returns : goal.returns
returns g c =
    c.loop-entry.invariant
    ∙ ap (map (λ (e : Pointstamp × ℤ). account c.args.parts.now c.args.q e.0)) (take_all c.loop-entry.entry-index c.entries-entry-items.result.now c.loop-entry-test.false ∙ c.entries-entry-items.ensures.listed)
