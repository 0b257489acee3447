use Rattle.std.proofs.Common.{List, sym, subst, ◌∙◌}
use Rattle.nd_session.specs.declared.receipt.Receipt.{Receipt}
use Rattle.nd_session.specs.Log.{ArePlaced}
use Rattle.nd_session.specs.Close.{IsWhole}
use Rattle.nd_session.proofs.Whole.{is_whole}
use Rattle.nd_session.proofs.shared.Shared.close.Goals as goal

pub found_wrong-why-requires : goal.found_wrong-why-requires
found_wrong-why-requires g c =
    let P : List (Receipt g.row.A.Denot) → Type 0 = λ l. ArePlaced l in
    subst P (sym (c.deref.ensures.value ∙ c.into_parts-timeline.ensures.log)) c.into_parts-timeline.ensures.history.legal.placed

pub returns-in-None-clause-whole : goal.returns-in-None-clause-whole
returns-in-None-clause-whole g c =
    let P : List (Receipt g.row.A.Denot) → Type 0 = λ l. ArePlaced l in
    let placed : ArePlaced c.deref.result.now = subst P (sym (c.deref.ensures.value ∙ c.into_parts-timeline.ensures.log)) c.into_parts-timeline.ensures.history.legal.placed in
    let Q : List (Receipt g.row.A.Denot) → Type 0 = λ l. IsWhole l c.args.clients.now c.args.self.entered in
    subst Q c.deref.ensures.value (is_whole c.deref.result.now placed c.args.clients.now c.args.self.entered c.in-None.ensures.clean)
