use Rattle.std.proofs.Common.{◌≡◌, ◌↔◌, ℕ, cond, Some, slice_get, IsTrue, refl, sym, ap, subst, ◌∙◌, rules}
use Rattle.nd_breaks.specs.Conditions.{Holds}
use Rattle.nd_history.specs.Least.{HoldsAt, IsLeast}
use Rattle.nd_history.specs.History.{ShowsIf, IsHistory}
use Rattle.nd_history.specs.declared.turn_list.TurnList.{TurnList}
use Rattle.nd_history.proofs.TurnsLemmas.{positions_of, listed_of, least_of}
use Rattle.nd_history.proofs.WalkLemmas.{at_position}
use Rattle.nd_history.proofs.condition_history.turns.Goals as goal

pub returns : goal.returns
returns g c =
    let Hit : ℕ → Type 0 = HoldsAt c.args.timeline.now c.args.condition.now in
    let lo : ℕ = c.args.lo in
    let hi : ℕ = c.args.hi in
    let told = c.in_ok-told.told in
    let turns : TurnList g.row.A.Denot = record { at_lo = c.holds-at_lo.result; positions = c.in_ok-positions.positions; more = told.more } in
    let at_lo = at_position c.args.timeline.now c.in_ok-walk.walk lo (λ s. IsTrue turns.at_lo ↔ Holds s c.args.condition.now) c.in_ok-walk.ensures.on c.in_ok-walk.ensures.there c.holds-at_lo.ensures in
    let history = subst (λ lo. IsHistory (λ i. ShowsIf (Hit i)) lo hi told) c.in_ok-walk.ensures.there c.in_ok-told.ensures in
    let positions : turns.positions ≡ positions_of told.changes = c.in_ok-positions.ensures ∙ ap positions_of c.as_slice.ensures in record {
      listed = listed_of Hit lo hi told turns at_lo positions refl history;
      least = subst (λ ks. IsLeast Hit lo hi (cond turns.at_lo (Some lo) (slice_get ks 0))) (sym positions) (least_of Hit lo hi told turns.at_lo c.in_ok-check.ensures.may.range at_lo history);
      may = search rules;
      cannot = search rules;
    }
