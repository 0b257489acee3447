use Rattle.std.proofs.Common.{◌≡◌, ◌<◌, ◌+◌, ◌∙◌, ℕ, List, [], ◌∷◌, ◌++◌, take, sym, ap, subst, length, refl}
use Rattle.std.proofs.lemmas.List.{take_all, take_more}
use Rattle.std.proofs.lemmas.List.Elements.{All-nil}
use Rattle.nd_summaries.specs.declared.summary.Summary.{Summary}
use Rattle.nd_summaries.specs.Shared.{AreNumbers}
use Rattle.nd_summaries.proofs.Sharing.{Extends-none, Extends-trans, AreNumbers-on, AreNumbers-push}
use Rattle.nd_summaries.proofs.shared.Shared.numbers.Goals as goal

pub loop-list-init : goal.loop-list-init
loop-list-init g c = record {
  indexed = c.requires;
  named = subst (λ ns. AreNumbers c.args.self.now.lists.items ns []) (sym c.in_ok-numbers.ensures) (record { small = All-nil (λ n. n < length c.args.self.now.lists.items); names = refl });
  extends = Extends-none c.args.self.now.lists.items;
}

pub loop-list-preserved : goal.loop-list-preserved
loop-list-preserved g c =
    let old : List (List Summary) = c.loop-list.self.lists.items in
    let new : List (List Summary) = c.number.new.self.lists.items in
    let i : ℕ = c.loop-list.list-index in
    let list : List Summary = c.list-item.result in
    let so_far = AreNumbers-on old new c.loop-list.numbers (take i c.args.row.now) c.in_ok-number.ensures.extends c.loop-list.invariant.named in
    let more = AreNumbers-push new c.loop-list.numbers (take i c.args.row.now) c.in_ok-number.number list so_far c.in_ok-number.ensures.named in
    let row : take i c.args.row.now ++ list ∷ [] ≡ take (i + 1) c.args.row.now = ap (λ l. take i c.args.row.now ++ l ∷ []) c.list-item.is ∙ sym (take_more c.args.row.now i list c.loop-list-test.true) in
    record {
      indexed = c.in_ok-number.ensures.indexed;
      named = subst (λ ns. AreNumbers new ns (take (i + 1) c.args.row.now)) (sym c.in_ok-push.ensures) (subst (AreNumbers new (c.loop-list.numbers ++ c.in_ok-number.number ∷ [])) row more);
      extends = Extends-trans c.args.self.now.lists.items old new c.loop-list.invariant.extends c.in_ok-number.ensures.extends;
    }

pub returns : goal.returns
returns g c = record {
  indexed = c.loop-list.invariant.indexed;
  named = subst (AreNumbers c.loop-list.self.lists.items c.loop-list.numbers) (take_all c.loop-list.list-index c.args.row.now c.loop-list-test.false) c.loop-list.invariant.named;
  extends = c.loop-list.invariant.extends;
}
