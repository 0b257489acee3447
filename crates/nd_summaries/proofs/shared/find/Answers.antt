use Rattle.std.proofs.Common.{◌≡◌, ◌<◌, ◌∙◌, ℕ, sym, subst, length, get_or, IsTrue, false}
use Rattle.std.specs.Prelude.{All}
use Rattle.std.proofs.lemmas.List.{take_all}
use Rattle.std.proofs.lemmas.List.Elements.{All-get_or, All-more}
use Rattle.nd_summaries.specs.Shared.{named}
use Rattle.nd_summaries.proofs.Fails.{listed_at}
use Rattle.nd_summaries.proofs.shared.find.Goals as goal

no_truth : IsTrue false → ⊥
no_truth yes' = cc

pub bounds-lists-number : goal.bounds-lists-number
bounds-lists-number g c = All-get_or (λ n. n < length c.args.lists.now) c.args.numbers.now c.loop-number.number-index 0 c.loop-number-test.true c.requires

pub returns-then-are_equal : goal.returns-then-are_equal
returns-then-are_equal g c =
    let n : ℕ = get_or c.args.numbers.now c.loop-number.number-index 0 in
    let low : n < length c.args.lists.now = All-get_or (λ n. n < length c.args.lists.now) c.args.numbers.now c.loop-number.number-index 0 c.loop-number-test.true c.requires in
    let same = listed_at c.args.lists.now n c.index-lists-number.result low c.index-lists-number.is in
    (low, sym same ∙ sym c.as_slice.ensures ∙ c.are_equal.ensures.0 c.if-are_equal.true)

pub loop-number-preserved : goal.loop-number-preserved
loop-number-preserved g c =
    let n : ℕ = get_or c.args.numbers.now c.loop-number.number-index 0 in
    let low : n < length c.args.lists.now = All-get_or (λ n. n < length c.args.lists.now) c.args.numbers.now c.loop-number.number-index 0 c.loop-number-test.true c.requires in
    let same = listed_at c.args.lists.now n c.index-lists-number.result low c.index-lists-number.is in
    All-more (λ n. named c.args.lists.now n ≡ c.args.list.now → ⊥) c.args.numbers.now c.loop-number.number-index 0 c.loop-number-test.true c.loop-number.invariant
    (λ e. no_truth (sym c.if-are_equal.false ∙ c.are_equal.ensures.1 (c.as_slice.ensures ∙ same ∙ e)))

pub returns : goal.returns
returns g c =
    subst (λ ns. All (λ n. named c.args.lists.now n ≡ c.args.list.now → ⊥) ns) (take_all c.loop-number.number-index c.args.numbers.now c.loop-number-test.false) c.loop-number.invariant
