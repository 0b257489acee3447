use Rattle.std.proofs.Common.{◌≡◌, Some, None, length, slice_get, inl, inr, sym, ap, subst, ◌∙◌, arith, rules}
use Rattle.std.proofs.lemmas.Option.{slice_get-get_or, slice_get_within, same_Some}
use Rattle.std.proofs.lemmas.Bool.{cases_lt}
use Rattle.nd_history.specs.Works.{HasResultBy}
use Rattle.nd_history.specs.declared.work.Searched.{Searched}
use Rattle.nd_history.proofs.Elements.{refilled}
use Rattle.nd_history.proofs.table.results.Goals as goal

pub loop-searched-init : goal.loop-searched-init
loop-searched-init g c =
    record {
      counted = search rules;
      told = λ j r at. let none : Some r ≡ None = c.loop.invariant.empty j (Some r) at in absurd cc;
      all_in = λ j k r s below there told none. absurd (omega (arith, below));
    }

pub loop-searched-preserved : goal.loop-searched-preserved
loop-searched-preserved g c =
    let old = c.loop-searched.results.items in
    let new = c.put.new.results in
    let len : c.loop-searched.results.len ≡ length old = search rules in
    let same : length new ≡ length old = c.put.ensures.len ∙ ap length c.as_mut_slice.ensures.value in record {
      counted = search rules;
      told = λ j r at.
          let here : slice_get new j ≡ Some (Some r) = ap (λ rs. slice_get rs j) (sym (refilled c.loop-searched.results.len old new len same)) ∙ at in
          elim (c.put.ensures.told j r here) [
            | inl before ↦ c.loop-searched.invariant.told j r (ap (λ rs. slice_get rs j) (sym c.as_mut_slice.ensures.value) ∙ before)
            | inr told ↦ record {
              who = c.loop-searched.searched-index;
              work = c.searched-item.result;
              there = slice_get-get_or c.args.works.now c.loop-searched.searched-index c.searched-item.result c.loop-searched-test.true ∙ ap Some (sym c.searched-item.is);
              by = told;
            }
          ];
      all_in = λ j k r s below there told none.
          let here : slice_get new j ≡ Some None = ap (λ rs. slice_get rs j) (sym (refilled c.loop-searched.results.len old new len same)) ∙ none in
          let was : slice_get old j ≡ Some None = ap (λ rs. slice_get rs j) (sym c.as_mut_slice.ensures.value) ∙ c.put.ensures.was_empty j here in
          elim (cases_lt k c.loop-searched.searched-index) [
            | inl lt ↦ c.loop-searched.invariant.all_in j k r s lt there told was
            | inr ge ↦
                let last : k ≡ c.loop-searched.searched-index = omega (arith, below, ge) in
                let item : slice_get c.args.works.now c.loop-searched.searched-index ≡ Some c.searched-item.result =
                slice_get-get_or c.args.works.now c.loop-searched.searched-index c.searched-item.result c.loop-searched-test.true ∙ ap Some (sym c.searched-item.is) in
                let mine : s ≡ c.searched-item.result = same_Some s c.searched-item.result (sym there ∙ (ap (λ i. slice_get c.args.works.now i) last ∙ item)) in
                c.put.ensures.all_in j r (subst (λ (s : Searched g.row.A.Denot). HasResultBy s j r) mine told) here
          ];
    }

pub returns-clause-all_in : goal.returns-clause-all_in
returns-clause-all_in g c =
    λ j r t none.
    c.loop-searched.invariant.all_in j t.who r t.work (omega (arith, slice_get_within c.args.works.now t.who t.work t.there, c.loop-searched-test.false)) t.there t.by none
