use Rattle.std.proofs.Common.{◌≡◌, ◌≤◌, ◌^◌, ℤ, ◌+ℤ◌, unsigned_abs, List, get_or, FitsSigned, to_z, of_z, arith, sym, ap, subst, ◌∙◌}
use Rattle.std.specs.Int.{w128}
use Rattle.std.proofs.lemmas.Int.{ints, to_z-of_z, fits_signed_from_abs}
use Rattle.std.proofs.lemmas.List.{get_or_default}
use Rattle.nd_processor.specs.State.{ProcessorState, idle}
use Rattle.nd_steps.specs.Slots.{stands}
use Rattle.nd_steps.specs.Limits.{after, ReadsAs}
use Rattle.nd_steps.specs.Turns.{IsReadable}
use Rattle.nd_steps.specs.Borrowed.{change_of, slot_of}
use Rattle.nd_steps.specs.declared.change.Change.{Change}
use Rattle.nd_steps.proofs.reading.reading_of.Goals as goal

stored : ℤ → ℤ
stored z = to_z w128 (of_z w128 z)

kept : (z : ℤ) → unsigned_abs z ≤ 2 ^ 66 → stored z ≡ z
unfolding stored
kept z h = to_z-of_z w128 z (fits_signed_from_abs w128 z (omega (arith, h)))

-- the integer that is read, and its sum with the change
module _ (ps : List ProcessorState) (c : Change) (h : IsReadable ps c) (q : ProcessorState) (is : q ≡ get_or ps c.p q) (x : ℤ) (value : x ≡ stands q c.slot) (small : unsigned_abs x ≤ 2 ^ 64) where
  both : stored x +ℤ stored c.n ≡ x +ℤ c.n
  both = let i = h.small in λ j. kept x (omega (arith, small)) j +ℤ kept c.n (omega (arith, i)) j

  sum_small : unsigned_abs (x +ℤ c.n) ≤ 2 ^ 66
  sum_small = let i = h.small in omega (arith, ints, small, i)

  sum_fits : FitsSigned w128 (stored x +ℤ stored c.n)
  sum_fits = subst (FitsSigned w128) (sym both) (fits_signed_from_abs w128 (x +ℤ c.n) (let i = sum_small in omega (arith, i)))

  read_after : stored (stored x +ℤ stored c.n) ≡ after ps c
  unfolding after
  read_after = ap stored both ∙ kept (x +ℤ c.n) sum_small ∙ ap (λ z. z +ℤ c.n) (value ∙ ap (λ r. stands r c.slot) (is ∙ get_or_default ps c.p q idle h.owner))

pub overflow_add-before : goal.overflow_add-before
unfolding stored
overflow_add-before g c = sum_fits c.args.processors.now (change_of c.args.change.now) c.requires c.index-processors-change.result c.index-processors-change.is c.number_at-before.result c.number_at-before.ensures.value c.number_at-before.ensures.small

pub returns : goal.returns
unfolding stored
returns g c =
    subst (ReadsAs c.reading_after.result (slot_of c.args.change.now.key))
    (read_after c.args.processors.now (change_of c.args.change.now) c.requires c.index-processors-change.result c.index-processors-change.is c.number_at-before.result c.number_at-before.ensures.value c.number_at-before.ensures.small)
    c.reading_after.ensures
