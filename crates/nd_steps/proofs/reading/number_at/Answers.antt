use Rattle.std.proofs.Common.{◌≡◌, ◌≤◌, ◌<◌, ◌^◌, ℕ, ℤ, pos, unsigned_abs, to_z, of_z, arith, sym, ap, subst, ◌∙◌}
use Rattle.std.specs.Int.{w128}
use Rattle.std.proofs.lemmas.Int.{to_z-of_z, fits_signed_from_abs}
use Rattle.nd_steps.specs.Slots.{stands}
use Rattle.nd_steps.specs.Borrowed.{slot_of}
use Rattle.nd_steps.proofs.reading.number_at.Goals as goal

counted : (n : ℕ) → n < 18446744073709551616 → unsigned_abs (pos n) ≤ 2 ^ 64
counted n h = omega (arith, h)

read : (x y : ℤ) → x ≡ y → unsigned_abs y ≤ 2 ^ 64 → to_z w128 (of_z w128 x) ≡ y
read x y e h = ap (λ z. to_z w128 (of_z w128 z)) e ∙ to_z-of_z w128 y (fits_signed_from_abs w128 y (omega (arith, h)))

small : (x y : ℤ) → x ≡ y → unsigned_abs y ≤ 2 ^ 64 → unsigned_abs (to_z w128 (of_z w128 x)) ≤ 2 ^ 64
small x y e h = subst (λ z. unsigned_abs z ≤ 2 ^ 64) (sym (read x y e h)) h

pub returns-in-Records-clause-value : goal.returns-in-Records-clause-value
returns-in-Records-clause-value g c =
    read c.from.result (pos c.count_of.result) c.from.ensures (counted c.count_of.result c.count_of.type_inv)
    ∙ ap pos c.count_of.ensures.value ∙ sym (ap (λ k. stands c.args.processor.now (slot_of k)) c.in-Records.is)

pub returns-in-Records-clause-small : goal.returns-in-Records-clause-small
returns-in-Records-clause-small g c = small c.from.result (pos c.count_of.result) c.from.ensures (counted c.count_of.result c.count_of.type_inv)

pub returns-in-Sink-clause-small : goal.returns-in-Sink-clause-small
returns-in-Sink-clause-small g c = small c.from-in-Sink.result (pos c.sink_count.result) c.from-in-Sink.ensures (counted c.sink_count.result c.sink_count.type_inv)
