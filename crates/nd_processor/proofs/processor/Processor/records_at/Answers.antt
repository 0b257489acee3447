use Rattle.std.proofs.Common.{◌≡◌, ◌<◌, ◌^◌, ℕ, List, sum_by, length, ap, subst, ◌∙◌, arith}
use Rattle.std.specs.BTreeMap.Range.{entries_between}
use Rattle.std.specs.declared.ops.Bound.TheVariants.{Included}
use Rattle.nd_processor.specs.Keys.{value_at_cmp}
use Rattle.nd_processor.specs.State.{in_records}
use Rattle.nd_processor.specs.declared.key.ValueAt.{ValueAt}
use Rattle.nd_processor.proofs.Recorded.{first_at, last_at, forward, between_weigh, between_few, number_at_point}
use Rattle.nd_processor.proofs.Seen.{records_entries}
use Rattle.nd_processor.proofs.processor.Processor.records_at.Goals as goal

pub between-count-items-requires : goal.between-count-items-requires
between-count-items-requires g c = rw (c.copy.ensures, c.copy-2.ensures) (forward c.args.point.now)

pub loop-count-init : goal.loop-count-init
loop-count-init g c =
    let x = c.args.point.now in
    let es = c.self.inside.records in
    let kept = c.between-count-items.ensures.kept in
    let those = entries_between value_at_cmp (Included (first_at x)) (Included (last_at x)) es in
    let rest : c.between-count-items.result ≡ those = rw (c.copy.ensures, c.copy-2.ensures) at c.between-count-items.ensures.rest in
    let short : length those < 2 ^ 63 = subst (λ (ds : List (ValueAt × ℕ)). length ds < 2 ^ 63) rest c.between-count-items.ensures.fits in
    let all : sum_by (λ (e : ValueAt × ℕ). e.1) those ≡ in_records c.args.self.now.records x
    = between_weigh x es kept c.self.invariant
    ∙ ap (number_at_point x) (records_entries es c.self.inside.requests c.self.inside.tokens c.self.inside.items.items c.self.inside.sinks c.self.inside.unsent c.args.self.now c.self.view_is kept) in
    let whole : sum_by (λ (e : ValueAt × ℕ). e.1) c.into_iter-count-iterator.result ≡ in_records c.args.self.now.records x
    = ap (sum_by (λ (e : ValueAt × ℕ). e.1)) (c.into_iter-count-iterator.ensures.into_iter_gives ∙ rest) ∙ all in
    record {
      all = omega arith;
      few = subst (λ n. n < 2 ^ 120) all (between_few x es kept short);
    }
