use Rattle.std.proofs.Common.{ℤ, pos, sym, true≢false, inl, inr, arith}
use Rattle.std.proofs.lemmas.Int.{ints}
use Rattle.std.specs.Prelude.{◌<ℤ◌}
use Rattle.nd_paths.specs.Order.{IsStrictlyBefore}
use Rattle.nd_paths.specs.declared.point.Pointstamp.{Pointstamp}
use Rattle.nd_delta.proofs.Among.{point_of, entry_of}
use Rattle.nd_delta.proofs.Delta.supports.Goals as goal

pub returns-else-any_before : goal.returns-else-any_before
returns-else-any_before g c =
    let m = c.args.self.now in
    let IsNegativeBefore = λ (y : Pointstamp) (z : ℤ). (z <ℤ pos 0) × IsStrictlyBefore c.args.paths.now y c.args.point.now in
    let negatives = rw c.entries.ensures.listed at c.any_negative_before.ensures in (
      λ e. let found = point_of m IsNegativeBefore (negatives.0 e) in (found.0, found.1.1, inl found.1.0),
      λ support. elim support.2 [
        | inl negative ↦ negatives.1 (entry_of m IsNegativeBefore support.0 (λ zero. absurd (omega (arith, ints, negative, zero))) (negative, support.1))
        | inr held ↦ absurd (true≢false (sym (c.if-any_before.ensures.1 (held.0, support.0, held.1, held.2, support.1))))
      ],
    )
