-- All of a change as a part of it, and what is left without it.
use Rattle.std.specs.Prelude.{◌≡◌, ℤ, pos, ◌-ℤ◌}
use Rattle.std.proofs.Common.{sym, ap, ◌∙◌, arith}
use Rattle.std.proofs.lemmas.Int.{ints}
use Rattle.nd_delta.specs.Delta.{DeltaValue, at, minus, at-minus, IsPartOf, IsApart}

-- all of a change is a part of it
pub is_all : (m n d : DeltaValue) → d ≡ m → n ≡ m → IsPartOf d n
is_all m n d e f q here = ap (λ x. at x q) (f ∙ sym e)

-- a part is apart from what is left
pub all_apart : (m n d : DeltaValue) → d ≡ m → n ≡ minus m d → IsApart d n
all_apart m n d e f q here =
    ap (λ x. at x q) f ∙ at-minus m d q ∙ ap (λ x. at x q -ℤ at d q) (sym e) ∙ (let h : at d q -ℤ at d q ≡ pos 0 = omega (arith, ints) in h)
