-- A part of a change.
use Rattle.std.specs.Prelude.{◌≡◌, ◌≢◌, ℤ, pos, Bool, true, false, cond, List, refl}
use Rattle.std.proofs.Common.{sym, subst, ◌∙◌}
use Rattle.nd_paths.specs.declared.point.Pointstamp.{Pointstamp}
use Rattle.nd_delta.specs.Delta.{DeltaValue, at, part, has_point, at-part, IsPartOf}

-- if a condition that keeps x or gives 0 does not give 0, it keeps x
kept : (b : Bool) (x : ℤ) → cond b x (pos 0) ≢ pos 0 → x ≡ cond b x (pos 0)
kept true x e = refl
kept false x e = absurd (e refl)

part_of : (m : DeltaValue) (ks : List Pointstamp) → IsPartOf (part m ks) m
part_of m ks q e = let p = at-part m ks q in kept (has_point q ks) (at m q) (λ z. e (p ∙ z)) ∙ sym p

-- a part of a change, given in another way
pub is_part : (m n d : DeltaValue) (ks : List Pointstamp) → d ≡ part m ks → n ≡ m → IsPartOf d n
is_part m n d ks e f = subst (λ x. IsPartOf x n) (sym e) (subst (λ x. IsPartOf (part m ks) x) (sym f) (part_of m ks))
