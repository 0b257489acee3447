-- The map determines the precursor counts: two views of one graph are equal if their maps are.
use Rattle.std.proofs.Common.{◌≡◌, ℕ, Option, Some, None, refl, sym, ap, subst, ◌∙◌, inl, inr}
use Rattle.std.specs.FinMap.{find}
use Rattle.std.specs.FinMap.Entries.{same_entries}
use Rattle.nd_graph.specs.Graph.{Dataflow}
use Rattle.nd_paths.specs.Point.{point_cmp, point_total, point_exact}
use Rattle.nd_paths.specs.declared.point.Pointstamp.{Pointstamp}
use Rattle.nd_delta.specs.Delta.{DeltaValue, at, size, same}
use Rattle.nd_view.specs.View.{IsPrecursor, IsPartWhere, IsCount}
use Rattle.nd_view.specs.Kept.{Kept, IsKeptAt, IsFor}
use Rattle.nd_map.specs.Cases.{zero_or_not}

part_unique : (P : Pointstamp → Type 0) (m f h : DeltaValue) → IsPartWhere P m f → IsPartWhere P m h → f ≡ h
part_unique P m f h a b = same f h (λ q. elim (zero_or_not (at f q)) [
  | inl e ↦ elim (zero_or_not (at h q)) [ inl z ↦ e ∙ sym z | inr some ↦ (let p = b.only q some in a.all q p ∙ sym (b.all q p)) ]
  | inr some ↦ (let p = a.only q some in a.all q p ∙ sym (b.all q p))
])

pub count_unique : (P : Pointstamp → Type 0) (m : DeltaValue) (n k : ℕ) → IsCount P m n → IsCount P m k → n ≡ k
count_unique P m n k a b = sym a.2 ∙ ap size (part_unique P m a.0 b.0 a.1 b.1) ∙ b.2

kept_unique : (g : Dataflow) (m : DeltaValue) (q : Pointstamp) (a b : Option ℕ) → IsKeptAt g m q a → IsKeptAt g m q b → a ≡ b
kept_unique g m q None None h k = refl
kept_unique g m q None (Some n) h k = absurd (h k.0)
kept_unique g m q (Some n) None h k = absurd (k h.0)
kept_unique g m q (Some n) (Some i) h k = ap Some (count_unique (IsPrecursor g m q) m n i h.1 k.1)

-- two views of one graph are equal if their maps are
pub same_views : (g : Dataflow) (v w : Kept) → IsFor g v → IsFor g w → v.map ≡ w.map → v ≡ w
same_views g v w a b e =
    let counts : v.counts ≡ w.counts = same_entries point_cmp point_total point_exact v.counts w.counts a.listed b.listed (λ q.
    kept_unique g v.map q (find point_cmp q v.counts) (find point_cmp q w.counts) (a.each q) (moved_map q)) in
    λ i. record { map = e i; counts = counts i }
  where
    moved_map : (q : Pointstamp) → IsKeptAt g v.map q (find point_cmp q w.counts)
    moved_map q = subst (λ m. IsKeptAt g m q (find point_cmp q w.counts)) (sym e) (b.each q)
