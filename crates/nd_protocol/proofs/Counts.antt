-- How records that arrive change what is outstanding in a cluster; and the sums of specs/TruthLaws, passed on.
use Rattle.std.proofs.Common.{◌≡◌, ◌⊎◌, inl, inr, ℕ, ◌+◌, pos, true, false, cond, List, [], ◌∷◌, ◌++◌, refl, sym, ap, subst, ◌∙◌, arith}
use Rattle.std.proofs.lemmas.Map.Views.{tells_apart}
use Rattle.std.specs.Prelude.{slice_index_or}
use Rattle.std.specs.List.{flat_map}
use Rattle.nd_paths.specs.Point.{point_exact}
use Rattle.nd_paths.specs.declared.point.Pointstamp.{Pointstamp}
use Rattle.nd_delta.specs.Delta.{is_point}
use Rattle.nd_processor.specs.Keys.{value_at_total}
use Rattle.nd_processor.specs.State.{ProcessorState, idle, one_at, in_records}
use Rattle.nd_protocol.specs.Steps.{with_record, with_records}
use Rattle.nd_processor.specs.declared.key.ValueAt.{ValueAt}
use Rattle.nd_protocol.proofs.Shape.{AllAt}
use Rattle.nd_map.specs.Counts.{added}
use Rattle.nd_processor.specs.HeldLaws.{in_records-added}
pub use Rattle.nd_protocol.specs.TruthLaws.{count, truth-count, gain-count, count-set, count-set_same, kept-set, kept-records, length-records}

-- ---- records that arrive

pub AllAt-append : (G : Pointstamp → Type 0) (rs ss : List (ℕ × ValueAt)) → AllAt G rs → AllAt G ss → AllAt G (rs ++ ss)
AllAt-append G [] ss h k = k
AllAt-append G (r ∷ rs) ss h k = (h.0, AllAt-append G rs ss h.1 k)

pub AllAt-flat : {X : Type 0} (G : Pointstamp → Type 0) (f : X → List (ℕ × ValueAt)) → ((x : X) → AllAt G (f x)) → (xs : List X) → AllAt G (flat_map f xs)
AllAt-flat G f each [] = tt
AllAt-flat G f each (x ∷ xs) = AllAt-append G (f x) (flat_map f xs) (each x) (AllAt-flat G f each xs)

count-elsewhere : (qs : List ProcessorState) (r : ℕ × ValueAt) (x : Pointstamp) → is_point x r.1.point ≡ false → count (with_record qs r) x ≡ count qs x
count-elsewhere qs r x other =
    let q : ProcessorState = slice_index_or qs r.0 idle in
    let none : one_at r.1.point x ≡ 0 = ap (λ b. cond b 1 0) other in
    let more : in_records (added value_at_total q.records r.1 (pos 1)) x ≡ in_records q.records x + one_at r.1.point x = in_records-added q.records r.1 1 x in
    count-set_same qs r.0 (record q { records = added value_at_total q.records r.1 (pos 1) }) x (omega arith)

-- if records arrive only at pointstamps that satisfy G, nothing changes elsewhere
pub come_or_same : (G : Pointstamp → Type 0) (rs : List (ℕ × ValueAt)) → AllAt G rs → (x : Pointstamp) → G x ⊎ ((qs : List ProcessorState) → count (with_records qs rs) x ≡ count qs x)
come_or_same G [] h x = inr (λ qs. refl)
come_or_same G (r ∷ rs) h x =
    elim (is_point x r.1.point) as (λ b. is_point x r.1.point ≡ b → G x ⊎ ((qs : List ProcessorState) → count (with_records qs (r ∷ rs)) x ≡ count qs x)) [
      | true ↦ λ t. inl (subst G (sym (tells_apart point_exact x r.1.point t)) h.0)
      | false ↦ λ t. elim (come_or_same G rs h.1 x) [
        | inl g ↦ inl g
        | inr same ↦ inr (λ qs. same (with_record qs r) ∙ count-elsewhere qs r x t)
      ]
    ] refl
