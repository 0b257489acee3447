-- A row that was read from the queues, changed and written back.
use Rattle.std.proofs.Common.{◌≡◌, ℕ, ◌<◌, List, [], ◌∷◌, length, map, get_or, Option, slice_get, ap, subst, sym, ◌∙◌}
use Rattle.std.proofs.Math.ListN.{set}
use Rattle.std.proofs.lemmas.List.{get_or_read}
use Rattle.nd_delta.specs.Delta.{DeltaValue}
use Rattle.nd_mesh.specs.Mesh.{appended, without_newest, without_oldest, row, queue, pushed, unpushed, popped, unpopped, HasQueue, IsMesh}

module _ (m : List (List (List DeltaValue))) (from : ℕ) (f : from < length m) (old : List (List DeltaValue)) (read : old ≡ get_or m from old) where
  is_row : old ≡ row m from
  is_row = get_or_read m from old f read []

  pub written_pushed : (c : DeltaValue) (new : List (List DeltaValue)) → new ≡ map (appended c) old → set m from new ≡ pushed m from c
  written_pushed c new e = ap (set m from) (e ∙ ap (map (appended c)) is_row)

  pub written_unpushed : (new : List (List DeltaValue)) → new ≡ map without_newest old → set m from new ≡ unpushed m from
  written_unpushed new e = ap (set m from) (e ∙ ap (map without_newest) is_row)

  pub written_popped : (to : ℕ) (new : List (List DeltaValue)) → new ≡ set old to (without_oldest (get_or old to [])) → set m from new ≡ popped m from to
  written_popped to new e = ap (set m from) (e ∙ ap (λ r. set r to (without_oldest (get_or r to []))) is_row)

  pub written_unpopped : (to : ℕ) (c : DeltaValue) (new : List (List DeltaValue)) → new ≡ set old to (c ∷ get_or old to []) → set m from new ≡ unpopped m from to c
  written_unpopped to c new e = ap (set m from) (e ∙ ap (λ r. set r to (c ∷ get_or r to [])) is_row)

  pub has_none : (P : List DeltaValue → Type 0) → (HasQueue P old → ⊥) → HasQueue P (row m from) → ⊥
  has_none P none = subst (λ r. HasQueue P r → ⊥) is_row none

  -- the row has a queue to each processor
  pub there : (to : ℕ) → IsMesh m → to < length m → to < length (row m from)
  there to mesh t = subst (λ n. to < n) (sym (mesh.square from [] f)) t

  -- what was read at the front of one queue of the row
  pub front_is : (to : ℕ) (read front : Option DeltaValue) → read ≡ slice_get (get_or old to []) 0 → read ≡ front → slice_get (queue m from to) 0 ≡ front
  front_is to read front e is = ap (λ r. slice_get (get_or r to []) 0) (sym is_row) ∙ sym e ∙ is

  pub length_is : (to n : ℕ) → n ≡ length (get_or old to []) → n ≡ length (queue m from to)
  length_is to n e = e ∙ ap (λ r. length (get_or r to [])) is_row
