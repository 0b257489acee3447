-- Each operation on the queues leaves a mesh.
use Rattle.std.proofs.Common.{◌≡◌, ℕ, ◌<◌, ◌≤◌, ◌-◌, List, [], ◌∷◌, length, map, get_or, subst, sym, ◌∙◌, inl, inr, arith}
use Rattle.std.proofs.Math.ListN.{set}
use Rattle.std.specs.List.{All}
use Rattle.std.proofs.lemmas.Bool.{cases_lt}
use Rattle.std.proofs.lemmas.List.{length-set, length-map, length-take, length-drop, length_push, get_or_default}
use Rattle.std.proofs.lemmas.List.Elements.{All-set, All-map}
use Rattle.nd_time.specs.Limits.{max_queue}
use Rattle.nd_delta.specs.Delta.{DeltaValue}
use Rattle.nd_mesh.specs.Mesh.{appended, without_newest, without_oldest, row, queue, with_queue, pushed, unpushed, popped, unpopped, HasQueue, IsFull, IsMesh}

-- each queue is within the limit
abbrev pub AreWithin : List (List DeltaValue) → Type 0
AreWithin queues = All (λ q. length q ≤ max_queue) queues

-- a row is replaced by one of the same length, each queue within the limit
mesh_set : (m : List (List (List DeltaValue))) (from : ℕ) (queues : List (List DeltaValue)) → IsMesh m → length queues ≡ length m → AreWithin queues → IsMesh (set m from queues)
mesh_set m from queues mesh long within = record {
  square = subst (λ n. All (λ r. length r ≡ n) (set m from queues)) (sym (length-set m from queues)) (All-set (λ r. length r ≡ length m) m from queues long mesh.square);
  within = All-set AreWithin m from queues within mesh.within;
}

pub mesh_pushed : (m : List (List (List DeltaValue))) (from : ℕ) (c : DeltaValue) → IsMesh m → from < length m → (HasQueue IsFull (row m from) → ⊥) → IsMesh (pushed m from c)
mesh_pushed m from c mesh f free =
    mesh_set m from (map (appended c) (row m from)) mesh (length-map (row m from) (appended c) ∙ mesh.square from [] f)
    (All-map (λ q. length q ≤ max_queue) (appended c) (row m from) (λ k d lt.
    let long = length_push (get_or (row m from) k d) c in
    let room : length (get_or (row m from) k d) < max_queue = below k d lt in
    omega arith))
  where
    below : (k : ℕ) (d : List DeltaValue) → k < length (row m from) → length (get_or (row m from) k d) < max_queue
    below k d lt = elim (cases_lt (length (get_or (row m from) k d)) max_queue) [
      | inl less ↦ less
      | inr full ↦ absurd (free (k, lt, subst (λ q. max_queue ≤ length q) (get_or_default (row m from) k d [] lt) full))
    ]

pub mesh_unpushed : (m : List (List (List DeltaValue))) (from : ℕ) → IsMesh m → from < length m → IsMesh (unpushed m from)
mesh_unpushed m from mesh f =
    mesh_set m from (map without_newest (row m from)) mesh (length-map (row m from) without_newest ∙ mesh.square from [] f)
    (All-map (λ q. length q ≤ max_queue) without_newest (row m from) (λ k d lt.
    let short = length-take (length (get_or (row m from) k d) - 1) (get_or (row m from) k d) in
    let within = mesh.within from [] f k d lt in
    omega arith))

mesh_with_queue : (m : List (List (List DeltaValue))) (from to : ℕ) (q : List DeltaValue) → IsMesh m → from < length m → length q ≤ max_queue → IsMesh (with_queue m from to q)
mesh_with_queue m from to q mesh f short =
    mesh_set m from (set (row m from) to q) mesh (length-set (row m from) to q ∙ mesh.square from [] f)
    (All-set (λ r. length r ≤ max_queue) (row m from) to q short (mesh.within from [] f))

pub mesh_popped : (m : List (List (List DeltaValue))) (from to : ℕ) → IsMesh m → from < length m → to < length m → IsMesh (popped m from to)
mesh_popped m from to mesh f t =
    let there = mesh.square from [] f in
    let within = mesh.within from [] f to [] (omega arith) in
    let short = length-drop 1 (queue m from to) in
    mesh_with_queue m from to (without_oldest (queue m from to)) mesh f (omega arith)

pub mesh_unpopped : (m : List (List (List DeltaValue))) (from to : ℕ) (c : DeltaValue) → IsMesh m → from < length m → (IsFull (queue m from to) → ⊥) → IsMesh (unpopped m from to c)
mesh_unpopped m from to c mesh f free = mesh_with_queue m from to (c ∷ queue m from to) mesh f (omega arith)
