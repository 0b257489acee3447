-- The number of changes in all queues, after each operation.
use Rattle.std.proofs.Common.{◌≡◌, ℕ, ◌<◌, ◌≤◌, ◌+◌, ◌-◌, zero, suc, List, [], ◌∷◌, length, map, get_or, Some, None, slice_get, refl, ap, sym, subst, ◌∙◌, arith}
use Rattle.std.specs.Prelude.{◌↔◌, IsTrue, nat_eq, sum_by}
use Rattle.std.proofs.Math.ListN.{set}
use Rattle.std.proofs.lemmas.Bool.Decides.{nat_tests}
use Rattle.std.proofs.lemmas.List.{length-take, length-drop, length_push, nil_from_length}
use Rattle.std.proofs.lemmas.List.Sums.{sum_by-cons, sum_by-set, get_or-le-sum_by}
use Rattle.nd_delta.specs.Delta.{DeltaValue}
use Rattle.nd_mesh.specs.Mesh.{appended, without_newest, without_oldest, row, queue, with_queue, pushed, unpushed, popped, unpopped, queued, HasQueue, IsFull, IsVacant, AreVacant, IsCounted}
use Rattle.nd_mesh.proofs.Kept.{mesh_pushed, mesh_unpushed, mesh_popped, mesh_unpopped}

-- ---- the queues from one processor

row-appended : (c : DeltaValue) (r : List (List DeltaValue)) → sum_by length (map (appended c) r) ≡ sum_by length r + length r
row-appended c [] = refl
row-appended c (q ∷ r) =
    omega (arith, sum_by-cons length (appended c q) (map (appended c) r), sum_by-cons length q r, length_push q c, row-appended c r)

row-shortened : (r : List (List DeltaValue)) → (HasQueue IsVacant r → ⊥) → sum_by length (map without_newest r) + length r ≡ sum_by length r
row-shortened [] some = refl
row-shortened ([] ∷ r) some = absurd (some (0, omega arith, refl))
row-shortened ((c ∷ q) ∷ r) some =
    let rest = row-shortened r (λ h. some (suc h.0, omega (arith, h.1), h.2)) in
    omega (arith, sum_by-cons length (without_newest (c ∷ q)) (map without_newest r), sum_by-cons length (c ∷ q) r, length-take (length (c ∷ q) - 1) (c ∷ q), rest)

row-none : (r : List (List DeltaValue)) → ((to : ℕ) → get_or r to [] ≡ []) → sum_by length r ≡ 0
row-none [] empty = refl
row-none (q ∷ r) empty = omega (arith, sum_by-cons length q r, ap length (empty 0), row-none r (λ to. empty (suc to)))

row-vacant : (r : List (List DeltaValue)) → sum_by length r ≡ 0 → (to : ℕ) → get_or r to [] ≡ []
row-vacant [] none to = refl
row-vacant (q ∷ r) none zero = nil_from_length q (omega (arith, sum_by-cons length q r, none))
row-vacant (q ∷ r) none (suc to) = row-vacant r (omega (arith, sum_by-cons length q r, none)) to

-- ---- all queues

queued-vacant : (m : List (List (List DeltaValue))) → AreVacant m → queued m ≡ 0
queued-vacant [] vacant = refl
queued-vacant (r ∷ m) vacant =
    omega (arith, sum_by-cons (sum_by length) r m, row-none r (vacant 0), queued-vacant m (λ from. vacant (suc from)))

vacant-queued : (m : List (List (List DeltaValue))) → queued m ≡ 0 → AreVacant m
vacant-queued [] none from to = refl
vacant-queued (r ∷ m) none zero to = row-vacant r (omega (arith, sum_by-cons (sum_by length) r m, none)) to
vacant-queued (r ∷ m) none (suc from) to = vacant-queued m (omega (arith, sum_by-cons (sum_by length) r m, none)) from to

pub counted_vacant : {n : ℕ} (m : List (List (List DeltaValue))) → IsCounted n m → IsTrue (nat_eq n 0) ↔ AreVacant m
counted_vacant {n} m is = (λ h. vacant-queued m (sym is.count ∙ zero_is n h), λ vacant. is_zero n (is.count ∙ queued-vacant m vacant))
  where
    zero_is : (k : ℕ) → IsTrue (nat_eq k 0) → k ≡ 0
    zero_is k h = grind (arith, nat_tests)

    is_zero : (k : ℕ) → k ≡ 0 → IsTrue (nat_eq k 0)
    is_zero k e = grind (arith, nat_tests)

module _ (m : List (List (List DeltaValue))) (from : ℕ) (f : from < length m) where
  -- a row is replaced
  queued-set : (r : List (List DeltaValue)) → queued (set m from r) + sum_by length (row m from) ≡ queued m + sum_by length r
  queued-set r = sum_by-set (sum_by length) m from r [] f

  -- a queue is replaced
  queued-with_queue : (to : ℕ) (q : List DeltaValue) → to < length (row m from) → queued (with_queue m from to q) + length (queue m from to) ≡ queued m + length q
  queued-with_queue to q t =
      omega (arith, queued-set (set (row m from) to q), sum_by-set length (row m from) to q [] t)

  module _ {n : ℕ} (is : IsCounted n m) where
    pub counted_pushed : (c : DeltaValue) (k : ℕ) → (HasQueue IsFull (row m from) → ⊥) → k ≡ n + length m → IsCounted k (pushed m from c)
    counted_pushed c k free e = record {
      mesh = mesh_pushed m from c is.mesh f free;
      count = omega (arith, e, is.count, queued-set (map (appended c) (row m from)), row-appended c (row m from), is.mesh.square from [] f);
    }

    pub length-le-queued : (HasQueue IsVacant (row m from) → ⊥) → length m ≤ n
    length-le-queued some = omega (arith, is.count, get_or-le-sum_by (sum_by length) m from [] f, row-shortened (row m from) some, is.mesh.square from [] f)

    pub counted_unpushed : (k : ℕ) → (HasQueue IsVacant (row m from) → ⊥) → k ≡ n - length m → IsCounted k (unpushed m from)
    counted_unpushed k some e = record {
      mesh = mesh_unpushed m from is.mesh f;
      count = omega (arith, e, is.count, queued-set (map without_newest (row m from)), row-shortened (row m from) some, is.mesh.square from [] f);
    }

    module _ (to : ℕ) (t : to < length m) where
      there : to < length (row m from)
      there = subst (λ k. to < k) (sym (is.mesh.square from [] f)) t

      -- the queue is empty
      pub counted_same : slice_get (queue m from to) 0 ≡ None → IsCounted n (popped m from to)
      counted_same e = record {
        mesh = mesh_popped m from to is.mesh f t;
        count = omega (arith, is.count, queued-with_queue to (without_oldest (queue m from to)) there, length-drop 1 (queue m from to), empty (queue m from to) e);
      }
        where
          empty : (q : List DeltaValue) → slice_get q 0 ≡ None → length q ≡ 0
          empty [] e = refl
          empty (d ∷ q) e = absurd (cc)

      some_queued : (c : DeltaValue) → slice_get (queue m from to) 0 ≡ Some c → 0 < length (queue m from to)
      some_queued c e = some (queue m from to) e
        where
          some : (q : List DeltaValue) → slice_get q 0 ≡ Some c → 0 < length q
          some [] e = absurd (cc)
          some (d ∷ q) e = omega arith

      pub counted_popped : (c : DeltaValue) → slice_get (queue m from to) 0 ≡ Some c → IsCounted (n - 1) (popped m from to)
      counted_popped c e = record {
        mesh = mesh_popped m from to is.mesh f t;
        count = omega (arith, is.count, queued-with_queue to (without_oldest (queue m from to)) there, length-drop 1 (queue m from to), some_queued c e);
      }

      pub counted_unpopped : (c : DeltaValue) (k : ℕ) → (IsFull (queue m from to) → ⊥) → k ≡ n + 1 → IsCounted k (unpopped m from to c)
      counted_unpopped c k free e = record {
        mesh = mesh_unpopped m from to c is.mesh f free;
        count = omega (arith, e, is.count, queued-with_queue to (c ∷ queue m from to) there);
      }
