-- Laws of the queues as lists: what is read after each operation, and that the inverse of each operation undoes it.
use Rattle.std.specs.Prelude.{◌≡◌, ℕ, ◌<◌, ◌-◌, List, [], ◌∷◌, ◌++◌, length, map, Some, slice_get, slice_index_or as get_or, slice_set as set, refl}
use Rattle.std.proofs.Common.{ap, ◌∙◌, arith}
use Rattle.std.proofs.lemmas.List.{length-append, get_or-set_same, set-set, set-get_or, take_at}
use Rattle.nd_delta.specs.Delta.{DeltaValue}
use Rattle.nd_mesh.specs.Mesh.{appended, without_newest, without_oldest, row, queue, with_queue, pushed, unpushed, popped, unpopped}

-- ---- one queue

pub without_newest-appended : (c : DeltaValue) (q : List DeltaValue) → without_newest (appended c q) ≡ q
without_newest-appended c q = take_at q (c ∷ []) (length (q ++ c ∷ []) - 1) (let e = length-append q (c ∷ []) in omega arith)

-- ---- one of many queues

pub queue-with_queue : (m : List (List (List DeltaValue))) (from to : ℕ) (q : List DeltaValue) → from < length m → to < length (row m from) → queue (with_queue m from to q) from to ≡ q
queue-with_queue m from to q f t = ap (λ r. get_or r to []) (get_or-set_same m from (set (row m from) to q) [] f) ∙ get_or-set_same (row m from) to q [] t

pub with_queue-twice : (m : List (List (List DeltaValue))) (from to : ℕ) (q r : List DeltaValue) → from < length m → with_queue (with_queue m from to q) from to r ≡ with_queue m from to r
with_queue-twice m from to q r f =
    set-set m from (set (row m from) to q) _
    ∙ ap (λ v. set m from (set v to r)) (get_or-set_same m from (set (row m from) to q) [] f)
    ∙ ap (set m from) (set-set (row m from) to q r)

pub with_queue-same : (m : List (List (List DeltaValue))) (from to : ℕ) → with_queue m from to (queue m from to) ≡ m
with_queue-same m from to = ap (set m from) (set-get_or (row m from) to []) ∙ set-get_or m from []

-- ---- all queues from one processor

pub row-pushed : (m : List (List (List DeltaValue))) (from : ℕ) (c : DeltaValue) → from < length m → row (pushed m from c) from ≡ map (appended c) (row m from)
row-pushed m from c f = get_or-set_same m from (map (appended c) (row m from)) [] f

-- ---- inverses

newest_back : (c : DeltaValue) (qs : List (List DeltaValue)) → map without_newest (map (appended c) qs) ≡ qs
newest_back c [] = refl
newest_back c (q ∷ qs) = ap (λ r. r ∷ map without_newest (map (appended c) qs)) (without_newest-appended c q) ∙ ap (λ rs. q ∷ rs) (newest_back c qs)

pub unpushed-pushed : (m : List (List (List DeltaValue))) (from : ℕ) (c : DeltaValue) → from < length m → unpushed (pushed m from c) from ≡ m
unpushed-pushed m from c f =
    set-set m from (map (appended c) (row m from)) _
    ∙ ap (λ r. set m from (map without_newest r)) (row-pushed m from c f)
    ∙ ap (set m from) (newest_back c (row m from))
    ∙ set-get_or m from []

pub popped-unpopped : (m : List (List (List DeltaValue))) (from to : ℕ) (c : DeltaValue) → from < length m → to < length (row m from) → popped (unpopped m from to c) from to ≡ m
popped-unpopped m from to c f t =
    with_queue-twice m from to (c ∷ queue m from to) _ f
    ∙ ap (λ q. with_queue m from to (without_oldest q)) (queue-with_queue m from to (c ∷ queue m from to) f t)
    ∙ with_queue-same m from to

oldest_back : (q : List DeltaValue) (c : DeltaValue) → slice_get q 0 ≡ Some c → c ∷ without_oldest q ≡ q
oldest_back [] c e = absurd (cc)
oldest_back (d ∷ q) c e = cc

pub unpopped-popped : (m : List (List (List DeltaValue))) (from to : ℕ) (c : DeltaValue) → from < length m → to < length (row m from) → slice_get (queue m from to) 0 ≡ Some c → unpopped (popped m from to) from to c ≡ m
unpopped-popped m from to c f t e =
    with_queue-twice m from to (without_oldest (queue m from to)) _ f
    ∙ ap (λ q. with_queue m from to (c ∷ q)) (queue-with_queue m from to (without_oldest (queue m from to)) f t)
    ∙ ap (with_queue m from to) (oldest_back (queue m from to) c e)
    ∙ with_queue-same m from to
