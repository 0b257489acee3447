-- The effect has as many elements as there are keys and queues at which the states differ.
use Rattle.std.proofs.Common.{◌≡◌, ◌+◌, ℕ, zero, suc, Bool, true, false, cond, List, [], ◌∷◌, length, refl, ◌∙◌, arith, length-append}
use Rattle.std.proofs.lemmas.List.{length-map}
use Rattle.std.specs.Ordering.{eq_by_cmp}
use Rattle.nd_map.specs.Counts.{entries}
use Rattle.nd_protocol.specs.State.{ClusterState, queue}
use Rattle.nd_steps.specs.Places.{Place, place_at, view_of}
use Rattle.nd_steps.specs.Integers.{difference, changed, queues_changed, queue_cmp, sum_below}
use Rattle.nd_steps.specs.declared.slot.Slot.TheVariants.{Records, Request, Token, State, Sink, Unsent}
use Rattle.nd_steps.specs.declared.effect.Altered.{Altered}
use Rattle.nd_steps.specs.Effect.{joined_below, queue_at, queues_altered, places_altered, effect_at, effect_of, altered_count}

-- one element in some list for each place
one_each : (s t : ClusterState) (ks : List Place) (qs : List (Altered ℕ ℕ)) → altered_count (effect_at s t ks qs) ≡ length ks + length qs
one_each s t [] qs = omega arith
one_each s t (place_at p (Records key) ∷ ks) qs = let e = one_each s t ks qs in omega (arith, e)
one_each s t (place_at p (Request x) ∷ ks) qs = let e = one_each s t ks qs in omega (arith, e)
one_each s t (place_at p (Token vertex) ∷ ks) qs = let e = one_each s t ks qs in omega (arith, e)
one_each s t (place_at p (State vertex key) ∷ ks) qs = let e = one_each s t ks qs in omega (arith, e)
one_each s t (place_at p (Sink key) ∷ ks) qs = let e = one_each s t ks qs in omega (arith, e)
one_each s t (place_at p (Unsent x) ∷ ks) qs = let e = one_each s t ks qs in omega (arith, e)
one_each s t (view_of q x ∷ ks) qs = let e = one_each s t ks qs in omega (arith, e)

joined_count : {X : Type 0} (n : ℕ) (f : ℕ → List X) (g : ℕ → ℕ) → ((k : ℕ) → length (f k) ≡ g k) → length (joined_below n f) ≡ sum_below n g
joined_count zero f g h = refl
joined_count (suc n) f g h = length-append (joined_below n f) (f n) ∙ (λ i. joined_count n f g h i + h n i)

one_or_none : (b : Bool) (x : Altered ℕ ℕ) → length (cond b [] (x ∷ [])) ≡ cond b 0 1
one_or_none true x = refl
one_or_none false x = refl

queue_count : (s t : ClusterState) → length (queues_altered s t) ≡ queues_changed s t
unfolding queues_changed
queue_count s t =
    joined_count (length s.processors) _ _ (λ p. joined_count (length s.processors) (queue_at s t p) _ (λ q.
    one_or_none (eq_by_cmp queue_cmp (queue s p q) (queue t p q)) _))

-- as many elements as keys and queues at which the states differ
pub as_many_as_changed : (s t : ClusterState) → altered_count (effect_of s t) ≡ changed s t
unfolding effect_of
as_many_as_changed s t =
    let keys : length (places_altered s t) ≡ length (entries (difference s t)) = length-map (entries (difference s t)) _ in
    let queues = queue_count s t in
    one_each s t (places_altered s t) (queues_altered s t) ∙ (λ i. keys i + queues i)
