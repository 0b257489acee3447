-- The progress protocol, seen through functions: what holds of the changes, views and queues of a cluster,
-- and what one step does to them. P are the points, C the changes.
use Rattle.std.specs.Prelude.{◌≡◌, ◌≢◌, ℕ, ◌<◌, ◌≤◌, ◌⊎◌, List, [], ◌∷◌, ◌++◌, length, drop, ℤ, pos, ◌+ℤ◌, ◌<ℤ◌}
use Rattle.nd_delta.specs.Upright.{IsUpright}
use Rattle.nd_protocol.specs.Invariant.{total}

pub record IsStrictOrder {P : Type 0} (R : P → P → Type 0) : Type 0 where
  pub irreflexive : (x : P) → R x x → ⊥
  pub transitive : (x y z : P) → R x y → R y z → R x z

-- D contains each point that is before a point of D
abbrev pub IsDownward : {P : Type 0} → (P → P → Type 0) → (P → Type 0) → Type 0
IsDownward {P} R D = (x y : P) → R x y → D y → D x

-- x is one of the list
abbrev pub IsIn : {P : Type 0} → List P → P → Type 0
IsIn [] x = ⊥
IsIn (y ∷ ys) x = (y ≡ x) ⊎ IsIn ys x

-- f is zero except at finitely many points
abbrev pub IsFinite : {P : Type 0} → (P → ℤ) → Type 0
IsFinite {P} f = (points : List P) × ((x : P) → f x ≢ pos 0 → IsIn points x)

-- the sum of a queue at a point
abbrev pub sum_at : {P C : Type 0} → (C → P → ℤ) → List C → P → ℤ
sum_at at [] x = pos 0
sum_at at (c ∷ cs) x = at c x +ℤ sum_at at cs x

-- what the theorem reads of a cluster
pub record Reading (P C : Type 0) : Type 0 where
  pub n : ℕ  -- processors
  pub truth : P → ℕ
  pub supports : ℕ → P → ℕ  -- how much a processor holds at a point that supports what is strictly after it; it counts in the truth
  pub view : ℕ → C
  pub unsent : ℕ → C
  pub queue : ℕ → ℕ → List C  -- from, to

-- the processor holds such a support at the point
abbrev pub IsHeld : {P C : Type 0} → Reading P C → ℕ → P → Type 0
IsHeld r p y = 0 < r.supports p y

module _ {P C : Type 0} (R : P → P → Type 0) (at : C → P → ℤ) where
  -- what q has not yet received from p, after k more changes are received
  abbrev pub pending : Reading P C → ℕ → ℕ → ℕ → P → ℤ
  pending r p q k x = sum_at at (drop k (r.queue p q)) x +ℤ at (r.unsent p) x

  -- each view plus all that is pending to it is the truth
  abbrev pub IsBalanced : Reading P C → Type 0
  IsBalanced r = (q : ℕ) → q < r.n → (x : P) → pos (r.truth x) ≡ (at (r.view q) x +ℤ total r.n (λ p. pending r p q 0 x))

  pub record IsSound (r : Reading P C) : Type 0 where
    pub balance : IsBalanced r
    pub upright : (p q k : ℕ) → p < r.n → q < r.n → k ≤ length (r.queue p q) → IsUpright R (IsHeld r p) (pending r p q k)
    pub counted : (p : ℕ) → p < r.n → (x : P) → r.supports p x ≤ r.truth x

  -- p executes a step: d is what it adds to the truth, and becomes unsent
  pub record Adds (p : ℕ) (d : P → ℤ) (r s : Reading P C) : Type 0 where
    pub here : p < r.n
    pub n : s.n ≡ r.n
    pub truth : (x : P) → pos (s.truth x) ≡ (pos (r.truth x) +ℤ d x)
    pub unsent : (x : P) → at (s.unsent p) x ≡ (at (r.unsent p) x +ℤ d x)
    pub unsent_others : (k : ℕ) → k ≢ p → s.unsent k ≡ r.unsent k
    pub view : (q : ℕ) → s.view q ≡ r.view q
    pub queue : (k q : ℕ) → s.queue k q ≡ r.queue k q

  -- p executes a step, and d is upright
  pub record Performs (p : ℕ) (d : P → ℤ) (r s : Reading P C) : Type 0 where
    pub adds : Adds p d r s
    pub justified : IsUpright R (IsHeld r p) d
    pub moved : (x : P) → IsHeld r p x → IsHeld s p x ⊎ (d x <ℤ pos 0)
    pub counted : (k : ℕ) → k < r.n → (x : P) → s.supports k x ≤ s.truth x
    pub others : (k : ℕ) → k ≢ p → (x : P) → s.supports k x ≡ r.supports k x

  -- p sends c, a part of what is unsent, to all processors; what stays is upright
  pub record Broadcasts (p : ℕ) (c : C) (r s : Reading P C) : Type 0 where
    pub here : p < r.n
    pub n : s.n ≡ r.n
    pub truth : (x : P) → s.truth x ≡ r.truth x
    pub supports : (k : ℕ) (x : P) → s.supports k x ≡ r.supports k x
    pub unsent : (x : P) → at (r.unsent p) x ≡ (at c x +ℤ at (s.unsent p) x)
    pub stays : IsUpright R (IsHeld r p) (at (s.unsent p))
    pub unsent_others : (k : ℕ) → k ≢ p → s.unsent k ≡ r.unsent k
    pub view : (q : ℕ) → s.view q ≡ r.view q
    pub queue : (q : ℕ) → q < r.n → s.queue p q ≡ r.queue p q ++ c ∷ []
    pub queue_others : (k q : ℕ) → k ≢ p → s.queue k q ≡ r.queue k q

  -- the front c of the queue from p to q is added to q's view
  pub record Receives (p q : ℕ) (c : C) (r s : Reading P C) : Type 0 where
    pub from_here : p < r.n
    pub to_here : q < r.n
    pub n : s.n ≡ r.n
    pub truth : (x : P) → s.truth x ≡ r.truth x
    pub supports : (k : ℕ) (x : P) → s.supports k x ≡ r.supports k x
    pub unsent : (k : ℕ) → s.unsent k ≡ r.unsent k
    pub view : (x : P) → at (s.view q) x ≡ (at (r.view q) x +ℤ at c x)
    pub view_others : (k : ℕ) → k ≢ q → s.view k ≡ r.view k
    pub queue : r.queue p q ≡ c ∷ s.queue p q
    pub queue_others : (k l : ℕ) → (k ≡ p → l ≡ q → ⊥) → s.queue k l ≡ r.queue k l

  -- one step of any of these kinds
  abbrev pub Steps : Reading P C → Reading P C → Type 0
  Steps r s =
      ((p : ℕ) × (d : P → ℤ) × Performs p d r s)
      ⊎ (((p : ℕ) × (c : C) × Broadcasts p c r s)
      ⊎ ((p : ℕ) × (q : ℕ) × (c : C) × Receives p q c r s))

  -- the initial state: each view is the truth, and the queues are empty
  pub record IsStart (r : Reading P C) : Type 0 where
    pub view : (q : ℕ) → q < r.n → (x : P) → at (r.view q) x ≡ pos (r.truth x)
    pub unsent : (p : ℕ) → p < r.n → (x : P) → at (r.unsent p) x ≡ pos 0
    pub queue : (p q : ℕ) → p < r.n → q < r.n → r.queue p q ≡ []
    pub counted : (p : ℕ) → p < r.n → (x : P) → r.supports p x ≤ r.truth x
