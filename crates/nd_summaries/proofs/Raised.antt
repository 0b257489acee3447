-- A number added to the last counter, and what a summary does to counters.
use Rattle.std.proofs.Common.{◌≡◌, ℕ, zero, suc, ◌+◌, ◌-◌, ◌<◌, ◌≤◌, List, [], ◌∷◌, ◌++◌, length, take, refl, sym, ◌∙◌, ap, arith, add_assoc, length-append, length-take}
use Rattle.std.proofs.lemmas.List.{append-nil, take_all}
use Rattle.nd_time.specs.Time.{IsSmallerAtFirstDifference, egress_of, feedback_of}
use Rattle.nd_summaries.specs.declared.summary.Summary.{Summary}
use Rattle.nd_summaries.specs.Summary.{raised, applied}
use Rattle.nd_time.specs.Order.{IsEachAtMost}
use Rattle.nd_summaries.proofs.Orders.{smaller_here, smaller_back}

pub length-raised : (a : ℕ) (c : List ℕ) → length (raised a c) ≡ length c
length-raised a [] = refl
length-raised a (x ∷ []) = refl
length-raised a (x ∷ y ∷ c) = let h = length-raised a (y ∷ c) in omega arith

pub length-applied : (s : Summary) (c : List ℕ) → s.keep ≤ length c → length (applied s c) ≡ s.keep + length s.constants
length-applied s c h =
    omega (arith, length-append (raised s.add (take s.keep c)) s.constants, length-raised s.add (take s.keep c), length-take s.keep c)

pub raised-zero : (c : List ℕ) → raised 0 c ≡ c
raised-zero [] = refl
raised-zero (x ∷ []) = let e : x + 0 ≡ x = omega arith in ap (λ y. y ∷ []) e
raised-zero (x ∷ y ∷ c) = ap (λ l. x ∷ l) (raised-zero (y ∷ c))

pub raised-raised : (a b : ℕ) (c : List ℕ) → raised b (raised a c) ≡ raised (a + b) c
raised-raised a b [] = refl
raised-raised a b (x ∷ []) = ap (λ n. n ∷ []) (add_assoc x a b)
raised-raised a b (x ∷ y ∷ []) = ap (λ n. x ∷ n ∷ []) (add_assoc y a b)
raised-raised a b (x ∷ y ∷ z ∷ c) = ap (λ l. x ∷ l) (raised-raised a b (y ∷ z ∷ c))

pub raised-front : (a : ℕ) (k l : List ℕ) → 0 < length l → raised a (k ++ l) ≡ k ++ raised a l
raised-front a [] l h = refl
raised-front a (x ∷ []) [] h = absurd (omega arith)
raised-front a (x ∷ []) (y ∷ l) h = refl
raised-front a (x ∷ z ∷ k) l h = ap (λ m. x ∷ m) (raised-front a (z ∷ k) l h)

pub raised_smaller : (a b : ℕ) (c : List ℕ) → 0 < length c → a < b → IsSmallerAtFirstDifference (raised a c) (raised b c)
raised_smaller a b [] h k = absurd (omega arith)
raised_smaller a b (x ∷ []) h k = smaller_here (x + a) (x + b) [] [] (omega arith)
raised_smaller a b (x ∷ y ∷ c) h k = smaller_back (x ∷ []) (raised a (y ∷ c)) (raised b (y ∷ c)) (raised_smaller a b (y ∷ c) (omega arith) k)

-- ---- actions

feedback_raises : (c : List ℕ) → feedback_of c ≡ raised 1 c
feedback_raises [] = refl
feedback_raises (x ∷ []) = refl
feedback_raises (x ∷ y ∷ c) = ap (λ l. x ∷ l) (feedback_raises (y ∷ c))

pub feedback_raised : (a : ℕ) (c : List ℕ) → feedback_of (raised a c) ≡ raised (a + 1) c
feedback_raised a c = feedback_raises (raised a c) ∙ raised-raised a 1 c

pub feedback_front : (k : List ℕ) (y : ℕ) (l : List ℕ) → feedback_of (k ++ y ∷ l) ≡ k ++ feedback_of (y ∷ l)
feedback_front k y l = feedback_raises (k ++ y ∷ l) ∙ raised-front 1 k (y ∷ l) (omega arith) ∙ ap (λ m. k ++ m) (sym (feedback_raises (y ∷ l)))

pub egress_front : (k : List ℕ) (y : ℕ) (l : List ℕ) → egress_of (k ++ y ∷ l) ≡ k ++ egress_of (y ∷ l)
egress_front [] y l = refl
egress_front (x ∷ []) y l = refl
egress_front (x ∷ z ∷ k) y l = ap (λ m. x ∷ m) (egress_front (z ∷ k) y l)

egress_raised : (a : ℕ) (c : List ℕ) → egress_of (raised a c) ≡ egress_of c
egress_raised a [] = refl
egress_raised a (x ∷ []) = refl
egress_raised a (x ∷ y ∷ []) = refl
egress_raised a (x ∷ y ∷ z ∷ c) = ap (λ l. x ∷ l) (egress_raised a (y ∷ z ∷ c))

egress_take : (n : ℕ) (c : List ℕ) → n < length c → egress_of (take (suc n) c) ≡ take n c
egress_take n [] h = absurd (omega arith)
egress_take zero (x ∷ c) h = refl
egress_take (suc n) (x ∷ []) h = absurd (omega arith)
egress_take (suc n) (x ∷ y ∷ c) h = ap (λ l. x ∷ l) (egress_take n (y ∷ c) (omega arith))

-- dropping the last of the counters that a summary keeps
pub egress_kept : (r a : ℕ) (c : List ℕ) → r ≤ length c → raised 0 (take (r - 1) c) ≡ egress_of (raised a (take r c))
egress_kept zero a c h = refl
egress_kept (suc n) a c h =
    let e : suc n - 1 ≡ n = omega arith in
    raised-zero (take (suc n - 1) c) ∙ ap (λ m. take m c) e ∙ sym (egress_take n c (omega arith)) ∙ sym (egress_raised a (take (suc n) c))

-- the summary of the empty walk changes nothing
pub applied-identity : (c : List ℕ) (d : ℕ) → length c ≡ d → raised 0 (take d c) ++ [] ≡ c
applied-identity c d h = append-nil (raised 0 (take d c)) ∙ raised-zero (take d c) ∙ take_all d c (omega arith)

-- ---- each number

pub each_raised : (m n : ℕ) (a b : List ℕ) → m ≤ n → IsEachAtMost a b → IsEachAtMost (raised m a) (raised n b)
each_raised m n [] [] l h = tt
each_raised m n [] (y ∷ b) l h = absurd h
each_raised m n (x ∷ a) [] l h = absurd h
each_raised m n (x ∷ []) (y ∷ []) l h = (omega (arith, h.0, l), tt)
each_raised m n (x ∷ []) (y ∷ z ∷ b) l h = absurd h.1
each_raised m n (x ∷ w ∷ a) (y ∷ []) l h = absurd h.1
each_raised m n (x ∷ w ∷ a) (y ∷ z ∷ b) l h = (h.0, each_raised m n (w ∷ a) (z ∷ b) l h.1)

pub each_raised_up : (n : ℕ) (a : List ℕ) → IsEachAtMost a (raised n a)
each_raised_up n [] = tt
each_raised_up n (x ∷ []) = (omega arith, tt)
each_raised_up n (x ∷ w ∷ a) = (omega arith, each_raised_up n (w ∷ a))
