-- What a loop has appended to a list, turn by turn.
use Rattle.std.proofs.Common.{◌≡◌, ◌<◌, ◌+◌, ℕ, List, [], ◌∷◌, ◌++◌, ℤ, length, take, get_or, map, ap, sym, ◌∙◌, append_assoc, add-one, arith, ◌≤◌, w64, to_z, of_z, unsigned_abs}
use Rattle.std.proofs.lemmas.Int.{to_z-of_z, fits_signed_from_abs}
use Rattle.std.proofs.lemmas.List.{take_more, map-append}
use Rattle.std.specs.List.{flat_map}
use Rattle.nd_time.specs.Limits.{max_count}
use Rattle.nd_paths.specs.declared.point.Pointstamp.{Pointstamp}
use Rattle.nd_delta.specs.Delta.{DeltaValue, at}
use Rattle.nd_processor.specs.State.{ProcessorState}
use Rattle.nd_why.specs.Why.{in_turn, records_at, requests_at, tokens_at, held_by, unless_zero, queued_at, unheard_from}
use Rattle.nd_why.specs.declared.answer.Held.{Held}
use Rattle.nd_why.specs.declared.answer.Unheard.{Unheard}
use Rattle.nd_why.specs.declared.answer.Unheard.TheVariants.{Unsent}

-- an integer within the limit, as the code stores it
pub small : (z : ℤ) → unsigned_abs z ≤ max_count → to_z w64 (of_z w64 z) ≡ z
small z fits = to_z-of_z w64 z (fits_signed_from_abs w64 z (omega (arith, fits)))

module _ {Y : Type 0} (old before new : List Y) where
  -- turn n of a counted loop
  pub turn_more : (one : List Y) (n : ℕ) (f : ℕ → List Y) → before ≡ old ++ in_turn n f → new ≡ before ++ one → one ≡ f n → new ≡ old ++ in_turn (n + 1) f
  turn_more one n f is more here = more ∙ (λ i. is i ++ here i) ∙ append_assoc old (in_turn n f) (f n) ∙ ap (λ k. old ++ in_turn k f) (sym (add-one n))

  module _ {X : Type 0} (f : X → List Y) (xs : List X) where
    -- the turn for the first item that an iterator has left
    pub left_more : (all : List Y) (x : X) (rest : List X) → xs ≡ x ∷ rest → before ++ flat_map f xs ≡ all → new ≡ before ++ f x → new ++ flat_map f rest ≡ all
    left_more all x rest step is more =
        ap (λ ys. ys ++ flat_map f rest) more ∙ append_assoc before (f x) (flat_map f rest) ∙ ap (λ ys. before ++ flat_map f ys) (sym step) ∙ is

-- the turn for the item at an index, in a list with one element per item
pub map_more : {X Y : Type 0} (f : X → Y) (xs : List X) (i : ℕ) (x : X) → i < length xs → x ≡ get_or xs i x → (before new : List Y) (y : Y) → before ≡ map f (take i xs) → new ≡ before ++ y ∷ [] → y ≡ f x → new ≡ map f (take (i + 1) xs)
map_more f xs i x lt at before new y is more here =
    more ∙ (λ k. is k ++ (here ∙ ap f at) k ∷ []) ∙ sym (ap (map f) (take_more xs i x lt) ∙ map-append f (take i xs) (get_or xs i x ∷ []))

-- the records, the request and the token of a processor
pub held_more : (p : ℕ) (r : ProcessorState) (b : Pointstamp) (before first second new : List Held) → first ≡ before ++ records_at p r b → second ≡ first ++ requests_at p r b → new ≡ second ++ tokens_at p r b → new ≡ before ++ held_by p r b
unfolding held_by
held_more p r b before first second new x y z =
    z ∙ ap (λ hs. hs ++ tokens_at p r b) (y ∙ ap (λ hs. hs ++ requests_at p r b) x ∙ append_assoc before (records_at p r b) (requests_at p r b))
    ∙ append_assoc before (records_at p r b ++ requests_at p r b) (tokens_at p r b) ∙ ap (λ hs. before ++ hs) (append_assoc (records_at p r b) (requests_at p r b) (tokens_at p r b))

-- what is unsent, and what is queued
pub unheard_more : (p : ℕ) (n : ℤ) (unsent : DeltaValue) (changes : List DeltaValue) (b : Pointstamp) (before first new : List Unheard) → n ≡ at unsent b → first ≡ before ++ unless_zero n (Unsent p n) → new ≡ first ++ queued_at p changes b → new ≡ before ++ unheard_from p unsent changes b
unfolding unheard_from
unheard_more p n unsent changes b before first new is x y =
    y ∙ ap (λ us. us ++ queued_at p changes b) (x ∙ ap (λ m. before ++ unless_zero m (Unsent p m)) is) ∙ append_assoc before (unless_zero (at unsent b) (Unsent p (at unsent b))) (queued_at p changes b)
