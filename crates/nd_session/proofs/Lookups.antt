-- A receipt that a lookup finds in a list, compared with a known one.
use Rattle.std.proofs.Common.{◌≡◌, ◌≢◌, ℕ, ◌<◌, ◌≤◌, Bool, true, false, List, length, get_or, Some, sym, ap, ◌∙◌, arith, MatchBool}
use Rattle.std.specs.Prelude.{slice_get}
use Rattle.std.proofs.lemmas.Option.{slice_get-get_or, slice_get_within}

module _ {X : Type 0} (xs : List X) (i : ℕ) where
  -- what was found is at the index
  pub found : (x : X) → i < length xs → x ≡ get_or xs i x → slice_get xs i ≡ Some x
  found x within is = slice_get-get_or xs i x within ∙ ap Some (sym is)

  -- it is the known one exactly if the two are equal
  pub compared : (b : Bool) (x y : X) → slice_get xs i ≡ Some x → MatchBool b (x ≡ y) (x ≢ y) → MatchBool b (slice_get xs i ≡ Some y) (slice_get xs i ≡ Some y → ⊥)
  compared true x y there same = there ∙ ap Some same
  compared false x y there other = λ h. other (let one : Some x ≡ Some y = sym there ∙ h in let e : x ≡ y = cc in e)

  -- no element is beyond the end
  pub beyond : (y : X) → length xs ≤ i → slice_get xs i ≡ Some y → ⊥
  beyond y past h = let within : i < length xs = slice_get_within xs i y h in omega (arith, past)
