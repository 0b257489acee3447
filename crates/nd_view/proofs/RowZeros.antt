-- One number of a row is changed: what look-ups find, and the list of the points whose number is 0.
use Rattle.std.proofs.Common.{◌≡◌, ◌≢◌, ◌<◌, ℕ, List, length, get_or, Some, sym, ap, ◌∙◌, arith}
use Rattle.std.proofs.lemmas.List.{get_or_default}
use Rattle.std.specs.FinMap.{find, put}
use Rattle.nd_map.specs.Listed.{IsListed}
use Rattle.nd_paths.specs.Point.{point_cmp}
use Rattle.nd_paths.specs.declared.point.Pointstamp.{Pointstamp}
use Rattle.nd_view.specs.Kept.{IsFrontierBut, IsFrontierList}
use Rattle.nd_view.specs.Rows.{IsPutIn, Row, joined, points_by_row, row_of}
use Rattle.nd_view.proofs.Starts.{as_many, same_row, same_row_key}
use Rattle.nd_view.proofs.Walks.{row_found}
use Rattle.nd_view.proofs.Zeros.{found_now, others_there, right_but, right_still}

-- the number of e, entry k of row r, is changed to n
pub record IsChanged (r k n : ℕ) (old new : List Row) (e : Pointstamp × ℕ) : Type 0 where
  pub entry : k < length (row_of old r)
  pub is : e ≡ get_or (row_of old r) k e
  pub listed : IsListed point_cmp (joined old)
  pub told : IsPutIn r k n old new
  pub points : points_by_row new ≡ points_by_row old

module _ {r k n : ℕ} {old new : List Row} {e : Pointstamp × ℕ} (h : IsChanged r k n old new e) where
  put_is : joined new ≡ put point_cmp e.0 n (joined old)
  put_is = h.told e ∙ ap (λ y. put point_cmp y.0 n (joined old)) (sym h.is)

  pub was_found : find point_cmp e.0 (joined old) ≡ Some e.1
  was_found = row_found old h.listed r k e h.entry h.is

  pub is_found : find point_cmp e.0 (joined new) ≡ Some n
  is_found = found_now (joined old) (joined new) n e was_found put_is

  -- its point is the same afterwards
  pub its_point : (es : Row) (d : Pointstamp × ℕ) → es ≡ row_of new r → (get_or es k d).0 ≡ e.0
  its_point es d es_is =
      ap (λ l. (get_or l k d).0) es_is ∙ same_row_key old new h.points r k d h.entry
      ∙ ap (λ y. y.0) (get_or_default (row_of old r) k d e h.entry ∙ sym h.is)

  pub still_there : (es : Row) → es ≡ row_of new r → k < length es
  still_there es es_is = let same = same_row old new h.points r in omega (arith, same, h.entry, ap length es_is)

  pub right_others : (frontier : List Pointstamp) (room : ℕ) → IsFrontierList (joined old) frontier room → IsFrontierBut (joined new) frontier e.0
  right_others frontier room right = right_but (joined old) (joined new) frontier e.0 room (others_there (joined old) (joined new) n e was_found put_is) right

  -- the list is correct as it is, if the number was not 0 and is not
  pub right_as_it_is : (frontier : List Pointstamp) (room : ℕ) → IsFrontierList (joined old) frontier room → e.1 ≢ 0 → n ≢ 0 → IsFrontierList (joined new) frontier room
  right_as_it_is frontier room right was now = right_still (joined old) (joined new) n e was_found put_is frontier room right (as_many old new h.points) was now
