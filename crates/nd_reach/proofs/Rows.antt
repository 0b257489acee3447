-- The forms of the queues from a processor tell them apart.
use Rattle.std.proofs.Common.{◌≡◌, ℕ, zero, suc, Bool, true, false, cond, List, [], ◌∷◌, ◌++◌, length, map, reverse, take, drop, refl, sym, ap, subst, ◌∙◌}
use Rattle.std.specs.List.{flat_map}
use Rattle.std.specs.Str.{bytes_eq}
use Rattle.std.proofs.lemmas.List.{length-map, reverse-reverse, take-append-drop}
use Rattle.std.proofs.lemmas.Slice.Eq.{bytes_eq-Decides}
use Rattle.nd_delta.specs.Delta.{DeltaValue}
use Rattle.nd_reach.specs.Forms.{change_form, in_common, longest, queue_form, row_form}
use Rattle.nd_reach.proofs.Numbers.{Tells, tells_number}
use Rattle.nd_reach.proofs.Lists.{told_before, told_all, told_both, tells_list}
use Rattle.nd_reach.proofs.Parts.{tells_change}

-- ---- what a queue has in common with another

-- changes with the same form are the same
pub same_change : (c d : DeltaValue) → bytes_eq (change_form c) (change_form d) ≡ true → c ≡ d
same_change c d e = (tells_change.told c d [] [] (ap (λ bs. bs ++ []) ((bytes_eq-Decides (change_form c) (change_form d)).0 e))).0

taken_by : (b : Bool) (c d : DeltaValue) (cs ds : List DeltaValue) (k : ℕ) → bytes_eq (change_form c) (change_form d) ≡ b
    → take k ds ≡ take k cs → take (cond b (suc k) zero) (d ∷ ds) ≡ take (cond b (suc k) zero) (c ∷ cs)
taken_by false c d cs ds k e others = refl
taken_by true c d cs ds k e others =
    let one = same_change c d e in
    λ i. sym one i ∷ others i

-- what two lists have in common at their beginnings is the same in both
taken : (other newest : List DeltaValue) → take (in_common other newest) newest ≡ take (in_common other newest) other
taken [] newest = refl
taken (c ∷ cs) [] = refl
taken (c ∷ cs) (d ∷ ds) = taken_by (bytes_eq (change_form c) (change_form d)) c d cs ds (in_common cs ds) refl (taken cs ds)

pub tells_queue : (other : List DeltaValue) → Tells (queue_form other)
tells_queue other = record {
  told = λ xs ys r s e.
      let j = in_common other xs in
      let k = in_common other ys in
      let all = told_both tells_number (tells_list tells_change) j k (drop j xs) (drop k ys) r s e in
      let left : xs ≡ take j other ++ drop j xs = sym (take-append-drop j xs) ∙ ap (λ zs. zs ++ drop j xs) (taken other xs) in
      let right : ys ≡ take k other ++ drop k ys = sym (take-append-drop k ys) ∙ ap (λ zs. zs ++ drop k ys) (taken other ys) in
      let middle : take j other ++ drop j xs ≡ take k other ++ drop k ys = λ i. take (all.0 i) other ++ all.1.0 i in
      (left ∙ middle ∙ sym right, all.1.1);
}

-- ---- the queues from a processor

mapped_back : (row : List (List DeltaValue)) → map reverse (map reverse row) ≡ row
mapped_back [] = refl
mapped_back (q ∷ row) =
    let one = reverse-reverse q in
    let others = mapped_back row in
    λ i. one i ∷ others i

-- the forms of two rows of as many queues tell them apart
pub told_row : (xs ys : List (List DeltaValue)) (r s : List ℕ) → length xs ≡ length ys → row_form xs ++ r ≡ row_form ys ++ s → (xs ≡ ys) × (r ≡ s)
told_row xs ys r s n e =
    let first = longest (map reverse xs) in
    let second = longest (map reverse ys) in
    let begun = told_before (tells_list tells_change) first second (flat_map (queue_form first) (map reverse xs)) (flat_map (queue_form second) (map reverse ys)) r s e in
    let rest : flat_map (queue_form first) (map reverse xs) ++ r ≡ flat_map (queue_form first) (map reverse ys) ++ s =
    subst (λ other. flat_map (queue_form first) (map reverse xs) ++ r ≡ flat_map (queue_form other) (map reverse ys) ++ s) (sym begun.0) begun.1 in
    let others = told_all (tells_queue first) (map reverse xs) (map reverse ys) r s (length-map xs reverse ∙ n ∙ sym (length-map ys reverse)) rest in
    (sym (mapped_back xs) ∙ ap (map reverse) others.0 ∙ mapped_back ys, others.1)
