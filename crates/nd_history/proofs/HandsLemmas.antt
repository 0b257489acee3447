-- What a worker has drawn when it stops.
use Rattle.std.proofs.Common.{◌≡◌, ◌<◌, ◌≤◌, ℕ, ◌+◌, ◌-◌, [], ◌∷◌, ◌++◌, All, length, length-append, append-nil, refl, sym, ap, ◌∙◌, arith}
use Rattle.std.proofs.lemmas.List.Elements.{All-nil}
use Rattle.atomic_table.specs.Seated.{TableId}
use Rattle.nd_history.specs.Hands.{hand}
use Rattle.nd_history.specs.Works.{HasDrawn}
use Rattle.nd_history.specs.declared.work.Work.{Work}
use Rattle.nd_history.proofs.Elements.{all_more}

module _ {A : Type 0} (table : TableId) (p k : ℕ) (work : Work A) (table_is : work.ticket.table_id ≡ table) where
  -- each drawn number was a piece
  pub pieces_drawn : work.ticket.me ≡ (hand (p + 1) (p + 1 - k) work.searched.claimed.items, []) → length work.searched.claimed.items ≡ k → k ≤ p + 1 → All (λ x. x < p) work.searched.claimed.items → HasDrawn table p work
  pieces_drawn me_is count within below =
      let drawn : work.ticket.me.0.drawn ≡ work.searched.claimed.items = ap (λ m. m.0.drawn) me_is in
      let left : work.ticket.me.0.allowance ≡ p + 1 - k = ap (λ m. m.0.allowance) me_is in record {
        table_is = table_is;
        no_slots = ap (λ m. m.1) me_is;
        weight = omega (arith, left, ap length drawn, count, within);
        below = below;
        over = [];
        above = All-nil (λ x. p ≤ x);
        drawn = drawn ∙ sym (append-nil work.searched.claimed.items);
      }

  -- the last drawn number was no piece
  pub one_over : (n : ℕ) → p ≤ n → work.ticket.me ≡ (hand (p + 1) (p + 1 - (k + 1)) (work.searched.claimed.items ++ n ∷ []), []) → length work.searched.claimed.items ≡ k → k < p + 1 → All (λ x. x < p) work.searched.claimed.items → HasDrawn table p work
  one_over n over me_is count within below =
      let drawn : work.ticket.me.0.drawn ≡ work.searched.claimed.items ++ n ∷ [] = ap (λ m. m.0.drawn) me_is in
      let left : work.ticket.me.0.allowance ≡ p + 1 - (k + 1) = ap (λ m. m.0.allowance) me_is in record {
        table_is = table_is;
        no_slots = ap (λ m. m.1) me_is;
        weight = omega (arith, left, ap length drawn, length-append work.searched.claimed.items (n ∷ []), count, within);
        below = below;
        over = n ∷ [];
        above = all_more (λ x. p ≤ x) [] (n ∷ []) n refl (All-nil (λ x. p ≤ x)) over;
        drawn = drawn;
      }
