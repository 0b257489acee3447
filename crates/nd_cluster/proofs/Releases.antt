-- Which request a release makes.
use Rattle.std.proofs.Common.{◌≡◌, ℕ, Bool, true, false, not, cond, Option, Some, None, IsTrue, ◌↔◌, is_none, refl, sym, ap, ◌∙◌}
use Rattle.std.proofs.lemmas.Cmp.{tied_itself}
use Rattle.std.proofs.lemmas.Map.Views.{tells_apart}
use Rattle.std.specs.Ordering.{eq_by_cmp, is_eq}
use Rattle.std.specs.FinMap as fin
use Rattle.nd_paths.specs.Point.{point_cmp, point_total, point_exact}
use Rattle.nd_paths.specs.declared.point.Pointstamp.{Pointstamp}
use Rattle.nd_processor.specs.State.{Requests}
use Rattle.nd_protocol.specs.State.{ClusterState, processor}
use Rattle.nd_protocol.specs.Steps.{point_at}
use Rattle.nd_protocol.specs.declared.times.Later.{Later}
use Rattle.nd_protocol.specs.declared.times.Times.{Times}
use Rattle.nd_steps.specs.Drafts.{ReleasesSo, left_by, asks_later}

-- whether a request is there, from a test
unasked : (v : Option (Unit {0})) (b : Bool) → IsTrue b ↔ (v ≡ Some tt) → not b ≡ is_none v
unasked None true h = (let none : None ≡ Some tt = h.0 refl in absurd (cc))
unasked None false h = refl
unasked (Some u) true h = refl
unasked (Some u) false h = (let never : IsTrue false = h.1 refl in absurd (cc))

module _ (m : Requests) (x y : Pointstamp) where
  -- one request is removed, and each other one stays
  gone : y ≡ x → is_none (fin.get (fin.remove m x) y) ≡ true
  gone e =
      ap is_none (fin.get-remove point_total m x y ∙ ap (λ b. cond b None (fin.get m y)) (ap (λ z. eq_by_cmp point_cmp z x) e ∙ ap is_eq (tied_itself point_total x)))

  apart : (y ≡ x → ⊥) → eq_by_cmp point_cmp y x ≡ false
  apart other =
      elim (eq_by_cmp point_cmp y x) as (λ b. eq_by_cmp point_cmp y x ≡ b → b ≡ false) [
        | true ↦ λ t. absurd (other (tells_apart point_exact y x t))
        | false ↦ λ _. refl
      ] refl

  stays : (y ≡ x → ⊥) → is_none (fin.get (fin.remove m x) y) ≡ is_none (fin.get m y)
  stays other = ap is_none (fin.get-remove point_total m x y ∙ ap (λ b. cond b None (fin.get m y)) (apart other))

-- of the requests that are left once x is removed, unless it is kept
module _ (m : Requests) (x y : Pointstamp) where
  abbrev left : Bool → Requests
  left keep = cond keep m (fin.remove m x)

  same_left : y ≡ x → fin.get m x ≡ Some tt → (keep : Bool) → not keep ≡ is_none (fin.get (left keep) y)
  same_left e found true = sym (ap is_none (ap (fin.get m) e ∙ found))
  same_left e found false = sym (gone m x y e)

  others_left : (y ≡ x → ⊥) → (keep : Bool) → is_none (fin.get (left keep) y) ≡ is_none (fin.get m y)
  others_left other true = refl
  others_left other false = stays m x y other

module _ (s : ClusterState) (p vertex : ℕ) (times : Times) (kept : fin.get (processor s p).requests (point_at vertex times.time) ≡ Some tt) where
  abbrev m : Requests
  m = (processor s p).requests

  abbrev x : Pointstamp
  x = point_at vertex times.time

  -- what is asked, if the capability moves to `to`
  asks_is : (to : Later) → times.to ≡ Some to → asks_later (left_by m vertex times) vertex times.to ≡ is_none (fin.get (left m x x to.keep) (point_at vertex to.time))
  asks_is to is = ap (λ o. asks_later (left_by m vertex (record { time = times.time; to = o })) vertex o) is

  -- the later time is the one at which it was held
  pub asks_same : (to : Later) → times.to ≡ Some to → to.time ≡ times.time → ReleasesSo s p vertex times (not to.keep)
  asks_same to is same = record {
    asked = kept;
    anew = same_left m x (point_at vertex to.time) (ap (point_at vertex) same) kept to.keep ∙ sym (asks_is to is);
  }

  -- it is another time
  pub asks_other : (to : Later) → times.to ≡ Some to → (to.time ≡ times.time → ⊥) → (b : Bool) → IsTrue b ↔ (fin.get m (point_at vertex to.time) ≡ Some tt) → ReleasesSo s p vertex times (not b)
  asks_other to is other b there = record {
    asked = kept;
    anew =
        unasked (fin.get m (point_at vertex to.time)) b there
        ∙ sym (others_left m x (point_at vertex to.time) (λ e. other (ap (λ (y : Pointstamp). y.time) e)) to.keep)
        ∙ sym (asks_is to is);
  }
