-- What a vertex does on a record or a notification: the edits that lead to the items of the table.
use Rattle.std.proofs.Common.{◌≡◌, ◌≢◌, zero, suc, ℤ, pos, negsuc, ◌+ℤ◌, Bool, true, false, cond, [], ◌∷◌, Option, Some, None, FitsSigned, w64, to_z, of_z, refl, sym, ap, subst, ◌∙◌, arith}
use Rattle.std.specs.Prelude.{All}
use Rattle.std.specs.Option.{unwrap_or}
use Rattle.std.proofs.lemmas.Int.{to_z-of_z}
use Rattle.std.specs.List.{IsDistinct}
use Rattle.std.specs.Ordering.{eq_by_cmp}
use Rattle.nd_map.specs.Counts.{at, set, at-set}
use Rattle.nd_time.specs.Time.{Time}
use Rattle.nd_graph.specs.declared.op.Op.{Op}
use Rattle.nd_graph.specs.declared.op.Op.TheVariants.{Sum, Distinct}
use Rattle.nd_vertex.specs.Items.{Items, item_cmp, item_total}
use Rattle.nd_vertex.specs.Table.{plain_emissions, reacted, on_notice, emits, is_zero}
use Rattle.nd_vertex.specs.Edits.{LeadsTo, item_of, number_of, with_item}
use Rattle.nd_vertex.specs.Effects.{AreValues}
use Rattle.nd_vertex.specs.declared.key.ItemKey.{ItemKey}
use Rattle.nd_vertex.proofs.EditsLemmas.{put_same, number_at, itself}

pub one : {X : Type 0} (P : X → Type 0) (x : X) → P x → All P (x ∷ [])
one P x p zero d lt = p
one P x p (suc i) d lt = absurd (omega arith)

pub nothing : {X : Type 0} (P : X → Type 0) → All P []
nothing P i d lt = absurd (omega arith)

pub leads_none : (m n : Items) → m ≡ n → LeadsTo m [] n
unfolding IsDistinct
leads_none m n e = record { can_edit = record { olds = nothing _; news = nothing _; once = tt }; changes = nothing _; edited_is = e }

pub leads_one : (m : Items) (k : ItemKey) (old new : Option ℤ) → old ≡ item_of m k → new ≢ Some (pos 0) → old ≢ new → LeadsTo m (record { key = k; old = old; new = new } ∷ []) (with_item m k new)
unfolding IsDistinct
leads_one m k old new was some other = record {
  can_edit = record {
    olds = one (λ e. item_of m e.key ≡ e.old) (record { key = k; old = old; new = new }) (sym was);
    news = one (λ e. e.new ≢ Some (pos 0)) (record { key = k; old = old; new = new }) some;
    once = (tt, tt);
  };
  changes = one (λ e. e.old ≢ e.new) (record { key = k; old = old; new = new }) other;
  edited_is = refl;
}

-- an item is set to the number that it has
pub leads_same : (m : Items) (k : ItemKey) (old new : Option ℤ) → old ≡ item_of m k → old ≡ new → LeadsTo m [] (with_item m k new)
leads_same m k old new was e = leads_none m (with_item m k new) (sym (put_same m k new (sym was ∙ e)))

either : (b : Bool) (y z : ℤ) → FitsSigned w64 y → FitsSigned w64 z → FitsSigned w64 (cond b y z)
either true y z p q = p
either false y z p q = q

pub values_set : (m : Items) (k : ItemKey) (z : ℤ) → AreValues m → FitsSigned w64 z → AreValues (set item_total m k z)
values_set m k z values fits q = subst (FitsSigned w64) (sym (at-set item_total m k z q)) (either (eq_by_cmp item_cmp q k) z (at m q) (fits) (values q))

-- operators without items
pub reacted_plain : (op : Op) (m : Items) (t : Time) (v : ℤ) → ¬ (op ≡ Sum) → ¬ (op ≡ Distinct) → reacted op m t v ≡ (plain_emissions op v, m)
reacted_plain Sum m t v s d = absurd (s refl)
reacted_plain Distinct m t v s d = absurd (d refl)
reacted_plain op m t v s d = refl

pub noticed_plain : (op : Op) (m : Items) (t : Time) → ¬ (op ≡ Sum) → ¬ (op ≡ Distinct) → on_notice op m t ≡ emits m []
noticed_plain Sum m t s d = absurd (s refl)
noticed_plain Distinct m t s d = absurd (d refl)
noticed_plain op m t s d = refl

-- ---- the new number of a sum, and what distinct has seen

or_number : (o : Option ℤ) → unwrap_or o (pos 0) ≡ number_of o
or_number None = refl
or_number (Some z) = refl

-- the sum as the code computes it
pub total : (m : Items) (k : ItemKey) (r v : ℤ) → r ≡ unwrap_or (item_of m k) (pos 0) → AreValues m → FitsSigned w64 v → to_z w64 (of_z w64 r) +ℤ to_z w64 (of_z w64 v) ≡ at m k +ℤ v
total m k r v is values range =
    let here : r ≡ at m k = is ∙ or_number (item_of m k) ∙ number_at m k in
    λ i. (ap (λ z. to_z w64 (of_z w64 z)) here ∙ to_z-of_z w64 (at m k) (values k)) i +ℤ to_z-of_z w64 v range i

pub at_here : (m : Items) (k : ItemKey) (z : ℤ) → at (set item_total m k z) k ≡ z
at_here m k z = at-set item_total m k z k ∙ ap (λ b. cond b z (at m k)) (itself k)

pub is_there : (z x : ℤ) → Some x ≡ cond (is_zero z) None (Some z) → is_zero z ≡ false
is_there (pos zero) x e = absurd (cc)
is_there (pos (suc n)) x e = refl
is_there (negsuc n) x e = refl

pub is_absent : (z : ℤ) → None ≡ cond (is_zero z) None (Some z) → is_zero z ≡ true
is_absent (pos zero) e = refl
is_absent (pos (suc n)) e = absurd (cc)
is_absent (negsuc n) e = absurd (cc)
