-- The entries that a vertex stores, and their items.
use Rattle.std.proofs.Common.{◌≡◌, ◌≢◌, ℤ, pos, zero, suc, negsuc, cond, List, Option, Some, None, FitsSigned, w64, lit<, refl, sym, ap, subst, ◌∙◌}
use Rattle.std.specs.FinMap.{find, put}
use Rattle.std.proofs.lemmas.Map.Views.{tells_apart}
use Rattle.nd_map.specs.Counts.{integers, at, of_entries, entries}
use Rattle.nd_map.specs.KeptLaws as laws
use Rattle.nd_vertex.specs.Items.{Items, item_cmp, item_total, item_exact}
use Rattle.nd_vertex.specs.Table.{is_zero}
use Rattle.nd_vertex.specs.Edits.{item_of, number_of}
use Rattle.nd_vertex.specs.Effects.{AreValues}
use Rattle.nd_vertex.specs.Kept.{IsNumber, IsKept}
use Rattle.nd_vertex.specs.declared.key.ItemKey.{ItemKey}

-- a number other than 0 is the item itself
there : (x : Option ℤ) → x ≢ Some (pos 0) → x ≡ cond (is_zero (number_of x)) None (Some (number_of x))
there None h = refl
there (Some (pos zero)) h = absurd (h refl)
there (Some (pos (suc n))) h = refl
there (Some (negsuc n)) h = refl

pub there_at : (m : Items) (k : ItemKey) (x : Option ℤ) → x ≢ Some (pos 0) → number_of x ≡ at m k → x ≡ item_of m k
there_at m k x h e = there x h ∙ ap (λ z. cond (is_zero z) None (Some z)) e

pub kept_put : (es : List (ItemKey × ℤ)) (k : ItemKey) (v : ℤ) → IsNumber k v → IsKept es → IsKept (put item_cmp k v es)
kept_put es k v number kept = laws.kept_put item_cmp item_total es k IsNumber v (λ q t. subst (λ x. IsNumber x v) (sym (tells_apart item_exact q k t)) number) kept

module _ (es : List (ItemKey × ℤ)) (kept : IsKept es) (m : Items) (view : of_entries item_total es ≡ m) where
  pub listed : es ≡ entries m
  listed = laws.listed integers item_total item_exact es m view IsNumber kept (λ _ _ number. number.some)

  -- what a lookup finds is the item
  pub found : (k : ItemKey) → find item_cmp k es ≡ item_of m k
  found k = there_at m k _ (laws.not_nil integers item_total item_exact es m view IsNumber kept (λ _ _ number. number.some) k) (laws.at_found integers item_total item_exact es m view k)

  pub values : AreValues m
  values k = laws.at_is integers item_total item_exact es m view IsNumber kept (FitsSigned w64) k (λ _ number. number.fits) (record { sfits = lit< tt })
