-- The first points of a list, and the first keys of entries in order.
use Rattle.std.proofs.Common.{◌≡◌, ◌≢◌, ◌<◌, ◌≤◌, ◌+◌, ℕ, List, length, get_or, Some, None, refl, sym, ap, ◌∙◌, ◌⊎◌, inl, inr, Less, Equal, arith}
use Rattle.std.specs.FinMap.{find}
use Rattle.std.proofs.lemmas.Bool.{cases_lt}
use Rattle.std.proofs.lemmas.Cmp.{tied_itself}
use Rattle.std.proofs.lemmas.List.{get_or-map, get_or_default, length-map}
use Rattle.nd_map.specs.Counts.{keys_of}
use Rattle.nd_map.specs.Entries.{find-index, found_at, rises}
use Rattle.nd_map.specs.Listed.{IsListed}
use Rattle.nd_paths.specs.Point.{point_cmp, point_total, point_exact}
use Rattle.nd_paths.specs.declared.point.Pointstamp.{Pointstamp}

-- q is one of the first i points
pub record IsEarly (ks : List Pointstamp) (i : ℕ) (q : Pointstamp) : Type 0 where
  pub index : ℕ
  pub early : index < i
  pub in_range : index < length ks
  pub is : get_or ks index q ≡ q

-- x is the next point, and not one of the first
pub record IsNext (ks : List Pointstamp) (i : ℕ) (x : Pointstamp) : Type 0 where
  pub in_range : i < length ks
  pub is : get_or ks i x ≡ x
  pub fresh : IsEarly ks i x → ⊥

pub later : (ks : List Pointstamp) (i : ℕ) (q : Pointstamp) → IsEarly ks i q → IsEarly ks (i + 1) q
later ks i q h = record { index = h.index; early = omega (arith, h.early); in_range = h.in_range; is = h.is }

pub last : (ks : List Pointstamp) (i : ℕ) (x : Pointstamp) → IsNext ks i x → IsEarly ks (i + 1) x
last ks i x next = record { index = i; early = omega arith; in_range = next.in_range; is = next.is }

pub split : (ks : List Pointstamp) (i : ℕ) (x : Pointstamp) → IsNext ks i x → (q : Pointstamp) → IsEarly ks (i + 1) q → IsEarly ks i q ⊎ (q ≡ x)
split ks i x next q h = elim (cases_lt h.index i) [
  | inl before ↦ inl (record { index = h.index; early = before; in_range = h.in_range; is = h.is })
  | inr at_least ↦
      let same : h.index ≡ i = omega (arith, at_least, h.early) in
      inr (sym h.is ∙ ap (λ k. get_or ks k q) same ∙ get_or_default ks i q x next.in_range ∙ next.is)
]

module _ {V : Type 0} (es : List (Pointstamp × V)) (ks : List Pointstamp) (keys : keys_of es ≡ ks) where
  -- there are as many keys as entries
  pub many_keys : length es ≡ length ks
  many_keys = sym (length-map es (λ e. e.0)) ∙ ap length keys

  -- the key of an entry
  pub key_at : (i : ℕ) (d : Pointstamp × V) (q : Pointstamp) → i < length es → get_or ks i q ≡ (get_or es i d).0
  key_at i d q lt = ap (λ l. get_or l i q) (sym keys) ∙ get_or-map (λ e. e.0) es i d q lt

  pub next_key : IsListed point_cmp es → (i : ℕ) (e : Pointstamp × V) → i < length es → e ≡ get_or es i e → IsNext ks i e.0
  next_key listed i e lt is = record {
    in_range = let many = many_keys in omega (arith, lt, many);
    is = key_at i e e.0 lt ∙ ap (λ y. y.0) (sym is);
    fresh = λ h.
        let before : (get_or es h.index e).0 ≡ e.0 = sym (key_at h.index e e.0 (omega (arith, h.early, lt))) ∙ h.is in
        let rise : point_cmp (get_or es h.index e).0 (get_or es i e).0 ≡ Less = rises point_cmp point_total es listed h.index i e h.early lt in
        let tied : point_cmp (get_or es h.index e).0 (get_or es i e).0 ≡ Equal = (λ j. point_cmp (before j) (ap (λ y. y.0) (sym is) j)) ∙ tied_itself point_total e.0 in
        absurd (cc (rise, tied));
  }

  -- the point of an entry is among all points, and no other is
  pub among_found : (q : Pointstamp) (v : V) (i : ℕ) → length es ≤ i → find point_cmp q es ≡ Some v → IsEarly ks i q
  among_found q v i past e =
      let found = found_at point_cmp point_exact es q v e in
      record {
        index = found.index;
        early = omega (arith, found.in_range, past);
        in_range = let many = many_keys in omega (arith, found.in_range, many);
        is = key_at found.index (q, v) q found.in_range ∙ ap (λ y. y.0) found.is;
      }

  pub found_among : V → IsListed point_cmp es → (q : Pointstamp) (i : ℕ) → IsEarly ks i q → find point_cmp q es ≢ None
  found_among v listed q i early none =
      let within : early.index < length es = let many = many_keys in omega (arith, early.in_range, many) in
      let d : Pointstamp × V = (q, v) in
      let key : (get_or es early.index d).0 ≡ q = sym (key_at early.index d q within) ∙ early.is in
      let found = ap (λ k. find point_cmp k es) (sym key) ∙ find-index point_cmp point_total es early.index d listed within in
      absurd (cc (none, found))

-- entries at the same points are as many
pub same_length : {V : Type 0} (es fs : List (Pointstamp × V)) → keys_of fs ≡ keys_of es → length fs ≡ length es
same_length es fs keys = many_keys fs (keys_of es) keys ∙ sym (many_keys es (keys_of es) refl)

-- what a look-up finds at an entry's point
pub entry_found : {V : Type 0} (es : List (Pointstamp × V)) (i : ℕ) (e : Pointstamp × V) → IsListed point_cmp es → i < length es → e ≡ get_or es i e → find point_cmp e.0 es ≡ Some e.1
entry_found es i e listed lt is = ap (λ y. find point_cmp y.0 es) is ∙ find-index point_cmp point_total es i e listed lt ∙ ap (λ y. Some y.1) (sym is)
