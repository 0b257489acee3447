-- Precursor counts that are set right entry by entry: moved by one, or counted.
use Rattle.std.proofs.Common.{◌≡◌, ◌≢◌, ◌<◌, ◌≤◌, ◌+◌, ◌-◌, ℕ, Bool, true, false, cond, List, length, get_or, Option, Some, None, refl, sym, ap, subst, ◌∙◌, inl, inr, arith}
use Rattle.std.specs.FinMap.{find, put}
use Rattle.std.specs.FinMap.Entries.{length-put, length_without}
use Rattle.std.specs.Option.{is_some}
use Rattle.nd_map.specs.Counts.{keys_of}
use Rattle.nd_map.specs.Listed.{IsListed, without}
use Rattle.nd_graph.specs.Graph.{Dataflow}
use Rattle.nd_paths.specs.Order.{IsStrictlyBefore}
use Rattle.nd_paths.specs.Point.{point_cmp, point_total}
use Rattle.nd_paths.specs.declared.point.Pointstamp.{Pointstamp}
use Rattle.nd_delta.specs.Delta.{DeltaValue, at, size}
use Rattle.nd_view.specs.View.{IsPrecursor}
use Rattle.nd_view.specs.Kept.{IsKeptAt, IsMovable, IsReady, moved}
use Rattle.nd_view.proofs.Early.{IsEarly, IsNext, later, last, split, same_length, key_at, next_key, among_found, found_among, entry_found}
use Rattle.nd_view.proofs.Fors.{signed}
use Rattle.nd_view.proofs.Moves.{alike, apart, found_put, found_other, count_one, count_small, count_two}
use Rattle.nd_map.specs.Cases.{not_zero}

-- a put adds at most one entry
pub size_grown : (es fs : List (Pointstamp × ℕ)) (k : Pointstamp) (i : ℕ) → IsListed point_cmp es → fs ≡ put point_cmp k i es → length fs ≤ length es + 1
size_grown es fs k i listed put_is = subst (λ z. z ≤ length es + 1) (sym (ap length put_is ∙ length-put point_cmp point_total k i es listed)) (by (is_some (find point_cmp k es)))
  where
    by : (b : Bool) → cond b (length es) (length es + 1) ≤ length es + 1
    by true = omega arith
    by false = omega arith

-- a removal adds none
pub size_without : (es fs : List (Pointstamp × ℕ)) (k : Pointstamp) → IsListed point_cmp es → fs ≡ without point_cmp k es → length fs ≤ length es
size_without es fs k listed e =
    let counted = length_without point_cmp point_total k es listed in
    let same = ap length e in
    omega (arith, counted, same)

-- entries of which only the values have changed
pub same_key : (es fs : List (Pointstamp × ℕ)) (i : ℕ) (d : Pointstamp × ℕ) → keys_of fs ≡ keys_of es → i < length es → (get_or fs i d).0 ≡ (get_or es i d).0
same_key es fs i d keys lt =
    let many = same_length es fs keys in
    sym (key_at fs (keys_of es) keys i d d.0 (omega (arith, lt, many))) ∙ key_at es (keys_of es) refl i d d.0 lt

-- the first keys have their counts, and R holds of what is stored for the others
pub record IsMovedUpTo (g : Dataflow) (m : DeltaValue) (R : Pointstamp → Option ℕ → Type 0) (ks : List Pointstamp) (i : ℕ) (es : List (Pointstamp × ℕ)) : Type 0 where
  pub keys : keys_of es ≡ ks
  pub listed : IsListed point_cmp es
  pub done : (q : Pointstamp) → IsEarly ks i q → IsKeptAt g m q (find point_cmp q es)
  pub rest : (q : Pointstamp) → (IsEarly ks i q → ⊥) → R q (find point_cmp q es)

module _ (g : Dataflow) (m : DeltaValue) (R : Pointstamp → Option ℕ → Type 0) (ks : List Pointstamp) where
  -- before the first entry
  pub moved_none : (es : List (Pointstamp × ℕ)) (i : ℕ) → keys_of es ≡ ks → IsListed point_cmp es → i ≡ 0 → ((q : Pointstamp) → R q (find point_cmp q es)) → IsMovedUpTo g m R ks i es
  moved_none es i keys listed first each = record {
    keys = keys;
    listed = listed;
    done = λ q early. absurd (let lt = early.early in omega (arith, lt, first));
    rest = λ q _. each q;
  }

  module _ (i : ℕ) (es : List (Pointstamp × ℕ)) (h : IsMovedUpTo g m R ks i es) (e : Pointstamp × ℕ) (lt : i < length es) (is : e ≡ get_or es i e) where
    next : IsNext ks i e.0
    next = next_key es ks h.keys h.listed i e lt is

    -- the stored number is the count
    pub moved_skip : IsKeptAt g m e.0 (Some e.1) → IsMovedUpTo g m R ks (i + 1) es
    moved_skip right =
        let found = entry_found es i e h.listed lt is in
        record {
          keys = h.keys;
          listed = h.listed;
          done = λ q early. elim (split ks i e.0 next q early) [
            | inl before ↦ h.done q before
            | inr same ↦ subst (λ y. IsKeptAt g m y (find point_cmp y es)) (sym same) (subst (IsKeptAt g m e.0) (sym found) right)
          ];
          rest = λ q none. h.rest q (λ early. none (later ks i q early));
        }

    -- the count is put
    pub moved_put : (fs : List (Pointstamp × ℕ)) (n : ℕ) → fs ≡ put point_cmp e.0 n es → keys_of fs ≡ keys_of es → IsListed point_cmp fs → IsKeptAt g m e.0 (Some n) → IsMovedUpTo g m R ks (i + 1) fs
    moved_put fs n put_is keys listed right =
        record {
          keys = keys ∙ h.keys;
          listed = listed;
          done = λ q early. elim (alike q e.0) [
            | inl same ↦ subst (IsKeptAt g m q) (sym (ap (find point_cmp q) put_is ∙ found_put q e.0 n es same)) (subst (λ y. IsKeptAt g m y (Some n)) (sym same) right)
            | inr other ↦ elim (split ks i e.0 next q early) [
              | inl before ↦ subst (IsKeptAt g m q) (sym (ap (find point_cmp q) put_is ∙ found_other q e.0 n es other)) (h.done q before)
              | inr same ↦ absurd (apart q e.0 other same)
            ]
          ];
          rest = λ q none. elim (alike q e.0) [
            | inl same ↦ absurd (none (subst (IsEarly ks (i + 1)) (sym same) (last ks i e.0 next)))
            | inr other ↦ subst (R q) (sym (ap (find point_cmp q) put_is ∙ found_other q e.0 n es other)) (h.rest q (λ early. none (later ks i q early)))
          ];
        }

  -- what is stored for the key of a later entry
  pub waiting_on : (i k : ℕ) (es : List (Pointstamp × ℕ)) → IsMovedUpTo g m R ks i es → (e : Pointstamp × ℕ) → i ≤ k → k < length es → e ≡ get_or es k e → R e.0 (Some e.1)
  waiting_on i k es h e le lt is =
      let next = next_key es ks h.keys h.listed k e lt is in
      subst (R e.0) (entry_found es k e h.listed lt is)
      (h.rest e.0 (λ early. next.fresh (record { index = early.index; early = omega (arith, early.early, le); in_range = early.in_range; is = early.is })))

  -- after the last entry
  pub moved_all : ((q : Pointstamp) → R q None → IsKeptAt g m q None) → (i : ℕ) (es : List (Pointstamp × ℕ)) → length es ≤ i → IsMovedUpTo g m R ks i es → (q : Pointstamp) → IsKeptAt g m q (find point_cmp q es)
  moved_all absent i es past h q = by (find point_cmp q es) refl
    where
      by : (o : Option ℕ) → find point_cmp q es ≡ o → IsKeptAt g m q (find point_cmp q es)
      by None e = subst (IsKeptAt g m q) (sym e) (absent q (subst (R q) e (h.rest q (λ early. found_among es ks h.keys 0 h.listed q i early e))))
      by (Some n) e = h.done q (among_found es ks h.keys q n i past e)

-- ---- counts that are ready to be moved by one
module _ (g : Dataflow) (m : DeltaValue) (x : Pointstamp) (up : Bool) where
  pub movable : (q : Pointstamp) (n : ℕ) → IsReady g m x up q (Some n) → IsStrictlyBefore g x q → IsMovable g m q up (Some n)
  movable q n ready before = elim (signed (at m q)) [
    | inl positive ↦ ready.after positive before
    | inr never ↦ absurd (never (ready.others (λ both. never both.0)).0)
  ]

  pub stays : (q : Pointstamp) (n : ℕ) → IsReady g m x up q (Some n) → (IsStrictlyBefore g x q → ⊥) → IsKeptAt g m q (Some n)
  stays q n ready never = ready.others (λ both. never both.1)

  pub ready_absent : (q : Pointstamp) → IsReady g m x up q None → IsKeptAt g m q None
  ready_absent q ready = ready.others (λ both. ready.after both.0 both.1)

  -- what such a count allows
  pub room : (q : Pointstamp) (n : ℕ) → IsMovable g m q up (Some n) → up ≡ true → n + 1 ≤ size m
  room q n h e = by up h e
    where
      by : (b : Bool) → IsMovable g m q b (Some n) → b ≡ true → n + 1 ≤ size m
      by true k e = count_small (IsPrecursor g m q) m (n + 1) (λ y p. not_zero _ p.positive) k.1
      by false k e = absurd (cc)

  pub some : (q : Pointstamp) (n : ℕ) → IsMovable g m q up (Some n) → (up ≡ true → ⊥) → 1 ≤ n
  some q n h never = by up h never
    where
      by : (b : Bool) → IsMovable g m q b (Some n) → (b ≡ true → ⊥) → 1 ≤ n
      by true k e = absurd (e refl)
      by false k e = k.0

  pub arrived : (q : Pointstamp) (n : ℕ) → IsMovable g m q up (Some n) → IsKeptAt g m q (Some (moved up n))
  arrived q n h = by up h
    where
      by : (b : Bool) → IsMovable g m q b (Some n) → IsKeptAt g m q (Some (moved b n))
      by true k = k
      by false k = k.1

  -- the number neither is nor becomes 0, if something else than x is a precursor
  pub busy : (q : Pointstamp) (n : ℕ) → IsMovable g m q up (Some n) → (up ≡ true → IsPrecursor g m q x) → (y : Pointstamp) → IsPrecursor g m q y → y ≢ x → (n ≢ 0) × (moved up n ≢ 0)
  busy q n h first y p other = by up h first
    where
      by : (b : Bool) → IsMovable g m q b (Some n) → (b ≡ true → IsPrecursor g m q x) → (n ≢ 0) × (moved b n ≢ 0)
      by true k x_is = let two = count_two (IsPrecursor g m q) m (n + 1) (λ y p. not_zero _ p.positive) k.1 x y (x_is refl) p other in (λ z. omega (arith, two, z), λ z. omega (arith, two, z))
      by false k x_is = let one = count_one (IsPrecursor g m q) m (n - 1) (λ y p. not_zero _ p.positive) k.1.1 y p in (λ z. omega (arith, one, z), λ z. omega (arith, one, z))
