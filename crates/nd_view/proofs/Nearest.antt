-- What the count of a positive point says about the precursors of a later point at its location.
use Rattle.std.proofs.Common.{◌≡◌, ◌≢◌, ◌≤◌, ◌+◌, ℕ, pos, List, length, get_or, Some, refl, sym, ap, subst, ◌∙◌, inl, inr, arith}
use Rattle.std.specs.Prelude.{Contains}
use Rattle.std.specs.FinMap.{find}
use Rattle.nd_graph.specs.Graph.{Dataflow}
use Rattle.nd_time.specs.Order.{AreAtMost}
use Rattle.nd_map.specs.Entries.{find-index}
use Rattle.nd_map.specs.Listed.{IsListed}
use Rattle.nd_paths.specs.Order.{CouldResultIn, IsStrictlyBefore}
use Rattle.nd_summaries.specs.Walk.{HasDepth, IsWalk, effect}
use Rattle.nd_paths.specs.Point.{point_cmp, point_total}
use Rattle.nd_paths.specs.declared.point.Pointstamp.{Pointstamp}
use Rattle.nd_delta.specs.Delta.{DeltaValue, none, at, set, at-none, at-set_same, size-set, size-none}
use Rattle.nd_map.specs.Cases.{not_zero, zero_or_not}
use Rattle.nd_view.specs.View.{IsPrecursor, IsCount}
use Rattle.nd_view.specs.Kept.{IsKeptAt, AreKept, IsEarlier, IsNear}
use Rattle.nd_view.proofs.Moves.{alike, apart, at-elsewhere}

-- no point has a negative epoch
pub count_nothing : (g : Dataflow) (m : DeltaValue) (t : Pointstamp) → IsCount (IsEarlier g m t 0) m 0
count_nothing g m t = (
  none,
  record { all = λ q p. absurd (omega (arith, p.early)); only = λ q some. absurd (some (at-none q)) },
  size-none,
)

-- what could result in s could result in t, at the location of s with the same counters, if its epoch is not later
pub beside : (g : Dataflow) (x s t : Pointstamp) → s.location ≡ t.location → s.time.counters ≡ t.time.counters → x.time.epoch ≤ t.time.epoch → CouldResultIn g x s → CouldResultIn g x t
beside g x s t place counters epoch h = record {
  fits_s = h.fits_s;
  fits_t = record { depth = subst (λ cs. HasDepth g t.location (length cs)) counters (subst (λ l. HasDepth g l (length s.time.counters)) place h.fits_t.depth) };
  walk = h.walk;
  leads = subst (IsWalk g x.location h.walk) place h.leads;
  before = record { depth = h.before.depth ∙ ap length counters; epoch = epoch; counters = subst (AreAtMost g.order (effect h.walk x.time.counters)) counters h.before.counters };
}

module _ (g : Dataflow) (m : DeltaValue) (es : List (Pointstamp × ℕ)) (t : Pointstamp) (e : Pointstamp × ℕ) (listed : IsListed point_cmp es) (kept : AreKept g m es) (among : Contains es e) (near : IsNear e.0 t) where
  -- the count stored for the entry is correct
  pub kept_near : IsKeptAt g m e.0 (Some e.1)
  kept_near =
      let found : find point_cmp (get_or es among.0 e).0 es ≡ Some (get_or es among.0 e).1 = find-index point_cmp point_total es among.0 e listed among.1 in
      kept e.0 e.1 (subst (λ x. find point_cmp x.0 es ≡ Some x.1) among.2 found)

  -- a point before the entry's is before t
  up : (x : Pointstamp) → CouldResultIn g x e.0 → CouldResultIn g x t
  up x h = beside g x e.0 t near.0 (near.2 ∙ sym near.3) (omega (arith, h.before.epoch, near.1)) h

  down : (x : Pointstamp) → x.time.epoch ≤ e.0.time.epoch → CouldResultIn g x t → CouldResultIn g x e.0
  down x low h = beside g x t e.0 (sym near.0) (near.3 ∙ sym near.2) low h

  -- a precursor of the entry's point is an earlier precursor of t
  earlier_of : (x : Pointstamp) → IsPrecursor g m e.0 x → IsEarlier g m t (e.0.time.epoch + 1) x
  earlier_of x p = let rise = p.before.0.before.epoch in record {
    precursor = record { positive = p.positive; before = (up x p.before.0, λ same. let e_is = ap (λ q. q.time.epoch) same in omega (arith, e_is, rise, near.1)) };
    early = omega (arith, rise);
  }

  precursor_of : (x : Pointstamp) → (x ≢ e.0) → IsEarlier g m t (e.0.time.epoch + 1) x → IsPrecursor g m e.0 x
  precursor_of x other p = record { positive = p.precursor.positive; before = (down x (omega (arith, p.early)) p.precursor.before.0, other) }

  -- the entry's point is itself a precursor of t
  pub count_with : IsStrictlyBefore g e.0 t → IsCount (IsEarlier g m t (e.0.time.epoch + 1)) m (e.1 + 1)
  count_with before =
      let f = kept_near.1.0 in
      let part = kept_near.1.1 in
      let v = at m e.0 in
      let fresh : at f e.0 ≡ pos 0 = elim (zero_or_not (at f e.0)) [ inl z ↦ z | inr some ↦ absurd ((part.only e.0 some).before.1 refl) ] in (
        set f e.0 v,
        record {
          all = λ q p. elim (alike q e.0) [
            | inl same ↦ ap (at (set f e.0 v)) same ∙ at-set_same f e.0 v ∙ ap (at m) (sym same)
            | inr other ↦ at-elsewhere f e.0 v q other ∙ part.all q (precursor_of q (apart q e.0 other) p)
          ];
          only = λ q some. elim (alike q e.0) [
            | inl same ↦ subst (IsEarlier g m t (e.0.time.epoch + 1)) (sym same) (record { precursor = record { positive = kept_near.0; before = before }; early = omega arith })
            | inr other ↦ earlier_of q (part.only q (λ z. some (at-elsewhere f e.0 v q other ∙ z)))
          ];
        },
        size-set f e.0 v (not_zero v kept_near.0) fresh ∙ ap (λ k. k + 1) kept_near.1.2,
      )

  -- the entry's point is not a precursor of t
  pub count_without : (IsStrictlyBefore g e.0 t → ⊥) → IsCount (IsEarlier g m t (e.0.time.epoch + 1)) m e.1
  count_without never =
      let part = kept_near.1.1 in (
        kept_near.1.0,
        record {
          all = λ q p. part.all q (precursor_of q (λ same. never (subst (λ z. IsStrictlyBefore g z t) same p.precursor.before)) p);
          only = λ q some. earlier_of q (part.only q some);
        },
        kept_near.1.2,
      )
