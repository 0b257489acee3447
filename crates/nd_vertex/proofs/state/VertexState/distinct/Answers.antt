use Rattle.std.proofs.Common.{◌≡◌, ℕ, ℤ, true, false, cond, [], ◌∷◌, pos, FitsSigned, w64, lit<, ap, sym, subst}
use Rattle.std.proofs.lemmas.Int.{to_z-of_z}
use Rattle.nd_map.specs.Counts.{at, set}
use Rattle.nd_vertex.specs.Items.{item_key, item_total}
use Rattle.nd_vertex.specs.Effects.{AreEmittable, AreValues}
use Rattle.nd_vertex.specs.Table.{is_zero}
use Rattle.nd_vertex.proofs.EffectsLemmas.{one, leads_none, values_set, is_there, is_absent}
use Rattle.nd_vertex.proofs.state.VertexState.distinct.Goals as goal

pub returns-in-Some-clause-ok : goal.returns-in-Some-clause-ok
returns-in-Some-clause-ok g c =
    let m = c.args.self.now in
    let v = c.args.value in
    let key = item_key c.args.time.now v in
    let there : is_zero (at m key) ≡ false = is_there (at m key) c.in-Some.field-0 (rw (to_z-of_z w64 v c.ranges.value) at c.in-Some.ensures.value) in
    record {
      output = ap (λ b. cond b ((0, v) ∷ []) []) (sym there);
      edit = leads_none m _ (ap (λ b. cond b (set item_total m key (pos 1)) m) (sym there));
    }

pub returns-in-None-clause-fits : goal.returns-in-None-clause-fits
returns-in-None-clause-fits g c =
    let m = c.args.self.now in
    let v = c.args.value in
    let key = item_key c.args.time.now v in
    let absent : is_zero (at m key) ≡ true = is_absent (at m key) (rw (to_z-of_z w64 v c.ranges.value) at c.in-None.ensures.value) in
    record {
      emissions = subst (λ b. AreEmittable (cond b ((0, v) ∷ []) [])) (sym absent) (one (λ (e : ℕ × ℤ). FitsSigned w64 e.1) (0, v) c.ranges.value);
      items = subst (λ b. AreValues (cond b (set item_total m key (pos 1)) m)) (sym absent)
          (values_set m key (pos 1) c.in-None.ensures.values (record { sfits = lit< tt }));
    }
