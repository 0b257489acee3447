use Rattle.std.proofs.Common.{rules, w64, ap, sym, subst, ◌∙◌}
use Rattle.std.proofs.lemmas.Int.{to_z-of_z}
use Rattle.nd_vertex.specs.Effects.{AreEmittable, AreValues, IsInRange}
use Rattle.nd_vertex.specs.Table.{on_record}
use Rattle.nd_vertex.proofs.KeptLemmas.{values}
use Rattle.nd_vertex.proofs.EffectsLemmas.{leads_none, reacted_plain}
use Rattle.nd_vertex.proofs.state.VertexState.reaction.Goals as goal

pub returns-in_ok-plain_output-in_default : goal.returns-in_ok-plain_output-in_default
returns-in_ok-plain_output-in_default g c =
    let m = c.args.self.now in
    let plain = reacted_plain c.args.op m c.args.time.now c.args.value c.in_default.not-Sum c.in_default.not-Distinct in
    let emitted = ap (λ r. r.0) (sym plain) in
    let kept = ap (λ r. r.1) (sym plain) in
    let told = rw (to_z-of_z w64 c.args.value c.ranges.value) at c.in_ok-plain_output-in_default.ensures in
    record {
      ok = record { output = told.ok ∙ emitted; edit = leads_none m _ kept };
      fits = record {
        emissions = subst AreEmittable emitted told.fits;
        items = subst AreValues kept (values c.self.inside.map c.self.invariant m c.self.view_is);
      };
      fault = tt;
      range = tt;
    }

pub returns-in_err-plain_output-in_default : goal.returns-in_err-plain_output-in_default
returns-in_err-plain_output-in_default g c =
    let op = c.args.op in
    let m = c.args.self.now in
    let plain = reacted_plain op m c.args.time.now c.args.value c.in_default.not-Sum c.in_default.not-Distinct in
    let told = rw (to_z-of_z w64 c.args.value c.ranges.value) at c.in_err-plain_output-in_default.ensures in
    let far : IsInRange (on_record op m c.args.time.now c.args.value) → ⊥ = λ r. told.range (subst AreEmittable (ap (λ r. r.0) plain) r.emissions) in
    search (rules, far)
