use Rattle.std.proofs.Common.{◌≡◌, ◌<◌, List, length, None, refl, sym, ap, subst, ◌∙◌, true≢false}
use Rattle.std.specs.Prelude.{slice_get}
use Rattle.nd_delta.specs.Delta.{DeltaValue, plus, IsTooLarge}
use Rattle.nd_mesh.specs.Mesh.{queue}
use Rattle.nd_steps.proofs.Ends.{without_front}
use Rattle.nd_steps.proofs.receive.planned_front.Goals as goal

pub get-requires-clause-sender : goal.get-requires-clause-sender
get-requires-clause-sender g c = subst (λ n. c.args.from < n) (sym (ap (λ (m : List (List (List DeltaValue))). length m) c.mesh-mesh.ensures ∙ c.requires.state.fits.each_sender)) c.requires.sender

pub get-requires-clause-receiver : goal.get-requires-clause-receiver
get-requires-clause-receiver g c = subst (λ n. c.args.to < n) (sym (ap (λ (m : List (List (List DeltaValue))). length m) c.mesh-mesh.ensures ∙ c.requires.state.fits.each_sender)) c.requires.receiver

pub view-requires : goal.view-requires
view-requires g c = subst (λ n. c.args.to < n) (sym c.requires.state.fits.each_view) c.requires.receiver

pub returns-in_default-clause-refused : goal.returns-in_default-clause-refused
returns-in_default-clause-refused g c =
    without_front _ (subst (λ m. slice_get (queue m c.args.from c.args.to) 0 ≡ None) c.mesh-mesh.ensures (sym c.in_default.ensures.value))

pub returns-then-is_overfull-clause-refused : goal.returns-then-is_overfull-clause-refused
returns-then-is_overfull-clause-refused g c = (
  c.in-Some.front.now,
  ap (λ m. slice_get (queue m c.args.from c.args.to) 0) (sym c.mesh-mesh.ensures) ∙ sym c.in-Some.ensures.value,
  subst (λ m. IsTooLarge (plus m c.in-Some.front.now)) (c.counts.ensures ∙ c.view.ensures.map) (c.if-is_overfull.ensures.passes.0 refl),
)

pub returns-in_default-copy-clause-refused : goal.returns-in_default-copy-clause-refused
returns-in_default-copy-clause-refused g c = (
  c.in-Some.front.now,
  ap (λ m. slice_get (queue m c.args.from c.args.to) 0) (sym c.mesh-mesh.ensures) ∙ sym c.in-Some.ensures.value,
  λ large. true≢false (sym (c.if-is_overfull.ensures.passes.1 (subst (λ m. IsTooLarge (plus m c.in-Some.front.now)) (sym (c.counts.ensures ∙ c.view.ensures.map)) large))),
)
