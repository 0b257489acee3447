use Rattle.std.proofs.Common.{◌∙◌, ap, arith, inl, inr, refl}
use Rattle.serde_json.specs.Data.{Data}
use Rattle.nd_graph.specs.Graph.{Dataflow}
use Rattle.nd_replies.specs.Faults.{code_of}
use Rattle.nd_replies.specs.declared.fault.Fault.TheVariants.{NoSuchPoint}
use Rattle.nd_state_json.specs.Objects.{object_of}
use Rattle.rewind_replies.specs.Replies.{fault, kept_step}
use Rattle.rewind_answers.proofs.TextLaws.{tells}
use Rattle.rewind_answers.proofs.kept.answer_step.Goals as goal

pub returns-then-to-eq0 : goal.returns-then-to-eq0
returns-then-to-eq0 c = record {
  reply = tells _ (fault (code_of NoSuchPoint)) c.no_such_point.result c.no_such_point.ensures.reply (inl (inl c.if-to-eq0.true, refl));
}

pub returns-in_default : goal.returns-in_default
returns-in_default c = record {
  reply = tells _ (fault (code_of NoSuchPoint)) c.no_such_point-in_default.result c.no_such_point-in_default.ensures.reply
      (inl (inr (omega (arith, c.if-to-eq0.false, c.in_default.ensures.none refl)), refl));
}

pub returns : goal.returns
returns c = record {
  reply =
      let told : Dataflow → Data = λ g. kept_step (object_of g c.in-Some.step.now) in
      tells _ (told c.graph.result.now) c.text_of.result c.text_of.ensures
      (inr (omega arith, (c.in-Some.step.now, c.in-Some.ensures.some, ap told (c.graph.ensures ∙ ap (λ s. s.graph) c.cluster.ensures.value))));
}
