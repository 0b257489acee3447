use Rattle.std.proofs.Common.{◌∙◌, ap}
use Rattle.std.proofs.lemmas.Result.{IfOk-weaker}
use Rattle.serde_json.specs.Data.{Data}
use Rattle.nd_graph.specs.Graph.{Dataflow}
use Rattle.nd_steps.specs.Effect.{lists_of}
use Rattle.rewind_replies.specs.Effects.{effect_data}
use Rattle.nd_state_json.specs.Objects.{object_of}
use Rattle.rewind_replies.specs.Replies.{effect}
use Rattle.rewind_answers.specs.Explained.{effected, uneffected}
use Rattle.rewind_answers.proofs.TextLaws.{tells}
use Rattle.rewind_answers.proofs.kept.answer_effect.Goals as goal

pub returns-in-Ok : goal.returns-in-Ok
returns-in-Ok c = record {
  reply =
      let e = c.in-Ok.effected in
      let told : Dataflow → Data = λ g. effect (effect_data g (lists_of e.changed)) (object_of g e.step) in
      tells _ (told c.graph.result.now) c.text_of.result c.text_of.ensures
      (effected e c.in-Ok.ensures.there c.in-Ok.ensures.effect (ap told (c.graph.ensures ∙ ap (λ s. s.graph) c.cluster.ensures.value)));
}

pub returns-in-Err : goal.returns-in-Err
returns-in-Err c = record {
  reply = IfOk-weaker c.refuse_effect.result _ _ (λ t told. (told.0, uneffected c.in-Err.fault c.in-Err.ensures.err told.1, told.2)) c.refuse_effect.ensures.reply;
}
