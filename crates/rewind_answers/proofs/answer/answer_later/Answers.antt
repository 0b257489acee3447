use Rattle.std.proofs.Common.{ap, ◌∙◌, inl, refl, sym}
use Rattle.serde_json.specs.View.{view}
use Rattle.rewind_forms.specs.Asked.{asked_of}
use Rattle.rewind_answers.specs.Stages.{logged}
use Rattle.rewind_answers.proofs.TextLaws.{later_asked, later_fault, lost_asked, unmade}
use Rattle.rewind_answers.proofs.answer.answer_later.Goals as goal

pub returns-in-Err : goal.returns-in-Err
returns-in-Err g c = record {
  replies =
      let same = c.graph-graph.ensures ∙ ap (λ s. s.graph) c.cluster.ensures.value in
      later_fault c.args.script.now.version (logged c.args.script.now.state) c.args.line (view c.args.value.now) c.in-Err.fault c.line_fault.result
      (λ some. ap (λ g. asked_of c.args.script.now.version g (view c.args.value.now)) (sym same) ∙ c.in-Err.ensures.err some) c.line_fault.ensures.reply;
  memory = unmade c.line_fault.result (inl refl);
}

pub returns : goal.returns
returns g c = record {
  replies =
      let same = c.graph-graph.ensures ∙ ap (λ s. s.graph) c.cluster.ensures.value in
      later_asked c.args.script.now.version (logged c.args.script.now.state) c.args.line (view c.args.value.now) c.in-Ok.asked c.answer_asked.result _
      (ap (λ g. asked_of c.args.script.now.version g (view c.args.value.now)) (sym same) ∙ c.in-Ok.ensures.ok) c.answer_asked.ensures.reply;
  memory =
      let same = c.graph-graph.ensures ∙ ap (λ s. s.graph) c.cluster.ensures.value in
      lost_asked c.args.script.now.version (logged c.args.script.now.state) c.args.line (view c.args.value.now) c.in-Ok.asked c.answer_asked.result _
      (ap (λ g. asked_of c.args.script.now.version g (view c.args.value.now)) (sym same) ∙ c.in-Ok.ensures.ok) c.answer_asked.ensures.memory;
}
