use Rattle.std.proofs.Common.{◌≡◌, ◌∙◌, Some, ap, arith, string_bytes, subst, sym}
use Rattle.nd_cluster.specs.Starting.{IsStartFault}
use Rattle.nd_cluster.specs.declared.start.StartFault.{StartFault}
use Rattle.nd_cluster.specs.declared.start.StartFault.TheVariants.{LoopNotStrict}
use Rattle.rewind_replies.specs.Replies.{location_fault}
use Rattle.rewind_answers.proofs.AnswerLaws.{not_strict_replies}
use Rattle.rewind_answers.proofs.answer.start_on.Goals as goal

pub returns-in-Err-LoopNotStrict : goal.returns-in-Err-LoopNotStrict
returns-in-Err-LoopNotStrict c = record {
  replies =
      let name = string_bytes c.in_ok-name-in-Err-LoopNotStrict.name in
      let same : c.from.result ≡ c.args.processors = omega (arith, c.from.ensures) in
      let fails : IsStartFault c.args.graph c.args.processors (LoopNotStrict c.in-Err-LoopNotStrict.location) =
      subst (λ (f : StartFault). IsStartFault c.args.graph c.args.processors f) c.in-Err-LoopNotStrict.field-0-is
      (subst (λ n. IsStartFault c.args.graph n c.in-Err-LoopNotStrict.field-0) same c.in-Err-LoopNotStrict.ensures.fault) in
      not_strict_replies c.args.version c.args.processors c.in-Err-LoopNotStrict.location c.args.graph c.in_ok-names.names name _ (omega (arith, c.from-count.ensures, c.most_processors.ensures)) fails c.in_ok-names.ensures
      (c.location_name.ensures ∙ ap Some (sym c.in_ok-name-in-Err-LoopNotStrict.ensures.ok)) (λ i. location_fault (c.code-in-Err-LoopNotStrict.ensures i) name);
}
