use Rattle.std.proofs.Common.{◌≡◌, ◌≢◌, ◌∙◌, ℕ, Vec, ap, refl, Some}
use Rattle.std.proofs.lemmas.Result.{IfOk-weaker}
use Rattle.std.specs.declared.alloc.Global.{Global}
use Rattle.serde_json.specs.Written.{compact_text}
use Rattle.nd_history.specs.Faults.{code_of_search}
use Rattle.nd_history.specs.declared.fault.SearchFault.{SearchFault}
use Rattle.nd_history.specs.declared.fault.SearchFault.TheVariants as search
use Rattle.rewind_replies.specs.Replies.{fault, piece_fault}
use Rattle.rewind_answers.specs.Answers.{search_fault}
use Rattle.rewind_answers.proofs.TextLaws.{tells}
use Rattle.rewind_answers.proofs.query.refuse_search.Goals as goal

pub returns-in-Missing : goal.returns-in-Missing
returns-in-Missing c = record {
  reply = IfOk-weaker c.text_of.result _ _ (λ t text. (
    piece_fault c.code-code.result c.in-Missing.piece,
    ap (λ e. Some (piece_fault e c.in-Missing.piece)) c.code-code.ensures ∙ rw c.in-Missing.is refl,
    text ∙ (λ i. compact_text (piece_fault (record { number = c.number.ensures i; name = c.name.ensures i }) c.in-Missing.piece)),
  )) c.text_of.ensures;
}

told : (e : SearchFault Global) → e ≢ search.Memory → ((n : ℕ) (claimed : Vec (Vec ℕ Global) Global) → e ≢ search.Missing n claimed) → Some (fault (code_of_search e)) ≡ search_fault e
told search.Memory some whole = absurd (some refl)
told (search.Missing n claimed) some whole = absurd (whole n claimed refl)
told _ some whole = refl

pub returns-in_default : goal.returns-in_default
returns-in_default c = record {
  reply = tells _ (fault c.code.result) c.text_of-in_default.result c.text_of-in_default.ensures
      (ap (λ e. Some (fault e)) c.code.ensures ∙ told c.args.fault.now c.in_default.not-Memory c.in_default.not-Missing);
}
