use Rattle.std.proofs.Common.{◌≡◌, ◌≢◌, ◌∙◌, ℕ, Some, ap, refl}
use Rattle.std.proofs.lemmas.Result.{IfOk-weaker}
use Rattle.serde_json.specs.Written.{compact_text}
use Rattle.rewind_forms.specs.LineFaults.{code_of}
use Rattle.rewind_replies.specs.Replies.{faulty}
use Rattle.rewind_answers.specs.FaultyLines.{line_fault as line_fault_data}
use Rattle.rewind_forms.specs.declared.fault.LineFault.{LineFault}
use Rattle.rewind_forms.specs.declared.fault.LineFault.TheVariants as line
use Rattle.rewind_answers.proofs.faulty_lines.line_fault.Goals as goal

told : (e : LineFault) (n : ℕ) → e ≢ line.Memory → Some (faulty (code_of e) n) ≡ line_fault_data e n
told line.Memory n h = absurd (h refl)
told _ n h = refl

pub returns-in_default : goal.returns-in_default
returns-in_default c = record {
  reply = IfOk-weaker c.faulty.result _ _ (λ t text. (
    faulty (code_of c.args.fault) c.args.line,
    told c.args.fault c.args.line c.in_default.not-Memory,
    text ∙ ap (λ code. compact_text (faulty code c.args.line)) c.code.ensures,
  )) c.faulty.ensures.reply;
}
