-- Receipts encoded as numbers, so that the value of a model can contain them.
use Rattle.std.specs.Prelude.{refl}
use Rattle.std.specs.Coded.{Coded, code_by, coded×, coded_ℕ}
use Rattle.nd_commands.specs.Codes.{command_code}
use Rattle.nd_replies.specs.Codes.{reply_code}
use Rattle.nd_session.specs.declared.receipt.Receipt.{Receipt}

abbrev pub receipt_code : (A : Type 0) → Coded (Receipt A)
receipt_code A =
    code_by _ (coded× coded_ℕ (coded× coded_ℕ (coded× coded_ℕ (coded× command_code reply_code))))
    (λ r. (r.index, (r.client, (r.number, (r.command, r.reply)))))
    (λ t. record { index = t.0; client = t.1.0; number = t.1.1.0; command = t.1.1.1.0; reply = t.1.1.1.1 })
    (λ _. refl)
