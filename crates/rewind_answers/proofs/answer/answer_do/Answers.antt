use Rattle.std.proofs.Common.{◌∙◌, ◌∷◌, [], ap, length-append, rules}
use Rattle.nd_session.specs.Log.{entry_of}
use Rattle.rewind_replies.specs.Replies.{fault, reply_data}
use Rattle.rewind_answers.specs.Answers.{CommandReply, log_full, moved, no_memory}
use Rattle.rewind_answers.specs.Stages.{logged}
use Rattle.rewind_answers.proofs.TextLaws.{told_or_lost}
use Rattle.rewind_answers.proofs.answer.answer_do.Goals as goal

pub returns-in-Ok : goal.returns-in-Ok
returns-in-Ok c = told_or_lost (CommandReply (logged c.args.state.now) c.args.command) (logged c.args.state.now) (logged c.answer.new.self) (reply_data c.graph.result.now c.in-Ok.reply) c.text_of.result c.text_of.ensures (moved c.in-Ok.reply
    (λ full. absurd (cc (c.in-Ok.ensures.full.1 full)))
    c.in-Ok.ensures.moved
    (rw c.in-Ok.ensures.entry (length-append (c.args.state.now).log (entry_of (c.args.state.now).log 0 c.args.command c.in-Ok.reply ∷ [])))
    (ap (λ g. reply_data g c.in-Ok.reply) (c.graph.ensures ∙ ap (λ s. s.graph) c.cluster.ensures.value)))

pub returns-in-Err : goal.returns-in-Err
returns-in-Err c = told_or_lost (CommandReply (logged c.args.state.now) c.args.command) (logged c.args.state.now) (logged c.answer.new.self) (fault c.code.result) c.text_of-in-Err.result c.text_of-in-Err.ensures (search (rules, log_full, no_memory))
