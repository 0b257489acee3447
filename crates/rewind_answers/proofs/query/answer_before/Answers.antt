use Rattle.std.proofs.Common.{refl, subst}
use Rattle.std.specs.Prelude.{◌↔◌, IsTrue}
use Rattle.nd_graph.specs.Graph.{Dataflow}
use Rattle.nd_paths.specs.Order.{CouldResultIn}
use Rattle.rewind_replies.specs.Replies.{before}
use Rattle.rewind_answers.proofs.TextLaws.{tells}
use Rattle.rewind_answers.proofs.query.answer_before.Goals as goal

pub returns : goal.returns
returns c = record { reply = tells _ (before c.before-before.result) c.text_of.result c.text_of.ensures (c.before-before.result, subst (λ (g : Dataflow). IsTrue c.before-before.result ↔ CouldResultIn g c.args.from.now c.args.to.now) c.paths.ensures c.before-before.ensures, refl) }
