use Rattle.serde_json.proofs.FreeTexts.{text_of_value}
use Rattle.rewind_replies.proofs.written.text_of.Goals as goal

pub returns-in-Ok : goal.returns-in-Ok
returns-in-Ok g c =
    let sent = c.in-Ok.ensures.events in
    text_of_value (g.T.Shown.shown (g.N.Names.graph c.args.names.now) c.args.value.now) sent.0 c.in-Ok.text.items sent.1 sent.2 (g.T.Shown.exact (g.N.Names.graph c.args.names.now) c.args.value.now)
