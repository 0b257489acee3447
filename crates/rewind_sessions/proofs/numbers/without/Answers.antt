use Rattle.std.proofs.Common.{◌∙◌, sym, ap}
use Rattle.serde_json.specs.Data.{object}
use Rattle.serde_json.specs.View.{view, members_view}
use Rattle.serde_json.proofs.Views.{view-Object}
use Rattle.rewind_sessions.specs.Numbers.{without}
use Rattle.rewind_sessions.proofs.Members.{members_view-removed}
use Rattle.rewind_sessions.proofs.numbers.without.Goals as goal

pub returns-in-Object : goal.returns-in-Object
returns-in-Object c =
    view-Object c.remove.new.self
    ∙ (ap (λ es. object (members_view es)) c.remove.ensures.entries
    ∙ ap object (members_view-removed c.args.key.now c.in-Object.members.entries))
    ∙ sym (ap (without c.args.key.now) (ap view c.in-Object.is ∙ view-Object c.in-Object.members))
