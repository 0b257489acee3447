use Rattle.std.proofs.Common.{◌≡◌, ◌≤◌, sym, ap, ◌∙◌, length, arith, rules}
use Rattle.std.specs.Vec.{vec_len}
use Rattle.nd_summaries.specs.Row.{leaving}
use Rattle.nd_summaries.proofs.Leaving.{leaving_none}
use Rattle.nd_summaries.proofs.outgoing.Outgoing.leaving.Goals as goal

pub returns-then-location-len : goal.returns-then-location-len
returns-then-location-len g c =
    let counted : length c.self.inside.leaving.items ≡ vec_len c.self.inside.leaving = search rules in
    let past : length c.self.inside.leaving.items ≤ c.args.location = omega (arith, counted, c.len.ensures, c.if-location-len.true) in
    sym (leaving_none c.self.inside.arcs.items (length c.self.inside.leaving.items) c.args.location c.self.invariant.within past) ∙ ap (leaving c.args.location) c.self.view_is
