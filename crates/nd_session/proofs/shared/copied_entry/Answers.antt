use Rattle.std.proofs.Common.{length, Some, ap, sym, ◌∙◌}
use Rattle.std.proofs.lemmas.Bool.{ltb-true, ltb-false}
use Rattle.std.proofs.lemmas.Option.{slice_get_past}
use Rattle.nd_session.proofs.Lookups.{found}
use Rattle.nd_session.proofs.shared.copied_entry.Goals as goal

pub returns-in_ok-copy-in-Some-clause-found : goal.returns-in_ok-copy-in-Some-clause-found
returns-in_ok-copy-in-Some-clause-found g c =
    let log = c.args.log.now in
    let i = c.args.index in
    let lookup = c.in-Some.ensures.lookup in
    ap Some c.in_ok-copy-in-Some.ensures ∙ sym (found log i c.in-Some.entry.now (ltb-true i (length log) (sym lookup.0)) lookup.1)

pub returns-in-None-clause-found : goal.returns-in-None-clause-found
returns-in-None-clause-found g c =
    let log = c.args.log.now in
    let i = c.args.index in
    sym (slice_get_past log i (ltb-false i (length log) (sym c.in-None.ensures.lookup.0)))
