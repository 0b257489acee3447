use Rattle.std.proofs.Common.{length, sym}
use Rattle.std.proofs.lemmas.Bool.{ltb-true, ltb-false}
use Rattle.nd_session.proofs.Lookups.{found, compared, beyond}
use Rattle.nd_session.proofs.shared.holds.Goals as goal

pub returns-in-Some : goal.returns-in-Some
returns-in-Some g c =
    let log = c.args.log.now in
    let i = c.args.receipt.now.index in
    let lookup = c.in-Some.ensures.lookup in
    compared log i c.same.result c.in-Some.entry.now c.args.receipt.now (found log i c.in-Some.entry.now (ltb-true i (length log) (sym lookup.0)) lookup.1) c.same.ensures

pub returns-in-None : goal.returns-in-None
returns-in-None g c =
    let log = c.args.log.now in
    let i = c.args.receipt.now.index in
    beyond log i c.args.receipt.now (ltb-false i (length log) (sym c.in-None.ensures.lookup.0))
