use Rattle.nd_why.proofs.Before.{held_if}
use Rattle.nd_why.proofs.outstanding.holds_before.Goals as goal

pub returns : goal.returns
returns g c =
    held_if c.args.paths.now c.args.extent c.args.point.now c.args.processor.now c.has_record-record.result c.has_request-request.result c.has_token-token.result
    c.has_record-record.ensures c.has_request-request.ensures c.has_token-token.ensures
