use Rattle.std.proofs.Common.{rules}
use Rattle.nd_session.specs.Faults.{TestFails}
use Rattle.nd_session.proofs.Logs.{refused}
use Rattle.nd_session.proofs.ReceiptLemmas.{stranger}
use Rattle.nd_session.proofs.shared.Shared.test.Goals as goal

pub returns-in_err-found-clause-fails : goal.returns-in_err-found-clause-fails
returns-in_err-found-clause-fails g c =
    refused (TestFails c.args.self.now.entered c.args.self.now.state.log c.args.client.now) c.from_residual.result c.from_residual.ensures.1 (c.if-knows.ensures, search rules)

pub returns-clause-fails : goal.returns-clause-fails
returns-clause-fails g c =
    stranger c.args.self.now.entered c.args.self.now.state.log c.args.client.now c.history-log.result.now c.receipts.result.now c.last_index-index.result c.in_ok-found.found
    c.if-knows.ensures c.history-log.ensures.value c.receipts.ensures.value c.last_index-index.ensures c.in_ok-found.ensures.found
