use Rattle.std.proofs.Common.{rules, ap, inr, ◌∙◌}
use Rattle.nd_session.specs.declared.receipt.Receipt.{Receipt}
use Rattle.nd_session.specs.Clients.{ClientValue, HoldsLast, IsKnown}
use Rattle.nd_session.specs.Faults.{CommandFails}
use Rattle.nd_session.proofs.Logs.{refused, passed_on}
use Rattle.nd_session.proofs.ReceiptLemmas.{own_grows, known_fails}
use Rattle.nd_session.proofs.shared.Shared.command.Goals as goal

pub returns-in_err-reserve-clause-fails : goal.returns-in_err-reserve-clause-fails
returns-in_err-reserve-clause-fails g c =
    refused (CommandFails c.args.self.now.entered c.args.self.now.state.log c.args.client.now)
    c.from_residual-in_err-reserve.result c.from_residual-in_err-reserve.ensures.1 (inr (search rules, search rules))

pub returns-in_err-asked-clause-fails : goal.returns-in_err-asked-clause-fails
returns-in_err-asked-clause-fails g c =
    refused (CommandFails c.args.self.now.entered c.args.self.now.state.log c.args.client.now)
    c.from_residual-in_err-asked.result c.from_residual-in_err-asked.ensures.1 (inr (search rules, search rules))

pub returns-in_err-receipt-clause-fails : goal.returns-in_err-receipt-clause-fails
returns-in_err-receipt-clause-fails g c =
    let known : IsKnown c.args.self.now.entered c.args.self.now.state.log c.args.client.now = search rules in
    passed_on (CommandFails c.args.self.now.entered c.args.self.now.state.log c.args.client.now)
    c.from_residual-in_err-receipt.result c.in_err-receipt.field-0.0 c.from_residual-in_err-receipt.ensures.1
    (known_fails c.args.self.now.entered c.args.self.now.state.log c.args.client.now known c.in_err-receipt.field-0.0 c.in_err-receipt.ensures.fails)

pub invariant_of-client-2 : goal.invariant_of-client-2
invariant_of-client-2 g c =
    let known : HoldsLast c.args.self.now.state.log c.client.inside.receipts.items = search rules in
    let pushed : Receipt g.row.A.Denot = record {
      index = c.in_ok-receipt.receipt.index;
      client = c.in_ok-receipt.receipt.client;
      number = c.in_ok-receipt.receipt.number;
      command = c.in_ok-asked.asked;
      reply = c.copy-2.result;
    } in
    rw (c.push_reserved.ensures.items, c.reserve.ensures.items)
    (own_grows c.client.inside.number c.args.self.now.state.log c.client.inside.receipts.items pushed c.client.invariant known (search rules) (search rules))

pub returns-clause-answered : goal.returns-clause-answered
returns-clause-answered g c = record {
  known = search rules;
  room = search rules;
  placed = search rules;
  client = c.in_ok-receipt.ensures.client ∙ ap (λ (v : ClientValue g.row.A.Denot). v.number) c.client.view_is;
  command_is = search rules;
  logged = c.in_ok-receipt.ensures.entry;
  legal = search rules;
  base = search rules;
}
