use Rattle.std.proofs.Common.{rules, inr}
use Rattle.nd_session.specs.Tested.{IsFirstUnlogged}
use Rattle.nd_session.proofs.Whole.{is_unlogged}
use Rattle.nd_session.proofs.close.found_wrong.Goals as goal

pub returns-in-Some-first_unlogged-clause-wrong : goal.returns-in-Some-first_unlogged-clause-wrong
returns-in-Some-first_unlogged-clause-wrong g c =
    let first : IsFirstUnlogged c.args.log.now c.args.clients.now c.in-Some-first_unlogged.client c.in-Some-first_unlogged.index = search rules in
    inr (is_unlogged c.args.log.now c.requires c.args.clients.now c.in_default.ensures.none c.args.entered
    c.in-Some-first_unlogged.client c.in-Some-first_unlogged.index c.in_default-first_missing.ensures.none first)

pub returns-clause-clean : goal.returns-clause-clean
returns-clause-clean g c = record {
  right = c.in_default.ensures.none;
  all_in = c.in_default-first_missing.ensures.none;
  in_place = c.in_default-first_unlogged.ensures.none;
}
