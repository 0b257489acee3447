use Rattle.std.proofs.Common.{rules, ◌+◌, ℕ, ◌∙◌}
use Rattle.nd_history.specs.declared.work.Job.{Job}
use Rattle.nd_history.specs.Works.{IsReady}
use Rattle.nd_history.proofs.Shares.{unshared, enough, share_left, share_given, none_remains}
use Rattle.nd_history.proofs.Elements.{all_none, all_more}
use Rattle.nd_history.proofs.Joined.{none_numbered, numbered_more}
use Rattle.nd_history.proofs.team.jobs.Goals as goal

pub share-requires-clause-allowed : goal.share-requires-clause-allowed
share-requires-clause-allowed g c = enough (c.args.team.now.pieces + 1) c.args.workers c.loop-number.number c.loop-number.ticket.me c.loop-number.invariant.me c.loop-number-test.true

pub loop-number-init : goal.loop-number-init
loop-number-init g c =
    record {
      table = c.requires.seat;
      me = unshared c.args.ticket.now.me (c.args.team.now.pieces + 1) c.args.workers c.requires.hand;
      counted = search rules;
      room = search rules;
      numbered = none_numbered c.in_ok-jobs.jobs.items c.in_ok-jobs.ensures.items;
      ready = all_none (IsReady c.args.team.now) c.in_ok-jobs.jobs.items c.in_ok-jobs.ensures.items;
    }

pub loop-number-preserved : goal.loop-number-preserved
loop-number-preserved g c =
    let p : ℕ = c.args.team.now.pieces + 1 in
    let at = c.loop-number.invariant in
    let job : Job g.row.A.Denot = record { number = c.loop-number.number; walk = c.in_ok-walk.walk; ticket = c.share.result; searched = c.in_ok-searched.searched } in
    let ready : IsReady c.args.team.now job = record {
      on = c.in_ok-walk.ensures.on;
      table_is = c.share.ensures.given_seat ∙ at.table;
      me_is = share_given p c.args.workers c.loop-number.number c.loop-number.ticket.me at.me c.share.result.me c.share.ensures.given;
      empty = c.in_ok-searched.ensures;
    } in
    record {
      table = c.share.ensures.seat ∙ at.table;
      me = share_left p c.args.workers c.loop-number.number c.loop-number.ticket.me at.me c.share.new.ticket.me c.share.ensures.left;
      counted = search rules;
      room = search rules;
      numbered = numbered_more c.loop-number.jobs.items c.push_reserved.new.self.items job c.push_reserved.ensures.items (search rules) at.numbered;
      ready = all_more (IsReady c.args.team.now) c.loop-number.jobs.items c.push_reserved.new.self.items job c.push_reserved.ensures.items at.ready ready;
    }

pub returns-clause-hand : goal.returns-clause-hand
returns-clause-hand g c = none_remains (c.args.team.now.pieces + 1) c.args.workers c.loop-number.number c.loop-number.ticket.me c.loop-number.invariant.me c.loop-number-test.false
