use Rattle.std.proofs.Common.{◌≡◌, ◌∙◌, length, refl, rules}
use Rattle.rewind_sessions.specs.Runs.{lists_of}
use Rattle.rewind_sessions.specs.declared.drive.Task.{Task}
use Rattle.rewind_sessions.proofs.ServedLemmas.{fresh-more, lists-one}
use Rattle.rewind_sessions.proofs.drive.enter_all.Goals as goal

pub loop-list-preserved : goal.loop-list-preserved
loop-list-preserved g c =
    let ys = c.loop-list.yielded in
    let task : Task = record { client = c.in_ok-client.client; commands = c.in-Some.list } in
    let size : c.loop-list.tasks.len ≡ length c.loop-list.tasks.items = search rules in
    record {
      fresh = rw (lists-one ys c.in-Some.list, c.in_ok-push.ensures.items) (fresh-more (lists_of ys) c.loop-list.tasks.items c.in-Some.list.items task c.loop-list.invariant.fresh (record {
        number_is = c.in_ok-client.ensures.number ∙ (c.len-in-loop-list.ensures ∙ size);
        receipts = c.in_ok-client.ensures.receipts;
        commands_are = refl;
      }));
    }
