use Rattle.rewind_replies.specs.Errors.{error_data}
use Rattle.rewind_clients.proofs.WrittenLemmas.{faulty-told, refused-told, version-ends}
use Rattle.rewind_clients.proofs.clients.answer.Goals as goal

pub returns-in_ok-write_reply-in-Refused-clause-run : goal.returns-in_ok-write_reply-in-Refused-clause-run
returns-in_ok-write_reply-in-Refused-clause-run g c = rw c.in-Refused.is (λ before told. refused-told (error_data c.in-Refused.reply) before _ (c.in_ok-write_reply-in-Refused.ensures.ok before told))

pub returns-in_ok-write_reply-in-Faulty-clause-run : goal.returns-in_ok-write_reply-in-Faulty-clause-run
returns-in_ok-write_reply-in-Faulty-clause-run g c = rw c.in-Faulty.is (λ before told. faulty-told (error_data c.in-Faulty.fault) before _ (c.in_ok-write_reply-in-Faulty.ensures.ok before told))

pub returns-in-Unstarted-clause-run : goal.returns-in-Unstarted-clause-run
returns-in-Unstarted-clause-run g c = rw c.in-Unstarted.is (λ before told. version-ends c.in-Unstarted.opened before _ _ c.write_version.result told c.write_version.ensures.ok c.write_version.ensures.err)
