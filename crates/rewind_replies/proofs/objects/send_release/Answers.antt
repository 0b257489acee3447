use Rattle.rewind_replies.proofs.objects.send_release.Goals as goal

pub returns-then-later : goal.returns-then-later
returns-then-later g c = rw (c.in-Some.is, c.if-later.true) c.send-then-later.ensures
