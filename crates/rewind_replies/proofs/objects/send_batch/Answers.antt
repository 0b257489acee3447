use Rattle.rewind_replies.proofs.objects.send_batch.Goals as goal

pub returns-in-Some-None : goal.returns-in-Some-None
returns-in-Some-None g c = rw (c.in-Some-None.is-0, c.in-Some-None.is-1) c.send-in-Some-None.ensures

pub returns-in-Some-Some : goal.returns-in-Some-Some
returns-in-Some-Some g c = rw (c.in-Some-Some.is-0, c.in-Some-Some.is-1) c.send-in-Some-Some.ensures
