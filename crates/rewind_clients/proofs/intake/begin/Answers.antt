use Rattle.rewind_clients.proofs.OpeningLemmas.{reads-bad, reads-blank, reads-long}
use Rattle.rewind_clients.proofs.intake.begin.Goals as goal

pub returns-in-Blank : goal.returns-in-Blank
returns-in-Blank c = rw c.in-Blank.is (reads-blank c.args.options.now.processors c.args.options.now.clients c.args.line c.args.opened)

pub returns-in-TooLong : goal.returns-in-TooLong
returns-in-TooLong c = rw (c.in-TooLong.is, c.error_at.ensures) (reads-long c.args.options.now.processors c.args.options.now.clients c.args.line c.args.opened)

pub returns-in-NoJson : goal.returns-in-NoJson
returns-in-NoJson c = rw (c.in-NoJson.is, c.error_at-in-NoJson.ensures) (reads-bad c.args.options.now.processors c.args.options.now.clients c.args.line c.args.opened)
