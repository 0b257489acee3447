use Rattle.std.proofs.Common.{◌∙◌, refl, sym}
use Rattle.std.proofs.lemmas.Result.{err_from_is_err_and}
use Rattle.rewind_clients.specs.Clients.{answered, unread}
use Rattle.rewind_clients.specs.Intakes.{intake_view}
use Rattle.rewind_clients.proofs.WrittenLemmas.{not-write}
use Rattle.rewind_clients.proofs.clients.debug_clients_within.Goals as goal

pub returns-in_err-intake-clause-run : goal.returns-in_err-intake-clause-run
returns-in_err-intake-clause-run g c =
    let p = err_from_is_err_and c.from_residual.result c.from_residual.ensures.1 in
    rw (p.1, p.2) (λ input before told had. unread _ refl (c.in_err-intake.ensures.err input told) had)

pub returns-in_err-intake-clause-write : goal.returns-in_err-intake-clause-write
returns-in_err-intake-clause-write g c =
    let p = err_from_is_err_and c.from_residual.result c.from_residual.ensures.1 in
    rw (p.1, p.2) (c.requires.sound ∙ sym (not-write (Unit {0}) _ c.in_err-intake.ensures.kind))

pub returns-clause-run : goal.returns-clause-run
returns-clause-run g c = λ input before told had. answered (intake_view c.in_ok-intake.intake) (c.in_ok-intake.ensures.whole input told) (c.answer.ensures.run before had)
