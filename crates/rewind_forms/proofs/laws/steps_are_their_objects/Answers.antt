use Rattle.rewind_forms.proofs.ReadBack.{read_back, one_step}
use Rattle.rewind_forms.proofs.Fits.{read_fits}
use Rattle.rewind_forms.proofs.laws.steps_are_their_objects.Goals as goal

pub returns-clause-back : goal.returns-clause-back
returns-clause-back c g x sound = read_back g x sound.once

pub returns-clause-one : goal.returns-clause-one
returns-clause-one c g x y sound = one_step g x y sound.once

pub returns-clause-fits : goal.returns-clause-fits
returns-clause-fits c = read_fits
