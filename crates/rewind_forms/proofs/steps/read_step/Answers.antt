use Rattle.std.proofs.lemmas.Result.{IfOk-weaker}
use Rattle.serde_json.specs.View.{view}
use Rattle.rewind_forms.specs.declared.version.Version.TheVariants.{Sixth}
use Rattle.rewind_forms.proofs.Fits.{form_fits}
use Rattle.rewind_forms.proofs.steps.read_step.Goals as goal

pub returns-in-Some-Step-clause-fits : goal.returns-in-Some-Step-clause-fits
returns-in-Some-Step-clause-fits c =
    IfOk-weaker c.step_of.result _ _ (λ x read. form_fits Sixth c.args.graph.now c.in-Some-Step.form (view c.args.value.now) x read) c.step_of.ensures.ok
