use Rattle.std.proofs.Common.{◌∙◌, ap, ◌++◌, ◌∷◌, [], subst}
use Rattle.std.specs.Prelude.{Contains}
use Rattle.nd_reach.proofs.Keys.{form_absent}
use Rattle.nd_reach.proofs.found.Found.add.Goals as goal

pub returns-clause-forms : goal.returns-clause-forms
returns-clause-forms g c =
    let forms = c.args.self.now.forms.keys in
    let absent = form_absent c.in_ok-form.form forms (λ there. c.requires (subst (Contains forms) c.in_ok-form.ensures there)) in
    c.in-Ok.ensures.keys ∙ rw (absent) (ap (λ f. forms ++ f ∷ []) c.in_ok-form.ensures)
