use Rattle.std.proofs.Common.{◌∙◌, sym, subst}
use Rattle.std.specs.Prelude.{Contains}
use Rattle.nd_reach.proofs.Keys.{form_there, there_form}
use Rattle.nd_reach.proofs.found.Found.has.Goals as goal

pub returns-clause-found : goal.returns-clause-found
returns-clause-found g c =
    let forms = c.args.self.now.forms.keys in (
      λ found. subst (Contains forms) c.in_ok-write.ensures.form (there_form c.write.new.self forms (sym c.contains.ensures ∙ found)),
      λ there. c.contains.ensures ∙ form_there c.write.new.self forms (subst (Contains forms) (sym c.in_ok-write.ensures.form) there),
    )
