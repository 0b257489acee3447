use Rattle.std.proofs.Common.{◌∙◌}
use Rattle.std.proofs.lemmas.Result.{IfOk-weaker}
use Rattle.nd_timeline.proofs.CheckpointLemmas.{fits_base, leads_back}
use Rattle.nd_timeline.proofs.walk.Kept.restored.Goals as goal

pub restored-requires : goal.restored-requires
restored-requires g c = fits_base (c.args.self.now).base (c.args.self.now).steps.items c.args.checkpoint.now c.requires

pub returns : goal.returns
returns g c = IfOk-weaker c.restored.result _ _ (λ _ e. e ∙ leads_back (c.args.self.now).base (c.args.self.now).steps.items c.args.checkpoint.now c.requires) c.restored.ensures
