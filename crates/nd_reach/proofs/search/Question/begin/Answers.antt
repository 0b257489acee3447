use Rattle.std.proofs.Common.{◌∙◌, ◌++◌, ◌∷◌, [], ap}
use Rattle.nd_reach.specs.Questions.{wanted}
use Rattle.nd_reach.proofs.Tries.{begun}
use Rattle.nd_reach.proofs.search.Question.begin.Goals as goal

pub returns : goal.returns
returns g c = record {
  err = tt;
  ok =
      begun (wanted c.args.self.now) c.start.result c.start.ensures.made c.start.ensures.saved c.in_ok-_is_new.ensures.state c.add.new.self.forms.keys c.add.new.self.nodes.items c.holds.result
      c.holds.ensures.0 c.holds.ensures.1 c.requires.limit
      (c.in_ok-add.ensures.forms ∙ (ap (λ fs. fs ++ c.has.new.self.met ∷ []) (ap (λ f. f.keys) c.in_ok-_is_new.ensures.forms ∙ c.requires.forms) ∙ ap (λ f. f ∷ []) c.in_ok-_is_new.ensures.met))
      (c.in_ok-add.ensures.nodes ∙ ap (λ ns. ns ++ c.start.result ∷ []) (ap (λ v. v.items) c.in_ok-_is_new.ensures.nodes ∙ c.requires.nodes));
}
