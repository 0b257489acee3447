use Rattle.std.proofs.Common.{◌∙◌, ◌<◌, ◌≤◌, ◌++◌, ◌∷◌, [], length, sym, ap, subst, arith}
use Rattle.std.specs.Prelude.{Contains, IfSome}
use Rattle.nd_protocol.specs.State.{ClusterState}
use Rattle.nd_protocol.specs.Fitting.{IsState}
use Rattle.nd_cluster.specs.Saved.{IsSaved}
use Rattle.nd_reach.specs.Forms.{form}
use Rattle.nd_reach.specs.Questions.{wanted}
use Rattle.nd_breaks.specs.Conditions.{Holds}
use Rattle.nd_reach.proofs.Tries.{goes_on_met, is_full, goes_on_added, is_hit, same_going, same_hit, same_full, small_planned, not_there, not_held}
use Rattle.nd_reach.proofs.search.Question.try_move.Goals as goal

pub returns-then-branch : goal.returns-then-branch
returns-then-branch g c = record {
  err = tt;
  stays = c.in_ok-back.ensures.ok c.args.walker.now c.in_ok-commit.ensures.leads;
  tried = λ moves n h next.
      (let tell = c.forms_determine_states.ensures in
      let step = c.in_ok-commit.ensures.step in
      let state = subst IsState step c.in_ok-has.ensures.state in
      let there = subst (λ (u : ClusterState). Contains c.args.found.now.forms.keys (form u)) step (c.in_ok-has.ensures.found.0 c.if-branch.true) in
      let on = goes_on_met tell (wanted c.args.self.now) c.args.found.now.forms.keys c.args.found.now.nodes.items c.args.at c.args.walker.now moves n c.args.made.step h next state there in
      same_going (wanted c.args.self.now) c.args.found.now.forms.keys _ c.args.found.now.nodes.items _ c.args.at c.args.walker.now _ moves _ on
      (ap (λ f. f.keys) c.in_ok-has.ensures.forms) (ap (λ v. v.items) c.in_ok-has.ensures.nodes) (c.in_ok-back.ensures.ok c.args.walker.now c.in_ok-commit.ensures.leads));
}

pub returns-then-len-self : goal.returns-then-len-self
returns-then-len-self g c = record {
  err = tt;
  stays = tt;
  tried = λ moves n h next.
      (let tell = c.forms_determine_states.ensures in
      let step = c.in_ok-commit.ensures.step in
      let state = subst IsState step c.in_ok-has.ensures.state in
      let fresh = not_there c.args.found.now.forms.keys _ _ c.in_ok-has.field-0 c.in_ok-has.ensures.found.1 c.if-branch.false (ap form step) in
      let same = ap (λ v. v.items) c.in_ok-has.ensures.nodes in
      let most : c.args.self.now.limit ≤ length c.args.found.now.nodes.items = omega (arith, c.if-len-self.true, c.len.ensures, ap length same) in
      same_full (wanted c.args.self.now) c.args.found.now.nodes.items _
      (is_full tell (wanted c.args.self.now) c.args.found.now.forms.keys c.args.found.now.nodes.items c.args.at c.args.walker.now moves n c.args.made.step h next state fresh most) same);
}

pub returns-then-holds : goal.returns-then-holds
returns-then-holds g c = record {
  err = tt;
  stays = tt;
  tried = λ moves n h next.
      (let tell = c.forms_determine_states.ensures in
      let step = c.in_ok-commit.ensures.step in
      let state = subst IsState step c.in_ok-has.ensures.state in
      let fresh = not_there c.args.found.now.forms.keys _ _ c.in_ok-has.field-0 c.in_ok-has.ensures.found.1 c.if-branch.false (ap form step) in
      let same = ap (λ v. v.items) c.in_ok-has.ensures.nodes in
      let few : length c.args.found.now.nodes.items < c.args.self.now.limit = omega (arith, c.if-len-self.false, c.len.ensures, ap length same) in
      let saved = subst (λ (u : ClusterState). IfSome c.new-node.result.saved (λ b. IsSaved u b.value)) step (subst (λ o. IfSome o (λ b. IsSaved c.commit.new.self b.value)) (sym c.new-node.ensures.saved) c.in_ok-saved.ensures) in
      let holds = subst (λ (u : ClusterState). Holds u c.args.self.now.when.now) step (c.holds-holds.ensures.0 c.if-holds.true) in
      let hit = is_hit tell (wanted c.args.self.now) c.args.found.now.forms.keys c.args.found.now.nodes.items c.args.at c.args.walker.now moves n c.args.made.step h next state fresh
      c.new-node.result c.small.result c.small.ensures.step (small_planned c.args.made c.small.result c.args.walker.now c.requires.planned c.small.ensures.step c.small.ensures.many c.small.ensures.makes) c.new-node.ensures.parent c.new-node.ensures.made saved few holds in
      same_hit (wanted c.args.self.now) _ _ _ _ hit
      (c.in_ok-add.ensures.forms ∙ (ap (λ fs. fs ++ c.has.new.self.met ∷ []) (ap (λ f. f.keys) c.in_ok-has.ensures.forms) ∙ ap (λ f. c.args.found.now.forms.keys ++ f ∷ []) (c.in_ok-has.ensures.met ∙ ap form step)))
      (c.in_ok-add.ensures.nodes ∙ ap (λ ns. ns ++ c.new-node.result ∷ []) same));
}

pub returns-else-holds : goal.returns-else-holds
returns-else-holds g c = record {
  err = tt;
  stays = c.in_ok-back-2.ensures.ok c.args.walker.now c.in_ok-commit.ensures.leads;
  tried = λ moves n h next.
      (let tell = c.forms_determine_states.ensures in
      let step = c.in_ok-commit.ensures.step in
      let state = subst IsState step c.in_ok-has.ensures.state in
      let fresh = not_there c.args.found.now.forms.keys _ _ c.in_ok-has.field-0 c.in_ok-has.ensures.found.1 c.if-branch.false (ap form step) in
      let same = ap (λ v. v.items) c.in_ok-has.ensures.nodes in
      let few : length c.args.found.now.nodes.items < c.args.self.now.limit = omega (arith, c.if-len-self.false, c.len.ensures, ap length same) in
      let saved = subst (λ (u : ClusterState). IfSome c.new-node.result.saved (λ b. IsSaved u b.value)) step (subst (λ o. IfSome o (λ b. IsSaved c.commit.new.self b.value)) (sym c.new-node.ensures.saved) c.in_ok-saved.ensures) in
      let not = not_held c.holds-holds.result _ (λ holds. c.holds-holds.ensures.1 (subst (λ (u : ClusterState). Holds u c.args.self.now.when.now) (sym step) holds)) c.if-holds.false in
      let on = goes_on_added tell (wanted c.args.self.now) c.args.found.now.forms.keys c.args.found.now.nodes.items c.args.at c.args.walker.now moves n c.args.made.step h next state fresh
      c.new-node.result c.small.result c.small.ensures.step (small_planned c.args.made c.small.result c.args.walker.now c.requires.planned c.small.ensures.step c.small.ensures.many c.small.ensures.makes) c.new-node.ensures.parent c.new-node.ensures.made saved few not in
      same_going (wanted c.args.self.now) _ _ _ _ c.args.at c.args.walker.now _ moves _ on
      (c.in_ok-add.ensures.forms ∙ (ap (λ fs. fs ++ c.has.new.self.met ∷ []) (ap (λ f. f.keys) c.in_ok-has.ensures.forms) ∙ ap (λ f. c.args.found.now.forms.keys ++ f ∷ []) (c.in_ok-has.ensures.met ∙ ap form step)))
      (c.in_ok-add.ensures.nodes ∙ ap (λ ns. ns ++ c.new-node.result ∷ []) same)
      (c.in_ok-back-2.ensures.ok c.args.walker.now c.in_ok-commit.ensures.leads));
}
