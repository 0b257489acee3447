use Rattle.std.proofs.Common.{◌∙◌, ◌<◌, length, sym, subst, ap, arith}
use Rattle.nd_reach.specs.declared.node.Node.{Node}
use Rattle.nd_reach.proofs.Back.{LeadsTo, leads_start, leads_back, leads_end, parent_of, one_node}
use Rattle.nd_reach.proofs.way.way_to.Goals as goal

pub loop-at-init : goal.loop-at-init
loop-at-init g c = record {
  within = c.requires.within;
  leads = subst (LeadsTo c.args.nodes.now c.args.k c.args.k) (sym c.new-steps.ensures) (leads_start c.args.nodes.now c.args.k);
}

pub loop-at-smaller : goal.loop-at-smaller
loop-at-smaller g c =
    let f = c.requires.found in
    let same = one_node c.args.nodes.now c.loop-at.at c.index-nodes-at.result c.index-nodes-at-in-Some.result c.loop-at.invariant.within c.index-nodes-at.is c.index-nodes-at-in-Some.is in
    subst (λ (n : Node _). n.parent < c.loop-at.at) same
    (parent_of c.args.nodes.now c.args.k c.loop-at.at c.loop-at.steps c.loop-at.invariant.leads c.index-nodes-at.result c.loop-at.invariant.within c.index-nodes-at.is c.in-Some.record (ap (λ (n : Node _). n.made) c.index-nodes-at.is ∙ c.in-Some.is) f.0 f.1.0 f.1.1 f.1.2)

pub loop-at-preserved : goal.loop-at-preserved
loop-at-preserved g c =
    let f = c.requires.found in
    let same = one_node c.args.nodes.now c.loop-at.at c.index-nodes-at.result c.index-nodes-at-in-Some.result c.loop-at.invariant.within c.index-nodes-at.is c.index-nodes-at-in-Some.is in
    let before = parent_of c.args.nodes.now c.args.k c.loop-at.at c.loop-at.steps c.loop-at.invariant.leads c.index-nodes-at.result c.loop-at.invariant.within c.index-nodes-at.is c.in-Some.record (ap (λ (n : Node _). n.made) c.index-nodes-at.is ∙ c.in-Some.is) f.0 f.1.0 f.1.1 f.1.2 in
    let on = leads_back c.args.nodes.now c.args.k c.loop-at.at c.loop-at.steps c.loop-at.invariant.leads c.index-nodes-at.result c.loop-at.invariant.within c.index-nodes-at.is c.in-Some.record c.in_ok-copy.field-0 (ap (λ (n : Node _). n.made) c.index-nodes-at.is ∙ c.in-Some.is) c.in_ok-copy.ensures in
    record {
      within = subst (λ (n : Node _). n.parent < length c.args.nodes.now) same (omega (arith, before, c.loop-at.invariant.within));
      leads = subst (λ (n : Node _). LeadsTo c.args.nodes.now c.args.k n.parent c.push.new.self) same (subst (LeadsTo c.args.nodes.now c.args.k c.index-nodes-at.result.parent) (sym c.in_ok-push.ensures) on);
    }

pub returns : goal.returns
returns g c s ways forms w found there =
    c.reverse.ensures ∙ leads_end c.args.nodes.now c.args.k c.loop-at.at c.loop-at.steps c.loop-at.invariant.leads c.index-nodes-at.result c.loop-at.invariant.within c.index-nodes-at.is (ap (λ (n : Node _). n.made) c.index-nodes-at.is ∙ c.in_default.is) s ways forms w found there
