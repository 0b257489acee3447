use Rattle.std.proofs.Common.{◌∙◌, sym, subst, ap, arith}
use Rattle.nd_cluster.specs.Saved.{state_in, FitsIn}
use Rattle.nd_reach.proofs.Walks.{saved_fits, saved_leads, start_leads, parent_before, planned_there, made_leads}
use Rattle.nd_reach.proofs.going.+walker_at.Goals as goal

pub restored-requires : goal.restored-requires
restored-requires g t c =
    let f = c.requires.found in
    subst (FitsIn c.args.start.now.graph) (sym c.deref.ensures) (saved_fits c.args.start.now f.0 f.1 c.args.nodes.now f.2 c.args.k c.index-nodes-k.result c.requires.within c.index-nodes-k.is c.in-Some.saved c.in-Some.is)

pub returns-in-Some : goal.returns-in-Some
returns-in-Some g t c = record {
  err = tt;
  ok = λ ways forms w h at. c.in_ok-restored.ensures ∙ (ap (state_in c.args.start.now.graph) c.deref.ensures ∙ saved_leads c.args.start.now ways forms c.args.nodes.now h c.args.k c.index-nodes-k.result c.requires.within c.index-nodes-k.is c.in-Some.saved c.in-Some.is w at);
}

pub returns-in_default-made : goal.returns-in_default-made
returns-in_default-made g t c = record {
  err = tt;
  ok = λ ways forms w h at. c.in_ok-copy.ensures ∙ start_leads c.args.start.now ways forms c.args.nodes.now h c.args.k c.index-nodes-k.result c.requires.within c.index-nodes-k.is c.in_default-made.is w at;
}

pub walker_at-requires : goal.walker_at-requires
walker_at-requires g t c κs within =
    let f = c.requires.found in
    let before = parent_before c.args.start.now f.0 f.1 c.args.nodes.now f.2 c.args.k c.index-nodes-k.result c.requires.within c.index-nodes-k.is c.in-Some-made.record c.in-Some-made.is in
    (omega (arith, before, c.decreases), (within, (omega (arith, before, c.requires.within), f)))

pub commit-requires : goal.commit-requires
commit-requires g t c =
    let f = c.requires.found in
    planned_there c.args.start.now f.0 f.1 c.args.nodes.now f.2 c.args.k c.index-nodes-k.result c.requires.within c.index-nodes-k.is c.in-Some-made.record c.in-Some-made.is
    c.in_ok-walker.walker (λ w at. c.in_ok-walker.ensures.ok f.0 f.1 w f.2 at)

pub returns : goal.returns
returns g t c = record {
  err = tt;
  ok = λ ways forms w h at.
      made_leads c.args.start.now ways forms c.args.nodes.now h c.args.k c.index-nodes-k.result c.requires.within c.index-nodes-k.is c.in-Some-made.record c.in-Some-made.is
      c.in_ok-walker.walker c.commit.new.self (λ v there. c.in_ok-walker.ensures.ok ways forms v h there) c.in_ok-commit.ensures.step w at;
}
