use Rattle.std.proofs.Common.{rules, arith, Result, Ok, Err, IfOk, IsTrue}
use Rattle.nd_reach.specs.Found.{IsSomewhere}
use Rattle.nd_reach.proofs.Walks.{parent_before, planned_there, made_leads, committed_there, back_leads}
use Rattle.nd_reach.proofs.going.+walk.Goals as goal

passed_on : {X E : Type 0} (P Q : X → Type 0) → ((x : X) → P x → Q x) → (r : Result X E) → IfOk r P → IfOk r Q
passed_on P Q f (Ok x) h = f x h
passed_on P Q f (Err e) h = tt

pub back-requires : goal.back-requires
back-requires g t c =
    let f = c.requires.found in
    committed_there f.start f.ways f.forms c.args.nodes.now f.found c.args.from c.index-nodes-from.result c.requires.from c.index-nodes-from.is c.in-Some.record c.in-Some.is
    c.args.walker.now f.there

pub walk-requires : goal.walk-requires
walk-requires g t c κs within =
    let f = c.requires.found in
    let before = parent_before f.start f.ways f.forms c.args.nodes.now f.found c.args.from c.index-nodes-from.result c.requires.from c.index-nodes-from.is c.in-Some.record c.in-Some.is in
    let back : IsSomewhere c.args.nodes.now c.index-nodes-from.result.parent c.back.new.self
    = record {
      start = f.start;
      ways = f.ways;
      forms = f.forms;
      found = f.found;
      there = back_leads f.start f.ways f.forms c.args.nodes.now f.found c.args.from c.index-nodes-from.result c.requires.from c.index-nodes-from.is c.in-Some.record c.in-Some.is
          c.args.walker.now c.back.new.self f.there c.in_ok-back.ensures.ok;
    } in
    (omega (arith, c.decreases, c.if-most-eq0.false), (within, (omega (arith, before, c.requires.from), (c.requires.to, back))))

pub returns-then-from-to-2-clause-ok : goal.returns-then-from-to-2-clause-ok
returns-then-from-to-2-clause-ok g t c = passed_on _ _
    (λ b walks is s ways forms h stands. walks is s ways forms h
    (back_leads s ways forms c.args.nodes.now h c.args.from c.index-nodes-from.result c.requires.from c.index-nodes-from.is c.in-Some.record c.in-Some.is
    c.args.walker.now c.back.new.self stands c.in_ok-back.ensures.ok))
    c.walk.result c.walk.ensures.ok

pub walk-requires-2 : goal.walk-requires-2
walk-requires-2 g t c κs within =
    let f = c.requires.found in
    let before = parent_before f.start f.ways f.forms c.args.nodes.now f.found c.args.to c.index-nodes-to.result c.requires.to c.index-nodes-to.is c.in-Some-made.record c.in-Some-made.is in
    (omega (arith, c.decreases, c.if-most-eq0.false), (within, (c.requires.from, (omega (arith, before, c.requires.to), f))))

pub commit-requires : goal.commit-requires
commit-requires g t c =
    let f = c.requires.found in
    let is : IsTrue c.in_ok-walk.field-0 = search rules in
    planned_there f.start f.ways f.forms c.args.nodes.now f.found c.args.to c.index-nodes-to.result c.requires.to c.index-nodes-to.is c.in-Some-made.record c.in-Some-made.is
    c.walk-2.new.walker (c.in_ok-walk.ensures.ok is f.start f.ways f.forms f.found f.there)

pub returns-clause-ok : goal.returns-clause-ok
returns-clause-ok g t c is_there s ways forms h stands =
    let is : IsTrue c.in_ok-walk.field-0 = search rules in
    made_leads s ways forms c.args.nodes.now h c.args.to c.index-nodes-to.result c.requires.to c.index-nodes-to.is c.in-Some-made.record c.in-Some-made.is
    c.walk-2.new.walker c.commit.new.self (c.in_ok-walk.ensures.ok is s ways forms h stands) c.in_ok-commit.ensures.step
