use Rattle.std.proofs.Common.{◌≡◌, ◌<◌, ◌≤◌, ◌+◌, ◌-◌, List, length, sym, ◌∙◌, arith}
use Rattle.nd_protocol.specs.State.{ClusterState}
use Rattle.nd_steps.specs.Borrowed.{change_of, change_at}
use Rattle.nd_steps.specs.declared.change.Change.{Change}
use Rattle.nd_steps.proofs.RunsLemmas.{read_as, state_none, all_made, fits_now, next_here, fits_here, back_here}
use Rattle.nd_steps.proofs.run.make_all.Goals as goal

pub loop-i-init : goal.loop-i-init
loop-i-init g c = sym (state_none c.args.parts.now (g.C.Listing.listed c.args.changes.now))

pub make-requires : goal.make-requires
make-requires g c =
    let cs : List Change = g.C.Listing.listed c.args.changes.now in
    let lt : c.loop-i.i < length cs = omega (arith, c.loop-i-test.true, c.len-count.ensures) in
    let d : Change = change_of c.borrowed.result in
    fits_now c.args.parts.now cs c.requires c.loop-i.i d (read_as cs c.loop-i.i (change_at c.at-change.result) d c.borrowed.ensures c.at-change.ensures) lt c.loop-i.parts c.loop-i.invariant

pub loop-i-preserved : goal.loop-i-preserved
loop-i-preserved g c =
    let s : ClusterState = c.args.parts.now in
    let cs : List Change = g.C.Listing.listed c.args.changes.now in
    let lt : c.loop-i.i < length cs = omega (arith, c.loop-i-test.true, c.len-count.ensures) in
    let d : Change = change_of c.borrowed.result in
    c.in-Ok.ensures.ok ∙ next_here s cs c.requires c.loop-i.i d (read_as cs c.loop-i.i (change_at c.at-change.result) d c.borrowed.ensures c.at-change.ensures) lt c.loop-i.parts c.loop-i.invariant

pub undo-requires : goal.undo-requires
undo-requires g c =
    let s : ClusterState = c.args.parts.now in
    let cs : List Change = g.C.Listing.listed c.args.changes.now in
    let lt : c.loop-j.j - 1 < length cs = omega (arith, c.loop-i-test.true, c.len-count.ensures, c.loop-j.invariant.before, c.loop-j-test.true) in
    let d : Change = change_of c.borrowed-in-loop-j.result in
    let above : c.loop-j.j ≡ c.loop-j.j - 1 + 1 = omega (arith, c.loop-j-test.true) in
    fits_here s cs c.requires (c.loop-j.j - 1) d (read_as cs (c.loop-j.j - 1) (change_at c.at-past.result) d c.borrowed-in-loop-j.ensures c.at-past.ensures) lt c.loop-j.parts c.loop-j.j above c.loop-j.invariant.now

pub loop-j-preserved : goal.loop-j-preserved
loop-j-preserved g c =
    let s : ClusterState = c.args.parts.now in
    let cs : List Change = g.C.Listing.listed c.args.changes.now in
    let lt : c.loop-j.j - 1 < length cs = omega (arith, c.loop-i-test.true, c.len-count.ensures, c.loop-j.invariant.before, c.loop-j-test.true) in
    let d : Change = change_of c.borrowed-in-loop-j.result in
    let above : c.loop-j.j ≡ c.loop-j.j - 1 + 1 = omega (arith, c.loop-j-test.true) in
    record {
      now = c.in-Ok-undo.ensures.ok
          ∙ back_here s cs c.requires (c.loop-j.j - 1) d (read_as cs (c.loop-j.j - 1) (change_at c.at-past.result) d c.borrowed-in-loop-j.ensures c.at-past.ensures) lt c.loop-j.parts c.loop-j.j above c.loop-j.invariant.now;
      before = omega (arith, c.loop-j.invariant.before);
    }

pub returns-in_default-clause-err : goal.returns-in_default-clause-err
returns-in_default-clause-err g c =
    let low : c.loop-j.j ≡ 0 = omega (arith, c.loop-j-test.false) in
    c.loop-j.invariant.now ∙ rw low (state_none c.args.parts.now (g.C.Listing.listed c.args.changes.now))

pub returns-clause-ok : goal.returns-clause-ok
returns-clause-ok g c =
    let cs : List Change = g.C.Listing.listed c.args.changes.now in
    let past : length cs ≤ c.loop-i.i = omega (arith, c.loop-i-test.false, c.len-count.ensures) in
    c.loop-i.invariant ∙ all_made c.args.parts.now cs c.loop-i.i past
