use Rattle.std.proofs.Common.{◌≡◌, ◌<◌, ◌≤◌, ◌+◌, ◌-◌, List, length, sym, ◌∙◌, arith}
use Rattle.nd_steps.specs.Borrowed.{change_of, change_at}
use Rattle.nd_steps.specs.declared.change.Change.{Change}
use Rattle.nd_steps.proofs.RunsLemmas.{read_as, state_none, all_made, fits_now, next_here, fits_here, back_here}
use Rattle.nd_steps.proofs.run.undo_all.Goals as goal

pub loop-i-init : goal.loop-i-init
loop-i-init g c =
    let cs : List Change = g.C.Listing.listed c.args.changes.now in
    record {
      within = omega (arith, c.len-count.ensures);
      now = λ s state h. sym h.1 ∙ sym (all_made s cs c.len-count.result (omega (arith, c.len-count.ensures)));
    }

pub undo-requires : goal.undo-requires
undo-requires g c =
    let h = c.requires.2 in
    let cs : List Change = g.C.Listing.listed c.args.changes.now in
    let lt : c.loop-i.i - 1 < length cs = omega (arith, c.loop-i.invariant.within, c.loop-i-test.true) in
    let d : Change = change_of c.borrowed.result in
    let above : c.loop-i.i ≡ c.loop-i.i - 1 + 1 = omega (arith, c.loop-i-test.true) in
    fits_here c.requires.0 cs h.0 (c.loop-i.i - 1) d (read_as cs (c.loop-i.i - 1) (change_at c.at-change.result) d c.borrowed.ensures c.at-change.ensures) lt c.loop-i.parts c.loop-i.i above (c.loop-i.invariant.now c.requires.0 c.requires.1 h)

pub loop-i-preserved : goal.loop-i-preserved
loop-i-preserved g c =
    let cs : List Change = g.C.Listing.listed c.args.changes.now in
    let lt : c.loop-i.i - 1 < length cs = omega (arith, c.loop-i.invariant.within, c.loop-i-test.true) in
    let d : Change = change_of c.borrowed.result in
    let above : c.loop-i.i ≡ c.loop-i.i - 1 + 1 = omega (arith, c.loop-i-test.true) in
    record {
      within = omega (arith, c.loop-i.invariant.within);
      now = λ s state h. c.in-Ok.ensures.ok
          ∙ back_here s cs h.0 (c.loop-i.i - 1) d (read_as cs (c.loop-i.i - 1) (change_at c.at-change.result) d c.borrowed.ensures c.at-change.ensures) lt c.loop-i.parts c.loop-i.i above (c.loop-i.invariant.now s state h);
    }

pub make-requires : goal.make-requires
make-requires g c =
    let h = c.requires.2 in
    let cs : List Change = g.C.Listing.listed c.args.changes.now in
    let d : Change = change_of c.borrowed-in-loop-j.result in
    let lt : c.loop-j.j < length cs = omega (arith, c.loop-j-test.true, c.len-count.ensures) in
    fits_now c.requires.0 cs h.0 c.loop-j.j d (read_as cs c.loop-j.j (change_at c.at-past.result) d c.borrowed-in-loop-j.ensures c.at-past.ensures) lt c.loop-j.parts (c.loop-j.invariant.now c.requires.0 c.requires.1 h)

pub loop-j-preserved : goal.loop-j-preserved
loop-j-preserved g c =
    let cs : List Change = g.C.Listing.listed c.args.changes.now in
    let d : Change = change_of c.borrowed-in-loop-j.result in
    let lt : c.loop-j.j < length cs = omega (arith, c.loop-j-test.true, c.len-count.ensures) in
    record {
      within = omega (arith, lt);
      past = omega (arith, c.loop-j.invariant.past);
      now = λ s state h. c.in-Ok-make.ensures.ok
          ∙ next_here s cs h.0 c.loop-j.j d (read_as cs c.loop-j.j (change_at c.at-past.result) d c.borrowed-in-loop-j.ensures c.at-past.ensures) lt c.loop-j.parts (c.loop-j.invariant.now s state h);
    }

pub returns-in_default-clause-err : goal.returns-in_default-clause-err
returns-in_default-clause-err g c =
    let cs : List Change = g.C.Listing.listed c.args.changes.now in
    let past : length cs ≤ c.loop-j.j = omega (arith, c.loop-j-test.false, c.len-count.ensures) in
    c.loop-j.invariant.now c.requires.0 c.requires.1 c.requires.2 ∙ all_made c.requires.0 cs c.loop-j.j past ∙ c.requires.2.1

pub returns-clause-ok : goal.returns-clause-ok
returns-clause-ok g c = λ s state h.
    let low : c.loop-i.i ≡ 0 = omega (arith, c.loop-i-test.false) in
    c.loop-i.invariant.now s state h ∙ rw low (state_none s (g.C.Listing.listed c.args.changes.now))
