use Rattle.std.proofs.Common.{◌≡◌, ◌<◌, ◌≤◌, List, length, get_or, sym, subst, ◌∙◌, arith}
use Rattle.std.proofs.lemmas.List.{get_or_default}
use Rattle.std.proofs.lemmas.Result.{IfErr-weaker}
use Rattle.nd_steps.specs.Keyed.{taken_in}
use Rattle.nd_steps.specs.Turns.{IsReadable}
use Rattle.nd_steps.specs.Borrowed.{change_of}
use Rattle.nd_steps.specs.declared.change.Change.{Change}
use Rattle.nd_steps.proofs.EachLemmas.{each_at}
use Rattle.nd_steps.proofs.TurnsLemmas.{none_read, unseen, read_more, see_more, all_within, some_fails}
use Rattle.nd_steps.proofs.flow.read_all.Goals as goal

pub loop-i-init : goal.loop-i-init
loop-i-init g c =
    let all = taken_in c.args.changes.now in
    record { read = none_read c.args.processors.now all; seen = unseen c.args.processors.now all }

pub reading_of-reading-requires : goal.reading_of-reading-requires
reading_of-reading-requires g c =
    let all = taken_in c.args.changes.now in
    let P = IsReadable c.args.processors.now in
    let lt : c.loop-i.i < length all = omega (arith, c.loop-i-test.true, c.count-i-end.ensures) in
    subst P (sym c.change.ensures) (each_at P all c.loop-i.i (change_of c.change.result) c.requires lt)

pub loop-i-preserved : goal.loop-i-preserved
loop-i-preserved g c =
    let ps = c.args.processors.now in
    let all = taken_in c.args.changes.now in
    let l = c.loop-i in
    let r = c.reading_of-reading in
    let lt : l.i < length all = omega (arith, c.loop-i-test.true, c.count-i-end.ensures) in
    let is : (d : Change) → get_or all l.i d ≡ change_of c.change.result = λ d. get_or_default all l.i d (change_of c.change.result) lt ∙ sym c.change.ensures in
    record {
      read = read_more ps all l.i l.counts_stay l.entries_stay l.invariant.read lt (change_of c.change.result) is r.result.count_stays r.result.entry_stays r.ensures.count r.ensures.entry;
      seen = see_more ps all l.i l.first l.invariant.seen (change_of c.change.result) is r.result.leaves r.ensures.leaves;
    }

pub returns-in-Ok-clause-first : goal.returns-in-Ok-clause-first
returns-in-Ok-clause-first g c = λ d some. c.loop-i.invariant.seen.known d (let past = c.loop-i-test.false in omega (arith, some, past, c.count-i-end.ensures))

pub returns-in-Ok-clause-within : goal.returns-in-Ok-clause-within
returns-in-Ok-clause-within g c = all_within c.loop-i.invariant.read (omega (arith, c.loop-i-test.false, c.count-i-end.ensures)) c.in-Ok.ensures.ok

pub returns-in-Err-clause-refused : goal.returns-in-Err-clause-refused
returns-in-Err-clause-refused g c = some_fails c.loop-i.invariant.read (omega (arith, c.loop-i-test.false, c.count-i-end.ensures)) c.in-Err.refusal c.in-Err.ensures.err
