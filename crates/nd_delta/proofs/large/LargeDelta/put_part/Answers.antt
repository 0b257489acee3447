use Rattle.std.proofs.Common.{cond, false, pos, refl, ap, ◌∙◌}
use Rattle.nd_delta.specs.Delta.{at, set}
use Rattle.nd_delta.proofs.Sums.{first_entries, item_kept, next_entry, one_more, all_entries, combined_is, part_here, part_back}
use Rattle.nd_delta.proofs.large.LargeDelta.put_part.Goals as goal

pub put-requires : goal.put-requires
put-requires g c =
    let e = c.entries-entries.ensures in
    rw (item_kept c.args.part.now e.listed e.within c.loop-i-test.true c.index-entries-i.is) (e.within c.index-entries-i.result.0)

pub loop-i-init : goal.loop-i-init
loop-i-init g c = record { value = λ q. refl }

pub loop-i-preserved : goal.loop-i-preserved
loop-i-preserved g c =
    let e = c.entries-entries.ensures in
    let x = c.index-entries-i.result in
    one_more x.0 c.loop-i.invariant (c.in-Ok.ensures.ok ∙ ap (set c.loop-i.self x.0) (item_kept c.args.part.now e.listed e.within c.loop-i-test.true c.index-entries-i.is))
    (next_entry c.entries-entries.result.now c.loop-i.i x c.loop-i-test.true c.index-entries-i.is)

pub returns-in_default-clause-err : goal.returns-in_default-clause-err
returns-in_default-clause-err g c =
    part_back c.args.self.now c.args.part.now c.requires c.loop-i.i c.entries-entries.ensures.listed c.loop-i.invariant
    (λ q. c.clear.ensures q ∙ ap (λ m. cond (first_entries c.entries-entries.result.now c.loop-i.i q) (pos 0) (at m q)) c.in_default.ensures.err)

pub returns-clause-ok : goal.returns-clause-ok
returns-clause-ok g c =
    combined_is false c.args.self.now c.args.part.now c.entries-entries.ensures.listed
    (all_entries c.entries-entries.result.now c.loop-i.i c.loop-i-test.false c.loop-i.invariant) (part_here c.args.self.now c.args.part.now c.requires)
