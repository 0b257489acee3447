use Rattle.std.proofs.Common.{◌≡◌, refl, ap}
use Rattle.nd_delta.specs.Delta.{at, set, combined}
use Rattle.nd_delta.proofs.Sums.{kept, next_entry, one_more, all_entries, combined_is}
use Rattle.nd_delta.proofs.large.LargeDelta.combine.Goals as goal

pub loop-entry-init : goal.loop-entry-init
loop-entry-init g c = record { value = λ q. ap (λ m. at m q) c.in_ok-made.ensures.equal }

pub loop-entry-preserved : goal.loop-entry-preserved
loop-entry-preserved g c =
    let x = c.entry-item.result in
    let set_is : c.put.new.self ≡ set c.loop-entry.made x.0 (at (combined c.args.minus c.args.self.now c.args.other.now) x.0)
    = rw (kept c.combined_at.result c.combined_at.ensures.fits, c.combined_at.ensures.value) at c.in_ok-put.ensures.ok in
    one_more x.0 c.loop-entry.invariant set_is (next_entry c.entries-entry-items.result.now c.loop-entry.entry-index x c.loop-entry-test.true c.entry-item.is)

pub returns-clause-ok : goal.returns-clause-ok
returns-clause-ok g c =
    combined_is c.args.minus c.args.self.now c.args.other.now c.entries-entry-items.ensures.listed
    (all_entries c.entries-entry-items.result.now c.loop-entry.entry-index c.loop-entry-test.false c.loop-entry.invariant) (λ _ _. refl)
