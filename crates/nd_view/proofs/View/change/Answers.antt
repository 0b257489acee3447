use Rattle.std.proofs.Common.{◌≡◌, ◌≤◌, refl, sym, subst, arith, true≢false, unsigned_abs}
use Rattle.nd_time.specs.Limits.{max_count}
use Rattle.nd_map.specs.Listed.{IsListed}
use Rattle.nd_paths.specs.Point.{point_cmp}
use Rattle.nd_delta.specs.Delta.{at, combined, sorted-entries}
use Rattle.nd_view.specs.Room.{AreWithin, IsAdded}
use Rattle.nd_view.specs.Settled.{same_views}
use Rattle.nd_view.proofs.Points.{added_all, within_entries}
use Rattle.nd_view.proofs.View.change.Goals as goal

pub add-requires-clause-listed : goal.add-requires-clause-listed
add-requires-clause-listed g c = subst (IsListed point_cmp) (sym c.entries.ensures.listed) (sorted-entries c.args.delta.now)

pub add-requires-clause-within : goal.add-requires-clause-within
add-requires-clause-within g c = subst AreWithin (sym c.entries.ensures.listed) (within_entries c.args.delta.now c.entries.ensures.within)

pub returns-then-not-add-clause-err : goal.returns-then-not-add-clause-err
returns-then-not-add-clause-err g c =
    same_views c.args.paths.now c.add.new.self c.args.self.now c.add.ensures.paths c.requires (c.if-not-add.ensures.none (λ yes. true≢false (sym yes)))

pub returns-clause-ok : goal.returns-clause-ok
returns-clause-ok g c =
    let minus = c.args.minus in
    let m = c.args.self.now.map in
    let n = c.add.new.self.map in
    added_all minus c.args.delta.now m n (subst (λ es. IsAdded minus es m n) c.entries.ensures.listed (c.if-not-add.ensures.added refl))

pub returns-clause-full : goal.returns-clause-full
returns-clause-full g c =
    let minus = c.args.minus in
    let m = c.args.self.now.map in
    let n = c.add.new.self.map in
    let is : n ≡ combined minus m c.args.delta.now = added_all minus c.args.delta.now m n (subst (λ es. IsAdded minus es m n) c.entries.ensures.listed (c.if-not-add.ensures.added refl)) in (
      λ e. absurd (cc),
      λ large. absurd (let within = subst (λ d. unsigned_abs (at d large.0) ≤ max_count) is (c.entries-2.ensures.within large.0) in omega (arith, within, large.1)),
    )
