use Rattle.std.proofs.Common.{rules, ◌≡◌, ◌<◌, ℤ, true, unsigned_abs}
use Rattle.std.specs.Prelude.{◌↔◌, Any}
use Rattle.nd_time.specs.Limits.{max_count}
use Rattle.nd_paths.specs.declared.point.Pointstamp.{Pointstamp}
use Rattle.nd_delta.specs.Delta.{at, combined, entries}
use Rattle.nd_delta.proofs.Sums.{large_entry}
use Rattle.nd_delta.proofs.change.exceeds_limit.Goals as goal

pub returns-clause-passes : goal.returns-clause-passes
returns-clause-passes g c =
    let m = g.C.Change.change c.args.change.now in
    let n = c.args.other.now in
    let passes : (c.any.result ≡ true) ↔ Any (λ (e : Pointstamp × ℤ). max_count < unsigned_abs (at (combined c.args.minus m n) e.0)) (entries n) = search rules in (
      λ e. let some = passes.0 e in (some.1.0, some.4),
      λ large. passes.1 (large_entry c.args.minus m n c.requires large),
    )
