use Rattle.std.proofs.Common.{◌≡◌, ◌∙◌, ap, sym}
use Rattle.std.specs.Ordering.{nat_cmp, is_le}
use Rattle.std.specs.Cmp.Lexicographic.{slice_cmp}
use Rattle.nd_time.specs.Lexical.{at_most, compares}
use Rattle.nd_paths.proofs.arrival.are_at_most.Goals as goal

pub returns-in-Lexicographic : goal.returns-in-Lexicographic
returns-in-Lexicographic c =
    let own = c.args.own.now in
    let theirs = c.args.theirs.now in
    let compared : c.is_le.result ≡ is_le (slice_cmp nat_cmp own theirs) = c.is_le.ensures ∙ ap is_le c.cmp.ensures in
    rw c.in-Lexicographic.is (
      λ yes'. at_most own theirs c.requires (sym compared ∙ yes'),
      λ h. compared ∙ compares own theirs h,
    )
