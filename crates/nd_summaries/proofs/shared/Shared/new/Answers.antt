use Rattle.std.proofs.Common.{◌≡◌, ◌∙◌, ℕ, List, [], replicate, sym, ap, subst, arith}
use Rattle.nd_summaries.specs.declared.shared.TheConstants.{BUCKETS}
use Rattle.nd_summaries.specs.Shared.{IsIndexed}
use Rattle.nd_summaries.proofs.Sharing.{Indexed-none}
use Rattle.nd_summaries.proofs.shared.Shared.new.Goals as goal

pub returns : goal.returns
returns g c =
    let all : c.loop-bucket._bucket ≡ BUCKETS = omega (arith, c.loop-bucket-test.false, c.loop-bucket.auto._bucket-end) in
    let empty = c.loop-bucket.invariant ∙ ap (λ (n : ℕ). replicate {A = List ℕ} n []) all in
    record {
      none = c.new.ensures.items;
      indexed = subst (λ lists. IsIndexed lists c.loop-bucket.buckets.items) (sym c.new.ensures.items) (Indexed-none c.loop-bucket.buckets.items empty);
    }
