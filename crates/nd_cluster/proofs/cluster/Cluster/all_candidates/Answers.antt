use Rattle.std.proofs.Common.{◌≡◌, ◌<◌, ◌≤◌, ◌+◌, ◌-◌, List, ◌++◌, sym, ap, subst, ◌∙◌, append_assoc, arith}
use Rattle.std.specs.Prelude.{option_copied}
use Rattle.std.specs.List.{range_with_len}
use Rattle.std.proofs.lemmas.List.{append-nil}
use Rattle.nd_protocol.specs.declared.step.Step.{Step}
use Rattle.nd_cluster.specs.Candidates.{AreComplete, candidates_among, candidates_if, candidates_on}
use Rattle.nd_cluster.proofs.CandidatesLemmas.{complete_among, next_of, none_left}
use Rattle.nd_cluster.proofs.cluster.Cluster.all_candidates.Goals as goal

pub loop-p-preserved : goal.loop-p-preserved
loop-p-preserved g c =
    let s = c.args.self.now in
    let only = option_copied c.args.only in
    let p = c.loop-p.p in
    let end = c.processor_count-p-end.result in
    let more : p < end = omega (arith, c.loop-p-test.true) in
    let here : List (Step g.row.A.Denot) = c.loop-p.steps.items in
    let rest : List (Step g.row.A.Denot) = candidates_on s only (range_with_len (p + 1) (end - (p + 1))) in
    record {
      steps =
          ap (λ (xs : List (Step g.row.A.Denot)). xs ++ rest) c.in_ok-push_candidates.ensures
          ∙ append_assoc here (candidates_if s only p) rest
          ∙ ap (λ (xs : List (Step g.row.A.Denot)). here ++ xs) (sym (next_of (candidates_if s only) p end more))
          ∙ c.loop-p.invariant.steps;
      end = c.loop-p.invariant.end;
    }

pub returns-clause-all : goal.returns-clause-all
returns-clause-all g c =
    let s = c.args.self.now in
    let only = option_copied c.args.only in
    let end = c.processor_count-p-end.result in
    let all : end ≤ c.loop-p.p = omega (arith, c.loop-p-test.false) in
    let here : List (Step g.row.A.Denot) = c.loop-p.steps.items in
    sym (append-nil here) ∙ ap (λ (xs : List (Step g.row.A.Denot)). here ++ xs) (sym (none_left (candidates_if s only) c.loop-p.p end all)) ∙ c.loop-p.invariant.steps

pub returns-clause-complete : goal.returns-clause-complete
returns-clause-complete g c =
    let s = c.args.self.now in
    let only = option_copied c.args.only in
    let end = c.processor_count-p-end.result in
    let all : end ≤ c.loop-p.p = omega (arith, c.loop-p-test.false) in
    let here : List (Step g.row.A.Denot) = c.loop-p.steps.items in
    let same : here ≡ candidates_among s only
    = sym (append-nil here) ∙ ap (λ (xs : List (Step g.row.A.Denot)). here ++ xs) (sym (none_left (candidates_if s only) c.loop-p.p end all)) ∙ c.loop-p.invariant.steps in
    subst (AreComplete s only) (sym same) (complete_among s only)
