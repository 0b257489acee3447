use Rattle.std.proofs.Common.{◌≡◌, ◌<◌, ◌≤◌, ◌+◌, ◌-◌, length, List, None, sym, subst, arith}
use Rattle.std.specs.List.{range_with_len}
use Rattle.nd_protocol.specs.declared.step.Step.{Step}
use Rattle.nd_steps.specs.declared.record.Record.{Record}
use Rattle.nd_cluster.specs.Candidates.{candidates_if, candidates_of, candidates_on}
use Rattle.nd_cluster.specs.Moves.{AddsPlanned}
use Rattle.nd_cluster.proofs.CandidatesLemmas.{next_of, none_left}
use Rattle.nd_cluster.proofs.MovesLemmas.{adds_none, adds_both}
use Rattle.nd_cluster.proofs.cluster.Cluster.add_candidates.Goals as goal

pub loop-p-init : goal.loop-p-init
loop-p-init g c =
    let s = c.args.self.now in
    let end = c.processor_count-p-end.result in
    let all : end - 0 ≡ length s.processors = omega (arith, c.processor_count-p-end.ensures.value) in
    record {
      adds = λ new rest. subst (λ n. AddsPlanned {A = g.row.A.Denot} s (candidates_on s None (range_with_len 0 n)) c.args.moves.now.items new) all rest;
      end = c.processor_count-p-end.ensures.value;
    }

pub loop-p-preserved : goal.loop-p-preserved
loop-p-preserved g c =
    let s = c.args.self.now in
    let k = c.loop-p.p in
    let end = c.processor_count-p-end.result in
    let more : k < end = omega (arith, c.loop-p-test.true) in
    let here : List (Record g.row.A.Denot) = c.loop-p.moves.items in
    let rest : List (Step g.row.A.Denot) = candidates_on s None (range_with_len (k + 1) (end - (k + 1))) in
    record {
      adds = λ new later. c.loop-p.invariant.adds new
          (subst (λ (xs : List (Step g.row.A.Denot)). AddsPlanned s xs here new) (sym (next_of (candidates_if s None) k end more))
          (adds_both s here c.add_candidates_of.new.moves.items new (candidates_of s k) rest c.in_ok-add_candidates_of.ensures later));
      end = c.loop-p.invariant.end;
    }

pub returns : goal.returns
returns g c =
    let s = c.args.self.now in
    let end = c.processor_count-p-end.result in
    let all : end ≤ c.loop-p.p = omega (arith, c.loop-p-test.false) in
    let here : List (Record g.row.A.Denot) = c.loop-p.moves.items in
    c.loop-p.invariant.adds here (subst (λ (xs : List (Step g.row.A.Denot)). AddsPlanned s xs here here) (sym (none_left (candidates_if s None) c.loop-p.p end all)) (adds_none s here))
