use Rattle.std.proofs.Common.{◌≡◌, ◌<◌, ◌≤◌, ◌+◌, ◌-◌, [], length, None, sym, subst, arith}
use Rattle.std.specs.List.{range_with_len}
use Rattle.nd_cluster.specs.Candidates.{AreListed, Lists, candidates_of, candidates_if, candidates_on}
use Rattle.nd_cluster.proofs.CandidatesLemmas.{complete_among, lists_none, lists_both, next_of, none_left}
use Rattle.nd_cluster.proofs.cluster.Cluster.candidates.Goals as goal

pub loop-p-init : goal.loop-p-init
loop-p-init g c =
    let s = c.args.self.now in
    let end = c.processor_count-p-end.result in
    let all : end - 0 ≡ length s.processors = omega (arith, c.processor_count-p-end.ensures.value) in
    record {
      listed = λ new lists. subst (λ n. AreListed s (candidates_on {A = g.row.A.Denot} s None (range_with_len 0 n)) new) all (lists [] (c.new-listed.ensures s));
      end = c.processor_count-p-end.ensures.value;
    }

pub loop-p-preserved : goal.loop-p-preserved
loop-p-preserved g c =
    let s = c.args.self.now in
    let p = c.loop-p.p in
    let end = c.processor_count-p-end.result in
    let more : p < end = omega (arith, c.loop-p-test.true) in
    record {
      listed = λ new rest. c.loop-p.invariant.listed new
          (subst (λ xs. Lists s xs c.loop-p.listed new) (sym (next_of (candidates_if s None) p end more))
          (lists_both s c.loop-p.listed c.list_on.new.listed new (candidates_of s p) (candidates_on s None (range_with_len (p + 1) (end - (p + 1)))) c.in_ok-list_on.ensures rest));
      end = c.loop-p.invariant.end;
    }

pub returns-clause-listed : goal.returns-clause-listed
returns-clause-listed g c =
    let s = c.args.self.now in
    let end = c.processor_count-p-end.result in
    let all : end ≤ c.loop-p.p = omega (arith, c.loop-p-test.false) in
    c.loop-p.invariant.listed c.loop-p.listed (subst (λ xs. Lists s xs c.loop-p.listed c.loop-p.listed) (sym (none_left (candidates_if s None) c.loop-p.p end all)) (lists_none s c.loop-p.listed))

pub returns-clause-complete : goal.returns-clause-complete
returns-clause-complete g c = complete_among {A = g.row.A.Denot} c.args.self.now None

pub returns-in_err-list_on-clause-complete : goal.returns-in_err-list_on-clause-complete
returns-in_err-list_on-clause-complete g c = complete_among {A = g.row.A.Denot} c.args.self.now None
