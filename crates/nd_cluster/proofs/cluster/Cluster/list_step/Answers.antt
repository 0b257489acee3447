use Rattle.std.proofs.Common.{[], ◌∷◌, ◌++◌, length, refl, ap, subst, arith}
use Rattle.nd_protocol.specs.declared.step.Step.{Step}
use Rattle.nd_cluster.specs.Candidates.{AreListed}
use Rattle.nd_cluster.specs.declared.candidate.Candidates.{Candidates}
use Rattle.nd_cluster.proofs.CandidatesLemmas.{with_room, without_room}
use Rattle.nd_cluster.proofs.cluster.Cluster.list_step.Goals as goal

pub returns-then-as_slice-ge-MAX_TOLD : goal.returns-then-as_slice-ge-MAX_TOLD
returns-then-as_slice-ge-MAX_TOLD g c = λ all is. without_room c.args.self.now all c.args.step c.args.listed.now _ is (omega (arith, c.if-as_slice-ge-MAX_TOLD.true, ap length c.as_slice.ensures)) refl refl

pub returns : goal.returns
returns g c = λ all is.
    let s = c.args.self.now in
    let new : Candidates g.row.A.Denot = record { list = c.push.new.self; more = c.args.listed.now.more } in
    subst (λ (x : Step g.row.A.Denot). AreListed s (all ++ x ∷ []) new) c.in_ok-candidate.ensures.step
    (with_room s all c.in_ok-candidate.candidate c.args.listed.now new is (omega (arith, c.if-as_slice-ge-MAX_TOLD.false, ap length c.as_slice.ensures)) c.in_ok-candidate.ensures.answered c.in-Ok.ensures refl)
