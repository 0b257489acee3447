use Rattle.std.proofs.Common.{◌≡◌, ◌≤◌, ℕ, pos, length, sym, ap, ◌∙◌, arith}
use Rattle.std.proofs.lemmas.List.{get_or_past}
use Rattle.nd_paths.specs.declared.point.Pointstamp.{Pointstamp}
use Rattle.nd_delta.specs.Delta.{none, at, at-none}
use Rattle.nd_protocol.specs.State.{ClusterState, view}
use Rattle.nd_protocol.specs.Fitting.{IsState}
use Rattle.nd_history.proofs.view_history.ViewEntryObservation.of.Goals as goal

-- a processor that does not exist has no view, and so no entry
no_entry : (s : ClusterState) (q : ℕ) (x : Pointstamp) → IsState s → length s.processors ≤ q → at (view s q) x ≡ pos 0
no_entry s q x state past = ap (λ c. at c x) (get_or_past s.views q none (omega (arith, state.fits.each_view, past))) ∙ at-none x

pub returns-then-self-n : goal.returns-then-self-n
returns-then-self-n g c = sym (no_entry c.args.cluster.now c.args.self.now.q c.args.self.now.point.now c.n.ensures.state (omega (arith, c.if-self-n.true, c.n.ensures.value)))
