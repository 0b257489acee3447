use Rattle.std.proofs.Common.{◌≡◌, ◌∙◌, length, sym, ap, rules, arith}
use Rattle.std.proofs.lemmas.Bool.{false≢true}
use Rattle.nd_protocol.specs.State.{ClusterState}
use Rattle.nd_time.specs.Limits.{max_log}
use Rattle.std.specs.List.{list_any}
use Rattle.std.specs.Prelude.{IsTrue}
use Rattle.rewind_sessions.specs.Runs.{is_full, lists_of, machine_of}
use Rattle.rewind_sessions.proofs.ServedLemmas.{driven}
use Rattle.rewind_sessions.proofs.Starts.{same_start}
use Rattle.rewind_sessions.proofs.drive.drive_session.Goals.{else-len-lt-MAX_LOG-via-then-len-lt-MAX_LOG+else-any_full, else-len-lt-MAX_LOG-via-else-len-lt-MAX_LOG}
use Rattle.rewind_sessions.proofs.drive.drive_session.Goals as goal

pub returns-then-same_graph-clause-told : goal.returns-then-same_graph-clause-told
returns-then-same_graph-clause-told g c =
    let clients : c.in_ok-done.done.len ≡ length c.in_ok-done.done.items = search rules in
    let tasks : c.in_ok-tasks.tasks.len ≡ length c.in_ok-tasks.tasks.items = search rules in
    let was : c.base-begun.result.now ≡ c.args.state.machine.timeline.base = c.base-begun.ensures ∙ ap (λ t. t.base) c.timeline.ensures.value in
    let left : c.base-left.result.now ≡ c.in-Ok.log.timeline.base = c.base-left.ensures in
    let graphs : c.base-left.result.now.graph ≡ c.base-begun.result.now.graph = sym c.graph-then-n-count.ensures ∙ c.if-same_graph.ensures ∙ c.in_ok-graph.ensures ∙ c.graph.ensures in
    let counts : length c.base-left.result.now.processors ≡ length c.base-begun.result.now.processors = omega (arith, c.if-n-count.true, c.n.ensures.value, c.n-count.ensures.value) in
    let begins : c.in-Ok.log.timeline.base ≡ c.args.state.machine.timeline.base
    = same_start c.in-Ok.log.timeline.base c.args.state.machine.timeline.base c.in-Ok.ensures.settled.start c.timeline.ensures.start
    (ap (λ (s : ClusterState). s.graph) (sym left) ∙ graphs ∙ ap (λ (s : ClusterState). s.graph) was)
    (ap (λ (s : ClusterState). length s.processors) (sym left) ∙ counts ∙ ap (λ (s : ClusterState). length s.processors) was) in
    let full : IsTrue (list_any is_full c.in_ok-clients.faults.items) → length c.in-Ok.log.entries.items ≡ max_log = λ met.
    let few = c.in-Ok.ensures.settled.few in
    let size : c.in-Ok.log.entries.len ≡ length c.in-Ok.log.entries.items = search rules in
    elim c.else-len-lt-MAX_LOG.branch [
      | else-len-lt-MAX_LOG-via-then-len-lt-MAX_LOG+else-any_full w ↦ absurd (false≢true (sym w.if-any_full.false ∙ (w.any_full.ensures ∙ (ap (list_any is_full) w.as_slice.ensures.value ∙ met))))
      | else-len-lt-MAX_LOG-via-else-len-lt-MAX_LOG w ↦ omega (arith, few, size, c.len.ensures, w.if-len-lt-MAX_LOG.false)
    ] in
    driven (lists_of c.args.commands.items) c.in_ok-tasks.tasks.items c.in_ok-done.done.items c.in_ok-clients.clients.items c.in_ok-clients.faults.items c.in-Ok.log.entries.items (machine_of c.in-Ok.log) c.in-Ok.log.entered
    c.in_ok-tasks.ensures.fresh c.in_ok-done.ensures.done (sym clients ∙ (c.in_ok-done.ensures.len ∙ tasks)) c.in_ok-clients.ensures.clients c.in_ok-clients.ensures.faults c.in_ok-clients.ensures.ended full c.in-Ok.ensures.whole c.in-Ok.ensures.settled
    c.args.state.machine begins
