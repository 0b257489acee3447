use Rattle.std.proofs.Common.{◌∙◌, refl, ap}
use Rattle.std.proofs.lemmas.Result.{err_from_is_err_and}
use Rattle.nd_session.specs.Log.{opening_of}
use Rattle.rewind_answers.specs.Stages.{logged}
use Rattle.rewind_clients.specs.Intakes.{opening_replies, script_view, version_of}
use Rattle.rewind_sessions.specs.Runs.{AreLines, lines_data, lists_of, machine_of}
use Rattle.rewind_clients.proofs.EmptyLogs.{opened-history, some-lines}
use Rattle.rewind_clients.proofs.WrittenLemmas.{script-ends, stops-driving, stops-in}
use Rattle.rewind_clients.proofs.clients.answer_script.Goals as goal

pub returns-in_err-write_opening-clause-run : goal.returns-in_err-write_opening-clause-run
returns-in_err-write_opening-clause-run g c =
    let p = err_from_is_err_and c.from_residual.result c.from_residual.ensures.1 in
    let s = c.args.script in
    let t = some-lines s.state.machine (lists_of s.commands.items) (opening_of s.state.machine) refl (opened-history s.state.machine c.timeline.ensures.start c.timeline.ensures.state c.timeline.ensures.protocol) in
    rw (p.1, p.2) (λ before told.
    stops-in (script_view s) (opening_replies s) t.0 before _ _ (t.0, t.1, refl) (c.in_err-write_opening.ensures.err before told))

pub returns-in_err-driven-clause-run : goal.returns-in_err-driven-clause-run
returns-in_err-driven-clause-run g c =
    let p = err_from_is_err_and c.from_residual-in_err-driven.result c.from_residual-in_err-driven.ensures.1 in
    let s = c.args.script in
    let t = some-lines s.state.machine (lists_of s.commands.items) (opening_of s.state.machine) refl (opened-history s.state.machine c.timeline.ensures.start c.timeline.ensures.state c.timeline.ensures.protocol) in
    rw (p.1, p.2) (λ before told.
    stops-driving (version_of s) (opening_replies s) (logged s.state) (lists_of s.commands.items) t.0 before _ _ t.1 c.in_err-driven.ensures.kind (c.in_ok-write_opening.ensures.ok before told))

pub returns-clause-run : goal.returns-clause-run
returns-clause-run g c =
    let s = c.args.script in
    let d = c.in_ok-driven.driven in
    let graph = c.graph.ensures ∙ ap (λ x. x.graph) c.cluster.ensures.value in
    let lines = lines_data c.graph.result.now c.as_slice.result.now c.as_slice-2.result.now in
    let t : AreLines s.state.machine (lists_of s.commands.items) lines = record {
      log = d.log.entries.items;
      machine = machine_of d.log;
      faults = d.faults.items;
      told = c.in_ok-driven.ensures.told;
      shown = λ i. lines_data (graph i) (c.as_slice.ensures.value i) (c.as_slice-2.ensures.value i);
    } in
    λ before told.
    script-ends (version_of s) (opening_replies s) (logged s.state) (lists_of s.commands.items) lines before _ _ c.write_log.result t (c.in_ok-write_opening.ensures.ok before told) c.write_log.ensures.ok c.write_log.ensures.err
