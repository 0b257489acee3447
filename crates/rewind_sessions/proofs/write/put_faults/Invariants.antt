use Rattle.std.proofs.Common.{◌≡◌, ℕ, List, ◌++◌, false, take}
use Rattle.serde_json.specs.Data.{Data}
use Rattle.rewind_sessions.specs.Gathered.{Gathered}
use Rattle.rewind_sessions.specs.Runs.{faults_data}
use Rattle.rewind_sessions.proofs.write.put_faults.Given as goal

abbrev pub invariant-loop-client : goal.invariant-loop-client
invariant-loop-client g l = record {
  gathered : (replies : List Data) (before : List ℕ) → Gathered replies l.fn.outbox before (g.T.Sink.contents l.fn.sink)
      → Gathered (replies ++ faults_data 0 (take l.client l.faults)) l.outbox before (g.T.Sink.contents l.sink);
  sound : g.T.Sink.failed l.sink ≡ false;
}
