use Rattle.std.proofs.Common.{◌≡◌, ℕ, List, ◌++◌, false, map, take}
use Rattle.serde_json.specs.Data.{Data}
use Rattle.rewind_sessions.specs.Gathered.{Gathered}
use Rattle.rewind_sessions.specs.Runs.{entry_data}
use Rattle.rewind_sessions.proofs.write.put_log.Given as goal

abbrev pub invariant-loop-entry : goal.invariant-loop-entry
invariant-loop-entry g l = record {
  gathered : (replies : List Data) (before : List ℕ) → Gathered replies l.fn.outbox before (g.T.Sink.contents l.fn.sink)
      → Gathered (replies ++ map (entry_data l.graph) (take l.entry-index l.log)) l.outbox before (g.T.Sink.contents l.sink);
  sound : g.T.Sink.failed l.sink ≡ false;
}
