-- At how many keys and queues a broadcast or a receive changes a cluster.
use Rattle.std.specs.Prelude.{◌≡◌, ◌<◌, ℕ, ◌+◌, length, slice_get, Some}
use Rattle.nd_delta.specs.Delta.{DeltaValue, size}
use Rattle.nd_protocol.specs.State.{ClusterState, processor, queue}
use Rattle.nd_protocol.specs.Exchange.{IsPart, sent, received}
use Rattle.nd_protocol.specs.Fitting.{KeysFit}
use Rattle.nd_steps.specs.Integers.{changed}

-- a broadcast changes one key for each entry that is sent, and each queue from the sender
abbrev pub SentChanges : Type 0
SentChanges = (s : ClusterState) (p : ℕ) (c : DeltaValue) → KeysFit s → p < length s.processors → IsPart c (processor s p).unsent → changed s (sent s p c) ≡ size c + length s.processors

-- a receive changes one key for each entry that is received, and the queue from which the change comes
abbrev pub ReceivedChanges : Type 0
ReceivedChanges = (s : ClusterState) (from to : ℕ) (c : DeltaValue) → KeysFit s → from < length s.processors → to < length s.processors → slice_get (queue s from to) 0 ≡ Some c → changed s (received s from to) ≡ size c + 1
