-- The replies to queries about what a run could try next, and about the times that can still arrive at a location.
use Rattle.std.specs.Prelude.{◌≡◌, ℕ, ◌<◌, ◌≤◌, ◌⊎◌, List, length}
use Rattle.std.specs.declared.alloc.Global.{Global}
use Rattle.serde_json.specs.Data.{Data}
use Rattle.nd_time.specs.Time.{Time}
use Rattle.nd_view.specs.Arrivals.{AreArrivals, AreExact, AreApart}
use Rattle.nd_protocol.specs.State.{ClusterState, view}
use Rattle.nd_cluster.specs.Candidates.{AreListed, candidates}
use Rattle.nd_cluster.specs.declared.candidate.Candidates.{Candidates}
use Rattle.rewind_replies.specs.Replies.{no_processor, times, candidates as told_candidates}
use Rattle.rewind_replies.specs.Candidates.{candidates_data}
use Rattle.rewind_replies.specs.Times.{times_data}

-- the steps that a run could try, each enabled or with the refusal of least number: the first of them, and whether there are more
pub record CandidatesReply (s : ClusterState) (reply : Data) : Type 0 where
  pub listing : Candidates Global
  pub listed : AreListed s (candidates s) listing
  pub told : reply ≡ told_candidates (candidates_data s.graph listing.list) listing.more

-- the minimal times that can arrive at a location according to processor q's view, in the order of listing; a time is passed
-- there exactly if none of them is at or before it
pub record ListsTimes (s : ClusterState) (q l : ℕ) (reply : Data) : Type 0 where
  pub times_there : List Time
  pub arrivals : AreArrivals s.graph (view s q) l times_there
  pub exact : AreExact s.graph (view s q) l times_there
  pub apart : AreApart s.graph.order times_there
  pub told : reply ≡ times (times_data times_there)

abbrev pub FrontierAtReply : ClusterState → ℕ → ℕ → Data → Type 0
FrontierAtReply s q l reply =
    ((length s.processors ≤ q) × (reply ≡ no_processor))
    ⊎ ((q < length s.processors) × ListsTimes s q l reply)
