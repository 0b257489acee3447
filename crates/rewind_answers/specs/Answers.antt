-- Which replies each line of a script may get, and the phase after it.
use Rattle.std.specs.Prelude.{◌≡◌, ◌≢◌, ◌+◌, ◌↔◌, IsTrue, Bool, ℕ, ◌<◌, ◌≤◌, ◌⊎◌, List, [], ◌∷◌, length, if◌then◌else◌, Option, Some, None, unsigned_abs, slice_get, Result, Ok, Err}
use Rattle.std.specs.Option.{option_to_list}
use Rattle.std.specs.declared.alloc.Global.{Global}
use Rattle.serde_json.specs.Data.{Data}
use Rattle.rewind_lines.specs.Lines.{Reading, blank, too_long, no_json, json}
use Rattle.nd_time.specs.Limits.{max_line, max_log}
use Rattle.nd_graph.specs.Graph.{Dataflow, location_count, names}
use Rattle.nd_graph.specs.Draft.{Draft, draft_of, draft_of_v4, draft_of_v5, draft_of_v8}
use Rattle.nd_graph.specs.Checked.{checked, checked_v1, checked_v5, checked_v8}
use Rattle.nd_graph.specs.Fault.{code_of}
use Rattle.nd_graph.specs.declared.fault.GraphFault.{GraphFault}
use Rattle.nd_graph.specs.declared.fault.GraphFault.TheVariants.{Shape}
use Rattle.nd_paths.specs.Order.{CouldResultIn}
use Rattle.nd_paths.specs.declared.point.Pointstamp.{Pointstamp}
use Rattle.nd_delta.specs.Delta.{DeltaValue, at, entries}
use Rattle.nd_delta.specs.Least.{IsLeast}
use Rattle.nd_view.specs.View.{IsPassed, IsBlocker, IsOnFrontier, IsPartWhere}
use Rattle.nd_protocol.specs.State.{ClusterState, truth, view}
use Rattle.nd_protocol.specs.Invariant.{IsFinished}
use Rattle.nd_state_json.specs.StateText.{state_data, entries_data, point_data}
use Rattle.nd_protocol.specs.Start.{start}
use Rattle.nd_cluster.specs.Starting.{IsStartFault, CanStart, start_code}
use Rattle.nd_cluster.specs.declared.start.StartFault.TheVariants as start_fault
use Rattle.nd_timeline.specs.Timeline.{TimelineValue, cluster_of, opened}
use Rattle.nd_machine.specs.Moves.{MachineValue, Moves, without_breaks}
use Rattle.nd_commands.specs.declared.command.Command.{Command}
use Rattle.nd_replies.specs.declared.reply.Reply.{Reply}
use Rattle.nd_history.specs.Least.{HoldsAt, IsLeast as IsLeastHit}
use Rattle.nd_history.specs.Answers.{MaySearch, SearchFails}
use Rattle.nd_history.specs.Faults.{code_of_search}
use Rattle.nd_history.specs.declared.fault.SearchFault.{SearchFault}
use Rattle.nd_history.specs.declared.fault.SearchFault.TheVariants as search
use Rattle.nd_session.specs.Faults.{code_of as code_of_session}
use Rattle.nd_session.specs.declared.fault.SessionFault.{SessionFault}
use Rattle.nd_session.specs.declared.fault.SessionFault.TheVariants.{LogFull, Memory}
use Rattle.rewind_forms.specs.Asked.{asked_of}
use Rattle.rewind_forms.specs.Versions.{number_of as number_of_version, version_of, includes, most_processors, longest_graph}
use Rattle.rewind_replies.specs.Replies.{version, fault, location_fault, piece_fault, graph, reply_data, faulty, count, before, state, known, frontier, passed, not_passed, no_processor, found}
use Rattle.rewind_forms.specs.LineFaults.{code_of as code_of_line}
use Rattle.rewind_forms.specs.declared.version.Version.{Version}
use Rattle.rewind_forms.specs.declared.version.Version.TheVariants.{First, Second, Fifth, Sixth, Ninth}
use Rattle.rewind_forms.specs.declared.fault.LineFault.{LineFault}
use Rattle.rewind_forms.specs.declared.fault.LineFault.TheVariants.{LineTooLong, BadLine}
use Rattle.rewind_forms.specs.declared.asked.Asked.{Asked}
use Rattle.rewind_forms.specs.declared.asked.Asked.TheVariants.{Do, Look}
use Rattle.rewind_forms.specs.declared.queries.Search.{Search as Searching}
use Rattle.rewind_forms.specs.declared.queries.Query.{Query}
use Rattle.rewind_forms.specs.declared.queries.Query.TheVariants.{State, Count, Before, View, Frontier, Passed, Search, Export, Why, Changes, Step, Candidates, Effect, Turns, FrontierAt, Reach, WhyAtRest}
use Rattle.rewind_answers.specs.FaultyLines.{line_fault}
use Rattle.rewind_answers.specs.Ahead.{CandidatesReply, FrontierAtReply}
use Rattle.rewind_answers.specs.Reached.{ReachReply}
use Rattle.rewind_answers.specs.AtRest.{WhyAtRestReply}
use Rattle.rewind_answers.specs.Explained.{WhyReply, ChangesReply, ExportReply, StepReply, EffectReply, TurnsReply}

-- a machine, and how many of its commands are logged
pub record Logged : Type 0 where
  pub machine : MachineValue Global
  pub entries : ℕ

-- before any line, with a number of processors; before the graph's line, in a script of this version; after it, with the machine;
-- or after a first line or a graph's line that was refused
pub data Phase : Type 0 where
  unopened : ℕ → Phase
  unstarted : Version → ℕ → Phase
  running : Version → Logged → Phase
  refused : Phase

-- how many bytes the next line may have: the graph's line may be longer than others
abbrev pub limit_in : Phase → ℕ
limit_in (unstarted version processors) = longest_graph version
limit_in _ = max_line

-- ---- the graph's line

-- the graph that a value describes in a script of this version; before the ninth version names are shorter and timestamps have one
-- order, before the sixth no vertex can be opaque, and before the fifth none can be a hold
abbrev pub draft_in : Version → Data → Option Draft
draft_in v d =
    if includes v Ninth then draft_of d
    else (if includes v Sixth then draft_of_v8 d else (if includes v Fifth then draft_of_v5 d else draft_of_v4 d))

-- the check of a draft in a script of this version; before the ninth version there may be fewer locations, before the sixth still
-- fewer, and the first has a smaller limit of depth
abbrev pub checked_in : Version → Draft → Result Dataflow GraphFault
checked_in v draft =
    if includes v Ninth then checked draft
    else (if includes v Sixth then checked_v8 draft else (if includes v Second then checked_v5 draft else checked_v1 draft))

-- the graph of a draft, or the error
abbrev pub graph_of_draft : Version → Option Draft → Result Dataflow GraphFault
graph_of_draft v None = Err Shape
graph_of_draft v (Some draft) = checked_in v draft

-- the graph that a value describes, or the error
unfoldable pub graph_of : Version → Data → Result Dataflow GraphFault
graph_of v d = graph_of_draft v (draft_in v d)

-- the reply if no cluster starts on a graph: there are more processors than the version allows, or the start is refused
pub data RefusedReply (v : Version) (processors : ℕ) (g : Dataflow) (reply : Data) : Type 0 where
  bad_count : (processors ≤ most_processors v → IsStartFault g processors start_fault.BadCount)
      → reply ≡ fault (start_code start_fault.BadCount) → RefusedReply v processors g reply
  not_strict : (l : ℕ) (name : List ℕ) → processors ≤ most_processors v → IsStartFault g processors (start_fault.LoopNotStrict l) → slice_get (names g) l ≡ Some name
      → reply ≡ location_fault (start_code (start_fault.LoopNotStrict l)) name → RefusedReply v processors g reply

-- the machine at its start
abbrev pub started : Dataflow → ℕ → Logged
started g processors = record { machine = without_breaks (opened Global (start g processors)); entries = 0 }

-- the reply to the graph's line in a script of this version, and the phase after it
abbrev pub StartReplies : Version → ℕ → Result Dataflow GraphFault → List Data → Phase → Type 0
StartReplies v processors (Err e) replies new = (replies ≡ fault (code_of e) ∷ []) × (new ≡ refused)
StartReplies v processors (Ok g) replies new =
    ((reply : Data) × RefusedReply v processors g reply × (replies ≡ reply ∷ []) × (new ≡ refused))
    ⊎ ((processors ≤ most_processors v) × CanStart g processors × (replies ≡ graph (location_count g) processors ∷ []) × (new ≡ running v (started g processors)))

-- ---- the first line

-- the reply to the line that names the script's version; if the first line names none, the script is of the first version and
-- that line is its graph's
abbrev pub OpeningReplies : Option Version → ℕ → Data → List Data → Phase → Type 0
OpeningReplies (Some v) processors d replies new = (replies ≡ version (number_of_version v) ∷ []) × (new ≡ unstarted v processors)
OpeningReplies None processors d replies new = StartReplies First processors (graph_of First d) replies new

-- ---- the lines after it

-- the reply if a session refuses a command
abbrev pub session_fault : SessionFault Global → Data
session_fault e = fault (code_of_session e)

-- the true count of a pointstamp
abbrev pub true_count : ClusterState → Pointstamp → ℕ
true_count s x = unsigned_abs (at (truth s.processors) x)

-- whether one pointstamp could result in another
abbrev pub BeforeReply : Dataflow → Pointstamp → Pointstamp → Data → Type 0
BeforeReply g x y reply = (b : Bool) × (IsTrue b ↔ CouldResultIn g x y) × (reply ≡ before b)

-- the entries of processor q's view
abbrev pub ViewReply : ClusterState → ℕ → Data → Type 0
ViewReply s q reply =
    ((length s.processors ≤ q) × (reply ≡ no_processor))
    ⊎ ((q < length s.processors) × (reply ≡ known (entries_data s.graph (entries (view s q)))))

-- the part of processor q's view that is on its frontier
abbrev pub FrontierReply : ClusterState → ℕ → Data → Type 0
FrontierReply s q reply =
    ((length s.processors ≤ q) × (reply ≡ no_processor))
    ⊎ ((q < length s.processors)
    × ((f : DeltaValue) × IsPartWhere (IsOnFrontier s.graph (view s q)) (view s q) f × (reply ≡ frontier (entries_data s.graph (entries f)))))

-- whether processor q's view has passed the pointstamp t, which is then finished; if not, the least pointstamp that stands in the
-- way
abbrev pub PassedReply : ClusterState → ℕ → Pointstamp → Data → Type 0
PassedReply s q t reply =
    ((length s.processors ≤ q) × (reply ≡ no_processor))
    ⊎ ((q < length s.processors)
    × (((IsPassed s.graph (view s q) t × IsFinished s t) × (reply ≡ passed))
    ⊎ ((x : Pointstamp) × IsLeast (IsBlocker s.graph (view s q) t) x × (reply ≡ not_passed (point_data s.graph x)))))

-- the reply to a search that fails; none if memory ran out outside the workers' walks
abbrev pub search_fault : SearchFault Global → Option Data
search_fault search.Memory = None
search_fault (search.Missing piece claimed) = Some (piece_fault (code_of_search (search.Missing piece claimed)) piece)
search_fault e = Some (fault (code_of_search e))

-- The reply to a search: the least position at which the condition holds, or null if there is none; or the first error whose
-- condition holds; or a missing piece, before which the condition does not hold.
pub data SearchReply (m : TimelineValue Global) (s : Searching) (reply : Data) : Type 0 where
  searched : (least : Option ℕ) → MaySearch (length m.kept) s.lo s.hi s.workers → IsLeastHit (HoldsAt m s.when) s.lo s.hi least
      → reply ≡ found least → SearchReply m s reply
  unanswered : (e : SearchFault Global) → SearchFails m s.when s.lo s.hi s.workers e → Some reply ≡ search_fault e → SearchReply m s reply

-- the reply to a query about a timeline: about its cluster at the cursor, or about all kept steps
abbrev pub QueryReply : TimelineValue Global → Query → Data → Type 0
QueryReply m State reply = reply ≡ state (state_data (cluster_of m))
QueryReply m (Count x) reply = reply ≡ count (true_count (cluster_of m) x)
QueryReply m (Before x y) reply = BeforeReply (cluster_of m).graph x y reply
QueryReply m (View q) reply = ViewReply (cluster_of m) q reply
QueryReply m (Frontier q) reply = FrontierReply (cluster_of m) q reply
QueryReply m (Passed q x) reply = PassedReply (cluster_of m) q x reply
QueryReply m (Search s) reply = SearchReply m s reply
QueryReply m Export reply = ExportReply m reply
QueryReply m (Why asked) reply = WhyReply (cluster_of m) asked reply
QueryReply m (Changes asked) reply = ChangesReply m asked reply
QueryReply m (Step to) reply = StepReply m to reply
QueryReply m Candidates reply = CandidatesReply (cluster_of m) reply
QueryReply m (Effect to) reply = EffectReply m to reply
QueryReply m (Turns asked) reply = TurnsReply m asked reply
QueryReply m (FrontierAt q l) reply = FrontierAtReply (cluster_of m) q l reply
QueryReply m (Reach asked) reply = ReachReply (cluster_of m) asked reply
QueryReply m (WhyAtRest asked) reply = WhyAtRestReply (cluster_of m) m.cursor asked reply

-- The reply to a command: that of a move of the machine, with the names of the graph, and the command is logged; or LogFull,
-- exactly if the log is full; or out of memory.
pub data CommandReply (m : Logged) (asked : Command Global) (reply : Data) (new : Logged) : Type 0 where
  moved : (answer : Reply) → m.entries ≢ max_log → Moves m.machine asked answer new.machine → new.entries ≡ m.entries + 1
      → reply ≡ reply_data (cluster_of new.machine.timeline).graph answer → CommandReply m asked reply new
  log_full : m.entries ≡ max_log → reply ≡ session_fault LogFull → new ≡ m → CommandReply m asked reply new
  no_memory : m.entries ≢ max_log → reply ≡ session_fault Memory → new ≡ m → CommandReply m asked reply new

-- a command is answered by a reply and a new machine; a query leaves the machine as it is
abbrev pub AskedReply : Logged → Asked → Data → Logged → Type 0
AskedReply m (Do command) reply new = CommandReply m command reply new
AskedReply m (Look query) reply new = QueryReply m.machine.timeline query reply × (new ≡ m)

-- the replies to a line of a script of this version, which is or is not a command or a query
abbrev pub FormReplies : Version → Logged → ℕ → Result Asked LineFault → List Data → Phase → Type 0
FormReplies v m line (Ok asked) replies new = (reply : Data) × (next : Logged) × AskedReply m asked reply next × (replies ≡ reply ∷ []) × (new ≡ running v next)
FormReplies v m line (Err e) replies new = (replies ≡ option_to_list (line_fault e line)) × (new ≡ running v m)

abbrev pub LineReplies : Version → Logged → ℕ → Data → List Data → Phase → Type 0
LineReplies v m line d replies new = FormReplies v m line (asked_of v (cluster_of m.machine.timeline).graph d) replies new

-- ---- all lines

-- a line that is no JSON value ends the run if it is the first or the graph's; a later one changes nothing
abbrev pub after_fault : Phase → Phase
after_fault (unopened processors) = refused
after_fault (unstarted v processors) = refused
after_fault (running v machine) = running v machine
after_fault refused = refused

-- the replies to one line, none or one, and the phase after it; after a refused graph no line is answered
abbrev pub Answers : Phase → ℕ → Reading → List Data → Phase → Type 0
Answers refused line reading replies new = ⊥
Answers old line blank replies new = (replies ≡ []) × (new ≡ old)
Answers old line too_long replies new = (replies ≡ faulty (code_of_line LineTooLong) line ∷ []) × (new ≡ after_fault old)
Answers old line no_json replies new = (replies ≡ faulty (code_of_line BadLine) line ∷ []) × (new ≡ after_fault old)
Answers (unopened processors) line (json d) replies new = OpeningReplies (version_of d) processors d replies new
Answers (unstarted v processors) line (json d) replies new = StartReplies v processors (graph_of v d) replies new
Answers (running v m) line (json d) replies new = LineReplies v m line d replies new
