-- The replies to a graph's value and to a command's value.
use Rattle.std.proofs.Common.{◌≡◌, ◌≢◌, ℕ, List, [], ◌∷◌, Option, Some, None, Result, Ok, Err, refl, sym, ap, subst, ◌∙◌, inl, inr}
use Rattle.std.specs.Prelude.{◌<◌, ◌≤◌, length, slice_get}
use Rattle.std.specs.Option.{ok_or, option_to_list}
use Rattle.serde_json.specs.Data.{Data}
use Rattle.nd_graph.specs.Graph.{Dataflow, names}
use Rattle.nd_graph.specs.Draft.{Draft}
use Rattle.nd_graph.specs.Fault.{IsUnlessMemory}
use Rattle.nd_graph.specs.declared.fault.GraphFault.{GraphFault}
use Rattle.nd_graph.specs.declared.fault.GraphFault.TheVariants.{Shape}
use Rattle.rewind_forms.specs.Asked.{asked_of}
use Rattle.rewind_replies.specs.Replies.{found as found_data, location_fault, frontier}
use Rattle.rewind_answers.specs.FaultyLines.{line_fault}
use Rattle.nd_delta.specs.Delta.{DeltaValue, entries}
use Rattle.nd_view.specs.View.{IsOnFrontier, IsPartWhere}
use Rattle.nd_protocol.specs.State.{ClusterState, view as view_in}
use Rattle.nd_state_json.specs.StateText.{entries_data}
use Rattle.nd_cluster.specs.Starting.{IsStartFault, start_code}
use Rattle.nd_cluster.specs.declared.start.StartFault.TheVariants as start_fault
use Rattle.rewind_forms.specs.Versions.{most_processors}
use Rattle.rewind_forms.specs.declared.version.Version.{Version}
use Rattle.rewind_forms.specs.declared.asked.Asked.{Asked}
use Rattle.rewind_forms.specs.declared.fault.LineFault.{LineFault}
use Rattle.rewind_forms.specs.declared.fault.LineFault.TheVariants as line
use Rattle.std.specs.declared.alloc.Global.{Global}
use Rattle.nd_timeline.specs.Timeline.{TimelineValue, cluster_of}
use Rattle.nd_history.specs.Least.{HoldsAt, IsLeast as IsLeastHit}
use Rattle.nd_history.specs.Answers.{MaySearch, SearchFails}
use Rattle.nd_history.specs.declared.fault.SearchFault.{SearchFault}
use Rattle.rewind_forms.specs.declared.queries.Search.{Search}
use Rattle.rewind_answers.specs.Answers.{Logged, running, refused, StartReplies, not_strict, draft_in, checked_in, graph_of, graph_of_draft, AskedReply, FormReplies, LineReplies, FrontierReply, SearchReply, searched, unanswered, search_fault}

-- a value that is not a draft
pub graph_of-refused : (v : Version) (d : Data) (e : GraphFault) → IsUnlessMemory (ok_or (draft_in v d) Shape) (Err e) → IsUnlessMemory (graph_of v d) (Err e)
unfolding graph_of
graph_of-refused v d e h = passes (draft_in v d) e h
  where
    passes : (o : Option Draft) (e : GraphFault) → IsUnlessMemory (ok_or o Shape) (Err e) → IsUnlessMemory (graph_of_draft v o) (Err e)
    passes None e (inl is) = inl (let same : Shape ≡ e = cc in ap Err same)
    passes None e (inr is) = inr is
    passes (Some draft) e (inl is) = absurd (cc)
    passes (Some draft) e (inr is) = inr is

found : (o : Option Draft) (draft : Draft) → ok_or o Shape ≡ Ok draft → o ≡ Some draft
found None draft is = absurd (cc)
found (Some other) draft is = cc

-- the graph of a value that is a draft
pub graph_of-draft : (v : Version) (d : Data) (draft : Draft) → ok_or (draft_in v d) Shape ≡ Ok draft → graph_of v d ≡ checked_in v draft
unfolding graph_of
graph_of-draft v d draft is = ap (graph_of_draft v) (found (draft_in v d) draft is)

-- ---- commands

pub asked_replies : (script : Version) (m : Logged) (n : ℕ) (d : Data) (asked : Asked) (v : Data) (new : Logged) → asked_of script (cluster_of m.machine.timeline).graph d ≡ Ok asked
    → AskedReply m asked v new → LineReplies script m n d (v ∷ []) (running script new)
asked_replies script m n d asked v new is h = subst (λ (o : Result Asked LineFault). FormReplies script m n o (v ∷ []) (running script new)) (sym is) (v, new, h, refl, refl)

no_memory : (e : LineFault) (n : ℕ) (x : Data) → Some x ≡ line_fault e n → e ≢ line.Memory
no_memory e n x told memory = absurd (cc (ap (λ f. line_fault f n) memory))

pub fault_replies : (script : Version) (m : Logged) (n : ℕ) (d : Data) (e : LineFault) (v : Data) → (e ≢ line.Memory → asked_of script (cluster_of m.machine.timeline).graph d ≡ Err e) → Some v ≡ line_fault e n
    → LineReplies script m n d (v ∷ []) (running script m)
fault_replies script m n d e v is told =
    subst (λ (o : Result Asked LineFault). FormReplies script m n o (v ∷ []) (running script m)) (sym (is (no_memory e n v told))) (ap option_to_list told, refl)

-- ---- queries about a processor

-- the frontier of the view, with the graph and the view that were read
pub frontier_replies : (s : ClusterState) (q : ℕ) (g : Dataflow) (v f : DeltaValue) (d : Data) → q < length s.processors → g ≡ s.graph → v ≡ view_in s q
    → IsPartWhere (IsOnFrontier g v) v f → d ≡ entries_data s.graph (entries f) → FrontierReply s q (frontier d)
frontier_replies s q g v f d there graph is part shown =
    let same : IsPartWhere (IsOnFrontier g (view_in s q)) (view_in s q) f = subst (λ (u : DeltaValue). IsPartWhere (IsOnFrontier g u) u f) is part in
    inr (there, (f, subst (λ (h : Dataflow). IsPartWhere (IsOnFrontier h (view_in s q)) (view_in s q) f) graph same, ap frontier shown))

-- ---- searches, of the timeline of a snapshot

pub found_replies : (m t : TimelineValue Global) (s : Search) (least : Option ℕ) → t ≡ m → MaySearch (length t.kept) s.lo s.hi s.workers
    → IsLeastHit (HoldsAt t s.when) s.lo s.hi least → SearchReply m s (found_data least)
found_replies m t s least same may hit =
    searched least (subst (λ (u : TimelineValue Global). MaySearch (length u.kept) s.lo s.hi s.workers) same may)
    (subst (λ (u : TimelineValue Global). IsLeastHit (HoldsAt u s.when) s.lo s.hi least) same hit) refl

pub failed_replies : (m t : TimelineValue Global) (s : Search) (e : SearchFault Global) (v : Data) → t ≡ m
    → SearchFails t s.when s.lo s.hi s.workers e → Some v ≡ search_fault e → SearchReply m s v
failed_replies m t s e v same why told = unanswered e (subst (λ (u : TimelineValue Global). SearchFails u s.when s.lo s.hi s.workers e) same why) told

-- ---- starts

-- a graph whose loops are not strict
pub not_strict_replies : (script : Version) (processors l : ℕ) (g other : Dataflow) (name : List ℕ) (v : Data) → processors ≤ most_processors script → IsStartFault g processors (start_fault.LoopNotStrict l) → other ≡ g
    → slice_get (names other) l ≡ Some name → v ≡ location_fault (start_code (start_fault.LoopNotStrict l)) name → StartReplies script processors (Ok g) (v ∷ []) refused
not_strict_replies script processors l g other name v few fails same named reply =
    inl (v, not_strict l name few fails (ap (λ h. slice_get (names h) l) (sym same) ∙ named) reply, refl, refl)
