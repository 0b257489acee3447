-- The lists in the text of a state, sent step by step.
use Rattle.std.proofs.Common.{◌≡◌, ◌<◌, ◌+◌, ℕ, suc, ℤ, List, [], ◌∷◌, map, drop, length, get_or, Some, refl, sym, ap, subst, ◌∙◌, arith, drop-cons, add-one}
use Rattle.std.proofs.lemmas.List.{length-map, length-append}
use Rattle.std.proofs.lemmas.List.Sums.{sum_by-cons}
use Rattle.std.specs.List.{flat_map, enumerate_from, sum_by}
use Rattle.serde.specs.Event.{Log, Logs, seq_begins, seq_ends, unsigned}
use Rattle.serde_json.specs.Data.{Data}
use Rattle.serde_json.specs.Events.{SendsValue}
use Rattle.nd_time.specs.Time.{Time}
use Rattle.nd_graph.specs.Graph.{Dataflow}
use Rattle.nd_map.specs.Counts.{entries}
use Rattle.nd_vertex.specs.Items.{Items}
use Rattle.nd_vertex.specs.declared.key.ItemKey.{ItemKey}
use Rattle.std.specs.FinMap as fin
use Rattle.nd_paths.specs.declared.point.Pointstamp.{Pointstamp}
use Rattle.nd_delta.specs.Delta.{DeltaValue, entries as listed}
use Rattle.nd_processor.specs.State.{ProcessorState}
use Rattle.nd_processor.specs.declared.key.ValueAt.{ValueAt}
use Rattle.nd_processor.specs.declared.key.SinkKey.{SinkKey}
use Rattle.nd_state_json.specs.Sent.{SendsEach, SentBefore}
use Rattle.nd_state_json.specs.SentLaws.{array-sent, each-joined}
use Rattle.nd_state_json.specs.StateText.{row, natural, time_data, item_data, items_data, record_data, point_data, sink_data, token_data, entries_data, processor_members, processor_data}

-- ---- a time

-- a time, whose epoch and counters are sent
pub time-sent : (t : Time) (epoch n : ℕ) (counters : List ℕ) (old first mid last new : Log) → epoch ≡ t.epoch → counters ≡ t.counters → n ≡ suc (length counters)
    → Logs old first (seq_begins (Some n)) → Logs first mid (unsigned epoch) → SendsEach (map natural counters) mid last → Logs last new seq_ends → SendsValue (time_data t) old new
time-sent t epoch n counters old first mid last new here there len begun one each ended =
    let items = subst (λ ns. SendsEach (map natural ns) mid last) there each in
    array-sent (map natural (t.epoch ∷ t.counters)) n old first last new (len ∙ ap (λ ns. suc (length ns)) there ∙ ap suc (sym (length-map t.counters natural)))
    begun (mid, subst (λ k. Logs first mid (unsigned k)) here one, items) ended

-- ---- items

-- the items of vertices, the first of which has this number
abbrev pub items_from : Dataflow → ℕ → List Items → List Data
items_from g v items = flat_map (λ i. map (item_data g i.0) (entries i.1)) (enumerate_from v items)

pub items-count : (g : Dataflow) (v : ℕ) (items : List Items) → length (items_from g v items) ≡ sum_by (λ i. length (entries i)) items
items-count g v [] = refl
items-count g v (i ∷ items) =
    let here = map (item_data g v) (entries i) in
    omega (arith, length-append here (items_from g (v + 1) items), length-map (entries i) (item_data g v), items-count g (v + 1) items, sum_by-cons (λ (j : Items). length (entries j)) i items)

-- the items of one more vertex were sent
pub items-more : (g : Dataflow) (items : List Items) (v : ℕ) (d : Items) (es : List (ItemKey × ℤ)) (all : List Data) (first old mid : Log) → v < length items → es ≡ entries (get_or items v d)
    → SentBefore (items_from g v (drop v items)) all first old → SendsEach (map (item_data g v) es) old mid → SentBefore (items_from g (v + 1) (drop (v + 1) items)) all first mid
items-more g items v d es all first old mid lt is before sent end h =
    let next = subst (λ k. SendsEach (items_from g (v + 1) (drop k items)) mid end) (add-one v) h in
    let here = subst (λ xs. SendsEach (map (item_data g v) xs) old mid) is sent in
    let both = each-joined (map (item_data g v) (entries (get_or items v d))) (items_from g (v + 1) (drop (suc v) items)) old mid end here next in
    before end (subst (λ xs. SendsEach (items_from g v xs) old end) (sym (drop-cons items v d lt)) both)

-- ---- a processor

mapped_twice : {X Y Z : Type 0} (f : Y → Z) (h : X → Y) (xs : List X) → map f (map h xs) ≡ map (λ x. f (h x)) xs
mapped_twice f h [] = refl
mapped_twice f h (x ∷ xs) = ap (λ ys. f (h x) ∷ ys) (mapped_twice f h xs)

-- the members of a processor's object list the entries of its maps
pub processor_shown : (g : Dataflow) (q : ProcessorState) (view : DeltaValue) (records : List (ValueAt × ℕ)) (requests : List (Pointstamp × Unit {0})) (sinks : List (SinkKey × ℕ)) (tokens : List (ℕ × ℕ)) (unsent known : List (Pointstamp × ℤ))
    → records ≡ entries q.records → requests ≡ fin.entries q.requests → sinks ≡ entries q.sinks → tokens ≡ fin.entries q.tokens → unsent ≡ listed q.unsent → known ≡ listed view
    → processor_members (row (items_data g q)) (row (map (record_data g) records)) (row (map (λ e. point_data g e.0) requests)) (row (map (sink_data g) sinks)) (row (map (token_data g) tokens)) (entries_data g unsent) (entries_data g known)
    ≡ processor_data g q view
unfolding processor_data
processor_shown g q view records requests sinks tokens unsent known a r s t u k =
    let asked : map (λ (e : Pointstamp × Unit {0}). point_data g e.0) requests ≡ map (point_data g) (fin.keys q.requests)
    = ap (map (λ (e : Pointstamp × Unit {0}). point_data g e.0)) r ∙ sym (mapped_twice (point_data g) (λ (e : Pointstamp × Unit {0}). e.0) (fin.entries q.requests)) in
    λ i. processor_members (row (items_data g q)) (row (map (record_data g) (a i))) (row (asked i)) (row (map (sink_data g) (s i))) (row (map (token_data g) (t i))) (entries_data g (u i)) (entries_data g (k i))
