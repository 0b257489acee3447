-- The changes of a take with at most one consequence lead to the state after it.
use Rattle.std.proofs.Common.{◌≡◌, ◌≢◌, ◌<◌, ◌≤◌, ◌+◌, ◌^◌, ℕ, ℤ, pos, negsuc, All, Bool, true, false, cond, ◌&&◌, None, List, [], ◌∷◌, ◌++◌, map, length, get_or, nat_eq, nat_lt, inl, inr, lit<, length-append, refl, sym, ap, subst, ◌∙◌, arith}
use Rattle.std.specs.Prelude.{if◌then◌else◌}
use Rattle.std.proofs.lemmas.Bool.{cases_lt, lt-ltb}
use Rattle.std.proofs.lemmas.List.{length-map}
use Rattle.nd_paths.specs.declared.point.Pointstamp.{Pointstamp}
use Rattle.nd_time.specs.Time.{Time, ingress_of, feedback_of, last_of}
use Rattle.nd_time.specs.Limits.{max_depth, max_counter}
use Rattle.nd_graph.specs.Graph.{Dataflow, op_at, action_of, acted}
use Rattle.nd_graph.specs.declared.graph.Edge.{Edge}
use Rattle.nd_graph.specs.declared.op.Route.{Route}
use Rattle.nd_graph.specs.declared.op.Op.{Op}
use Rattle.nd_graph.specs.declared.op.Op.TheVariants as op
use Rattle.nd_graph.specs.declared.op.Action.{Action}
use Rattle.nd_graph.specs.declared.op.Action.TheVariants as action
use Rattle.nd_vertex.specs.Table.{time_past}
use Rattle.nd_vertex.specs.Effects.{emitted as emissions_of}
use Rattle.nd_vertex.specs.declared.effect.Effect.{Effect}
use Rattle.nd_vertex.specs.declared.effect.Emission.{Emission}
use Rattle.nd_processor.specs.declared.key.ValueAt.{ValueAt}
use Rattle.nd_protocol.specs.State.{ClusterState}
use Rattle.nd_protocol.specs.Steps.{made_on, destination, record_key, point_at, take_outcome, target_of, stepped}
use Rattle.nd_protocol.specs.Enabled.{IsFreeBelow}
use Rattle.nd_protocol.specs.declared.refusal.Refusal.TheVariants.{CounterFull}
use Rattle.nd_protocol.specs.declared.step.Step.TheVariants.{Take}
use Rattle.nd_steps.specs.Places.{place_at}
use Rattle.nd_steps.specs.Changes.{at_key, place_of}
use Rattle.nd_steps.specs.Plans.{often, Once, Each, Reaches}
use Rattle.nd_steps.specs.Places.{is_place}
use Rattle.nd_steps.proofs.AlikeLemmas.{same_place, other_place}
use Rattle.nd_steps.specs.Drafts.{Has, Leads, TakesSo, HasValues, AreJoined, arrivals, item_changes, ask_changes, sink_changes, taken_changes, made_by, emitted_by}
use Rattle.nd_steps.specs.Flows.{past_action, come_key, come_changes}
use Rattle.nd_steps.specs.Onward.{leaving, ComesBy}
use Rattle.nd_steps.specs.declared.change.Change.{Change}
use Rattle.nd_steps.specs.declared.slot.Slot.TheVariants.{Records, Sink, Unsent}
use Rattle.nd_steps.specs.declared.consequence.Consequence.{Consequence}
use Rattle.nd_steps.specs.declared.consequence.Consequence.TheVariants.{Nothing, Record, Count}
use Rattle.nd_steps.proofs.Takes.{taken_leads}

-- ---- the one edge that leaves a port

made_leaving : (n p vertex port : ℕ) (v : ℤ) (t : Time) (l i : ℕ) (es : List Edge)
    → made_on None n p vertex port v t (l + i) es ≡ map (λ (r : ℕ × Route). (destination r.1 n p v, record_key (l + r.0) t v)) (leaving vertex port i es)
made_leaving n p vertex port v t l i [] = refl
made_leaving n p vertex port v t l i (e ∷ es) =
    let on : (l + i) + 1 ≡ l + (i + 1) = omega arith in
    let rest : made_on None n p vertex port v t ((l + i) + 1) es ≡ map (λ (r : ℕ × Route). (destination r.1 n p v, record_key (l + r.0) t v)) (leaving vertex port (i + 1) es)
    = ap (λ k. made_on None n p vertex port v t k es) on ∙ made_leaving n p vertex port v t l (i + 1) es in
    elim (nat_eq e.from vertex && nat_eq e.port port)
    as (λ b. (if b then (destination e.route n p v, record_key (l + i) t v) ∷ [] else []) ++ made_on None n p vertex port v t ((l + i) + 1) es
    ≡ map (λ (r : ℕ × Route). (destination r.1 n p v, record_key (l + r.0) t v)) ((if b then (i, e.route) ∷ [] else []) ++ leaving vertex port (i + 1) es)) [
      | true ↦ ap (λ rs. (destination e.route n p v, record_key (l + i) t v) ∷ rs) rest
      | false ↦ rest
    ]

-- the record of an emission on an edge that leaves its port, by the edge's number and route
abbrev on_edge : Dataflow → ℕ → ℕ → Emission → ℕ × Route → ℕ × ValueAt
on_edge g n p e r = (destination r.1 n p e.value, record_key (length g.vertices + r.0) e.time e.value)

module _ (g : Dataflow) (n p vertex : ℕ) (e : Emission) where
  abbrev leave : List (ℕ × Route)
  leave = leaving vertex e.port 0 g.edges

  all_made : made_by g n p vertex e ≡ map (on_edge g n p e) leave
  all_made =
      let start : length g.vertices ≡ length g.vertices + 0 = omega arith in
      ap (λ k. made_on None n p vertex e.port e.value e.time k g.edges) start ∙ made_leaving n p vertex e.port e.value e.time (length g.vertices) 0 g.edges

  pub one_made : (r : ℕ × Route) → leave ≡ r ∷ [] → (to edge : ℕ) → to ≡ destination r.1 n p e.value → edge ≡ length g.vertices + r.0 → made_by g n p vertex e ≡ (to, record_key edge e.time e.value) ∷ []
  one_made r only to edge to_is edge_is = all_made ∙ ap (map (on_edge g n p e)) only ∙ (λ i. (sym to_is i, record_key (sym edge_is i) e.time e.value) ∷ [])

  -- if one record is made, one edge leaves the port, and the record is on that edge
  pub left_once : (r : ℕ × ValueAt) → made_by g n p vertex e ≡ r ∷ [] → length leave ≡ 1
  left_once r made = sym (length-map leave (on_edge g n p e)) ∙ ap length (sym all_made ∙ made)

  pub made_at : (r : ℕ × ValueAt) (l : ℕ × Route) → made_by g n p vertex e ≡ r ∷ [] → leave ≡ l ∷ [] → r.1.point.location ≡ length g.vertices + l.0
  made_at r l made only = ap (λ (rs : List (ℕ × ValueAt)). (get_or rs 0 r).1.point.location) (sym made ∙ all_made ∙ ap (map (on_edge g n p e)) only)

-- ---- the time of what arrives

below_is : (m n : ℕ) → m < n → nat_lt m n ≡ true
below_is m n lt = lt-ltb m n lt

past_is : (a : Action) (t : Time) → (a ≡ action.Ingress → length t.counters < max_depth) → (a ≡ action.Feedback → last_of t.counters < max_counter)
    → record { epoch = t.epoch; counters = acted a t.counters } ≡ past_action a t
past_is action.Identity t room rises = refl
past_is action.Ingress t room rises =
    ap (λ b. if b then record { epoch = t.epoch; counters = ingress_of t.counters } else t) (sym (below_is (length t.counters) max_depth (room refl)))
past_is action.Egress t room rises = refl
past_is action.Feedback t room rises =
    ap (λ b. if b then record { epoch = t.epoch; counters = feedback_of t.counters } else t) (sym (below_is (last_of t.counters) max_counter (rises refl)))

feeds_back : (o : Op) → action_of o ≡ action.Feedback → o ≡ op.Feedback
feeds_back op.Feedback e = refl
feeds_back o e = absurd (cc)

when_emitted : (t : Time) (os : List (ℕ × ℤ)) (es : List Emission) (e : Emission) → es ≡ emissions_of t os → es ≡ e ∷ [] → e.time ≡ t
when_emitted t [] es e is one = absurd (let none : e ∷ [] ≡ [] = sym one ∙ is in cc)
when_emitted t (o ∷ os) es e is one = ap (λ (xs : List Emission). (get_or xs 0 e).time) (sym one ∙ is)

pub only_one : {X : Type 0} (xs : List X) (e : X) → 1 ≤ length xs → length xs < 2 → e ≡ get_or xs 0 e → xs ≡ e ∷ []
only_one [] e some few is = absurd (omega (arith, some))
only_one (x ∷ []) e some few is = ap (λ y. y ∷ []) (sym is)
only_one (x ∷ y ∷ ys) e some few is = absurd (omega (arith, few))

-- ---- no place occurs twice

once_before : (c : Change) (cs : List Change) → often (place_of c) cs ≡ 0 → Once cs → Once (c ∷ cs)
once_before c cs none once k =
    elim (is_place k (place_of c)) as (λ b. is_place k (place_of c) ≡ b → cond b 1 0 + often k cs ≤ 1) [
      | true ↦ λ t. let z : often k cs ≡ 0 = ap (λ q. often q cs) (same_place k (place_of c) t) ∙ none in omega (arith, z)
      | false ↦ λ t. let i = once k in omega (arith, i)
    ] refl

once_one : (c : Change) → Once (c ∷ [])
once_one c = once_before c [] refl (λ k. omega arith)

module _ {A : Type 0} (s : ClusterState) (g : Dataflow) (n p vertex : ℕ) (has : Has g n s) (effect : Effect A) (k : ValueAt) (asks : Bool) (so : TakesSo s p vertex k effect asks)
    (none : asks ≡ false) (still : effect.items.items ≡ []) where
  abbrev gone : List Change
  gone = at_key p (Records k) (negsuc 0) ∷ at_key p (Unsent k.point) (negsuc 0) ∷ []

  abbrev found : List Change
  found = taken_changes p vertex k effect asks (emitted_by g n p vertex effect.emits.items)

  leads : (ds : List Change) → found ≡ ds → length ds ≤ 2 ^ 64 → Once ds → Each (λ c. c.n ≢ pos 0) ds → Leads {A = A} s (Take p k.point.location k.point.time k.value) ds
  leads ds is few once some =
      taken_leads s g n p vertex has effect (subst (All HasValues) (sym still) (λ i d lt. absurd (omega (arith, lt)))) k asks so found refl
      (subst (λ es. length es ≤ 2 ^ 64) (sym is) few) ds (subst (λ es. AreJoined es ds) (sym is) (record { once = once; some = some; totals = λ q. refl }))

  so_found : (sink : Bool) → effect.sink ≡ sink → (es : List Emission) → effect.emits.items ≡ es → found ≡ (gone ++ sink_changes p (record { vertex = vertex; value = k.value }) sink) ++ arrivals p (emitted_by g n p vertex es)
  so_found sink sink_is es es_is i =
      (((gone ++ ask_changes p (point_at vertex k.point.time) (none i)) ++ item_changes p vertex (still i)) ++ sink_changes p (record { vertex = vertex; value = k.value }) (sink_is i)) ++ arrivals p (emitted_by g n p vertex (es_is i))

  pub none_leads : effect.sink ≡ false → effect.emits.items ≡ [] → Leads {A = A} s (Take p k.point.location k.point.time k.value) (come_changes p k Nothing)
  none_leads sink emits = leads (come_changes p k Nothing) (so_found false sink [] emits) (omega arith)
      (once_before (at_key p (Records k) (negsuc 0)) (at_key p (Unsent k.point) (negsuc 0) ∷ []) refl (once_one (at_key p (Unsent k.point) (negsuc 0))))
      ((λ e. cc), ((λ e. cc), tt))

  pub count_leads : effect.sink ≡ true → effect.emits.items ≡ [] → Leads {A = A} s (Take p k.point.location k.point.time k.value) (come_changes p k (Count vertex))
  count_leads sink emits = leads (come_changes p k (Count vertex)) (so_found true sink [] emits) (omega arith)
      (once_before (at_key p (Records k) (negsuc 0)) (at_key p (Unsent k.point) (negsuc 0) ∷ at_key p (Sink (record { vertex = vertex; value = k.value })) (pos 1) ∷ []) refl
      (once_before (at_key p (Unsent k.point) (negsuc 0)) (at_key p (Sink (record { vertex = vertex; value = k.value })) (pos 1) ∷ []) refl (once_one (at_key p (Sink (record { vertex = vertex; value = k.value })) (pos 1)))))
      ((λ e. cc), ((λ e. cc), ((λ e. cc), tt)))

  pub one_leads : effect.sink ≡ false → (e : Emission) → effect.emits.items ≡ e ∷ [] → (come : Consequence) → ComesBy g n p vertex k e come
      → Leads {A = A} s (Take p k.point.location k.point.time k.value) (come_changes p k come)
  one_leads sink e emits come by state free =
      let o : Op = op_at g vertex in
      let t : Time = k.point.time in
      let here : op_at s.graph vertex ≡ o = ap (λ d. op_at d vertex) has.graph in
      let emitted : e.time ≡ time_past o t
      = when_emitted (time_past (op_at s.graph vertex) t) (take_outcome s p k.point.location t k.value).emissions effect.emits.items e so.does.emits emits ∙ ap (λ q. time_past q t) here in
      let deep : length (acted (action_of o) t.counters) ≤ max_depth = subst (λ (u : Time). length u.counters ≤ max_depth) emitted by.deep in
      let rises : action_of o ≡ action.Feedback → last_of t.counters < max_counter = λ f. rising (ap (λ v. op_at s.graph v) (sym so.goes) ∙ here ∙ feeds_back o f) free in
      let time : e.time ≡ past_action (action_of o) t = emitted ∙ past_is (action_of o) t (λ f. room (ap (λ a. acted a t.counters) f) deep) rises in
      let one : Consequence = Record (action_of o) by.to by.edge e.value in
      let key : ValueAt = come_key k one in
      let a : Change = at_key p (Records k) (negsuc 0) in
      let b : Change = at_key p (Unsent k.point) (negsuc 0) in
      let c : Change = at_key by.to (Records key) (pos 1) in
      let d : Change = at_key p (Unsent key.point) (pos 1) in
      let apart : k.point ≢ key.point = λ same. by.apart (ap (λ x. (come_key k x).point) by.is ∙ sym same) in
      let records : is_place (place_of a) (place_of c) ≡ false = other_place (place_of a) (place_of c) (λ same. apart (ap (λ (x : ValueAt). x.point) (same_record p by.to k key same))) in
      let unsent : is_place (place_of b) (place_of d) ≡ false = other_place (place_of b) (place_of d) (λ same. apart (same_point p k.point key.point same)) in
      let is : found ≡ come_changes p k one
      = so_found false sink (e ∷ []) emits
      ∙ ap (λ rs. gone ++ arrivals p (rs ++ [])) by.made
      ∙ ap (λ u. gone ++ arrivals p ((by.to, record_key by.edge u e.value) ∷ [])) time in
      subst (λ x. Reaches s (stepped {A = A} s (Take p k.point.location t k.value)) (come_changes p k x)) (sym by.is)
      (leads (come_changes p k one) is (omega arith)
      (once_before a (b ∷ c ∷ d ∷ []) (ap (λ q. 0 + (cond q 1 0 + (0 + 0))) records) (once_before b (c ∷ d ∷ []) (ap (λ q. 0 + (cond q 1 0 + 0)) unsent) (once_before c (d ∷ []) refl (once_one d))))
      ((λ e. cc), ((λ e. cc), ((λ e. cc), ((λ e. cc), tt)))) state free)
    where
      same_record : (p q : ℕ) (x y : ValueAt) → place_at p (Records x) ≡ place_at q (Records y) → x ≡ y
      same_record p q x y e = cc

      same_point : (p : ℕ) (x y : Pointstamp) → place_at p (Unsent x) ≡ place_at p (Unsent y) → x ≡ y
      same_point p x y e = cc

      rising : op_at s.graph (target_of s.graph k.point.location) ≡ op.Feedback → IsFreeBelow {A = A} s (Take p k.point.location k.point.time k.value) 13 → last_of k.point.time.counters < max_counter
      rising f free = elim (cases_lt (last_of k.point.time.counters) max_counter) [
        | inl lt ↦ lt
        | inr full ↦ absurd (free.free CounterFull (lit< tt) (f, full))
      ]

      room : {cs : List ℕ} → cs ≡ ingress_of k.point.time.counters → length cs ≤ max_depth → length k.point.time.counters < max_depth
      room e deep = omega (arith, deep, simp length-append at (ap length e))
