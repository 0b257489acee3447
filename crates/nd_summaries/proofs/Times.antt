-- Times at the locations of a graph, ordered by which could result in which.
use Rattle.std.proofs.Common.{◌≡◌, ◌⊎◌, inl, inr, ℕ, zero, suc, List, [], ◌∷◌, ◌++◌, length, refl, sym, ◌∙◌, ap, subst, arith}
use Rattle.std.specs.Prelude.{Contains, slice_index, slice_index_or}
use Rattle.std.proofs.lemmas.Bool.{cases_lt, cases_eq}
use Rattle.std.proofs.lemmas.List.Elements.{All-contains, Contains-append_cases, Contains-append_right}
use Rattle.nd_time.specs.Time.{Time}
use Rattle.nd_time.specs.Order.{AreAtMost}
use Rattle.nd_time.specs.declared.order.TimeOrder.{TimeOrder}
use Rattle.nd_graph.specs.declared.graph.Arc.{Arc}
use Rattle.nd_graph.specs.Graph.{Dataflow, depths}
use Rattle.nd_summaries.specs.declared.summary.Summary.{Summary}
use Rattle.nd_summaries.specs.Walk.{HasDepth, IsAcceptedBy, IsWalk, LeadsBefore, effect}
use Rattle.nd_summaries.specs.Summary.{applied, AreMinimalSummaries}
use Rattle.nd_summaries.specs.Laws.{SomeTurns}
use Rattle.nd_summaries.specs.Row.{listed}
use Rattle.nd_summaries.specs.Table.{named_row, Fit, IsTable, SomeLeads}
use Rattle.nd_summaries.proofs.Orders.{order_refl, order_trans, order_antisym, order_or_not, order_effect, same_depth, effect-append}
use Rattle.nd_summaries.proofs.Raised.{length-applied}
use Rattle.nd_summaries.proofs.Graphs.{DepthsAgree, depth_within, has_depth, walks_joined, ends_inside}
use Rattle.nd_summaries.proofs.Walks.{length-effect}
use Rattle.nd_summaries.proofs.Decisions.{all_fit, could_from_leads, leads_from_could}
use Rattle.nd_summaries.proofs.Minimal.{are_minimal}

-- ---- the order is partial

pub leads_refl : (o : TimeOrder) (g : Dataflow) (l : ℕ) (s : Time) → HasDepth g l (length s.counters) → LeadsBefore o g l s l s
leads_refl o g l s f = record {
  depth_s = f;
  depth_t = f;
  walk = [];
  leads = refl;
  before = record { depth = refl; epoch = omega arith; counters = order_refl o s.counters };
}

-- two walks, one after the other
joined_depth : (w v : List Arc) (c d e : List ℕ) → length (effect w c) ≡ length d → length (effect v d) ≡ length e → length (effect (w ++ v) c) ≡ length e
joined_depth w v c d e h k = ap length (effect-append w v c) ∙ same_depth v (effect w c) d h ∙ k

joined : (o : TimeOrder) (w v : List Arc) (c d e : List ℕ) → length (effect w c) ≡ length d → AreAtMost o (effect w c) d → AreAtMost o (effect v d) e → AreAtMost o (effect (w ++ v) c) e
joined o w v c d e size h k =
    subst (λ l. AreAtMost o l e) (sym (effect-append w v c)) (order_trans o (effect v (effect w c)) (effect v d) e (order_effect o v (effect w c) d size h) k)

pub leads_trans : (o : TimeOrder) (g : Dataflow) (k l m : ℕ) (s t u : Time) → LeadsBefore o g k s l t → LeadsBefore o g l t m u → LeadsBefore o g k s m u
leads_trans o g k l m s t u h j = record {
  depth_s = h.depth_s;
  depth_t = j.depth_t;
  walk = h.walk ++ j.walk;
  leads = walks_joined g h.walk j.walk k l m h.leads j.leads;
  before = record {
    depth = joined_depth h.walk j.walk s.counters t.counters u.counters h.before.depth j.before.depth;
    epoch = omega (arith, h.before.epoch, j.before.epoch);
    counters = joined o h.walk j.walk s.counters t.counters u.counters h.before.depth h.before.counters j.before.counters;
  };
}

-- the only walk from a time back to it, or to one before it, is the empty one
no_way_back : (o : TimeOrder) (g : Dataflow) (l : ℕ) (c : List ℕ) (w : List Arc) → IsAcceptedBy o g → HasDepth g l (length c) → IsWalk g l w l → AreAtMost o (effect w c) c → w ≡ []
no_way_back o g l c [] ok f walk less = refl
no_way_back o g l c (x ∷ w) ok f walk less =
    absurd (ok.strict l (record { arc = x; walk = w; closed = walk; back = record { counters = c; depth = f; back = less } }))

both_empty : (w v : List Arc) → w ++ v ≡ [] → (w ≡ []) × (v ≡ [])
both_empty [] v h = (refl, h)
both_empty (x ∷ w) v h = absurd (cc)

empty_walk : (o : TimeOrder) (g : Dataflow) (w : List Arc) (k l : ℕ) (c d : List ℕ) → w ≡ [] → IsWalk g k w l → AreAtMost o (effect w c) d → (k ≡ l) × AreAtMost o c d
empty_walk o g w k l c d e walk less =
    (subst (λ v. IsWalk g k v l) e walk, subst (λ v. AreAtMost o (effect v c) d) e less)

pub leads_antisym : (o : TimeOrder) (g : Dataflow) (k l : ℕ) (s t : Time) → IsAcceptedBy o g → LeadsBefore o g k s l t → LeadsBefore o g l t k s → (k ≡ l) × (s ≡ t)
unfolding leads_trans
leads_antisym o g k l s t ok h j =
    let c : List ℕ = s.counters in
    let d : List ℕ = t.counters in
    let round = leads_trans o g k l k s t s h j in
    let (e, e') = both_empty h.walk j.walk (no_way_back o g k c (h.walk ++ j.walk) ok h.depth_s round.leads round.before.counters) in
    let one = empty_walk o g h.walk k l c d e h.leads h.before.counters in
    let two = empty_walk o g j.walk l k d c e' j.leads j.before.counters in
    let epochs : s.epoch ≡ t.epoch = omega (arith, h.before.epoch, j.before.epoch) in
    let same : c ≡ d = order_antisym o c d one.1 two.1 in
    (one.0, λ i. record { epoch = epochs i; counters = same i })

-- ---- the order is decided

Decided : Type 0 → Type 0
Decided P = P ⊎ (P → ⊥)

one_contained : {A : Type 0} (x y : A) → Contains (x ∷ []) y → x ≡ y
one_contained x y (zero, l, e) = e
one_contained x y (suc k, l, e) = absurd (omega arith)

none_contained : {A : Type 0} (y : A) → Contains [] y → ⊥
none_contained y (k, l, e) = omega (arith, l)

some_or_none : (P : Summary → Type 0) (list : List Summary) → ((u : Summary) → Contains list u → Decided (P u)) → Decided ((u : Summary) × Contains list u × P u)
unfolding Decided
some_or_none P [] dec = inr (λ k. none_contained k.0 k.1)
some_or_none P (v ∷ list) dec =
    elim (dec v (0, omega arith, refl)) [
      | inl p ↦ inl (v, (0, omega arith, refl), p)
      | inr n ↦ elim (some_or_none P list (λ u k. dec u (Contains-append_right (v ∷ []) list u k))) [
        | inl q ↦ inl (q.0, Contains-append_right (v ∷ []) list q.0 q.1, q.2)
        | inr m ↦ inr (λ k. elim (Contains-append_cases (v ∷ []) list k.0 k.1) [ inl e ↦ n (subst P (sym (one_contained v k.0 e)) k.2) | inr e ↦ m (k.0, e, k.2) ])
      ]
    ]

depth_or_not : (g : Dataflow) (l d : ℕ) → Decided (HasDepth g l d)
unfolding Decided
depth_or_not g l d =
    elim (cases_lt l (length (depths g))) [
      | inl low ↦ elim (cases_eq d (slice_index (depths g) l)) [ inl e ↦ inl (has_depth g l d low e) | inr n ↦ inr (λ f. n (depth_within g l d f).1) ]
      | inr past ↦ inr (λ f. omega (arith, (depth_within g l d f).0, past))
    ]

some_leads_or_not : (o : TimeOrder) (list : List Summary) (c d : List ℕ) → ((u : Summary) → Contains list u → Fit (length c) (length d) u) → Decided (SomeLeads o list c d)
unfolding Decided
some_leads_or_not o list c d fit =
    some_or_none (λ u. AreAtMost o (applied u c) d) list (λ u k. (let f = fit u k in order_or_not o (applied u c) d (length-applied u c f.0 ∙ f.1)))

module _ (o : TimeOrder) (g : Dataflow) (lists : List (List Summary)) (rows : List (List ℕ)) (h : IsTable o g lists rows) (k l : ℕ) (s t : Time) where
  leads_at : HasDepth g k (length s.counters) → HasDepth g l (length t.counters) → LeadsBefore o g k s l t ⊎ (LeadsBefore o g k s l t → ⊥)
  unfolding Decided
  leads_at f f' =
      let within = depth_within g k (length s.counters) f in
      let row : List (List Summary) = named_row lists (slice_index_or rows k []) in
      let list : List Summary = listed row l in
      let minimal = are_minimal o g h.agree k l within.0 row (h.minimal k within.0) in
      let fits = all_fit o g h.agree k l list minimal (length s.counters) (length t.counters) within.1 (depth_within g l (length t.counters) f').1 in
      elim (cases_lt t.epoch s.epoch) [
        | inl late ↦ inr (λ j. omega (arith, j.before.epoch, late))
        | inr in' ↦ elim (some_leads_or_not o list s.counters t.counters (λ u i. All-contains (Fit (length s.counters) (length t.counters)) list u fits i)) [
          | inl leads ↦ inl (could_from_leads o g h.agree k l list minimal s t f f' in' leads)
          | inr none ↦ inr (λ j. none (leads_from_could o g h.agree k l list minimal s t j))
        ]
      ]

  pub leads_or_not : LeadsBefore o g k s l t ⊎ (LeadsBefore o g k s l t → ⊥)
  unfolding Decided
  leads_or_not =
      elim (depth_or_not g k (length s.counters)) [
        | inl f ↦ elim (depth_or_not g l (length t.counters)) [ inl f' ↦ leads_at f f' | inr n ↦ inr (λ j. n j.depth_t) ]
        | inr n ↦ inr (λ j. n j.depth_s)
      ]

-- ---- walks, and minimal summaries

pub walk_leads : (o : TimeOrder) (g : Dataflow) → DepthsAgree g → (k l : ℕ) (w : List Arc) (s : Time) → HasDepth g k (length s.counters) → IsWalk g k w l → LeadsBefore o g k s l (record { epoch = s.epoch; counters = effect w s.counters })
walk_leads o g agree k l w s f walk =
    let within = depth_within g k (length s.counters) f in
    let size = length-effect g w k l s.counters agree walk within.1 in
    record {
      depth_s = f;
      depth_t = has_depth g l (length (effect w s.counters)) (ends_inside g agree w k l within.0 walk) size;
      walk = w;
      leads = walk;
      before = record { depth = refl; epoch = omega arith; counters = order_refl o (effect w s.counters) };
    }

pub some_turns : (o : TimeOrder) (g : Dataflow) → DepthsAgree g → (k l : ℕ) (list : List Summary) (s t : Time) → AreMinimalSummaries o g k l list → LeadsBefore o g k s l t → SomeTurns o list s t
some_turns o g agree k l list s t minimal h =
    let (u, i, less) = leads_from_could o g agree k l list minimal s t h in
    let size = (depth_within g k (length s.counters) h.depth_s).1 in
    let size' = (depth_within g l (length t.counters) h.depth_t).1 in
    let f = All-contains (Fit (length s.counters) (length t.counters)) list u (all_fit o g agree k l list minimal (length s.counters) (length t.counters) size size') i in
    (u, i, record { depth = length-applied u s.counters f.0 ∙ f.1; epoch = h.before.epoch; counters = less })
