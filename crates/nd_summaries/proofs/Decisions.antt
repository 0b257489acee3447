-- The order that minimal summaries decide is the order by walks.
use Rattle.std.proofs.Common.{◌≡◌, inl, inr, ℕ, ◌+◌, ◌<◌, ◌≤◌, List, length, get_or, take, sym, ◌∙◌, ap, subst, arith}
use Rattle.std.specs.Prelude.{All, Contains, slice_index}
use Rattle.std.proofs.lemmas.List.{take_more}
use Rattle.std.proofs.lemmas.List.Elements.{All-contains, Contains-push_cases}
use Rattle.nd_time.specs.Time.{Time}
use Rattle.nd_graph.specs.declared.graph.Arc.{Arc}
use Rattle.nd_graph.specs.Graph.{Dataflow, depths}
use Rattle.nd_time.specs.declared.order.TimeOrder.{TimeOrder}
use Rattle.nd_summaries.specs.declared.summary.Summary.{Summary}
use Rattle.nd_time.specs.Order.{AreAtMost}
use Rattle.nd_summaries.specs.Walk.{LeadsBefore, HasDepth, IsWalk, effect}
use Rattle.nd_summaries.specs.Summary.{applied, AreMinimalSummaries, IsMinimalSummary}
use Rattle.nd_summaries.specs.Steps.{identity, summary_of}
use Rattle.nd_summaries.specs.Table.{SomeLeads, Fit}
use Rattle.nd_summaries.proofs.Orders.{order_trans}
use Rattle.nd_summaries.proofs.Effects.{IsFor, applied-AtMost}
use Rattle.nd_summaries.proofs.Graphs.{DepthsAgree, depth_within}
use Rattle.nd_summaries.proofs.Walks.{IsFor-walk, applied-walk, length-effect}
use Rattle.nd_summaries.proofs.Unique.{only_summary}

module _ (o : TimeOrder) (g : Dataflow) (agree : DepthsAgree g) (a b : ℕ) (list : List Summary) (h : AreMinimalSummaries o g a b list) where
  -- each summary applies to times of a's depth, and leaves times of b's
  pub all_fit : (d e : ℕ) → d ≡ slice_index (depths g) a → e ≡ slice_index (depths g) b → All (Fit d e) list
  all_fit d e is is' = λ k s l.
      let m = h.each k s l in
      let u : Summary = get_or list k s in
      let whole : u ≡ summary_of g a m.walk = only_summary g agree m.walk a b u m.leads m.summary in
      let f = subst (IsFor (slice_index (depths g) a) (slice_index (depths g) b)) (sym whole) (IsFor-walk g m.walk a b agree m.leads) in
      (omega (arith, f.kept, is), f.depth ∙ sym is')

  pub could_from_leads : (s t : Time) → HasDepth g a (length s.counters) → HasDepth g b (length t.counters) → s.epoch ≤ t.epoch → SomeLeads o list s.counters t.counters → LeadsBefore o g a s b t
  could_from_leads s t f f' epochs (u, k, less) =
      let c : List ℕ = s.counters in
      let m = All-contains (IsMinimalSummary o g a b) list u h.each k in
      let size = (depth_within g a (length c) f).1 in
      let size' = (depth_within g b (length t.counters) f').1 in
      let is : m.summary.depth ≡ slice_index (depths g) a = (depth_within g a m.summary.depth m.summary.has_depth).1 in
      let does : applied u c ≡ effect m.walk c = m.summary.does c (size ∙ sym is) in
      record {
        depth_s = f;
        depth_t = f';
        walk = m.walk;
        leads = m.leads;
        before = record {
          depth = length-effect g m.walk a b c agree m.leads size ∙ sym size';
          epoch = epochs;
          counters = subst (λ k. AreAtMost o k t.counters) does less;
        };
      }

  pub leads_from_could : (s t : Time) → LeadsBefore o g a s b t → SomeLeads o list s.counters t.counters
  leads_from_could s t could =
      let c : List ℕ = s.counters in
      let w : List Arc = could.walk in
      let size = (depth_within g a (length c) could.depth_s).1 in
      let (whole, of, (u, k, m)) = h.below w could.leads in
      let same : whole ≡ summary_of g a w = only_summary g agree w a b whole could.leads of in
      let fits = subst (IsFor (slice_index (depths g) a) (slice_index (depths g) b)) (sym same) (IsFor-walk g w a b agree could.leads) in
      let less = applied-AtMost o u whole (slice_index (depths g) a) (slice_index (depths g) b) c fits size m in
      let does : applied whole c ≡ effect w c = ap (λ v. applied v c) same ∙ applied-walk g w a c size in
      let at' : AreAtMost o (applied u c) (effect w c) = subst (AreAtMost o (applied u c)) does less in
      (u, k, order_trans o (applied u c) (effect w c) t.counters at' could.before.counters)

module _ (o : TimeOrder) (g : Dataflow) (a b : ℕ) (list : List Summary) (h : AreMinimalSummaries o g a b list) where
  -- some walk leads there exactly if the list is not empty
  pub walk_from_list : (i : ℕ) → i < length list → (w : List Arc) × IsWalk g a w b
  walk_from_list i low = let m = h.each i (identity 0) low in (m.walk, m.leads)

  pub list_from_walk : (w : List Arc) × IsWalk g a w b → 0 < length list
  list_from_walk (w, walk) = let (whole, of, (u, (k, l, e), m)) = h.below w walk in omega (arith, l)

-- one more summary does not lead there
pub none_more : (P : Summary → Type 0) (list : List Summary) (i : ℕ) (r : Summary) → i < length list → r ≡ get_or list i r → ((u : Summary) → Contains (take i list) u → P u → ⊥) → (P r → ⊥) → (u : Summary) → Contains (take (i + 1) list) u → P u → ⊥
none_more P list i r low is earlier here u k p =
    elim (Contains-push_cases (take i list) (get_or list i r) u (subst (λ l. Contains l u) (take_more list i r low) k)) [
      | inl old ↦ earlier u old p
      | inr new ↦ here (subst P (sym (is ∙ new)) p)
    ]
