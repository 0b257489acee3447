-- A row lists the minimal summaries of walks; in the lexicographic order these are the least ones.
use Rattle.std.proofs.Common.{◌≡◌, ◌⊎◌, inl, inr, ℕ, ◌+◌, ◌<◌, ◌≤◌, Less, Equal, Greater, List, length, get_or, refl, sym, ◌∙◌, ap, subst, arith}
use Rattle.std.specs.Prelude.{Contains, slice_index}
use Rattle.std.specs.Ordering.{nat_cmp}
use Rattle.std.proofs.lemmas.Bool.{cases_lt}
use Rattle.std.proofs.lemmas.Bool.Decides.{nat_tests}
use Rattle.std.proofs.lemmas.Cmp.{tied_itself}
use Rattle.std.proofs.lemmas.List.Elements.{Contains-get_or}
use Rattle.nd_graph.specs.Graph.{Dataflow, depths}
use Rattle.nd_time.specs.declared.order.TimeOrder.{TimeOrder}
use Rattle.nd_time.specs.declared.order.TimeOrder.TheVariants.{Lexicographic}
use Rattle.nd_summaries.specs.declared.summary.Summary.{Summary}
use Rattle.nd_summaries.specs.Summary.{AddsAtMost, AtMost, IsListedBefore, listing_cmp, IsMinimalSummary, AreMinimalSummaries, IsLeastSummary, AreLeastSummaries}
use Rattle.nd_summaries.specs.Steps.{summary_of}
use Rattle.nd_summaries.specs.Row.{listed, IsRow}
use Rattle.nd_summaries.proofs.Orders.{compared}
use Rattle.nd_summaries.proofs.Effects.{AtMost-refl, AtMost-trans, AtMost-antisym}
use Rattle.nd_summaries.proofs.Graphs.{DepthsAgree}
use Rattle.nd_summaries.proofs.Walks.{IsFor-walk}
use Rattle.nd_summaries.proofs.Unique.{is_summary, only_summary}
use Rattle.nd_summaries.proofs.Lists.{listing_total}

module _ (o : TimeOrder) (g : Dataflow) (agree : DepthsAgree g) (a b : ℕ) (inside : a < length (depths g)) (row : List (List Summary)) (h : IsRow o g a row) where
  one_minimal : (s : Summary) → Contains (listed row b) s → IsMinimalSummary o g a b s
  one_minimal s k =
      let (w, walk, is) = h.walks b s k in
      record {
        walk = w;
        leads = walk;
        summary = is_summary g agree w a b s inside walk is;
        minimal = λ v t leads of most.
            let whole : t ≡ summary_of g a v = only_summary g agree v a b t leads of in
            let (u, there, less) = h.covers v b leads in
            let below : AtMost o u t = subst (AtMost o u) (sym whole) less in
            let same : u ≡ s = (h.neat b).apart u s there k (AtMost-trans o u t s below most) in
            AtMost-antisym o t s most (subst (λ x. AtMost o x t) same below);
      }

  has_minimal : (s : Summary) → IsMinimalSummary o g a b s → Contains (listed row b) s
  has_minimal s m =
      let whole : s ≡ summary_of g a m.walk = only_summary g agree m.walk a b s m.leads m.summary in
      let (u, there, less) = h.covers m.walk b m.leads in
      let (w, walk, is) = h.walks b u there in
      let same : u ≡ s = m.minimal w u walk (is_summary g agree w a b u inside walk is) (subst (AtMost o u) (sym whole) less) in
      subst (Contains (listed row b)) same there

  pub are_minimal : AreMinimalSummaries o g a b (listed row b)
  are_minimal = record {
    each = λ k d l. one_minimal (get_or (listed row b) k d) (Contains-get_or (listed row b) k d l);
    all = has_minimal;
    listed = (h.neat b).ordered;
    below = λ w leads. (summary_of g a w, is_summary g agree w a b (summary_of g a w) inside leads refl, h.covers w b leads);
  }

-- ---- the lexicographic order

lexical_cases : (s t : Summary) → s.keep ≡ t.keep → length s.constants ≡ length t.constants → AtMost Lexicographic s t ⊎ AtMost Lexicographic t s
lexical_cases s t k e =
    elim (cases_lt s.add t.add) [
      | inl l ↦ inl (record { keep = k; size = e; least = inl l })
      | inr l ↦ elim (cases_lt t.add s.add) [
        | inl m ↦ inr (record { keep = sym k; size = sym e; least = inl m })
        | inr m ↦
            let same : s.add ≡ t.add = omega arith in
            elim (compared s.constants t.constants e) [
              | inl p ↦ inl (record { keep = k; size = e; least = inr (same, p) })
              | inr p ↦ inr (record { keep = sym k; size = sym e; least = inr (sym same, inr p) })
            ]
      ]
    ]

listed_keeps : (s t : Summary) → IsListedBefore s t → t.keep ≤ s.keep
listed_keeps s t h =
    elim (cases_lt s.keep t.keep) [
      | inr l ↦ l
      | inl l ↦
          let later : nat_cmp t.keep s.keep ≡ Greater = grind (arith, nat_tests) in
          let is : listing_cmp s t ≡ Greater = rw later refl in
          let bad : Less ≡ Greater = sym h ∙ is in
          absurd (cc)
    ]

module _ (g : Dataflow) (agree : DepthsAgree g) (a b : ℕ) (list : List Summary) (h : AreMinimalSummaries Lexicographic g a b list) where
  one_least : (s : Summary) → IsMinimalSummary Lexicographic g a b s → IsLeastSummary g a b s
  one_least s m =
      let whole : s ≡ summary_of g a m.walk = only_summary g agree m.walk a b s m.leads m.summary in
      let size : s.keep + length s.constants ≡ slice_index (depths g) b = ap (λ x. x.keep + length x.constants) whole ∙ (IsFor-walk g m.walk a b agree m.leads).depth in
      record {
        walk = m.walk;
        leads = m.leads;
        summary = m.summary;
        least = λ w t leads of keep.
            let whole' : t ≡ summary_of g a w = only_summary g agree w a b t leads of in
            let size' : t.keep + length t.constants ≡ slice_index (depths g) b = ap (λ x. x.keep + length x.constants) whole' ∙ (IsFor-walk g w a b agree leads).depth in
            elim (lexical_cases s t keep (omega arith)) [
              | inl p ↦ p.least
              | inr p ↦ subst (λ x. AddsAtMost Lexicographic s x) (sym (m.minimal w t leads of p)) (AtMost-refl Lexicographic s).least
            ];
      }

  keeps_fall : (s t : Summary) → IsMinimalSummary Lexicographic g a b s → IsMinimalSummary Lexicographic g a b t → IsListedBefore s t → t.keep < s.keep
  keeps_fall s t m n before =
      let low = listed_keeps s t before in
      elim (cases_lt t.keep s.keep) [
        | inl l ↦ l
        | inr l ↦
            let keep : s.keep ≡ t.keep = omega arith in
            let whole : s ≡ summary_of g a m.walk = only_summary g agree m.walk a b s m.leads m.summary in
            let whole' : t ≡ summary_of g a n.walk = only_summary g agree n.walk a b t n.leads n.summary in
            let size : s.keep + length s.constants ≡ slice_index (depths g) b = ap (λ x. x.keep + length x.constants) whole ∙ (IsFor-walk g m.walk a b agree m.leads).depth in
            let size' : t.keep + length t.constants ≡ slice_index (depths g) b = ap (λ x. x.keep + length x.constants) whole' ∙ (IsFor-walk g n.walk a b agree n.leads).depth in
            let same : s ≡ t = elim (lexical_cases s t keep (omega arith)) [
              | inl p ↦ n.minimal m.walk s m.leads m.summary p
              | inr p ↦ sym (m.minimal n.walk t n.leads n.summary p)
            ] in
            let tied = tied_itself listing_total t in
            let less : listing_cmp t t ≡ Less = subst (λ x. listing_cmp x t ≡ Less) same before in
            let bad : Less ≡ Equal = sym less ∙ tied in
            absurd (cc)
      ]

  -- the minimal summaries are the least ones, one for each number of counters that is kept
  pub are_least : AreLeastSummaries g a b list
  are_least = record {
    each = λ k d l. one_least (get_or list k d) (h.each k d l);
    all = λ w leads. (let (t, of, (s, in', most)) = h.below w leads in (t, of, (s, in', most.keep)));
    falling = λ i j d l l'. keeps_fall (get_or list i d) (get_or list j d) (h.each i d (omega arith)) (h.each j d l') (h.listed i j d l l');
  }
