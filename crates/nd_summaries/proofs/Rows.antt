-- Rounds find the minimal summaries of all walks from a location.
use Rattle.std.proofs.Common.{◌≡◌, ◌⊎◌, inl, inr, ℕ, zero, suc, ◌+◌, ◌-◌, ◌*◌, ◌<◌, ◌≤◌, ◌==◌, true, false, List, [], ◌∷◌, ◌++◌, length, get_or, take, set, replicate, refl, sym, ◌∙◌, ap, subst, arith, length-append}
use Rattle.std.specs.Prelude.{All, Contains, slice_index}
use Rattle.std.proofs.lemmas.Bool.{cases_lt, cases_eq}
use Rattle.std.proofs.lemmas.Bool.Decides.{eqb_tells}
use Rattle.std.proofs.lemmas.List.{length-set, length-replicate, get_or-set_other, get_or-set_same, get_or-replicate, get_or_past}
use Rattle.std.proofs.lemmas.List.Elements.{All-contains, All-more, All-nil, All-push, All-weaker, All-cons, All-head, All-tail, All-append, Contains-append_left, Contains-get_or, Contains-push}
use Rattle.nd_time.specs.Limits.{max_depth, max_counter}
use Rattle.nd_time.specs.Time.{egress_of, feedback_of}
use Rattle.nd_graph.specs.declared.graph.Arc.{Arc}
use Rattle.nd_graph.specs.declared.op.Action.{Action}
use Rattle.nd_graph.specs.declared.op.Action.TheVariants.{Identity, Ingress, Egress, Feedback}
use Rattle.nd_graph.specs.Graph.{ArcAgrees, Dataflow, LeadsTo, arcs, depths}
use Rattle.nd_time.specs.declared.order.TimeOrder.{TimeOrder}
use Rattle.nd_summaries.specs.declared.summary.Summary.{Summary}
use Rattle.nd_summaries.specs.declared.row.Reached.{Reached}
use Rattle.nd_summaries.specs.Walk.{IsWalk}
use Rattle.nd_summaries.specs.Summary.{AtMost}
use Rattle.nd_summaries.specs.Steps.{keeps, identity, step, then_act, after, summary_of, IsWithin}
use Rattle.nd_summaries.specs.Row.{IsCovered, IsNeat, with_summary, leaving, listed, reached, Reaches, CanFollow, Follows, Grown, IsFollowed, IsRound, Arrives, Rounds, IsRow}
use Rattle.nd_summaries.proofs.Effects.{IsFor, IsFor-identity, AtMost-refl, AtMost-trans, AtMost-step, after-append}
use Rattle.nd_summaries.proofs.Graphs.{DepthsAgree, arc_leads, walks_joined}
use Rattle.nd_summaries.proofs.Walks.{IsFor-walk}
use Rattle.nd_summaries.proofs.Cuts.{depths_below, end_of, walk_front, walk_back, last_arc, shorten}
use Rattle.nd_summaries.proofs.Lists.{Contains-filter, Contains-from_filter, with-here, with-from, with-covers, with-neat}

pub covered_less : (o : TimeOrder) (list : List Summary) (s t : Summary) → AtMost o s t → IsCovered o list s → IsCovered o list t
covered_less o list s t m c = (c.0, c.1, AtMost-trans o c.0 s t c.2 m)

-- ---- one summary

-- the row after s is added at b
module _ (o : TimeOrder) (old : List (List Summary)) (b : ℕ) (s : Summary) (inside : b < length old) where
  row : List (List Summary)
  row = set old b (with_summary o s (listed old b))

  at_b : listed row b ≡ with_summary o s (listed old b)
  unfolding row
  at_b = get_or-set_same old b (with_summary o s (listed old b)) [] inside

  at_other : (c : ℕ) → (c ≡ b → ⊥) → listed row c ≡ listed old c
  unfolding row
  at_other c n = get_or-set_other old b c (with_summary o s (listed old b)) [] n

  row_kept : (c : ℕ) (u : Summary) → IsCovered o (listed old c) u → IsCovered o (listed row c) u
  row_kept c u h =
      elim (cases_eq c b) [
        | inl e ↦
            let there = subst (λ n. IsCovered o (listed old n) u) e h in
            subst (λ n. IsCovered o (listed row n) u) (sym e) (subst (λ l. IsCovered o l u) (sym at_b) (with-covers o s (listed old b) u there))
        | inr n ↦ subst (λ l. IsCovered o l u) (sym (at_other c n)) h
      ]

  row_from : (c : ℕ) (u : Summary) → Contains (listed row c) u → Contains (listed old c) u ⊎ ((c ≡ b) × (u ≡ s))
  row_from c u h =
      elim (cases_eq c b) [
        | inl e ↦
            let there = subst (λ l. Contains l u) at_b (subst (λ n. Contains (listed row n) u) e h) in
            elim (with-from o s (listed old b) u there) [ inl p ↦ inl (subst (λ n. Contains (listed old n) u) (sym e) p) | inr p ↦ inr (e, p) ]
        | inr n ↦ inl (subst (λ l. Contains l u) (at_other c n) h)
      ]

  row_neat : (IsCovered o (listed old b) s → ⊥) → ((c : ℕ) → IsNeat o (listed old c)) → (c : ℕ) → IsNeat o (listed row c)
  row_neat new h c =
      elim (cases_eq c b) [
        | inl e ↦ subst (λ n. IsNeat o (listed row n)) (sym e) (subst (IsNeat o) (sym at_b) (with-neat o s (listed old b) new (h b)))
        | inr n ↦ subst (IsNeat o) (sym (at_other c n)) (h c)
      ]

  row_here : IsCovered o (listed row b) s
  row_here = subst (λ l. IsCovered o l s) (sym at_b) (s, with-here o s (listed old b), AtMost-refl o s)

-- what was covered stays covered
pub Reaches-kept : (o : TimeOrder) (old new : List (List Summary)) (queue longer : List Reached) (b : ℕ) (s : Summary) → b < length old → Reaches o old new queue longer b s → (c : ℕ) (u : Summary) → IsCovered o (listed old c) u → IsCovered o (listed new c) u
unfolding row
Reaches-kept o old new queue longer b s inside h c u k =
    elim h [
      | inl p ↦ subst (λ r. IsCovered o (listed r c) u) (sym p.0) k
      | inr p ↦ subst (λ r. IsCovered o (listed r c) u) (sym p.0) (row_kept o old b s inside c u k)
    ]

-- s is covered
pub Reaches-here : (o : TimeOrder) (old new : List (List Summary)) (queue longer : List Reached) (b : ℕ) (s : Summary) → b < length old → Reaches o old new queue longer b s → IsCovered o (listed new b) s
unfolding row
Reaches-here o old new queue longer b s inside h =
    elim h [
      | inl p ↦ subst (λ r. IsCovered o (listed r b) s) (sym p.0) p.2
      | inr p ↦ subst (λ r. IsCovered o (listed r b) s) (sym p.0) (row_here o old b s inside)
    ]

pub Reaches-long : (o : TimeOrder) (old new : List (List Summary)) (queue longer : List Reached) (b : ℕ) (s : Summary) → Reaches o old new queue longer b s → length new ≡ length old
Reaches-long o old new queue longer b s h =
    elim h [ inl p ↦ ap length p.0 | inr p ↦ ap length p.0 ∙ length-set old b (with_summary o s (listed old b)) ]

-- each summary was there before, or is s, and then it is in the queue
pub Reaches-from : (o : TimeOrder) (old new : List (List Summary)) (queue longer : List Reached) (b : ℕ) (s : Summary) → b < length old → Reaches o old new queue longer b s → (c : ℕ) (u : Summary) → Contains (listed new c) u → Contains (listed old c) u ⊎ ((c ≡ b) × (u ≡ s) × Contains longer (reached c u))
unfolding row
Reaches-from o old new queue longer b s inside h c u k =
    elim h [
      | inl p ↦ inl (subst (λ r. Contains (listed r c) u) p.0 k)
      | inr p ↦ elim (row_from o old b s inside c u (subst (λ r. Contains (listed r c) u) p.0 k)) [
        | inl q ↦ inl q
        | inr q ↦
            let same : reached b s ≡ reached c u = λ i. record { location = sym q.0 i; summary = sym q.1 i } in
            inr (q.0, q.1, subst (λ l. Contains l (reached c u)) (sym p.1) (subst (Contains (queue ++ reached b s ∷ [])) same (Contains-push queue (reached b s))))
      ]
    ]

pub Reaches-neat : (o : TimeOrder) (old new : List (List Summary)) (queue longer : List Reached) (b : ℕ) (s : Summary) → b < length old → Reaches o old new queue longer b s → ((c : ℕ) → IsNeat o (listed old c)) → (c : ℕ) → IsNeat o (listed new c)
unfolding row
Reaches-neat o old new queue longer b s inside h n c =
    elim h [
      | inl p ↦ subst (λ r. IsNeat o (listed r c)) (sym p.0) (n c)
      | inr p ↦ subst (λ r. IsNeat o (listed r c)) (sym p.0) (row_neat o old b s inside p.2 n c)
    ]

-- what holds of the queue and of s holds of the longer queue
pub Reaches-last : (o : TimeOrder) (old new : List (List Summary)) (queue longer : List Reached) (b : ℕ) (s : Summary) → Reaches o old new queue longer b s → (P : Reached → Type 0) → All P queue → P (reached b s) → All P longer
Reaches-last o old new queue longer b s h P all one =
    elim h [
      | inl p ↦ subst (All P) (sym p.1) all
      | inr p ↦ subst (All P) (sym p.1) (All-push P queue (reached b s) all one)
    ]

Reaches-more : (o : TimeOrder) (old new : List (List Summary)) (queue longer : List Reached) (b : ℕ) (s : Summary) → Reaches o old new queue longer b s → (r : Reached) → Contains queue r → Contains longer r
Reaches-more o old new queue longer b s h r k =
    elim h [
      | inl p ↦ subst (λ l. Contains l r) (sym p.1) k
      | inr p ↦ subst (λ l. Contains l r) (sym p.1) (Contains-append_left queue (reached b s ∷ []) r k)
    ]

pub Reaches-grown : (o : TimeOrder) (xs : List Arc) (start old new : List (List Summary)) (last queue longer : List Reached) (b : ℕ) (s : Summary) → b < length old → Grown o xs start old last queue → Follows xs last (reached b s) → Reaches o old new queue longer b s → Grown o xs start new last longer
Reaches-grown o xs start old new last queue longer b s inside g f h = record {
  long = Reaches-long o old new queue longer b s h ∙ g.long;
  kept = λ c u k. Reaches-kept o old new queue longer b s inside h c u (g.kept c u k);
  fresh = λ c u k. elim (Reaches-from o old new queue longer b s inside h c u k) [
    | inl p ↦ elim (g.fresh c u p) [ inl q ↦ inl q | inr q ↦ inr (Reaches-more o old new queue longer b s h (reached c u) q) ]
    | inr p ↦ inr p.2
  ];
  neat = λ n. Reaches-neat o old new queue longer b s inside h (g.neat n);
  from = Reaches-last o old new queue longer b s h (Follows xs last) g.from f;
}

pub Grown-none : (o : TimeOrder) (xs : List Arc) (row : List (List Summary)) (last : List Reached) → Grown o xs row row last []
Grown-none o xs row last =
    record { long = refl; kept = λ b s h. h; fresh = λ b s h. inl h; neat = λ h. h; from = All-nil (Follows xs last) }

-- what was followed stays followed
pub followed_on : (o : TimeOrder) (xs : List Arc) (old new : List (List Summary)) → ((c : ℕ) (u : Summary) → IsCovered o (listed old c) u → IsCovered o (listed new c) u) → (r : Reached) → IsFollowed o xs old r → IsFollowed o xs new r
followed_on o xs old new kept r h x in' at' = kept x.to (step x.action r.summary) (h x in' at')

-- an arc that leaves a location is among those that do
pub Contains-leaving : (xs : List Arc) (x : Arc) (l : ℕ) → Contains xs x → x.from ≡ l → Contains (leaving l xs) x
Contains-leaving xs x l h e =
    Contains-filter (λ y. y.from == l) xs x h (elim (eqb_tells x.from l) [ inl t ↦ t.0 | inr f ↦ absurd (f.1 e) ])

-- ---- numbers

within_egress : (m : ℕ) (k : List ℕ) → All (λ y. y ≤ m) k → All (λ y. y ≤ m) (egress_of k)
within_egress m [] h = h
within_egress m (x ∷ []) h = All-nil (λ y. y ≤ m)
within_egress m (x ∷ z ∷ k) h =
    All-cons (λ y. y ≤ m) x (egress_of (z ∷ k)) (All-head (λ y. y ≤ m) x (z ∷ k) h) (within_egress m (z ∷ k) (All-tail (λ y. y ≤ m) x (z ∷ k) h))

more_in_each : (m : ℕ) (k : List ℕ) → All (λ y. y ≤ m) k → All (λ y. y ≤ m + 1) k
more_in_each m k h = All-weaker (λ y. y ≤ m) (λ y. y ≤ m + 1) (λ y l. omega arith) k h

within_feedback : (m : ℕ) (k : List ℕ) → All (λ y. y ≤ m) k → All (λ y. y ≤ m + 1) (feedback_of k)
within_feedback m [] h = more_in_each m [] h
within_feedback m (x ∷ []) h =
    let last = All-head (λ y. y ≤ m) x [] h in
    All-cons (λ y. y ≤ m + 1) (x + 1) [] (omega arith) (All-nil (λ y. y ≤ m + 1))
within_feedback m (x ∷ z ∷ k) h =
    let first = All-head (λ y. y ≤ m) x (z ∷ k) h in
    All-cons (λ y. y ≤ m + 1) x (feedback_of (z ∷ k)) (omega arith) (within_feedback m (z ∷ k) (All-tail (λ y. y ≤ m) x (z ∷ k) h))

within_parts : (x : Action) (m r a : ℕ) (k : List ℕ) → a ≤ m → All (λ y. y ≤ m) k → IsWithin (m + 1) (then_act x r a k)
within_parts Identity m r a k h j = (omega arith, more_in_each m k j)
within_parts Ingress m r a k h j =
    let zero' = All-cons (λ y. y ≤ m + 1) 0 [] (omega arith) (All-nil (λ y. y ≤ m + 1)) in
    (omega arith, All-append (λ y. y ≤ m + 1) k (0 ∷ []) (more_in_each m k j) zero')
within_parts Egress m r a [] h j = (omega arith, All-nil (λ y. y ≤ m + 1))
within_parts Egress m r a (x ∷ k) h j = (omega arith, more_in_each m (egress_of (x ∷ k)) (within_egress m (x ∷ k) j))
within_parts Feedback m r a [] h j = (omega arith, All-nil (λ y. y ≤ m + 1))
within_parts Feedback m r a (x ∷ k) h j = (omega arith, within_feedback m (x ∷ k) j)

-- no number of a walk's summary is above the number of its arcs
within_after : (w : List Arc) (m : ℕ) (s : Summary) → IsWithin m s → IsWithin (m + length w) (after w s)
within_after [] m s h = (omega (arith, h.0), All-weaker (λ y. y ≤ m) (λ y. y ≤ m + 0) (λ y l. omega arith) s.constants h.1)
within_after (x ∷ w) m s h =
    let all = within_after w (m + 1) (step x.action s) (within_parts x.action m s.keep s.add s.constants h.0 h.1) in
    let e : (m + 1) + length w ≡ m + length (x ∷ w) = omega arith in
    subst (λ n. IsWithin n (after (x ∷ w) s)) e all

pub within_walk : (g : Dataflow) (w : List Arc) (a n m : ℕ) → length w ≤ n → n ≤ m → IsWithin m (summary_of g a w)
within_walk g w a n m short low =
    let h = within_after w 0 (identity (slice_index (depths g) a)) (omega arith, All-nil (λ y. y ≤ 0)) in
    (omega (arith, h.0), All-weaker (λ y. y ≤ 0 + length w) (λ y. y ≤ m) (λ y l. omega arith) (summary_of g a w).constants h.1)

-- ---- all rounds

module _ (o : TimeOrder) (g : Dataflow) (agree : DepthsAgree g) (deep : All (λ d. d ≤ max_depth) (depths g)) (a : ℕ) where
  shallow : (l : ℕ) → slice_index (depths g) l ≤ max_depth
  shallow l =
      elim (cases_lt l (length (depths g))) [
        | inl low ↦ deep l 0 low
        | inr past ↦ omega (arith, get_or_past (depths g) l 0 past)
      ]

  -- each arc can extend what the rounds found so far
  pub can_follow : (row : List (List Summary)) (last : List Reached) (n : ℕ) → Rounds o g a row last n → n ≤ max_counter - 1 → CanFollow (arcs g) (length row) last
  can_follow row last n h low r x in' c at' =
      let (w, walk, is, short) = All-contains (λ q. Arrives g a n q.location q.summary) last r h.queue in' in
      let ends = All-contains (ArcAgrees (depths g)) (arcs g) x agree c in
      let f = subst (IsFor (slice_index (depths g) a) (slice_index (depths g) r.location)) (sym is) (IsFor-walk g w a r.location agree walk) in
      let l = subst (λ m. LeadsTo x.action (slice_index (depths g) m) (slice_index (depths g) x.to)) at' (arc_leads g agree x c) in (
        omega (arith, ends.to, h.long),
        (
          λ grows. (let more = subst (λ y. LeadsTo y (slice_index (depths g) r.location) (slice_index (depths g) x.to)) grows l in omega (arith, f.depth, shallow x.to)),
          subst (IsWithin (max_counter - 1)) (sym is) (within_walk g w a n (max_counter - 1) short low),
        ),
      )

  one_arc : (w : List Arc) (b n : ℕ) (x : Arc) → Contains (arcs g) x → x.from ≡ b → IsWalk g a w b → length w ≤ n → Arrives g a (n + 1) x.to (step x.action (summary_of g a w))
  one_arc w b n x c at' walk short =
      (w ++ x ∷ [], walks_joined g w (x ∷ []) a b x.to walk (c, at', refl), sym (after-append w (x ∷ []) (identity (slice_index (depths g) a))), omega (arith, length-append w (x ∷ [])))

  arrives_more : (b n : ℕ) (s : Summary) → Arrives g a n b s → Arrives g a (n + 1) b s
  arrives_more b n s (w, walk, is, short) = (w, walk, is, omega arith)

  follows_arrives : (row : List (List Summary)) (last : List Reached) (n : ℕ) → Rounds o g a row last n → (r : Reached) → Follows (arcs g) last r → Arrives g a (n + 1) r.location r.summary
  follows_arrives row last n h r (q, x, in', c, at', is) =
      let (w, walk, same, short) = All-contains (λ v. Arrives g a n v.location v.summary) last q h.queue in' in
      let one = one_arc w q.location n x c at' walk short in
      let two : Arrives g a (n + 1) x.to (step x.action q.summary) = subst (λ s. Arrives g a (n + 1) x.to (step x.action s)) (sym same) one in
      subst (λ v. Arrives g a (n + 1) v.location v.summary) (sym is) two

  -- if each walk of at most n arcs is covered, and its extension by each arc, then so is each walk of one arc more
  extend : (row : List (List Summary)) (n : ℕ) → ((v : List Arc) (b : ℕ) (x : Arc) → length v ≤ n → IsWalk g a v b → Contains (arcs g) x → x.from ≡ b → IsCovered o (listed row x.to) (step x.action (summary_of g a v))) → ((b : ℕ) → IsWalk g a [] b → IsCovered o (listed row b) (summary_of g a [])) → (w : List Arc) (b : ℕ) → length w ≤ n + 1 → IsWalk g a w b → IsCovered o (listed row b) (summary_of g a w)
  extend row n more none [] b l h = none b h
  extend row n more none (x ∷ w) b l h =
      let (v, y, e) = last_arc x w in
      let i : Summary = identity (slice_index (depths g) a) in
      let whole : IsWalk g a (v ++ (y ∷ [])) b = subst (λ u. IsWalk g a u b) e h in
      let front : IsWalk g a v (end_of a v) = walk_front g v (y ∷ []) a b whole in
      let end = walk_back g v (y ∷ []) a b whole in
      let short : length v ≤ n = omega (arith, ap length e, length-append v (y ∷ [])) in
      let there = more v (end_of a v) y short front end.0 end.1 in
      let same : step y.action (after v i) ≡ after (x ∷ w) i = sym (after-append v (y ∷ []) i) ∙ ap (λ u. after u i) (sym e) in
      subst (λ n. IsCovered o (listed row n) (summary_of g a (x ∷ w))) end.2 (subst (IsCovered o (listed row y.to)) same there)

  -- what one round makes of the rounds before it
  pub round_more : (old new : List (List Summary)) (last next : List Reached) (n : ℕ) → Rounds o g a old last n → IsRound o (arcs g) old new last next → Rounds o g a new next (n + 1)
  round_more old new last next n h r =
      let all : (x : Arc) (s : Summary) → Contains (arcs g) x → Contains (listed old x.from) s → IsCovered o (listed new x.to) (step x.action s) = λ x s c k. elim (h.followed x s c k) [
        | inl q ↦ All-contains (IsFollowed o (arcs g) new) last (reached x.from s) r.followed q x c refl
        | inr q ↦ r.grown.kept x.to (step x.action s) q
      ] in
      record {
        long = r.grown.long ∙ h.long;
        neat = r.grown.neat h.neat;
        walks = λ b s k. elim (r.grown.fresh b s k) [
          | inl q ↦ arrives_more b n s (h.walks b s q)
          | inr q ↦ follows_arrives old last n h (reached b s) (All-contains (Follows (arcs g) last) next (reached b s) r.grown.from q)
        ];
        queue = All-weaker (Follows (arcs g) last) (λ v. Arrives g a (n + 1) v.location v.summary) (follows_arrives old last n h) next r.grown.from;
        covers = extend new n
            (λ v b x short walk c at'.
            let (t, k, m) = h.covers v b short walk in
            covered_less o (listed new x.to) (step x.action t) (step x.action (summary_of g a v)) (AtMost-step o x.action t (summary_of g a v) m) (all x t c (subst (λ l. Contains (listed old l) t) (sym at') k)))
            (λ b walk. r.grown.kept b (summary_of g a []) (h.covers [] b (omega arith) walk));
        followed = λ x s c k. elim (r.grown.fresh x.from s k) [ inl q ↦ inr (all x s c q) | inr q ↦ inl q ];
      }

  -- if nothing was new in the last round, all walks are covered
  closed : (row : List (List Summary)) (n : ℕ) → Rounds o g a row [] n → (m : ℕ) (w : List Arc) (b : ℕ) → length w ≤ m → IsWalk g a w b → IsCovered o (listed row b) (summary_of g a w)
  closed row n h zero w b l walk = h.covers w b (omega arith) walk
  closed row n h (suc m) w b l walk =
      extend row m
      (λ v c x short front in' at'.
      let (t, k, less) = closed row n h m v c short front in
      let there : IsCovered o (listed row x.to) (step x.action t) = elim (h.followed x t in' (subst (λ l. Contains (listed row l) t) (sym at') k)) [ inl q ↦ absurd (omega (arith, q.1)) | inr q ↦ q ] in
      covered_less o (listed row x.to) (step x.action t) (step x.action (summary_of g a v)) (AtMost-step o x.action t (summary_of g a v) less) there)
      (λ c front. h.covers [] c (omega arith) front)
      w b (omega arith) walk

  row_of_rounds : (row : List (List Summary)) (last : List Reached) (n : ℕ) → Rounds o g a row last n → ((w : List Arc) (b : ℕ) → IsWalk g a w b → IsCovered o (listed row b) (summary_of g a w)) → IsRow o g a row
  row_of_rounds row last n h all =
      record { long = h.long; neat = h.neat; walks = λ b s k. (let (w, walk, is, _) = h.walks b s k in (w, walk, is)); covers = all }

  pub rounds_closed : (row : List (List Summary)) (last : List Reached) (n : ℕ) → Rounds o g a row last n → length last ≡ 0 → IsRow o g a row
  rounds_closed row [] n h e = row_of_rounds row [] n h (λ w b walk. closed row n h (length w) w b (omega arith) walk)
  rounds_closed row (r ∷ last) n h e = absurd (omega arith)

  -- rounds for all walks that cannot be cut suffice
  pub rounds_all : (row : List (List Summary)) (last : List Reached) (n : ℕ) → Rounds o g a row last n → keeps * length (depths g) ≤ n → IsRow o g a row
  rounds_all row last n h enough =
      row_of_rounds row last n h (λ w b walk.
      let d : ℕ = slice_index (depths g) a in
      let v = shorten o g agree keeps d (depths_below g deep) (length w) a b (identity d) w (omega arith) walk (IsFor-identity d) in
      covered_less o (listed row b) (after v.walk (identity d)) (summary_of g a w) v.gives (h.covers v.walk b (omega (arith, v.short, enough)) v.leads))

  -- before the first round
  pub rounds_start : (old new : List (List Summary)) (last : List Reached) → old ≡ replicate (length (depths g)) [] → a < length (depths g) → Reaches o old new [] last a (identity (slice_index (depths g) a)) → Rounds o g a new last 0
  rounds_start old new last e inside h =
      let i : Summary = identity (slice_index (depths g) a) in
      let size : length old ≡ length (depths g) = ap length e ∙ length-replicate {A = List Summary} (length (depths g)) [] in
      let in' : a < length old = omega arith in
      let none : (b : ℕ) → listed old b ≡ [] = λ b. ap (λ l. listed l b) e ∙ nothing b in
      let empty : (b : ℕ) (s : Summary) → Contains (listed old b) s → ⊥ = λ b s k. (let k' = subst (λ l. Contains l s) (none b) k in omega (arith, k'.1)) in
      let from : (b : ℕ) (s : Summary) → Contains (listed new b) s → (b ≡ a) × (s ≡ i) × Contains last (reached b s) = λ b s k. elim (Reaches-from o old new [] last a i in' h b s k) [ inl p ↦ absurd (empty b s p) | inr p ↦ p ] in
      record {
        long = Reaches-long o old new [] last a i h ∙ size;
        neat = Reaches-neat o old new [] last a i in' h (λ b. subst (IsNeat o) (sym (none b)) neat_none);
        walks = λ b s k. (let f = from b s k in ([], sym f.0, f.1, omega arith));
        queue = Reaches-last o old new [] last a i h (λ v. Arrives g a 0 v.location v.summary) (All-nil (λ v. Arrives g a 0 v.location v.summary)) ([], refl, refl, omega arith);
        covers = λ w b l walk. start_covers new (Reaches-here o old new [] last a i in' h) w b l walk;
        followed = λ x s c k. inl (from x.from s k).2;
      }
    where
      nothing : (b : ℕ) → listed (replicate (length (depths g)) []) b ≡ []
      nothing b =
          elim (cases_lt b (length (depths g))) [
            | inl low ↦ get_or-replicate {A = List Summary} (length (depths g)) b [] [] low
            | inr past ↦ get_or_past (replicate (length (depths g)) []) b [] (omega (arith, past, length-replicate {A = List Summary} (length (depths g)) []))
          ]

      neat_none : IsNeat o []
      neat_none = record { ordered = λ j k d l l'. absurd (omega arith); apart = λ s t h k m. absurd (omega (arith, h.1)) }

      start_covers : (new : List (List Summary)) → IsCovered o (listed new a) (identity (slice_index (depths g) a)) → (w : List Arc) (b : ℕ) → length w ≤ 0 → IsWalk g a w b → IsCovered o (listed new b) (summary_of g a w)
      start_covers new here [] b l walk = subst (λ c. IsCovered o (listed new c) (identity (slice_index (depths g) a))) walk here
      start_covers new here (x ∷ w) b l walk = absurd (omega arith)

-- ---- steps of the code

-- one more item is followed
pub followed_more : (o : TimeOrder) (xs : List Arc) (row : List (List Summary)) (last : List Reached) (i : ℕ) (r : Reached) → i < length last → r ≡ get_or last i r → All (IsFollowed o xs row) (take i last) → All (λ x. IsCovered o (listed row x.to) (step x.action r.summary)) (leaving r.location xs) → All (IsFollowed o xs row) (take (i + 1) last)
followed_more o xs row last i r low is h k =
    All-more (IsFollowed o xs row) last i r low h (subst (IsFollowed o xs row) is (λ x in' at'. All-contains (λ y. IsCovered o (listed row y.to) (step y.action r.summary)) (leaving r.location xs) x k (Contains-leaving xs x r.location in' at')))

-- an arc that leaves an item's location is one of the arcs
pub arc_leaving : (xs : List Arc) (l i : ℕ) (d : Arc) (as' : List Arc) → as' ≡ leaving l xs → i < length as' → Contains xs (get_or as' i d) × ((get_or as' i d).from ≡ l)
arc_leaving xs l i d as' e low =
    let in' : Contains (leaving l xs) (get_or as' i d) = subst (λ ys. Contains ys (get_or as' i d)) e (Contains-get_or as' i d low) in
    let both = Contains-from_filter (λ y. y.from == l) xs (get_or as' i d) in' in
    (both.0, elim (eqb_tells (get_or as' i d).from l) [ inl t ↦ t.1 | inr f ↦ absurd (let bad : false ≡ true = sym f.0 ∙ both.1 in cc) ])
