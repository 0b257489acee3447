-- A walk with more arcs than there are locations and depths passes one location twice with the same least depth of what is left.
-- The part between can be cut: what is left of the walk is at most the whole, by both orders.
use Rattle.std.proofs.Common.{◌≡◌, ◌⊎◌, inl, inr, ℕ, zero, suc, ◌+◌, ◌*◌, ◌<◌, ◌≤◌, min, List, [], ◌∷◌, ◌++◌, true, false, eqb, length, take, replicate, refl, sym, ◌∙◌, ap, subst, arith, length-append, length-take}
use Rattle.std.specs.Prelude.{All, slice_index}
use Rattle.std.specs.List.{AllByRecursion, IsDistinct, list_any}
use Rattle.std.proofs.lemmas.Bool.{cases_lt, cases_eq, ne_eqb}
use Rattle.std.proofs.lemmas.Bool.Decides.{eqb_tells}
use Rattle.std.proofs.lemmas.List.{get_or_past, length-replicate, take-append-le}
use Rattle.std.proofs.lemmas.List.Elements.{All-contains}
use Rattle.std.proofs.lemmas.Map.Keys.{IsDistinct-cons}
use Rattle.std.proofs.lemmas.Map.Steps.{length-le_from_distinct_below}
use Rattle.std.proofs.lemmas.Nat.{same_from_place, mul-add-lt}
use Rattle.nd_time.specs.Limits.{max_depth}
use Rattle.nd_graph.specs.declared.op.Action.{Action}
use Rattle.nd_graph.specs.declared.op.Action.TheVariants.{Identity, Ingress, Egress, Feedback}
use Rattle.nd_graph.specs.declared.graph.Arc.{Arc}
use Rattle.nd_graph.specs.Graph.{ArcAgrees, Dataflow, LeadsTo, arcs, depths, location_count}
use Rattle.nd_time.specs.declared.order.TimeOrder.{TimeOrder}
use Rattle.nd_time.specs.declared.order.TimeOrder.TheVariants.{Product}
use Rattle.nd_summaries.specs.declared.summary.Summary.{Summary}
use Rattle.nd_time.specs.Order.{IsEachAtMost}
use Rattle.nd_summaries.specs.Walk.{IsWalk, effect, least_depth}
use Rattle.nd_summaries.specs.Summary.{raised, applied, AtMost}
use Rattle.nd_summaries.specs.Steps.{identity, keeps, then_act, step, after, summary_of}
use Rattle.nd_summaries.specs.Laws.{HasShortWalk}
use Rattle.nd_summaries.proofs.Orders.{each_refl, each_take, each_append, effect-append}
use Rattle.nd_summaries.proofs.Raised.{length-raised, each_raised, each_raised_up}
use Rattle.nd_summaries.proofs.Effects.{IsFor, IsFor-identity, IsFor-step, length-applied_for, applied-after, after-append, AtMost-refl, AtMost-trans, AtMost-from_product}
use Rattle.nd_summaries.proofs.Graphs.{DepthsAgree, arc_leads, length-depths, walks_joined}
use Rattle.nd_summaries.proofs.Walks.{IsFor-after, IsFor-walk, applied-walk, length-effect}
use Rattle.nd_summaries.proofs.Unique.{AtMost-from_zeros, is_summary}

-- ---- what a walk keeps

keep_parts : (x : Action) (e f r a : ℕ) (k : List ℕ) → LeadsTo x e f → r + length k ≡ e → (then_act x r a k).keep ≡ min r f
keep_parts Identity e f r a k l h = omega arith
keep_parts Ingress e f r a k l h = omega arith
keep_parts Egress e f r a [] l h = omega arith
keep_parts Egress e f r a (x ∷ k) l h = omega arith
keep_parts Feedback e f r a [] l h = omega (arith, l.1)
keep_parts Feedback e f r a (x ∷ k) l h = omega (arith, l.1)

pub least_depth-le : (g : Dataflow) (a : ℕ) (w : List Arc) → least_depth g a w ≤ slice_index (depths g) a
least_depth-le g a [] = omega arith
least_depth-le g a (x ∷ w) = omega arith

pub leads_from : (g : Dataflow) (a b : ℕ) (x : Arc) (w : List Arc) → DepthsAgree g → IsWalk g a (x ∷ w) b → LeadsTo x.action (slice_index (depths g) a) (slice_index (depths g) x.to)
leads_from g a b x w agree h =
    subst (λ n. LeadsTo x.action (slice_index (depths g) n) (slice_index (depths g) x.to)) h.1 (arc_leads g agree x h.0)

-- a summary followed by a walk keeps no more than it kept, and no more than the least depth of the walk
pub after-keep : (g : Dataflow) (w : List Arc) (d a b : ℕ) (s : Summary) → DepthsAgree g → IsWalk g a w b → IsFor d (slice_index (depths g) a) s → (after w s).keep ≡ min s.keep (least_depth g a w)
after-keep g [] d a b s agree h f = omega (arith, f.depth)
after-keep g (x ∷ w) d a b s agree h f =
    let l = leads_from g a b x w agree h in
    let t : Summary = step x.action s in
    let f' = IsFor-step x.action d (slice_index (depths g) a) (slice_index (depths g) x.to) s l f in
    let now : t.keep ≡ min s.keep (slice_index (depths g) x.to) = keep_parts x.action (slice_index (depths g) a) (slice_index (depths g) x.to) s.keep s.add s.constants l f.depth in
    let later : (after w t).keep ≡ min t.keep (least_depth g x.to w) = after-keep g w d x.to b t agree h.2 f' in
    let low = least_depth-le g x.to w in
    omega (arith, f.depth)

pub walk-keep : (g : Dataflow) (w : List Arc) (a b : ℕ) → DepthsAgree g → IsWalk g a w b → (summary_of g a w).keep ≡ least_depth g a w
walk-keep g w a b agree h =
    let d : ℕ = slice_index (depths g) a in
    let k : (summary_of g a w).keep ≡ min d (least_depth g a w) = after-keep g w d a b (identity d) agree h (IsFor-identity d) in
    omega (arith, least_depth-le g a w)

-- ---- a walk in two parts

-- the location at which a walk ends
abbrev pub end_of : ℕ → List Arc → ℕ
end_of a [] = a
end_of a (x ∷ w) = end_of x.to w

pub walk_front : (graph : Dataflow) (w v : List Arc) (a b : ℕ) → IsWalk graph a (w ++ v) b → IsWalk graph a w (end_of a w)
walk_front graph [] v a b h = refl
walk_front graph (x ∷ w) v a b h = (h.0, h.1, walk_front graph w v x.to b h.2)

pub walk_back : (graph : Dataflow) (w v : List Arc) (a b : ℕ) → IsWalk graph a (w ++ v) b → IsWalk graph (end_of a w) v b
walk_back graph [] v a b h = h
walk_back graph (x ∷ w) v a b h = walk_back graph w v x.to b h.2

pub last_arc : (x : Arc) (w : List Arc) → (v : List Arc) × (y : Arc) × (x ∷ w ≡ v ++ (y ∷ []))
last_arc x [] = ([], x, refl)
last_arc x (z ∷ w) = let (v, y, e) = last_arc z w in (x ∷ v, y, ap (λ u. x ∷ u) e)

least_depth-append : (g : Dataflow) (q z : List Arc) (a b : ℕ) → IsWalk g a q b → least_depth g a (q ++ z) ≡ min (least_depth g a q) (least_depth g b z)
least_depth-append g [] z a b h =
    let low = least_depth-le g b z in
    let same : least_depth g a z ≡ least_depth g b z = ap (λ n. least_depth g n z) h in
    let deep : slice_index (depths g) a ≡ slice_index (depths g) b = ap (slice_index (depths g)) h in
    omega arith
least_depth-append g (x ∷ q) z a b h = let rest = least_depth-append g q z x.to b h.2 in omega arith

-- ---- what can be cut

-- a closed part that keeps all counters that the rest of the walk keeps
module _ (g : Dataflow) (agree : DepthsAgree g) (d a b : ℕ) (q z : List Arc) (round : IsWalk g a q a) (rest : IsWalk g a z b) (same : least_depth g a (q ++ z) ≡ least_depth g a z) where
  -- what it keeps of counters of the location's depth is at most what it makes of them
  front_most : (c : List ℕ) → length c ≡ slice_index (depths g) a → IsEachAtMost (take (least_depth g a z) c) (take (least_depth g a z) (effect q c))
  front_most c size =
      let m : ℕ = least_depth g a z in
      let s : Summary = summary_of g a q in
      let kept : s.keep ≡ least_depth g a q = walk-keep g q a a agree round in
      let more : m ≤ s.keep = omega (arith, least_depth-append g q z a a round) in
      let f = IsFor-walk g q a a agree round in
      let all : List ℕ = take s.keep c in
      let long : length (raised s.add all) ≡ s.keep = omega (arith, length-raised s.add all, length-take s.keep c, f.kept) in
      let most = each_take m all (raised s.add all) (each_raised_up s.add all) in
      let left : take m all ≡ take m c = take_less m s.keep c more in
      let right : take m (raised s.add all) ≡ take m (effect q c) = sym (take-append-le m (raised s.add all) s.constants (omega arith)) ∙ ap (take m) (applied-walk g q a c size) in
      subst (λ u. IsEachAtMost u (take m (effect q c))) left (subst (λ u. IsEachAtMost (take m all) u) right most)
    where
      take_less : (m n : ℕ) (c : List ℕ) → m ≤ n → take m (take n c) ≡ take m c
      take_less zero n c h = refl
      take_less (suc m) zero c h = absurd (omega arith)
      take_less (suc m) (suc n) [] h = refl
      take_less (suc m) (suc n) (x ∷ c) h = ap (λ l. x ∷ l) (take_less m n c (omega arith))

  rest_most : (c : List ℕ) → length c ≡ slice_index (depths g) a → IsEachAtMost (effect z c) (effect z (effect q c))
  rest_most c size =
      let t : Summary = summary_of g a z in
      let kept : t.keep ≡ least_depth g a z = walk-keep g z a b agree rest in
      let size' : length (effect q c) ≡ slice_index (depths g) a = length-effect g q a a c agree round size in
      let front = subst (λ n. IsEachAtMost (take n c) (take n (effect q c))) (sym kept) (front_most c size) in
      let up = each_raised t.add t.add (take t.keep c) (take t.keep (effect q c)) (omega arith) front in
      let both = each_append (raised t.add (take t.keep c)) (raised t.add (take t.keep (effect q c))) t.constants t.constants up (each_refl t.constants) in
      subst (λ u. IsEachAtMost u (effect z (effect q c))) (applied-walk g z a c size) (subst (λ u. IsEachAtMost (applied t c) u) (applied-walk g z a (effect q c) size') both)

  cut_product : (s : Summary) → IsFor d (slice_index (depths g) a) s → AtMost Product (after z s) (after (q ++ z) s)
  cut_product s f =
      let o : List ℕ = replicate d 0 in
      let zeros : length o ≡ d = length-replicate d 0 in
      let low : s.keep ≤ length o = omega (arith, f.kept, zeros) in
      let c : List ℕ = applied s o in
      let size : length c ≡ slice_index (depths g) a = length-applied_for d (slice_index (depths g) a) s o f zeros in
      let whole : IsWalk g a (q ++ z) b = walks_joined g q z a a b round rest in
      let keep : (after z s).keep ≡ (after (q ++ z) s).keep = after-keep g z d a b s agree rest f ∙ ap (min s.keep) (sym same) ∙ sym (after-keep g (q ++ z) d a b s agree whole f) in
      let left : applied (after z s) o ≡ effect z c = applied-after z s o low in
      let right : applied (after (q ++ z) s) o ≡ effect z (effect q c) = applied-after (q ++ z) s o low ∙ effect-append q z c in
      let most = subst (λ u. IsEachAtMost u (applied (after (q ++ z) s) o)) (sym left) (subst (λ u. IsEachAtMost (effect z c) u) (sym right) (rest_most c size)) in
      AtMost-from_zeros d (slice_index (depths g) b) (after z s) (after (q ++ z) s) (IsFor-after g z d a b s agree rest f) (IsFor-after g (q ++ z) d a b s agree whole f) keep most

-- ---- a long walk has such a part

-- a number for a location and the least depth of the walk from there, if depths are below n
abbrev state : Dataflow → ℕ → ℕ → List Arc → ℕ
state g n a w = a * n + least_depth g a w

-- these numbers along a walk
abbrev states : Dataflow → ℕ → ℕ → List Arc → List ℕ
states g n a [] = []
states g n a (x ∷ w) = state g n a (x ∷ w) ∷ states g n x.to w

length-states : (g : Dataflow) (n a : ℕ) (w : List Arc) → length (states g n a w) ≡ length w
length-states g n a [] = refl
length-states g n a (x ∷ w) = ap suc (length-states g n x.to w)

-- a later point of a walk with this number
Found : Dataflow → ℕ → ℕ → List Arc → ℕ → Type 0
Found g n a w m = (q z : List Arc) × (w ≡ q ++ z) × (m ≡ state g n (end_of a q) z)

find : (g : Dataflow) (n a : ℕ) (w : List Arc) (m : ℕ) → Found g n a w m ⊎ AllByRecursion (λ y. eqb m y ≡ false) (states g n a w)
unfolding Found
find g n a [] m = inr tt
find g n a (x ∷ w) m =
    elim (cases_eq m (state g n a (x ∷ w))) [
      | inl e ↦ inl ([], x ∷ w, refl, e)
      | inr ne ↦ elim (find g n x.to w m) [
        | inl f ↦ inl (x ∷ f.0, f.1, ap (λ v. x ∷ v) f.2, f.3)
        | inr none ↦ inr (ne_eqb m (state g n a (x ∷ w)) ne, none)
      ]
    ]

-- a walk with a part that can be cut: p, then q back to the same location with the same least depth of what is left, then z
pub record Round (g : Dataflow) (n a : ℕ) (w : List Arc) : Type 0 where
  pub p : List Arc
  pub q : List Arc
  pub z : List Arc
  pub whole : w ≡ p ++ (q ++ z)
  pub more : 0 < length q
  pub same : state g n (end_of a p) (q ++ z) ≡ state g n (end_of (end_of a p) q) z

goes_round : (g : Dataflow) (n a : ℕ) (w : List Arc) → Round g n a w ⊎ IsDistinct eqb (states g n a w)
unfolding IsDistinct Found
goes_round g n a [] = inr tt
goes_round g n a (x ∷ w) =
    elim (find g n x.to w (state g n a (x ∷ w))) [
      | inl f ↦ inl (record { p = []; q = x ∷ f.0; z = f.1; whole = ap (λ v. x ∷ v) f.2; more = omega arith; same = ap (λ v. state g n a (x ∷ v)) (sym f.2) ∙ f.3 })
      | inr none ↦ elim (goes_round g n x.to w) [
        | inl r ↦ inl (record { p = x ∷ r.p; q = r.q; z = r.z; whole = ap (λ v. x ∷ v) r.whole; more = r.more; same = r.same })
        | inr d ↦ inr (IsDistinct-cons eqb (state g n a (x ∷ w)) (states g n x.to w) none d)
      ]
    ]

-- all depths are below n
abbrev pub Below : Dataflow → ℕ → Type 0
Below g n = (l : ℕ) → slice_index (depths g) l < n

pub depths_below : (g : Dataflow) → All (λ d. d ≤ max_depth) (depths g) → Below g keeps
depths_below g deep l =
    elim (cases_lt l (length (depths g))) [
      | inl low ↦ (let d = deep l 0 low in omega arith)
      | inr past ↦ omega (arith, get_or_past (depths g) l 0 past)
    ]

states_below : (g : Dataflow) (w : List Arc) (n a b : ℕ) → DepthsAgree g → Below g n → IsWalk g a w b → AllByRecursion (λ y. y < n * length (depths g)) (states g n a w)
states_below g [] n a b agree deep h = tt
states_below g (x ∷ w) n a b agree deep h =
    let inside : a < length (depths g) = subst (λ m. m < length (depths g)) h.1 (All-contains (ArcAgrees (depths g)) (arcs g) x agree h.0).from in
    let low : least_depth g a (x ∷ w) < n = omega (arith, least_depth-le g a (x ∷ w), deep a) in
    (mul-add-lt a n (least_depth g a (x ∷ w)) (length (depths g)) inside low, states_below g w n x.to b agree deep h.2)

one_below : (xs : List ℕ) (n m : ℕ) → AllByRecursion (λ y. y < n) xs → list_any (eqb m) xs ≡ true → m < n
one_below [] n m h k = absurd (cc)
one_below (x ∷ xs) n m h k =
    elim (eqb_tells m x) [
      | inl t ↦ subst (λ y. y < n) (sym t.1) h.0
      | inr f ↦ one_below xs n m h.1 (rw f.0 at k)
    ]

must_go_round : (g : Dataflow) (w : List Arc) (n a b : ℕ) → DepthsAgree g → Below g n → IsWalk g a w b → n * length (depths g) < length w → Round g n a w
must_go_round g w n a b agree deep h long =
    elim (goes_round g n a w) [
      | inl r ↦ r
      | inr d ↦
          let few = length-le_from_distinct_below (states g n a w) (n * length (depths g)) d (λ m. one_below (states g n a w) (n * length (depths g)) m (states_below g w n a b agree deep h)) in
          absurd (omega (arith, few, length-states g n a w))
    ]

-- ---- short walks suffice

-- a walk of at most `limit` arcs whose summary is at most that of w
pub record Shorter (o : TimeOrder) (g : Dataflow) (a b : ℕ) (s : Summary) (w : List Arc) (limit : ℕ) : Type 0 where
  pub walk : List Arc
  pub leads : IsWalk g a walk b
  pub short : length walk ≤ limit
  pub gives : AtMost o (after walk s) (after w s)

module _ (o : TimeOrder) (g : Dataflow) (agree : DepthsAgree g) (n d : ℕ) (deep : Below g n) where
  without_round : (a b : ℕ) (s : Summary) (w : List Arc) → IsWalk g a w b → IsFor d (slice_index (depths g) a) s → (r : Round g n a w) → IsWalk g a (r.p ++ r.z) b × AtMost o (after (r.p ++ r.z) s) (after w s)
  without_round a b s w h f r =
      let m : ℕ = end_of a r.p in
      let t : Summary = after r.p s in
      let whole : IsWalk g a (r.p ++ (r.q ++ r.z)) b = subst (λ v. IsWalk g a v b) r.whole h in
      let to_m : IsWalk g a r.p m = walk_front g r.p (r.q ++ r.z) a b whole in
      let rest : IsWalk g m (r.q ++ r.z) b = walk_back g r.p (r.q ++ r.z) a b whole in
      let round : IsWalk g m r.q (end_of m r.q) = walk_front g r.q r.z m b rest in
      let from : IsWalk g (end_of m r.q) r.z b = walk_back g r.q r.z m b rest in
      let low : least_depth g m (r.q ++ r.z) < n = omega (arith, least_depth-le g m (r.q ++ r.z), deep m) in
      let low' : least_depth g (end_of m r.q) r.z < n = omega (arith, least_depth-le g (end_of m r.q) r.z, deep (end_of m r.q)) in
      let same = same_from_place m (least_depth g m (r.q ++ r.z)) (end_of m r.q) (least_depth g (end_of m r.q) r.z) n low low' r.same in
      let closed : IsWalk g m r.q m = subst (λ e. IsWalk g m r.q e) (sym same.0) round in
      let back : IsWalk g m r.z b = subst (λ e. IsWalk g e r.z b) (sym same.0) from in
      let kept : least_depth g m (r.q ++ r.z) ≡ least_depth g m r.z = same.1 ∙ ap (λ e. least_depth g e r.z) (sym same.0) in
      let fits : IsFor d (slice_index (depths g) m) t = IsFor-after g r.p d a m s agree to_m f in
      let cut = AtMost-from_product o (after r.z t) (after (r.q ++ r.z) t) (cut_product g agree d m b r.q r.z closed back kept t fits) in
      let left : after (r.p ++ r.z) s ≡ after r.z t = after-append r.p r.z s in
      let right : after w s ≡ after (r.q ++ r.z) t = ap (λ v. after v s) r.whole ∙ after-append r.p (r.q ++ r.z) s in
      (walks_joined g r.p r.z a m b to_m back, subst (λ u. AtMost o u (after w s)) (sym left) (subst (λ u. AtMost o (after r.z t) u) (sym right) cut))

  pub shorten : (fuel a b : ℕ) (s : Summary) (w : List Arc) → length w ≤ fuel → IsWalk g a w b → IsFor d (slice_index (depths g) a) s → Shorter o g a b s w (n * length (depths g))
  shorten zero a b s w l h f = record { walk = w; leads = h; short = omega arith; gives = AtMost-refl o (after w s) }
  shorten (suc fuel) a b s w l h f =
      elim (cases_lt (n * length (depths g)) (length w)) [
        | inr le ↦ record { walk = w; leads = h; short = le; gives = AtMost-refl o (after w s) }
        | inl long ↦
            let r = must_go_round g w n a b agree deep h long in
            let cut = without_round a b s w h f r in
            let fewer : length (r.p ++ r.z) ≤ fuel = omega (arith, ap length r.whole, length-append r.p (r.q ++ r.z), length-append r.q r.z, length-append r.p r.z, r.more) in
            let short = shorten fuel a b s (r.p ++ r.z) fewer cut.0 f in
            record { walk = short.walk; leads = short.leads; short = short.short; gives = AtMost-trans o (after short.walk s) (after (r.p ++ r.z) s) (after w s) short.gives cut.1 }
      ]

-- each walk has a short one whose summary is at most its own
pub short_walk : (o : TimeOrder) (g : Dataflow) (a b : ℕ) (w : List Arc) → DepthsAgree g → All (λ d. d ≤ max_depth) (depths g) → a < location_count g → IsWalk g a w b → HasShortWalk o g a b w
short_walk o g a b w agree deep low walk =
    let d : ℕ = slice_index (depths g) a in
    let inside : a < length (depths g) = omega (arith, length-depths g) in
    let v = shorten o g agree keeps d (depths_below g deep) (length w) a b (identity d) w (omega arith) walk (IsFor-identity d) in
    record {
      short = v.walk;
      leads = v.leads;
      few = omega (arith, v.short, length-depths g, ap (λ n. keeps * n) (length-depths g));
      its = summary_of g a v.walk;
      its_is = is_summary g agree v.walk a b (summary_of g a v.walk) inside v.leads refl;
      whole = summary_of g a w;
      whole_is = is_summary g agree w a b (summary_of g a w) inside walk refl;
      most = v.gives;
    }
