-- A walk has one summary, and the table lists the least of them.
use Rattle.std.proofs.Common.{◌≡◌, inl, inr, ℕ, ◌+◌, ◌-◌, ◌<◌, ◌≤◌, List, length, take, drop, get_or, replicate, refl, sym, ◌∙◌, ap, subst, arith, length-take}
use Rattle.std.specs.Prelude.{slice_index}
use Rattle.std.proofs.lemmas.Bool.{cases_lt}
use Rattle.std.proofs.lemmas.List.{length-replicate, get_or-replicate, drop_at}
use Rattle.std.proofs.lemmas.List.Elements.{AllZip-get_or}
use Rattle.nd_graph.specs.declared.graph.Arc.{Arc}
use Rattle.nd_graph.specs.Graph.{Dataflow, depths}
use Rattle.nd_summaries.specs.declared.summary.Summary.{Summary}
use Rattle.nd_time.specs.declared.order.TimeOrder.TheVariants.{Product}
use Rattle.nd_time.specs.Order.{IsEachAtMost}
use Rattle.nd_summaries.specs.Walk.{IsWalk}
use Rattle.nd_summaries.specs.Summary.{raised, applied, IsSummaryOf, AtMost}
use Rattle.nd_summaries.specs.Steps.{summary_of}
use Rattle.nd_summaries.proofs.Raised.{length-raised, length-applied}
use Rattle.nd_summaries.proofs.Orders.{each_drop}
use Rattle.nd_summaries.proofs.Effects.{IsFor, length-applied_for}
use Rattle.nd_summaries.proofs.SummaryLemmas.{at_constant, at_last}
use Rattle.nd_summaries.proofs.Graphs.{DepthsAgree, depth_within, has_depth}
use Rattle.nd_summaries.proofs.Walks.{IsFor-walk, applied-walk, length-effect}

-- ---- what a summary does to counters that are all the same

-- the last counter that is kept
at_kept : (d x : ℕ) (s : Summary) (i : ℕ) → s.keep ≤ d → i + 1 ≡ s.keep → get_or (applied s (replicate d x)) i 0 ≡ x + s.add
at_kept d x s i kept is =
    at_last s (replicate d x) i (omega (arith, length-replicate d x)) is ∙ ap (λ n. n + s.add) (get_or-replicate d i x 0 (omega arith))

-- a counter that is not kept
at_other : (d x : ℕ) (s : Summary) (i : ℕ) → s.keep ≤ d → s.keep ≤ i → get_or (applied s (replicate d x)) i 0 ≡ get_or s.constants (i - s.keep) 0
at_other d x s i kept past = at_constant s (replicate d x) i (omega (arith, length-replicate d x)) past

keeps_no_less : (d e : ℕ) (s t : Summary) → IsFor d e s → IsFor d e t → ((c : List ℕ) → length c ≡ d → applied s c ≡ applied t c) → s.keep < t.keep → ⊥
keeps_no_less d e s t f f' same l =
    let i : ℕ = t.keep - 1 in
    let past : s.keep ≤ i = omega arith in
    let last : i + 1 ≡ t.keep = omega arith in
    let zeros = ap (λ v. get_or v i 0) (same (replicate d 0) (length-replicate d 0)) in
    let ones = ap (λ v. get_or v i 0) (same (replicate d 1) (length-replicate d 1)) in
    omega (arith, zeros, ones, at_other d 0 s i f.kept past, at_other d 1 s i f.kept past, at_kept d 0 t i f'.kept last, at_kept d 1 t i f'.kept last)

adds_same : (d e : ℕ) (s t : Summary) → IsFor d e s → IsFor d e t → s.keep ≡ t.keep → applied s (replicate d 0) ≡ applied t (replicate d 0) → s.add ≡ t.add
adds_same d e s t f f' k same =
    elim (cases_lt 0 s.keep) [
      | inl some ↦
          let i : ℕ = s.keep - 1 in
          let at' = ap (λ v. get_or v i 0) same in
          omega (arith, at', at_kept d 0 s i f.kept (omega arith), at_kept d 0 t i f'.kept (omega arith))
      | inr none ↦
          let z : s.keep ≡ 0 = omega arith in
          f.top z ∙ sym (f'.top (sym k ∙ z))
    ]

-- the constants stand after the counters that are kept
after_kept : (d : ℕ) (s : Summary) (c : List ℕ) → length c ≡ d → s.keep ≤ d → drop s.keep (applied s c) ≡ s.constants
after_kept d s c size kept =
    drop_at (raised s.add (take s.keep c)) s.constants s.keep (omega (arith, length-raised s.add (take s.keep c), length-take s.keep c))

-- ---- at most, from what two summaries do to zeros

each_zeros_add : (d e : ℕ) (s t : Summary) → IsFor d e s → IsFor d e t → s.keep ≡ t.keep → IsEachAtMost (applied s (replicate d 0)) (applied t (replicate d 0)) → s.add ≤ t.add
each_zeros_add d e s t f f' k most =
    elim (cases_lt 0 s.keep) [
      | inl some ↦
          let o : List ℕ = replicate d 0 in
          let i : ℕ = s.keep - 1 in
          let size : length (applied s o) ≡ e = length-applied_for d e s o f (length-replicate d 0) in
          let within : i < length (applied s o) = omega (arith, f.depth) in
          let at' = AllZip-get_or (λ x y. x ≤ y) (applied s o) (applied t o) i 0 0 most within in
          omega (arith, at', at_kept d 0 s i f.kept (omega arith), at_kept d 0 t i f'.kept (omega arith))
      | inr none ↦ (let z = f.top (omega arith) in omega arith)
    ]

pub AtMost-from_zeros : (d e : ℕ) (s t : Summary) → IsFor d e s → IsFor d e t → s.keep ≡ t.keep → IsEachAtMost (applied s (replicate d 0)) (applied t (replicate d 0)) → AtMost Product s t
AtMost-from_zeros d e s t f f' k most =
    let o : List ℕ = replicate d 0 in
    let size : length o ≡ d = length-replicate d 0 in
    let rest = each_drop s.keep (applied s o) (applied t o) most in
    let rest' = subst (λ u. IsEachAtMost u (drop s.keep (applied t o))) (after_kept d s o size f.kept) rest in
    let theirs : drop s.keep (applied t o) ≡ t.constants = ap (λ n. drop n (applied t o)) k ∙ after_kept d t o size f'.kept in
    record {
      keep = k;
      size = omega (arith, f.depth, f'.depth);
      least = (each_zeros_add d e s t f f' k most, subst (λ u. IsEachAtMost s.constants u) theirs rest');
    }

-- summaries with the same results are equal
pub same_summary : (d e : ℕ) (s t : Summary) → IsFor d e s → IsFor d e t → ((c : List ℕ) → length c ≡ d → applied s c ≡ applied t c) → s ≡ t
same_summary d e s t f f' same =
    elim (cases_lt s.keep t.keep) [
      | inl l ↦ absurd (keeps_no_less d e s t f f' same l)
      | inr no_less ↦ elim (cases_lt t.keep s.keep) [
        | inl l ↦ absurd (keeps_no_less d e t s f' f (λ c h. sym (same c h)) l)
        | inr no_more ↦
            let k : s.keep ≡ t.keep = omega arith in
            let o : List ℕ = replicate d 0 in
            let size : length o ≡ d = length-replicate d 0 in
            let rest : s.constants ≡ t.constants =
            sym (after_kept d s o size f.kept) ∙ ap (drop s.keep) (same o size) ∙ ap (λ n. drop n (applied t o)) k ∙ after_kept d t o size f'.kept in
            let adds : s.add ≡ t.add = adds_same d e s t f f' k (same o size) in
            λ i. record { keep = k i; add = adds i; constants = rest i }
      ]
    ]

-- ---- the summary of a walk

module _ (g : Dataflow) (agree : DepthsAgree g) where
  -- the walk's summary, arc by arc, is a summary of the walk
  pub is_summary : (w : List Arc) (a b : ℕ) (s : Summary) → a < length (depths g) → IsWalk g a w b → s ≡ summary_of g a w → IsSummaryOf g a w s
  is_summary w a b s inside walk is =
      let d : ℕ = slice_index (depths g) a in
      let f : IsFor d (slice_index (depths g) b) s = subst (IsFor d (slice_index (depths g) b)) (sym is) (IsFor-walk g w a b agree walk) in
      record {
        depth = d;
        has_depth = has_depth g a d inside refl;
        kept = f.kept;
        top = f.top;
        does = λ c size. ap (λ u. applied u c) is ∙ applied-walk g w a c size;
      }

  -- each summary of the walk is that one
  pub only_summary : (w : List Arc) (a b : ℕ) (s : Summary) → IsWalk g a w b → IsSummaryOf g a w s → s ≡ summary_of g a w
  only_summary w a b s walk h =
      let d : ℕ = slice_index (depths g) a in
      let e : ℕ = slice_index (depths g) b in
      let is : h.depth ≡ d = (depth_within g a h.depth h.has_depth).1 in
      let does : (c : List ℕ) → length c ≡ d → applied s c ≡ applied (summary_of g a w) c = λ c size.
      h.does c (size ∙ sym is) ∙ sym (applied-walk g w a c size) in
      let o : List ℕ = replicate d 0 in
      let whole : length o ≡ d = length-replicate d 0 in
      let left : length (applied s o) ≡ s.keep + length s.constants = length-applied s o (omega (arith, h.kept)) in
      let depth : s.keep + length s.constants ≡ e = sym left ∙ ap length (h.does o (whole ∙ sym is)) ∙ length-effect g w a b o agree walk whole in
      let f : IsFor d e s = record { kept = omega (arith, h.kept); depth = depth; top = h.top } in
      same_summary d e s (summary_of g a w) f (IsFor-walk g w a b agree walk) does
