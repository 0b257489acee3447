-- A feed: the token is the cause of the records and of the token at the next epoch. If the token stays, it supports the records.
use Rattle.std.proofs.Common.{◌≡◌, ◌⊎◌, inl, inr, ℕ, ◌+◌, ◌<◌, ◌≤◌, ℤ, List, [], length, get_or, Option, Some, unwrap_or, sym, ap, subst, ◌∙◌, arith}
use Rattle.std.specs.FinMap as fin
use Rattle.std.specs.Ordering.{nat_cmp}
use Rattle.nd_graph.specs.Graph.{Dataflow}
use Rattle.nd_paths.specs.declared.point.Pointstamp.{Pointstamp}
use Rattle.nd_paths.specs.Order.{Fits, IsStrictlyBefore}
use Rattle.nd_processor.specs.State.{ProcessorState, token_point, one_at, in_tokens}
use Rattle.nd_protocol.specs.State.{ClusterState, processor}
use Rattle.nd_protocol.specs.Steps.{emitted, epoch_of, moved_token, flat}
use Rattle.nd_protocol.specs.declared.step.Next.{Next as Afterwards}
use Rattle.nd_protocol.specs.declared.step.Next.TheVariants.{Next, Close, Stay, To}
use Rattle.nd_protocol.specs.Fitting.{IsOrdered, ProcessorFits}
use Rattle.nd_protocol.specs.Ranges.{TimeIsSmall}
use Rattle.nd_protocol.proofs.Ranges.{AllKeys-flat, emitted_small, input_past}
use Rattle.nd_protocol.proofs.Shape.{feeding, GoesOn, FitsTypes, IsSmallKey, HasCause}
use Rattle.nd_graph.specs.Graph.{op_at}
use Rattle.nd_vertex.specs.Table.{time_past}
use Rattle.nd_processor.specs.Held.{token_at}
use Rattle.nd_processor.specs.HeldLaws.{point_cases, one_at_itself, in_tokens-insert, in_tokens-remove}
use Rattle.nd_protocol.proofs.Arcs.{later_epoch}
use Rattle.nd_protocol.proofs.Counts.{AllAt-flat}
use Rattle.nd_protocol.proofs.Emissions.{emitted_later, emitted_on_edges}
use Rattle.nd_protocol.proofs.Keys.{fed_fits}

moved_on : (m : fin.FinMap nat_cmp ℕ) (v e to : ℕ) (x : Pointstamp) → fin.get m v ≡ Some e → in_tokens (fin.insert m v to) x + one_at (token_point v e) x ≡ in_tokens m x + one_at (token_point v to) x
moved_on m v e to x found = ap (λ d. in_tokens (fin.insert m v to) x + token_at v d x) (sym found) ∙ in_tokens-insert m v to x

given_up : (m : fin.FinMap nat_cmp ℕ) (v e : ℕ) (x : Pointstamp) → fin.get m v ≡ Some e → in_tokens (fin.remove m v) x + one_at (token_point v e) x ≡ in_tokens m x
given_up m v e x found = ap (λ d. in_tokens (fin.remove m v) x + token_at v d x) (sym found) ∙ in_tokens-remove m v x

-- what moving a token does to the number of tokens
record IsMoved (g : Dataflow) (m n : fin.FinMap nat_cmp ℕ) (y : Pointstamp) : Type 0 where
  grows : (z : Pointstamp) → IsStrictlyBefore g y z ⊎ (in_tokens n z ≤ in_tokens m z)
  goes : (in_tokens n y < in_tokens m y) ⊎ (0 < in_tokens m y)
  others : (z : Pointstamp) → (in_tokens m z ≤ in_tokens n z) ⊎ ((z ≡ y) × (in_tokens n y < in_tokens m y))

-- a move to a later epoch
moves_to : (g : Dataflow) (m : fin.FinMap nat_cmp ℕ) (vertex epoch to : ℕ) → fin.get m vertex ≡ Some epoch → Fits g (token_point vertex epoch) → epoch < to → IsMoved g m (fin.insert m vertex to) (token_point vertex epoch)
moves_to g m vertex epoch to found fits more =
    let y : Pointstamp = token_point vertex epoch in
    let w : Pointstamp = token_point vertex to in
    let n : fin.FinMap nat_cmp ℕ = fin.insert m vertex to in
    let sum : (z : Pointstamp) → in_tokens n z + one_at y z ≡ in_tokens m z + one_at w z = λ z. moved_on m vertex epoch to z found in
    let later : IsStrictlyBefore g y w = later_epoch g vertex epoch to [] more fits in
    let less : in_tokens n y < in_tokens m y = elim (point_cases y w) [ inl same ↦ absurd (later.1 same) | inr apart ↦ omega (arith, sum y, one_at_itself y) ] in
    record {
      grows = λ z. elim (point_cases z w) [ inl same ↦ inl (subst (λ v. IsStrictlyBefore g y v) (sym same) later) | inr apart ↦ inr (omega (arith, sum z)) ];
      goes = inl less;
      others = λ z. elim (point_cases z y) [ inl same ↦ inr (same, less) | inr apart ↦ inl (omega (arith, sum z)) ];
    }

token_moves : (g : Dataflow) (m : fin.FinMap nat_cmp ℕ) (vertex epoch : ℕ) → fin.get m vertex ≡ Some epoch → Fits g (token_point vertex epoch) → (next : Afterwards) → GoesOn next epoch → IsMoved g m (moved_token m vertex epoch next) (token_point vertex epoch)
token_moves g m vertex epoch found fits Next on = moves_to g m vertex epoch (epoch + 1) found fits (omega arith)
token_moves g m vertex epoch found fits (To n) on = moves_to g m vertex epoch n found fits on.0
token_moves g m vertex epoch found fits Close on =
    let y : Pointstamp = token_point vertex epoch in
    let sum : (z : Pointstamp) → in_tokens (fin.remove m vertex) z + one_at y z ≡ in_tokens m z = λ z. given_up m vertex epoch z found in
    let less : in_tokens (fin.remove m vertex) y < in_tokens m y = omega (arith, sum y, one_at_itself y) in
    record {
      grows = λ z. inr (omega (arith, sum z));
      goes = inl less;
      others = λ z. elim (point_cases z y) [ inl same ↦ inr (same, less) | inr apart ↦ inl (omega (arith, sum z)) ];
    }
token_moves g m vertex epoch found fits Stay on =
    let y : Pointstamp = token_point vertex epoch in
    let sum : in_tokens (fin.remove m vertex) y + one_at y y ≡ in_tokens m y = given_up m vertex epoch y found in
    record {
      grows = λ z. inr (omega arith);
      goes = inr (omega (arith, sum, one_at_itself y));
      others = λ z. inl (omega arith);
    }

pub feed_cause : (s : ClusterState) → IsOrdered s.graph → (p vertex epoch : ℕ) (values : List ℤ) (next : Afterwards) → fin.get (processor s p).tokens vertex ≡ Some epoch → FitsTypes s (feeding p vertex values next) → ProcessorFits s.graph (processor s p) → HasCause s (feeding p vertex values next)
feed_cause s o p vertex e values next found numbers fit =
    let held = fit.tokens vertex e found in
    let fits : Fits s.graph (token_point vertex e) = held.1.fits in
    let g : Dataflow = s.graph in
    let q : ProcessorState = processor s p in
    let epoch : ℕ = epoch_of s p vertex in
    let same : epoch ≡ e = ap (λ (v : Option ℕ). unwrap_or v 0) found in
    let found_here : fin.get q.tokens vertex ≡ Some epoch = found ∙ ap Some (sym same) in
    let fits_here : Fits g (token_point vertex epoch) = subst (λ n. Fits g (token_point vertex n)) (sym same) fits in
    let small : TimeIsSmall (flat epoch) = subst (λ n. TimeIsSmall (flat n)) (sym same) held.1.small in
    let past : TimeIsSmall (time_past (op_at g vertex) (flat epoch)) = input_past (op_at g vertex) (flat epoch) held.0 small in
    let y : Pointstamp = token_point vertex epoch in
    let r : ProcessorState = record q { tokens = moved_token q.tokens vertex epoch next } in
    let moved : IsMoved g q.tokens (moved_token q.tokens vertex epoch next) y = token_moves g q.tokens vertex epoch found_here fits_here next numbers.1 in
    record {
      fits = fed_fits g q vertex epoch found_here next numbers.1 fit;
      edges = AllAt-flat (λ z. length g.vertices ≤ z.location) (λ v. emitted g (length s.processors) p vertex (flat epoch) (0, v)) (λ v. emitted_on_edges g (length s.processors) p vertex (flat epoch) (0, v)) values;
      small = AllKeys-flat IsSmallKey (λ v. emitted g (length s.processors) p vertex (flat epoch) (0, v)) values
          (λ k d lt. emitted_small g (length s.processors) p vertex (flat epoch) (0, get_or values k d) past (numbers.0 k d lt));
      cause = y;
      later = AllAt-flat (IsStrictlyBefore g y) (λ v. emitted g (length s.processors) p vertex (flat epoch) (0, v)) (λ v. emitted_later g o (length s.processors) p vertex (flat epoch) fits_here (0, v)) values;
      grows = λ z. elim (moved.grows z) [ inl later ↦ inl later | inr le ↦ inr (omega arith) ];
      goes = elim moved.goes [ inl less ↦ inl (omega arith) | inr there ↦ inr (omega arith) ];
      supports = λ z h. elim (moved.others z) [ inl le ↦ inl (omega arith) | inr (is, less) ↦ inr (is, omega arith) ];
    }
