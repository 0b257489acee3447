-- A feed: the input's token moves, and its values become records.
use Rattle.std.proofs.Common.{lit<, ◌≡◌, ◌<◌, ◌≤◌, ◌^◌, ℕ, ℤ, List, length, Some, None, unwrap_or, lt_of_not-le, refl, sym, ap, subst, ◌∙◌}
use Rattle.std.specs.List.{flat_map}
use Rattle.std.specs.FinMap as fin
use Rattle.nd_time.specs.Limits.{max_counter}
use Rattle.nd_graph.specs.Graph.{Dataflow, op_at}
use Rattle.nd_graph.specs.declared.op.Op.TheVariants as operator
use Rattle.nd_vertex.specs.Table.{time_past}
use Rattle.nd_processor.specs.declared.key.ValueAt.{ValueAt}
use Rattle.nd_protocol.specs.State.{ClusterState, processor}
use Rattle.nd_protocol.specs.Steps.{made_on, emitted, epoch_of, flat, fed, stepped}
use Rattle.nd_protocol.specs.Ranges.{NextIsSmall}
use Rattle.nd_protocol.specs.Enabled.{IsFreeBelow}
use Rattle.nd_protocol.specs.declared.refusal.Refusal.TheVariants.{NoProcessor}
use Rattle.nd_protocol.specs.declared.step.Step.{Step}
use Rattle.nd_protocol.specs.declared.step.Step.TheVariants.{Feed}
use Rattle.nd_protocol.specs.declared.step.Next.{Next as Afterwards}
use Rattle.nd_protocol.specs.declared.step.Next.TheVariants as token
use Rattle.nd_steps.specs.Drafts.{Has, Leads, AreJoined, values_by, token_changes, fed_changes}
use Rattle.nd_steps.specs.declared.change.Change.{Change}
use Rattle.nd_steps.proofs.Destinations.{AreTo-flat, emitted-below}
use Rattle.nd_steps.proofs.FoundLemmas.{token_sound}
use Rattle.nd_steps.proofs.ReachedLemmas.{arrivals_lead}
use Rattle.nd_steps.proofs.StepMoves.{StepAdds, performs}
use Rattle.nd_steps.proofs.Writes.{token_moves}

module _ (s : ClusterState) (g : Dataflow) (n p vertex epoch : ℕ) (values : List ℤ) (next : Afterwards)
    (has : Has g n s) (input : op_at g vertex ≡ operator.Input) (held : fin.get (processor s p).tokens vertex ≡ Some epoch) where
  abbrev rs : List (ℕ × ValueAt)
  rs = values_by None g n p vertex 0 (flat epoch) values

  -- the epoch and the records, as the definition of the step says them
  abbrev now : ℕ
  now = epoch_of s p vertex

  abbrev arrived : List (ℕ × ValueAt)
  arrived = flat_map (λ v. emitted s.graph (length s.processors) p vertex (flat now) (0, v)) values

  epoch_is : now ≡ epoch
  epoch_is = ap (λ o. unwrap_or o 0) held

  arrived_is : arrived ≡ rs
  arrived_is =
      (λ i. flat_map (λ v. emitted (has.graph i) (has.count i) p vertex (flat (epoch_is i)) (0, v)) values)
      ∙ ap (λ o. flat_map (λ v. made_on None n p vertex 0 v (time_past o (flat epoch)) (length g.vertices) g.edges) values) input

  module _ {A : Type 0} where
    abbrev x : Step A
    x = Feed p vertex values next

    adds : IsFreeBelow s x 13 → StepAdds s x (fed_changes p vertex epoch next rs)
    unfolding stepped fed
    adds free =
        let lt : p < length s.processors = lt_of_not-le (free.free NoProcessor (lit< tt)) in
        let to = AreTo-flat (length s.processors) (λ v. emitted s.graph (length s.processors) p vertex (flat now) (0, v)) (λ v. emitted-below s.graph (length s.processors) p vertex (flat now) (0, v) lt) values in
        subst (StepAdds s x) (λ i. fed_changes p vertex (epoch_is i) next (arrived_is i)) (record {
          p = p;
          there = lt;
          new = fed s p vertex values next;
          is = refl;
          written = performs p s.processors _ (token_changes p vertex now next) arrived lt (token_moves p (processor s p) vertex now (held ∙ ap Some (sym epoch_is)) next) to;
        })

    pub fed_leads : epoch ≤ max_counter → (next ≡ token.Next → epoch < max_counter) → NextIsSmall next → (cs : List Change) → cs ≡ fed_changes p vertex epoch next rs → length cs ≤ 2 ^ 64
        → (ds : List Change) → AreJoined cs ds → Leads s x ds
    fed_leads fits goes small = arrivals_lead s x p (token_changes p vertex epoch next) rs (token_sound s p vertex epoch next held fits goes small) (λ state free. adds free)
