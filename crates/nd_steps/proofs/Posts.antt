-- A send: its values become records.
use Rattle.std.proofs.Common.{lit<, ◌≡◌, ◌⊎◌, inl, inr, ◌<◌, ◌≤◌, ◌^◌, ℕ, List, [], length, Option, Some, None, lt_of_not-le, refl, subst}
use Rattle.nd_graph.specs.Graph.{Dataflow}
use Rattle.nd_processor.specs.declared.key.ValueAt.{ValueAt}
use Rattle.nd_protocol.specs.State.{ClusterState}
use Rattle.nd_protocol.specs.Steps.{batch_time, posted_records, posted, stepped}
use Rattle.nd_protocol.specs.Fitting.{IsState}
use Rattle.nd_protocol.specs.Enabled.{GoesNowhere, IsFreeBelow}
use Rattle.nd_protocol.specs.declared.batch.Batch.{Batch}
use Rattle.nd_protocol.specs.declared.refusal.Refusal.TheVariants.{NoProcessor}
use Rattle.nd_protocol.specs.declared.step.Step.{Step}
use Rattle.nd_protocol.specs.declared.step.Step.TheVariants.{Send}
use Rattle.nd_steps.specs.Drafts.{Has, Leads, AreJoined, arrivals, values_by}
use Rattle.nd_steps.specs.declared.change.Change.{Change}
use Rattle.nd_steps.proofs.Destinations.{IsBelow, values-below}
use Rattle.nd_steps.proofs.FoundLemmas.{sound_none}
use Rattle.nd_steps.proofs.ReachedLemmas.{arrivals_lead}
use Rattle.nd_steps.proofs.StepMoves.{StepAdds, arrive}

dest_below : (s : ClusterState) (dest : Option ℕ) → (GoesNowhere s dest → ⊥) → IsBelow (length s.processors) dest
dest_below s None h = tt
dest_below s (Some dest) h = lt_of_not-le h

module _ {A : Type 0} (s : ClusterState) (g : Dataflow) (n p vertex : ℕ) (has : Has g n s) (b : Batch A) where
  abbrev x : Step A
  x = Send p vertex b

  abbrev rs : List (ℕ × ValueAt)
  rs = values_by b.dest g n p vertex b.port (batch_time b) b.values

  -- the records, as the definition of the step says them
  made_is : posted_records s p vertex b ≡ rs
  made_is = λ i. values_by b.dest (has.graph i) (has.count i) p vertex b.port (batch_time b) b.values

  adds : IsState s → IsFreeBelow s x 13 → StepAdds s x (arrivals p rs)
  unfolding stepped posted
  adds state free =
      let there : (length s.processors ≤ p) ⊎ GoesNowhere s b.dest → ⊥ = free.free NoProcessor (lit< tt) in
      let lt : p < length s.processors = lt_of_not-le (λ h. there (inl h)) in
      let to = values-below b.dest s.graph (length s.processors) p vertex b.port (batch_time b) b.values (dest_below s b.dest (λ h. there (inr h))) lt in
      subst (λ es. StepAdds s x (arrivals p es)) made_is (record {
        p = p;
        there = lt;
        new = posted s p vertex b;
        is = refl;
        written = arrive p s.processors (posted_records s p vertex b) to;
      })

  pub posted_leads : (cs : List Change) → cs ≡ arrivals p rs → length cs ≤ 2 ^ 64 → (ds : List Change) → AreJoined cs ds → Leads s x ds
  posted_leads = arrivals_lead s x p [] rs (sound_none s) adds
