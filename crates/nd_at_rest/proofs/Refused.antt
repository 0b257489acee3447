-- Steps that do not wait: those that are enabled, and those with another refusal.
use Rattle.std.proofs.Common.{◌≡◌, ◌<◌, inl, inr, ℕ, Bool, true, false, refl, sym, ap, ◌∙◌, arith}
use Rattle.std.specs.Prelude.{◌||◌, nat_eq}
use Rattle.std.proofs.lemmas.Bool.{cases_lt}
use Rattle.nd_paths.specs.declared.point.Pointstamp.{Pointstamp}
use Rattle.nd_protocol.specs.State.{ClusterState}
use Rattle.nd_protocol.specs.Enabled.{IsEnabled, IsRefused}
use Rattle.nd_protocol.specs.Refusals.{number_of}
use Rattle.nd_protocol.specs.declared.refusal.Refusal.{Refusal}
use Rattle.nd_protocol.specs.declared.refusal.Refusal.TheVariants.{NoProcessor, NoVertex, NoEdge, NotInput, InputClosed, TooManyValues, EpochFull, NoRecord, NoRequest, NotYet, CounterFull, ValueRange, CountFull, DeltaFull, NothingToSend, NotAdmissible, QueueEmpty, QueueFull, NotNotified, NotLater, NoPort, TooEarly, Memory}
use Rattle.nd_protocol.specs.declared.step.Step.{Step}
use Rattle.nd_protocol.specs.declared.step.Step.TheVariants.{Feed, Take, Notice, Release, Send, Broadcast, Receive}
use Rattle.nd_at_rest.specs.Waiting.{IsWaiting}

-- the number is that of a refusal with which a step waits
abbrev is_of_waiting : ℕ → Bool
is_of_waiting n = nat_eq n 10 || nat_eq n 53

other_number : (r : Refusal) → ((b : Pointstamp) → r ≡ NotYet b → ⊥) → (r ≡ NotNotified → ⊥) → is_of_waiting (number_of r) ≡ true → ⊥
other_number NoProcessor h k e = absurd (cc (e))
other_number NoVertex h k e = absurd (cc (e))
other_number NoEdge h k e = absurd (cc (e))
other_number NotInput h k e = absurd (cc (e))
other_number InputClosed h k e = absurd (cc (e))
other_number TooManyValues h k e = absurd (cc (e))
other_number EpochFull h k e = absurd (cc (e))
other_number NoRecord h k e = absurd (cc (e))
other_number NoRequest h k e = absurd (cc (e))
other_number (NotYet b) h k e = h b refl
other_number CounterFull h k e = absurd (cc (e))
other_number ValueRange h k e = absurd (cc (e))
other_number CountFull h k e = absurd (cc (e))
other_number DeltaFull h k e = absurd (cc (e))
other_number NothingToSend h k e = absurd (cc (e))
other_number (NotAdmissible b) h k e = absurd (cc (e))
other_number QueueEmpty h k e = absurd (cc (e))
other_number QueueFull h k e = absurd (cc (e))
other_number NotNotified h k e = k refl
other_number NotLater h k e = absurd (cc (e))
other_number NoPort h k e = absurd (cc (e))
other_number TooEarly h k e = absurd (cc (e))
other_number Memory h k e = absurd (cc (e))

module _ {A : Type 0} (s : ClusterState) where
  pub enabled_goes : (x : Step A) → IsEnabled s x → IsWaiting s x → ⊥
  enabled_goes (Notice p vertex t) enabled (inl (blocker, refused)) = enabled.free (NotYet blocker) refused.fails
  enabled_goes (Notice p vertex t) enabled (inr refused) = enabled.free NotNotified refused.fails
  enabled_goes (Feed p vertex values _) enabled waits = waits
  enabled_goes (Take p edge t value) enabled waits = waits
  enabled_goes (Release p vertex times) enabled waits = waits
  enabled_goes (Send p vertex batch) enabled waits = waits
  enabled_goes (Broadcast p part) enabled waits = waits
  enabled_goes (Receive from to) enabled waits = waits

  -- a step has one refusal
  one_number : (x : Step A) (r q : Refusal) → IsRefused s x r → IsRefused s x q → number_of q ≡ number_of r
  one_number x r q is other = elim (cases_lt (number_of r) (number_of q)) [
    | inl less ↦ absurd (other.least.free r less is.fails)
    | inr most ↦ elim (cases_lt (number_of q) (number_of r)) [
      | inl less ↦ absurd (is.least.free q less other.fails)
      | inr least ↦ omega (arith, most, least)
    ]
  ]

  pub refused_goes : (x : Step A) (r : Refusal) → IsRefused s x r → ((b : Pointstamp) → r ≡ NotYet b → ⊥) → (r ≡ NotNotified → ⊥) → IsWaiting s x → ⊥
  refused_goes (Notice p vertex t) r is h k (inl (blocker, refused)) = other_number r h k (ap is_of_waiting (sym (one_number (Notice p vertex t) r (NotYet blocker) is refused)))
  refused_goes (Notice p vertex t) r is h k (inr refused) = other_number r h k (ap is_of_waiting (sym (one_number (Notice p vertex t) r NotNotified is refused)))
  refused_goes (Feed p vertex values _) r is h k waits = waits
  refused_goes (Take p edge t value) r is h k waits = waits
  refused_goes (Release p vertex times) r is h k waits = waits
  refused_goes (Send p vertex batch) r is h k waits = waits
  refused_goes (Broadcast p part) r is h k waits = waits
  refused_goes (Receive from to) r is h k waits = waits
