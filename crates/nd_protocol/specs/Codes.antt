-- Steps encoded as numbers, so that the value of a model can contain steps.
use Rattle.std.specs.Prelude.{◌≡◌, ℕ, zero, suc, ℤ, ◌⊎◌, List, Option, None, Some, refl}
use Rattle.std.proofs.Common.{inl, inr, ap}
use Rattle.std.specs.Coded.{Coded, code_by, coded×, coded⊎, coded_ℕ, coded_ℤ, coded_list, coded_option}
use Rattle.nd_paths.specs.Point.{point_code}
use Rattle.nd_paths.specs.declared.point.Pointstamp.{Pointstamp}
use Rattle.nd_protocol.specs.declared.part.Part.{Part}
use Rattle.nd_protocol.specs.declared.part.Part.TheVariants.{All, Points}
use Rattle.nd_time.specs.Time.{Time}
use Rattle.nd_time.specs.Listing.{time_code}
use Rattle.nd_protocol.specs.Times.{times_code}
use Rattle.nd_protocol.specs.Batches.{batch_code}
use Rattle.nd_protocol.specs.declared.times.Times.{Times}
use Rattle.nd_protocol.specs.declared.batch.Batch.{Batch}
use Rattle.nd_protocol.specs.declared.step.Step.{Step}
use Rattle.nd_protocol.specs.declared.step.Step.TheVariants.{Feed, Take, Notice, Release, Send, Broadcast, Receive}
use Rattle.nd_protocol.specs.declared.step.Next.{Next as Afterwards}
use Rattle.nd_protocol.specs.declared.step.Next.TheVariants as token

abbrev pub next_number : Afterwards → ℕ
next_number token.Next = 0
next_number token.Close = 1
next_number token.Stay = 2
next_number (token.To n) = suc (suc (suc n))

abbrev pub next_of : ℕ → Afterwards
next_of zero = token.Next
next_of (suc zero) = token.Close
next_of (suc (suc zero)) = token.Stay
next_of (suc (suc (suc n))) = token.To n

pub next_back : (next : Afterwards) → next_of (next_number next) ≡ next
next_back token.Next = refl
next_back token.Close = refl
next_back token.Stay = refl
next_back (token.To n) = refl

abbrev pub next_code : Coded Afterwards
next_code = code_by ℕ coded_ℕ next_number next_of next_back

-- a step as its parts
abbrev pub Parts : Type 0 → Type 0
Parts A = (ℕ × (ℕ × (List ℤ × Afterwards))) ⊎ ((ℕ × (ℕ × (Time × ℤ))) ⊎ ((ℕ × (ℕ × Time)) ⊎ ((ℕ × Option (List Pointstamp)) ⊎ ((ℕ × ℕ) ⊎ ((ℕ × (ℕ × Times)) ⊎ (ℕ × (ℕ × Batch A)))))))

module _ {A : Type 0} where
  abbrev pub named : Part A → Option (List Pointstamp)
  named All = None
  named (Points points) = Some points

  abbrev pub part_of : Option (List Pointstamp) → Part A
  part_of None = All
  part_of (Some points) = Points points

  pub part_back : (part : Part A) → part_of (named part) ≡ part
  part_back All = refl
  part_back (Points points) = refl

  abbrev pub step_parts : Step A → Parts A
  step_parts (Feed p vertex values next) = inl (p, (vertex, (values, next)))
  step_parts (Take p edge time value) = inr (inl (p, (edge, (time, value))))
  step_parts (Notice p vertex time) = inr (inr (inl (p, (vertex, time))))
  step_parts (Broadcast p part) = inr (inr (inr (inl (p, named part))))
  step_parts (Receive from to) = inr (inr (inr (inr (inl (from, to)))))
  step_parts (Release p vertex times) = inr (inr (inr (inr (inr (inl (p, (vertex, times)))))))
  step_parts (Send p vertex batch) = inr (inr (inr (inr (inr (inr (p, (vertex, batch)))))))

  abbrev pub step_of : Parts A → Step A
  step_of (inl t) = Feed t.0 t.1.0 t.1.1.0 t.1.1.1
  step_of (inr (inl t)) = Take t.0 t.1.0 t.1.1.0 t.1.1.1
  step_of (inr (inr (inl t))) = Notice t.0 t.1.0 t.1.1
  step_of (inr (inr (inr (inl t)))) = Broadcast t.0 (part_of t.1)
  step_of (inr (inr (inr (inr (inl t))))) = Receive t.0 t.1
  step_of (inr (inr (inr (inr (inr (inl t)))))) = Release t.0 t.1.0 t.1.1
  step_of (inr (inr (inr (inr (inr (inr t)))))) = Send t.0 t.1.0 t.1.1

  pub step_back : (x : Step A) → step_of (step_parts x) ≡ x
  step_back (Feed p vertex values _) = refl
  step_back (Take p edge time value) = refl
  step_back (Notice p vertex time) = refl
  step_back (Broadcast p part) = ap (λ (q : Part A). Broadcast p q) (part_back part)
  step_back (Receive from to) = refl
  step_back (Release p vertex times) = refl
  step_back (Send p vertex batch) = refl

  abbrev pub step_code : Coded (Step A)
  step_code =
      code_by (Parts A) (coded⊎ (coded× coded_ℕ (coded× coded_ℕ (coded× (coded_list coded_ℤ) next_code))) (coded⊎ (coded× coded_ℕ (coded× coded_ℕ (coded× time_code coded_ℤ)))
      (coded⊎ (coded× coded_ℕ (coded× coded_ℕ time_code)) (coded⊎ (coded× coded_ℕ (coded_option (coded_list point_code))) (coded⊎ (coded× coded_ℕ coded_ℕ) (coded⊎ (coded× coded_ℕ (coded× coded_ℕ times_code)) (coded× coded_ℕ (coded× coded_ℕ batch_code))))))))
      step_parts step_of step_back
