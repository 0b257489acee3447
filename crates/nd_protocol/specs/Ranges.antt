-- Numbers in the ranges of their types: epochs, counters and the numbers of processors, and values.
use Rattle.std.specs.Prelude.{ℕ, ℤ, ◌≤◌, ⊤, All as Each, FitsSigned, ◌∷◌, Option, Some, None, IfSome}
use Rattle.std.specs.Int.{w64}
use Rattle.nd_time.specs.Limits.{max_counter}
use Rattle.nd_time.specs.Time.{Time}
use Rattle.nd_protocol.specs.declared.step.Step.{Step}
use Rattle.nd_protocol.specs.declared.step.Step.TheVariants.{Feed, Take, Notice, Release, Send, Broadcast, Receive}
use Rattle.nd_protocol.specs.declared.step.Next.{Next as Afterwards}
use Rattle.nd_protocol.specs.declared.step.Next.TheVariants as token
use Rattle.nd_protocol.specs.declared.times.Later.{Later}
use Rattle.nd_protocol.specs.declared.batch.Batch.{Batch}
use Rattle.nd_protocol.specs.declared.part.Part.{Part}
use Rattle.nd_protocol.specs.declared.part.Part.TheVariants.{All, Points}

-- a number of 32 bits
abbrev pub IsSmall : ℕ → Type 0
IsSmall n = n ≤ max_counter

-- the epoch and the counters of a time are numbers of 32 bits
abbrev pub TimeIsSmall : Time → Type 0
TimeIsSmall t = Each IsSmall (t.epoch ∷ t.counters)

-- a value, or an item or its number: a number of 64 bits
abbrev pub IsValue : ℤ → Type 0
IsValue v = FitsSigned w64 v

abbrev pub PartIsSmall : {A : Type 0} → Part A → Type 0
PartIsSmall All = ⊤
PartIsSmall (Points points) = Each (λ point. TimeIsSmall point.time) points

-- the times of a released capability are numbers of 32 bits
abbrev pub TimesAreSmall : Time → Option Later → Type 0
TimesAreSmall t None = TimeIsSmall t
TimesAreSmall t (Some to) = TimeIsSmall t × TimeIsSmall to.time

-- the times of a batch, its port and the processor that it names are numbers of 32 bits, and its values fit 64 bits
pub record BatchIsSmall {A : Type 0} (b : Batch A) : Type 0 where
  pub time : TimeIsSmall b.time
  pub at : IfSome b.at TimeIsSmall
  pub port : IsSmall b.port
  pub values : Each IsValue b.values
  pub dest : IfSome b.dest IsSmall

-- the epoch to which a feed moves its token is a number of 32 bits
abbrev pub NextIsSmall : Afterwards → Type 0
NextIsSmall (token.To n) = IsSmall n
NextIsSmall token.Next = ⊤
NextIsSmall token.Close = ⊤
NextIsSmall token.Stay = ⊤

-- processors, epochs and counters fit 32 bits, and values fit 64 bits, as their types say
abbrev pub NumbersFit : {A : Type 0} → Step A → Type 0
NumbersFit (Feed p vertex values next) = IsSmall p × (Each IsValue values × NextIsSmall next)
NumbersFit (Take p _ time value) = IsSmall p × TimeIsSmall time × IsValue value
NumbersFit (Notice p _ time) = IsSmall p × TimeIsSmall time
NumbersFit (Release p _ times) = IsSmall p × TimesAreSmall times.time times.to
NumbersFit (Send p _ batch) = IsSmall p × BatchIsSmall batch
NumbersFit (Broadcast p part) = IsSmall p × PartIsSmall part
NumbersFit (Receive from to) = IsSmall from × IsSmall to
