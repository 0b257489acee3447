-- Steps that wait for users.
use Rattle.nd_protocol.specs.State.{ClusterState}
use Rattle.nd_protocol.specs.Steps.{point_at}
use Rattle.nd_protocol.specs.declared.step.Step.{Step}
use Rattle.nd_protocol.specs.declared.step.Step.TheVariants.{Feed, Take, Notice, Release, Send, Broadcast, Receive}
use Rattle.nd_rest.specs.Rest.{Waits}

abbrev pub IsNotice : {A : Type 0} → Step A → Type 0
IsNotice (Notice p vertex t) = Unit {0}
IsNotice _ = ⊥

-- the step is a notice that is refused because something before it is outstanding, or because the request is a held capability
abbrev pub IsWaiting : {A : Type 0} → ClusterState → Step A → Type 0
IsWaiting {A} s (Notice p vertex t) = Waits A s p (point_at vertex t)
IsWaiting s (Feed p vertex values _) = ⊥
IsWaiting s (Take p edge t value) = ⊥
IsWaiting s (Release p vertex times) = ⊥
IsWaiting s (Send p vertex batch) = ⊥
IsWaiting s (Broadcast p part) = ⊥
IsWaiting s (Receive from to) = ⊥
