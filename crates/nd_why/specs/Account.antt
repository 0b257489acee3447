-- The account of a reason.
use Rattle.std.specs.Prelude.{ℤ, List}
use Rattle.nd_paths.specs.declared.point.Pointstamp.{Pointstamp}
use Rattle.nd_why.specs.declared.answer.Held.{Held}
use Rattle.nd_why.specs.declared.answer.Unheard.{Unheard}

-- the pointstamp of a reason, what is held there, the updates of it that the processor has not received, and its view's count
pub record Account : Type 0 where
  pub point : Pointstamp
  pub held : List Held
  pub unheard : List Unheard
  pub view : ℤ
