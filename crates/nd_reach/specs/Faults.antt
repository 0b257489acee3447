-- When a question for what can still happen is refused, and how a reply reports it.
use Rattle.std.specs.Prelude.{◌≡◌, ◌⊎◌, ℕ, ◌<◌, ◌≤◌, codes}
use Rattle.nd_time.specs.Code.{Code, coded}
use Rattle.nd_time.specs.Limits.{max_reached}
use Rattle.nd_protocol.specs.Refusals as refusals
use Rattle.nd_protocol.specs.declared.refusal.Refusal.TheVariants as refusal
use Rattle.nd_reach.specs.declared.fault.ReachFault.{ReachFault}
use Rattle.nd_reach.specs.declared.fault.ReachFault.TheVariants.{BadRange, Memory}

-- a question may be for 1 state and up to 1,000,000
pub record MayReach (limit : ℕ) : Type 0 where
  pub some : 0 < limit
  pub within : limit ≤ max_reached

-- why a question is not answered
abbrev pub CannotReach : ℕ → ReachFault → Type 0
CannotReach limit BadRange = (limit ≡ 0) ⊎ (max_reached < limit)
CannotReach limit Memory = MayReach limit

-- the code of an error
abbrev pub code_of_reach : ReachFault → Code
code_of_reach BadRange = coded 50 (codes "BadRange")
code_of_reach Memory = refusals.code_of refusal.Memory
