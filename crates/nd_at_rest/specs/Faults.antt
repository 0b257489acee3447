-- When a question for what is left at rest is refused, and how a reply reports it.
use Rattle.std.specs.Prelude.{◌≡◌, ◌⊎◌, ℕ, ◌<◌, ◌≤◌, codes}
use Rattle.nd_time.specs.Code.{Code, coded}
use Rattle.nd_time.specs.Limits.{max_kept}
use Rattle.nd_protocol.specs.Refusals as refusals
use Rattle.nd_protocol.specs.declared.refusal.Refusal.TheVariants as refusal
use Rattle.nd_at_rest.specs.declared.fault.RestFault.{RestFault}
use Rattle.nd_at_rest.specs.declared.fault.RestFault.TheVariants.{BadRange, Memory}

-- the run to rest may have 1 step and up to 1,000,000, as many as a timeline may keep
pub record MayRun (limit : ℕ) : Type 0 where
  pub some : 0 < limit
  pub within : limit ≤ max_kept

-- why a question is not answered
abbrev pub CannotAnswer : ℕ → RestFault → Type 0
CannotAnswer limit BadRange = (limit ≡ 0) ⊎ (max_kept < limit)
CannotAnswer limit Memory = MayRun limit

-- the code of an error
abbrev pub code_of_rest : RestFault → Code
code_of_rest BadRange = coded 50 (codes "BadRange")
code_of_rest Memory = refusals.code_of refusal.Memory
