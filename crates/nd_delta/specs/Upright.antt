-- Upright changes, for any order R of points.
use Rattle.std.specs.Prelude.{ℤ, pos, ◌<ℤ◌, ◌⊎◌}

-- strictly before x there is a point at which f is negative, or one that is held
abbrev pub IsSupported : {P : Type 0} → (P → P → Type 0) → (P → Type 0) → (P → ℤ) → P → Type 0
IsSupported {P} R H f x = (y : P) × R y x × ((f y <ℤ pos 0) ⊎ H y)

-- each point at which f is positive is supported
abbrev pub IsUpright : {P : Type 0} → (P → P → Type 0) → (P → Type 0) → (P → ℤ) → Type 0
IsUpright {P} R H f = (x : P) → pos 0 <ℤ f x → IsSupported R H f x

-- f is positive at x, and x is not supported
pub record IsUnsupported {P : Type 0} (R : P → P → Type 0) (H : P → Type 0) (f : P → ℤ) (x : P) : Type 0 where
  pub positive : pos 0 <ℤ f x
  pub alone : IsSupported R H f x → ⊥
