-- The number and the name by which a reply reports an error.
use Rattle.std.specs.Prelude.{ℕ, List}

-- the number and the name of an error
pub record Code : Type 0 where
  pub number : ℕ
  pub name : List ℕ

-- the code with this number and this name
abbrev pub coded : ℕ → List ℕ → Code
coded number name = record { number = number; name = name }
