-- The client that a line names.
use Rattle.std.specs.Prelude.{ℕ, List, codes, Option, option_map, if◌then◌else◌}
use Rattle.std.specs.Str.{bytes_eq}
use Rattle.serde_json.specs.Data.{Data, null, boolean, number, string, array, object, Members, no_members, member}
use Rattle.nd_json.specs.Forms.{whole_at}

-- the members without the member of this key
abbrev pub without_member : List ℕ → Members → Members
without_member key no_members = no_members
without_member key (member k d ms) = if bytes_eq key k then ms else member k d (without_member key ms)

-- an object without the member of this key
abbrev pub without : List ℕ → Data → Data
without key null = null
without key (boolean b) = boolean b
without key (number n) = number n
without key (string s) = string s
without key (array ds) = array ds
without key (object ms) = object (without_member key ms)

-- a client's number, and the line without it
pub record Named : Type 0 where
  pub client : ℕ
  pub rest : Data

-- the client that a line names, if it names one by an integer from 0 to 2^64 - 1
abbrev pub named_of : Data → Option Named
named_of d = option_map (λ n. record { client = n; rest = without (codes "client") d }) (whole_at (codes "client") d)
