-- The values of a feed, held in place or in memory of their own.
use Rattle.std.specs.Prelude.{List, ℤ}
use Rattle.nd_protocol.specs.declared.values.Held.{Held}
use Rattle.nd_protocol.specs.declared.values.Held.TheVariants.{Few, Many}

-- the values, in their order
abbrev pub held_in : {A : Type 0} → Held A → List ℤ
held_in (Few _ few) = few.items
held_in (Many many) = many.items
