-- Conditions: when an atom, a literal and a condition of several literals hold of a cluster.
use Rattle.std.specs.Prelude.{◌≡◌, ◌↔◌, ℕ, ◌<◌, ◌≤◌, ◌⊎◌, ℤ, pos, ◌≤ℤ◌, List, [], ◌∷◌, ◌++◌, length, All, Any, refl}
use Rattle.std.proofs.Common.{inl, inr}
use Rattle.std.specs.Coded.{Coded, code_by, coded×, coded⊎, coded_ℕ, coded_ℤ, coded_list}
use base.Stored.{coded_unit}
use Rattle.nd_graph.specs.Graph.{location_count}
use Rattle.nd_paths.specs.Point.{point_code}
use Rattle.nd_paths.specs.declared.point.Pointstamp.{Pointstamp}
use Rattle.nd_delta.specs.Delta.{at}
use Rattle.nd_view.specs.View.{IsPassed}
use Rattle.nd_processor.specs.State.{held}
use Rattle.nd_protocol.specs.State.{ClusterState, processor, view, queue, truth}
use Rattle.nd_protocol.specs.Invariant.{IsFinished}
use Rattle.nd_cluster.specs.Sinks.{sunk}
use Rattle.nd_breaks.specs.declared.condition.Atom.{Atom}
use Rattle.nd_breaks.specs.declared.condition.Atom.TheVariants.{Passed, Count, Queue, Sink, Finished, View, Held}
use Rattle.nd_breaks.specs.declared.condition.Literal.{Literal}
use Rattle.nd_breaks.specs.declared.condition.Literal.TheVariants.{Is, Not}
use Rattle.nd_breaks.specs.declared.condition.Quantifier.{Quantifier}
use Rattle.nd_breaks.specs.declared.condition.Quantifier.TheVariants as quantifier

-- ---- conditions

-- a quantifier and a list of literals
pub record ConditionValue : Type 0 where
  pub quantifier : Quantifier
  pub literals : List Literal

-- the condition with one literal
abbrev pub condition_of : Quantifier → Literal → ConditionValue
condition_of quantifier literal = record { quantifier = quantifier; literals = literal ∷ [] }

-- the condition with one more literal at the end
abbrev pub with_literal : ConditionValue → Literal → ConditionValue
with_literal c literal = record { quantifier = c.quantifier; literals = c.literals ++ literal ∷ [] }

-- ---- when they hold

-- an atom holds of a cluster: the processors, the vertex and the location that it names exist, and what it
-- states is true
abbrev pub AtomHolds : ClusterState → Atom → Type 0
AtomHolds s (Passed q point) = (q < length s.processors) × (point.location < location_count s.graph) × IsPassed s.graph (view s q) point
AtomHolds s (Count point at_least) = (point.location < location_count s.graph) × (pos at_least ≤ℤ at (truth s.processors) point)
AtomHolds s (Queue from to at_least) = (from < length s.processors) × (to < length s.processors) × (at_least ≤ length (queue s from to))
AtomHolds s (Sink vertex value at_least) = (vertex < length s.graph.vertices) × (at_least ≤ sunk s.processors vertex value)
AtomHolds s (Finished point) = (point.location < location_count s.graph) × IsFinished s point
AtomHolds s (View q point at_least) = (q < length s.processors) × (point.location < location_count s.graph) × (at_least ≤ℤ at (view s q) point)
AtomHolds s (Held p point at_least) = (p < length s.processors) × (point.location < location_count s.graph) × (at_least ≤ held (processor s p) point)

-- `Is` holds if its atom holds, `Not` if its atom does not
abbrev pub LiteralHolds : ClusterState → Literal → Type 0
LiteralHolds s (Is atom) = AtomHolds s atom
LiteralHolds s (Not atom) = AtomHolds s atom → ⊥

-- all of the literals hold, or at least one does
abbrev pub AreMet : ClusterState → Quantifier → List Literal → Type 0
AreMet s quantifier.All literals = All (LiteralHolds s) literals
AreMet s quantifier.Any literals = Any (LiteralHolds s) literals

-- a condition holds of a cluster
abbrev pub Holds : ClusterState → ConditionValue → Type 0
Holds s c = AreMet s c.quantifier c.literals

-- the condition holds of exactly those clusters of which the literal holds
abbrev pub HoldsAs : ConditionValue → Literal → Type 0
HoldsAs c literal = (s : ClusterState) → Holds s c ↔ LiteralHolds s literal

-- ---- codes

-- the parts of an atom, by its kind
abbrev pub AtomParts : Type 0
AtomParts = (((ℕ × Pointstamp) ⊎ (Pointstamp × ℕ)) ⊎ ((ℕ × (ℕ × ℕ)) ⊎ (ℕ × (ℤ × ℕ)))) ⊎ (Pointstamp ⊎ ((ℕ × (Pointstamp × ℤ)) ⊎ (ℕ × (Pointstamp × ℕ))))

abbrev pub atom_parts : Atom → AtomParts
atom_parts (Passed q point) = inl (inl (inl (q, point)))
atom_parts (Count point at_least) = inl (inl (inr (point, at_least)))
atom_parts (Queue from to at_least) = inl (inr (inl (from, (to, at_least))))
atom_parts (Sink vertex value at_least) = inl (inr (inr (vertex, (value, at_least))))
atom_parts (Finished point) = inr (inl point)
atom_parts (View q point at_least) = inr (inr (inl (q, (point, at_least))))
atom_parts (Held p point at_least) = inr (inr (inr (p, (point, at_least))))

abbrev pub atom_of : AtomParts → Atom
atom_of (inl (inl (inl t))) = Passed t.0 t.1
atom_of (inl (inl (inr t))) = Count t.0 t.1
atom_of (inl (inr (inl t))) = Queue t.0 t.1.0 t.1.1
atom_of (inl (inr (inr t))) = Sink t.0 t.1.0 t.1.1
atom_of (inr (inl point)) = Finished point
atom_of (inr (inr (inl t))) = View t.0 t.1.0 t.1.1
atom_of (inr (inr (inr t))) = Held t.0 t.1.0 t.1.1

abbrev pub atom_back : (a : Atom) → atom_of (atom_parts a) ≡ a
atom_back (Passed q point) = refl
atom_back (Count point at_least) = refl
atom_back (Queue from to at_least) = refl
atom_back (Sink vertex value at_least) = refl
atom_back (Finished point) = refl
atom_back (View q point at_least) = refl
atom_back (Held p point at_least) = refl

abbrev pub atom_code : Coded Atom
atom_code =
    code_by AtomParts
    (coded⊎ (coded⊎ (coded⊎ (coded× coded_ℕ point_code) (coded× point_code coded_ℕ))
    (coded⊎ (coded× coded_ℕ (coded× coded_ℕ coded_ℕ)) (coded× coded_ℕ (coded× coded_ℤ coded_ℕ))))
    (coded⊎ point_code (coded⊎ (coded× coded_ℕ (coded× point_code coded_ℤ)) (coded× coded_ℕ (coded× point_code coded_ℕ)))))
    atom_parts
    atom_of
    atom_back

abbrev pub literal_parts : Literal → Atom ⊎ Atom
literal_parts (Is atom) = inl atom
literal_parts (Not atom) = inr atom

abbrev pub literal_of : Atom ⊎ Atom → Literal
literal_of (inl atom) = Is atom
literal_of (inr atom) = Not atom

abbrev pub literal_back : (l : Literal) → literal_of (literal_parts l) ≡ l
literal_back (Is atom) = refl
literal_back (Not atom) = refl

abbrev pub literal_code : Coded Literal
literal_code = code_by (Atom ⊎ Atom) (coded⊎ atom_code atom_code) literal_parts literal_of literal_back

abbrev pub quantifier_parts : Quantifier → Unit {0} ⊎ Unit {0}
quantifier_parts quantifier.All = inl tt
quantifier_parts quantifier.Any = inr tt

abbrev pub quantifier_of : Unit {0} ⊎ Unit {0} → Quantifier
quantifier_of (inl _) = quantifier.All
quantifier_of (inr _) = quantifier.Any

abbrev pub quantifier_back : (q : Quantifier) → quantifier_of (quantifier_parts q) ≡ q
quantifier_back quantifier.All = refl
quantifier_back quantifier.Any = refl

abbrev pub quantifier_code : Coded Quantifier
quantifier_code = code_by (Unit {0} ⊎ Unit {0}) (coded⊎ coded_unit coded_unit) quantifier_parts quantifier_of quantifier_back

abbrev pub condition_code : Coded ConditionValue
condition_code =
    code_by (Quantifier × List Literal) (coded× quantifier_code (coded_list literal_code))
    (λ c. (c.quantifier, c.literals)) (λ t. record { quantifier = t.0; literals = t.1 }) (λ _. refl)
