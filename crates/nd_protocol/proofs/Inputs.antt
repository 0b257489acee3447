-- In a graph without errors inputs are outside all loops, and the number of locations is limited.
use Rattle.std.proofs.Common.{◌≡◌, ℕ, zero, suc, ◌≤◌, Bool, true, false, cond, ◌||◌, List, [], ◌∷◌, ◌++◌, map, Option, Some, None, refl, ap, subst, arith}
use Rattle.std.proofs.lemmas.Bool.Decides.{nat_tests}
use Rattle.std.specs.Prelude.{nat_lt, slice_get}
use Rattle.std.specs.Option.{option_map_or}
use Rattle.std.specs.List.{list_any}
use Rattle.nd_graph.specs.declared.op.Op.TheVariants.{Input, Sink}
use Rattle.nd_graph.specs.declared.fault.GraphFault.{GraphFault}
use Rattle.nd_graph.specs.declared.fault.GraphFault.TheVariants.{BadPort, DepthMismatch, TooLarge}
use Rattle.nd_graph.specs.declared.graph.Vertex.{Vertex}
use Rattle.nd_graph.specs.Graph.{Dataflow, depth_past_vertex, op_at, location_count}
use Rattle.nd_graph.specs.Checked.{has_bad_port, is_misplaced, is_misplaced_at, misses_depth, has_depth_mismatch, is_too_large, is_too_deep, leads_too_deep, fault_of, IsFaultless}
use Rattle.nd_summaries.specs.Walk.{HasDepth}
use Rattle.nd_time.specs.Limits.{max_depth, max_locations}
use Rattle.std.proofs.lemmas.Bool.{or_parts}

-- inputs are outside all loops
abbrev pub AreInputsFlat : Dataflow → Type 0
AreInputsFlat g = (l : ℕ) → op_at g l ≡ Input → HasDepth g l 0

third_none : (a b c : Bool) → ◌≡◌ {A = Option GraphFault} (cond a (Some BadPort) (cond b (Some DepthMismatch) (cond c (Some TooLarge) None))) None → c ≡ false
third_none true b c e = absurd (cc)
third_none false true c e = absurd (cc)
third_none false false true e = absurd (cc)
third_none false false false e = refl

second_none : (a b c : Bool) → ◌≡◌ {A = Option GraphFault} (cond a (Some BadPort) (cond b (Some DepthMismatch) (cond c (Some TooLarge) None))) None → b ≡ false
second_none true b c e = absurd (cc)
second_none false true c e = absurd (cc)
second_none false false c e = refl

not_deep : (d : ℕ) → nat_lt 0 d ≡ false → d ≡ 0
not_deep d e = grind (arith, nat_tests, e)

flat_at : (vs : List Vertex) (rest : List ℕ) (l : ℕ) → list_any is_misplaced vs ≡ false → option_map_or (λ v. v.op) (slice_get vs l) Sink ≡ Input → slice_get (map (λ v. v.depth) vs ++ rest) l ≡ Some 0
flat_at [] rest l right is = absurd (cc)
flat_at (v ∷ vs) rest zero right is = ap Some (not_deep v.depth (or_parts (nat_lt 0 v.depth) false (subst (λ o. is_misplaced_at o v.depth ≡ false) is (or_parts (is_misplaced v) (list_any is_misplaced vs) right).0)).0)
flat_at (v ∷ vs) rest (suc l) right is = flat_at vs rest l (or_parts (is_misplaced v) (list_any is_misplaced vs) right).1 is

pub inputs_flat : (g : Dataflow) → IsFaultless g → AreInputsFlat g
unfolding fault_of has_depth_mismatch
inputs_flat g sound l is =
    let agree : has_depth_mismatch g ≡ false = second_none (list_any (has_bad_port g.vertices) g.edges) (has_depth_mismatch g) (is_too_large max_depth max_locations g) sound.faultless in
    flat_at g.vertices (map (λ e. depth_past_vertex g.vertices e.from) g.edges) l (or_parts (list_any is_misplaced g.vertices) (list_any (misses_depth g.vertices) g.edges) agree).0 is

not_more : (m n : ℕ) → nat_lt m n ≡ false → n ≤ m
not_more m n e = grind (arith, nat_tests, e)

-- the number of locations is within its limit
pub few_locations : (g : Dataflow) → IsFaultless g → location_count g ≤ max_locations
unfolding fault_of is_too_large
few_locations g sound =
    let small : is_too_large max_depth max_locations g ≡ false = third_none (list_any (has_bad_port g.vertices) g.edges) (has_depth_mismatch g) (is_too_large max_depth max_locations g) sound.faultless in
    not_more max_locations (location_count g) (or_parts (nat_lt max_locations (location_count g)) (list_any (is_too_deep max_depth) g.vertices || list_any (leads_too_deep max_depth g.vertices) g.edges) small).0
