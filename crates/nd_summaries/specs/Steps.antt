-- The summary of a walk, arc by arc.
use Rattle.std.specs.Prelude.{ℕ, ◌+◌, ◌-◌, ◌≤◌, All, Bool, ◌==◌, ◌&&◌, true, false, nat_le, List, [], ◌∷◌, length, slice_index}
use Rattle.std.specs.Ordering.{nat_cmp, is_le, ordering_then}
use Rattle.std.specs.Cmp.Lexicographic.{slice_cmp}
use Rattle.nd_time.specs.Limits.{max_depth}
use Rattle.nd_graph.specs.declared.op.Action.{Action}
use Rattle.nd_graph.specs.declared.op.Action.TheVariants.{Identity, Ingress, Egress, Feedback}
use Rattle.nd_graph.specs.declared.graph.Arc.{Arc}
use Rattle.nd_graph.specs.Graph.{Dataflow, acted, depths}
use Rattle.nd_time.specs.declared.order.TimeOrder.{TimeOrder}
use Rattle.nd_time.specs.declared.order.TimeOrder.TheVariants.{Lexicographic, Product}
use Rattle.nd_summaries.specs.declared.summary.Summary.{Summary}

-- a walk keeps 0 to max_depth counters
abbrev pub keeps : ℕ
keeps = max_depth + 1

-- the summary of the empty walk from a location of this depth
abbrev pub identity : ℕ → Summary
identity depth = record { keep = depth; add = 0; constants = [] }

-- the summary that keeps r counters, adds a and appends k, followed by one action
abbrev pub then_act : Action → ℕ → ℕ → List ℕ → Summary
then_act Identity r a k = record { keep = r; add = a; constants = k }
then_act Ingress r a k = record { keep = r; add = a; constants = acted Ingress k }
then_act Egress r a [] = record { keep = r - 1; add = 0; constants = [] }
then_act Egress r a (x ∷ k) = record { keep = r; add = a; constants = acted Egress (x ∷ k) }
then_act Feedback r a [] = record { keep = r; add = a + 1; constants = [] }
then_act Feedback r a (x ∷ k) = record { keep = r; add = a; constants = acted Feedback (x ∷ k) }

-- a summary followed by one action
abbrev pub step : Action → Summary → Summary
step act s = then_act act s.keep s.add s.constants

-- a summary followed by a walk
abbrev pub after : List Arc → Summary → Summary
after [] s = s
after (x ∷ w) s = after w (step x.action s)

-- the summary of a walk from a location
abbrev pub summary_of : Dataflow → ℕ → List Arc → Summary
summary_of g a w = after w (identity (slice_index (depths g) a))

-- no number of the summary is above m
abbrev pub IsWithin : ℕ → Summary → Type 0
IsWithin m s = (s.add ≤ m) × All (λ x. x ≤ m) s.constants

-- ---- whether one summary is at most another

-- each number of xs is at most the one of ys at its place
abbrev pub each_at_most : List ℕ → List ℕ → Bool
each_at_most [] [] = true
each_at_most [] (y ∷ ys) = false
each_at_most (x ∷ xs) [] = false
each_at_most (x ∷ xs) (y ∷ ys) = nat_le x y && each_at_most xs ys

abbrev pub adds_at_most : TimeOrder → Summary → Summary → Bool
adds_at_most Lexicographic s t = is_le (ordering_then (nat_cmp s.add t.add) (slice_cmp nat_cmp s.constants t.constants))
adds_at_most Product s t = nat_le s.add t.add && each_at_most s.constants t.constants

abbrev pub at_most : TimeOrder → Summary → Summary → Bool
at_most order s t = (s.keep == t.keep) && ((length s.constants == length t.constants) && adds_at_most order s t)
