-- What each operator does on a record and on a notification.
use Rattle.std.specs.Prelude.{ℕ, zero, suc, ℤ, pos, negsuc, ◌+ℤ◌, ◌*ℤ◌, int_lt, Bool, true, false, cond, not, List, [], ◌∷◌}
use Rattle.std.specs.Ordering.{eq_by_cmp}
use Rattle.nd_map.specs.Counts.{at, added, set, only}
use Rattle.nd_time.specs.Time.{Time}
use Rattle.nd_graph.specs.Graph.{action_of, acted}
use Rattle.nd_graph.specs.Operators.{facts}
use Rattle.nd_graph.specs.declared.op.Op.{Op}
use Rattle.nd_graph.specs.declared.op.Op.TheVariants.{Input, Ingress, Egress, Feedback, Add, Mul, Below, Split, Sum, Distinct, Hold, Opaque, Sink}
use Rattle.nd_time.specs.Listing.{time_cmp}
use Rattle.nd_vertex.specs.Items.{Items, item_key, item_total}
use Rattle.nd_vertex.specs.declared.key.ItemKey.{ItemKey}

-- what a vertex does
pub record Outcome : Type 0 where
  -- the ports and the values that it emits
  pub emissions : List (ℕ × ℤ)
  -- its items afterwards
  pub items : Items
  -- whether it makes a request
  pub asks : Bool
  -- whether it counts the value
  pub counts : Bool

-- an outcome with these items and emissions, and nothing else
abbrev pub emits : Items → List (ℕ × ℤ) → Outcome
emits items es = record { emissions = es; items = items; asks = false; counts = false }

abbrev pub is_zero : ℤ → Bool
is_zero (pos zero) = true
is_zero (pos (suc n)) = false
is_zero (negsuc n) = false

-- the items at other timestamps
abbrev pub without_time : Items → Time → Items
without_time items t = only item_total (λ (k : ItemKey). not (eq_by_cmp time_cmp k.time t)) items

-- what an operator emits on a record of value v, if that does not depend on its items
abbrev pub plain_emissions : Op → ℤ → List (ℕ × ℤ)
plain_emissions Input v = []
plain_emissions Ingress v = (0, v) ∷ []
plain_emissions Egress v = (0, v) ∷ []
plain_emissions Feedback v = (0, v) ∷ []
plain_emissions (Add k) v = (0, v +ℤ k) ∷ []
plain_emissions (Mul k) v = (0, v *ℤ k) ∷ []
plain_emissions (Below k) v = cond (int_lt v k) ((0, v) ∷ []) []
plain_emissions (Split k) v = (cond (int_lt v k) 0 1, v) ∷ []
plain_emissions Hold v = (0, v) ∷ []
plain_emissions Sink v = []
-- what an opaque vertex emits, a send says
plain_emissions (Opaque ports starts) v = []
-- sum and distinct depend on the items, see below
plain_emissions Sum v = []
plain_emissions Distinct v = []

-- what an operator emits on a record of value v at timestamp t, and its items afterwards
abbrev pub reacted : Op → Items → Time → ℤ → List (ℕ × ℤ) × Items
-- a sum is stored as the number of item 0
reacted Sum items t v = ([], added item_total items (item_key t (pos 0)) v)
-- a value that is there already has no effect
reacted Distinct items t v =
    let is_new = is_zero (at items (item_key t v)) in
    (cond is_new ((0, v) ∷ []) [], cond is_new (set item_total items (item_key t v) (pos 1)) items)
-- any other operator has no items
reacted op items t v = (plain_emissions op v, items)

-- what a vertex does on a record of value v at timestamp t; whether it makes a request or counts depends on the operator only
abbrev pub on_record : Op → Items → Time → ℤ → Outcome
on_record op items t v =
    let reaction = reacted op items t v in
    record { emissions = reaction.0; items = reaction.1; asks = (facts op).asks; counts = (facts op).counts }

-- what a vertex does on a notification at timestamp t
abbrev pub on_notice : Op → Items → Time → Outcome
on_notice Sum items t =
    let sum = at items (item_key t (pos 0)) in
    emits (set item_total items (item_key t (pos 0)) (pos 0)) (cond (is_zero sum) [] ((0, sum) ∷ []))
on_notice Distinct items t = emits (without_time items t) []
on_notice op items t = emits items []

-- the timestamp of what a vertex emits
abbrev pub time_past : Op → Time → Time
time_past op t = record { epoch = t.epoch; counters = acted (action_of op) t.counters }
