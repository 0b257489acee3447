-- The changes of a feed whose values arrive one by one: on one edge, at one processor, in the order in which they are fed.
use Rattle.std.specs.Prelude.{ℕ, ℤ, pos, negsuc, ◌-ℤ◌, cond, nat_eq, List, [], ◌∷◌, ◌++◌, length, map}
use Rattle.nd_protocol.specs.Steps.{flat, point_at, record_key}
use Rattle.nd_protocol.specs.declared.step.Step.{Step}
use Rattle.nd_protocol.specs.declared.step.Step.TheVariants.{Feed, Take, Notice, Release, Send, Broadcast, Receive}
use Rattle.nd_steps.specs.Changes.{at_key}
use Rattle.nd_steps.specs.Drafts.{some_of}
use Rattle.nd_steps.specs.declared.change.Change.{Change}
use Rattle.nd_steps.specs.declared.slot.Slot.TheVariants.{Records, Token, Unsent}
use Rattle.nd_steps.specs.declared.fed_at.FedAt.{FedAt}

-- a value arrives
abbrev pub arrived : FedAt → ℤ → Change
arrived f v = at_key f.to (Records (record_key f.edge (flat f.epoch) v)) (pos 1)

-- the pointstamp of n records that arrive is added to what p has to send
abbrev pub announced : FedAt → ℕ → ℕ → List Change
announced f p n = some_of (at_key p (Unsent (point_at f.edge (flat f.epoch))) (pos n))

-- the token of p's vertex moves, if it moves, and n records are announced; what is removed from what is unsent comes first, or
-- last if the feed is late
abbrev pub moved : FedAt → ℕ → ℕ → ℕ → List Change
moved f p vertex n =
    let token : Change = at_key p (Token vertex) (pos f.next -ℤ pos f.epoch) in
    let goes : Change = at_key p (Unsent (point_at vertex (flat f.epoch))) (negsuc 0) in
    let comes : Change = at_key p (Unsent (point_at vertex (flat f.next))) (pos 1) in
    cond (nat_eq f.next f.epoch) (announced f p n)
    (token ∷ cond f.late (comes ∷ announced f p n ++ goes ∷ []) (goes ∷ comes ∷ announced f p n))

-- the changes of a feed, in the order in which they are applied; none if the step is not a feed
abbrev pub keyed_feed : {A : Type 0} → Step A → FedAt → List Change
keyed_feed (Feed p vertex values _) f = map (arrived f) values ++ moved f p vertex (length values)
keyed_feed (Take p edge t value) f = []
keyed_feed (Notice p vertex t) f = []
keyed_feed (Release p vertex times) f = []
keyed_feed (Send p vertex batch) f = []
keyed_feed (Broadcast p part) f = []
keyed_feed (Receive from to) f = []
