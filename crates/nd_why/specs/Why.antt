-- Why a processor does not consider a pointstamp finished (based on FORTE 2013).
use Rattle.std.specs.Prelude.{◌≡◌, ◌<◌, ◌+ℤ◌, ℕ, zero, suc, ℤ, pos, negsuc, cond, List, [], ◌∷◌, ◌++◌, Contains, length, map, slice_index_or, sum_by}
use Rattle.std.specs.List.{flat_map, Any}
use Rattle.std.specs.FinMap as fin
use Rattle.nd_graph.specs.Graph.{Dataflow}
use Rattle.nd_map.specs.Counts.{entries as numbers}
use Rattle.nd_paths.specs.Order.{CouldResultIn}
use Rattle.nd_paths.specs.declared.point.Pointstamp.{Pointstamp}
use Rattle.nd_delta.specs.Delta.{DeltaValue, none, at, is_point, entries}
use Rattle.nd_view.specs.declared.extent.Extent.{Extent}
use Rattle.nd_view.specs.View.{IsBefore, IsOnFrontier, IsPartWhere}
use Rattle.nd_processor.specs.State.{ProcessorState, idle, token_point}
use Rattle.nd_processor.specs.declared.key.ValueAt.{ValueAt}
use Rattle.nd_protocol.specs.State.{ClusterState, processor, view, queue, truth}
use Rattle.nd_why.specs.Account.{Account}
use Rattle.nd_why.specs.declared.answer.Held.{Held}
use Rattle.nd_why.specs.declared.answer.Held.TheVariants.{Records, Request, Token}
use Rattle.nd_why.specs.declared.answer.Unheard.{Unheard}
use Rattle.nd_why.specs.declared.answer.Unheard.TheVariants.{Unsent, Queued}
use Rattle.nd_why.specs.declared.question.Question.{Question}

-- f 0, then f 1, ..., then f (n - 1)
abbrev pub in_turn : {X : Type 0} → ℕ → (ℕ → List X) → List X
in_turn zero f = []
in_turn (suc n) f = in_turn n f ++ f n

-- ---- what is held at b

-- x, if its pointstamp is b; otherwise nothing
abbrev pub if_at : {X : Type 0} → Pointstamp → Pointstamp → X → List X
if_at b point x = cond (is_point b point) (x ∷ []) []

-- the records of processor p at b
abbrev pub records_at : ℕ → ProcessorState → Pointstamp → List Held
records_at p r b = flat_map (λ e. if_at b e.0.point (Records p e.0.value e.1)) (numbers r.records)

-- the request of processor p at b
abbrev pub requests_at : ℕ → ProcessorState → Pointstamp → List Held
requests_at p r b = flat_map (λ x. if_at b x (Request p)) (fin.keys r.requests)

-- the token of processor p at b
abbrev pub tokens_at : ℕ → ProcessorState → Pointstamp → List Held
tokens_at p r b = flat_map (λ e. if_at b (token_point e.0 e.1) (Token p)) (fin.entries r.tokens)

-- all that processor p holds at b
unfoldable pub held_by : ℕ → ProcessorState → Pointstamp → List Held
held_by p r b = records_at p r b ++ (requests_at p r b ++ tokens_at p r b)

-- all that is held at b, by processor
abbrev pub held_at : List ProcessorState → Pointstamp → List Held
held_at processors b = in_turn (length processors) (λ p. held_by p (slice_index_or processors p idle) b)

-- ---- the updates of b that q has not received

-- x, or nothing if n is 0
abbrev pub unless_zero : {X : Type 0} → ℤ → X → List X
unless_zero (pos zero) x = []
unless_zero (pos (suc n)) x = x ∷ []
unless_zero (negsuc n) x = x ∷ []

-- the update of b in the change behind k others in a queue from processor p, if it has one
abbrev pub queued_behind : ℕ → List DeltaValue → Pointstamp → ℕ → List Unheard
queued_behind p changes b k = unless_zero (at (slice_index_or changes k none) b) (Queued p k (at (slice_index_or changes k none) b))

-- all updates of b in such a queue, from front to back
abbrev pub queued_at : ℕ → List DeltaValue → Pointstamp → List Unheard
queued_at p changes b = in_turn (length changes) (queued_behind p changes b)

-- the updates of b from processor p: in what is unsent, and then in the queue
unfoldable pub unheard_from : ℕ → DeltaValue → List DeltaValue → Pointstamp → List Unheard
unheard_from p unsent changes b = unless_zero (at unsent b) (Unsent p (at unsent b)) ++ queued_at p changes b

-- all updates of b that q has not received, by sender
abbrev pub unheard_at : ClusterState → ℕ → Pointstamp → List Unheard
unheard_at s q b = in_turn (length s.processors) (λ p. unheard_from p (processor s p).unsent (queue s p q) b)

-- ---- what is outstanding

-- some pointstamp before t has a number above 0
pub record HasBefore (g : Dataflow) (extent : Extent) (t : Pointstamp) (count : Pointstamp → ℕ) : Type 0 where
  pub point : Pointstamp
  pub before : IsBefore g extent point t
  pub some : 0 < count point

-- the processor has a record before t; `RequestBefore` and `TokenBefore` are the same for requests and tokens
abbrev pub RecordBefore : Dataflow → Extent → Pointstamp → ProcessorState → Type 0
RecordBefore g extent t q =
    Any (λ (e : ValueAt × ℕ). IsBefore g extent e.0.point t) (numbers q.records)

abbrev pub RequestBefore : Dataflow → Extent → Pointstamp → ProcessorState → Type 0
RequestBefore g extent t q =
    Any (λ (e : Pointstamp × Unit {0}). IsBefore g extent e.0 t) (fin.entries q.requests)

abbrev pub TokenBefore : Dataflow → Extent → Pointstamp → ProcessorState → Type 0
TokenBefore g extent t q =
    Any (λ (e : ℕ × ℕ). IsBefore g extent (token_point e.0 e.1) t) (fin.entries q.tokens)

-- nothing outstanding is before t
abbrev pub IsFinishedBefore : ClusterState → Extent → Pointstamp → Type 0
IsFinishedBefore s extent t =
    (x : Pointstamp) → IsBefore s.graph extent x t → at (truth s.processors) x ≡ pos 0

-- ---- the reasons

-- the account of the reason b of processor q
abbrev pub account : ClusterState → ℕ → Pointstamp → Account
account s q b = record { point = b; held = held_at s.processors b; unheard = unheard_at s q b; view = at (view s q) b }

-- b is on the frontier of the view v, and before t
pub record IsReason (g : Dataflow) (v : DeltaValue) (extent : Extent) (t b : Pointstamp) : Type 0 where
  pub frontier : IsOnFrontier g v b
  pub before : IsBefore g extent b t

-- the accounts are those of the reasons why the asked processor does not consider everything before the asked pointstamp finished,
-- in the order of listing
abbrev pub IsWhy : ClusterState → Question → List Account → Type 0
IsWhy s asked accounts =
    (reasons : DeltaValue)
    × IsPartWhere (IsReason s.graph (view s asked.q) asked.extent asked.point) (view s asked.q) reasons
    × (accounts ≡ map (λ e. account s asked.q e.0) (entries reasons))

-- some account is of a pointstamp at or before x
pub record HasReasonBefore (g : Dataflow) (accounts : List Account) (x : Pointstamp) : Type 0 where
  pub reason : Account
  pub among : Contains accounts reason
  pub before : CouldResultIn g reason.point x

-- ---- what the numbers say

-- how many records, requests or tokens a value of `Held` stands for
abbrev pub amount : Held → ℕ
amount (Records p value n) = n
amount (Request p) = 1
amount (Token p) = 1

-- how much an update adds to the count of its pointstamp
abbrev pub number : Unheard → ℤ
number (Unsent p n) = n
number (Queued p behind n) = n

-- the sum of the updates' numbers
abbrev pub news : List Unheard → ℤ
news [] = pos 0
news (u ∷ us) = number u +ℤ news us

-- what the account lists as held is all that is outstanding at its pointstamp
abbrev pub IsCounted : ClusterState → Account → Type 0
IsCounted s a = at (truth s.processors) a.point ≡ pos (sum_by amount a.held)

-- the view's count plus the updates not received is what is held
abbrev pub IsBalanced : Account → Type 0
IsBalanced a = (a.view +ℤ news a.unheard) ≡ pos (sum_by amount a.held)
