-- States in which nothing is unsent and no queue holds anything: each view is the truth, and the core determines the state.
use Rattle.std.proofs.Common.{◌≡◌, ℕ, zero, suc, ◌<◌, ℤ, pos, ◌+ℤ◌, List, [], ◌∷◌, length, refl, sym, ap, subst, ◌∙◌, arith}
use Rattle.std.proofs.lemmas.Int.{ints}
use Rattle.std.proofs.lemmas.List.{ext_get_or}
use Rattle.std.proofs.lemmas.List.Elements.{All-get_or}
use Rattle.std.specs.Prelude.{slice_index_or}
use Rattle.nd_paths.specs.declared.point.Pointstamp.{Pointstamp}
use Rattle.nd_delta.specs.Delta.{DeltaValue, none, plus, at as in_change, at-none, at-plus, same}
use Rattle.nd_processor.specs.State.{ProcessorState}
use Rattle.nd_protocol.specs.State.{ClusterState, processor, view, queue, truth}
use Rattle.nd_protocol.specs.Fitting.{IsState}
use Rattle.nd_protocol.specs.Invariant.{IsSettled, KeepsProtocol, sum_of, pending, total}
use Rattle.nd_rest.proofs.Firings.{nth}
use Rattle.nd_rest.proofs.Moving.{core}

-- nothing is unsent, and all queues are empty
pub record IsHeard (s : ClusterState) : Type 0 where
  pub unsent : (p : ℕ) → (processor s p).unsent ≡ none
  pub queues : (p q : ℕ) → queue s p q ≡ []

-- ---- views

total_zero : (n : ℕ) (f : ℕ → ℤ) → ((p : ℕ) → f p ≡ pos 0) → total n f ≡ pos 0
total_zero zero f h = refl
total_zero (suc n) f h =
    let before : total n f ≡ pos 0 = total_zero n f h in
    let last : f n ≡ pos 0 = h n in
    omega (arith, ints)

nothing_pending : (c : DeltaValue) (cs : List DeltaValue) (x : Pointstamp) → c ≡ none → cs ≡ [] → in_change (plus (sum_of cs) c) x ≡ pos 0
nothing_pending c cs x no_change no_queue =
    (λ i. in_change (plus (sum_of (no_queue i)) (no_change i)) x) ∙ at-plus none none x
    ∙ (let zero_there : in_change none x ≡ pos 0 = at-none x in let e : in_change none x +ℤ in_change none x ≡ pos 0 = omega (arith, ints) in e)

-- the core of processors that have sent everything is all of them
bare_all : (qs : List ProcessorState) → ((k : ℕ) → (nth qs k).unsent ≡ none) → core qs ≡ qs
bare_all [] sent = refl
bare_all (q ∷ qs) sent = λ i. record q { unsent = sym (sent 0) i } ∷ bare_all qs (λ k. sent (suc k)) i

-- where all is heard, each view is the truth
pub view_is_truth : (s : ClusterState) → IsSettled s → IsHeard s → (q : ℕ) → q < length s.processors → (x : Pointstamp) → in_change (view s q) x ≡ in_change (truth s.processors) x
view_is_truth s settled rest q lt x =
    let balance = settled.balance q lt x in
    let none_pending : total (length s.processors) (λ p. in_change (pending s p q 0) x) ≡ pos 0
    = total_zero (length s.processors) (λ p. in_change (pending s p q 0) x) (λ p. nothing_pending (processor s p).unsent (queue s p q) x (rest.unsent p) (rest.queues p q)) in
    omega (arith, ints)

-- ---- states with the same core

same_views : (s t : ClusterState) → IsSettled s → IsSettled t → IsHeard s → IsHeard t → s.processors ≡ t.processors
    → length s.views ≡ length s.processors → length t.views ≡ length t.processors → s.views ≡ t.views
same_views s t settled settled' rest rest' same_ps many many' =
    let few : length s.processors ≡ length t.processors = ap length same_ps in
    ext_get_or none s.views t.views (many ∙ few ∙ sym many') (λ q lt.
    let here : q < length s.processors = subst (λ n. q < n) many lt in
    let there : q < length t.processors = subst (λ n. q < n) few here in
    same (view s q) (view t q) (λ x.
    view_is_truth s settled rest q here x ∙ ap (λ ps. in_change (truth ps) x) same_ps ∙ sym (view_is_truth t settled' rest' q there x)))

same_queues : (s t : ClusterState) → IsState s → IsState t → IsHeard s → IsHeard t → length s.processors ≡ length t.processors → s.queues ≡ t.queues
same_queues s t state state' rest rest' few =
    ext_get_or [] s.queues t.queues (state.fits.each_sender ∙ few ∙ sym state'.fits.each_sender) (λ p lt.
    let row : List (List DeltaValue) = slice_index_or s.queues p [] in
    let row' : List (List DeltaValue) = slice_index_or t.queues p [] in
    let lt' : p < length t.queues = subst (λ n. p < n) (state.fits.each_sender ∙ few ∙ sym state'.fits.each_sender) lt in
    let many : length row ≡ length s.processors = All-get_or (λ r. length r ≡ length s.processors) s.queues p [] lt state.fits.each_receiver in
    let many' : length row' ≡ length t.processors = All-get_or (λ r. length r ≡ length t.processors) t.queues p [] lt' state'.fits.each_receiver in
    ext_get_or [] row row' (many ∙ few ∙ sym many') (λ q _. rest.queues p q ∙ sym (rest'.queues p q)))

pub same_heard : (s t : ClusterState) → IsState s → IsState t → KeepsProtocol s → KeepsProtocol t → IsHeard s → IsHeard t → s.graph ≡ t.graph → core s.processors ≡ core t.processors → s ≡ t
same_heard s t state state' keeps keeps' rest rest' graphs cores =
    let ps : s.processors ≡ t.processors = sym (bare_all s.processors rest.unsent) ∙ cores ∙ bare_all t.processors rest'.unsent in
    let views : s.views ≡ t.views = same_views s t keeps.settled keeps'.settled rest rest' ps state.fits.each_view state'.fits.each_view in
    let queues : s.queues ≡ t.queues = same_queues s t state state' rest rest' (ap length ps) in
    λ i. record { graph = graphs i; processors = ps i; views = views i; queues = queues i }
