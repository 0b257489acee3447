-- The run to rest, step by step.
use Rattle.std.proofs.Common.{◌≡◌, ◌≤◌, ◌+◌, ◌⊎◌, inl, inr, ℕ, zero, suc, List, [], ◌∷◌, ◌++◌, length, length-append, None, Some, refl, sym, ap, subst, ◌∙◌, arith}
use Rattle.std.proofs.lemmas.List.{length-set}
use Rattle.nd_delta.specs.Delta.{DeltaValue}
use Rattle.nd_protocol.specs.State.{ClusterState, queue}
use Rattle.nd_protocol.specs.Exchange.{sent, received, received_from}
use Rattle.nd_protocol.specs.Fitting.{IsState}
use Rattle.nd_protocol.specs.declared.step.Step.TheVariants.{Feed, Take, Notice, Release, Send, Broadcast, Receive}
use Rattle.nd_protocol.specs.Steps.{stepped, after}
use Rattle.nd_protocol.specs.declared.step.Step.{Step}
use Rattle.nd_cluster.specs.Order.{IsNext}
use Rattle.nd_at_rest.specs.Run.{AreFirst, IsIdle}
use Rattle.nd_at_rest.specs.Going.{Advances, HasGone}
use Rattle.std.specs.Prelude.{true, false}

-- ---- as many processors

received_views : (s : ClusterState) (from to : ℕ) (changes : List DeltaValue) → length (received_from s from to changes).views ≡ length s.views
received_views s from to [] = refl
received_views s from to (c ∷ rest) = length-set s.views to _

stepped_views : {A : Type 0} (s : ClusterState) (x : Step A) → length (stepped s x).views ≡ length s.views
unfolding stepped sent received
stepped_views s (Feed p vertex values _) = refl
stepped_views s (Take p edge t value) = refl
stepped_views s (Notice p vertex t) = refl
stepped_views s (Release p vertex times) = refl
stepped_views s (Send p vertex batch) = refl
stepped_views s (Broadcast p part) = refl
stepped_views s (Receive from to) = received_views s from to (queue s from to)

after_views : {A : Type 0} (s : ClusterState) (xs : List (Step A)) → length (after s xs).views ≡ length s.views
unfolding after
after_views s [] = refl
after_views s (x ∷ xs) = after_views (stepped s x) xs ∙ stepped_views s x

-- the state after a run has as many processors
pub as_many : {A : Type 0} (s t : ClusterState) (xs : List (Step A)) → IsState s → IsState t → t ≡ after s xs → length s.processors ≡ length t.processors
as_many s t xs state there leads = sym state.fits.each_view ∙ (sym (after_views s xs) ∙ (ap (λ (u : ClusterState). length u.views) (sym leads) ∙ there.fits.each_view))

-- ---- one more step

pub after_one_more : {A : Type 0} (s : ClusterState) (xs : List (Step A)) (x : Step A) → after s (xs ++ x ∷ []) ≡ stepped (after s xs) x
unfolding after
after_one_more s [] x = refl
after_one_more s (y ∷ xs) x = after_one_more (stepped s y) xs x

-- one more step, at the turn after those of the others
first_one_more : {A : Type 0} (s : ClusterState) (turn : ℕ) (xs : List (Step A)) (x : Step A) → AreFirst s turn xs → IsNext (after s xs) (turn + length xs) None (Some x)
    → AreFirst s turn (xs ++ x ∷ [])
unfolding after
first_one_more s turn [] x first next = (subst (λ n. IsNext s n None (Some x)) (omega arith) next, tt)
first_one_more s turn (y ∷ xs) x first next =
    (first.0, first_one_more (stepped s y) (suc turn) xs x first.1 (subst (λ n. IsNext (after (stepped s y) xs) n None (Some x)) (omega arith) next))

module _ {A : Type 0} (s : ClusterState) (turn : ℕ) where
  pub not_gone : HasGone A s turn 0 s 0
  unfolding after
  not_gone = record { steps = []; count = refl; first = tt; leads = refl; within = omega arith; idle = inl refl }

  pub gone_on : (n : ℕ) (t u : ClusterState) → HasGone A s turn n t n → Advances A (turn + n) t u true → HasGone A s turn (n + 1) u (n + 1)
  gone_on n t u gone (x, next, made) = record {
    steps = gone.steps ++ x ∷ [];
    count = length-append gone.steps (x ∷ []) ∙ ap (λ k. k + 1) gone.count;
    first = first_one_more s turn gone.steps x gone.first
        (subst (λ k. IsNext (after s gone.steps) (turn + k) None (Some x)) (sym gone.count) (subst (λ v. IsNext v (turn + n) None (Some x)) gone.leads next));
    leads = made ∙ ap (λ v. stepped v x) gone.leads ∙ sym (after_one_more s gone.steps x);
    within = omega arith;
    idle = inl refl;
  }

  -- the run ends, since no candidate is enabled
  pub gone_idle : (limit n : ℕ) (t u : ClusterState) → n ≤ limit → HasGone A s turn n t n → Advances A (turn + n) t u false → HasGone A s turn limit u n
  gone_idle limit n t u within gone (idle, same) = record {
    steps = gone.steps;
    count = gone.count;
    first = gone.first;
    leads = same ∙ gone.leads;
    within = within;
    idle = inr (subst (IsIdle A) (sym same) idle);
  }

  -- the run ends, since it has executed as many steps as it may
  pub gone_whole : (limit n : ℕ) (t : ClusterState) → n ≡ limit → HasGone A s turn n t n → HasGone A s turn limit t limit
  gone_whole limit n t is gone = subst (λ k. HasGone A s turn k t k) is gone
