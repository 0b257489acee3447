-- What the workers return, after all are joined.
use Rattle.std.proofs.Common.{◌≡◌, ◌∙◌, ◌<◌, ℕ, List, [], ◌∷◌, ◌++◌, All, Some, get_or, length, slice_get, inl, inr, arith, sym, ap, subst}
use Rattle.std.proofs.lemmas.Option.{slice_get_cases, slice_get-get_or}
use Rattle.std.specs.Fork.{GivesJobs}
use denote.Param.Members.{Shared}
use Rattle.nd_history.specs.Works.{IsWork, AreNumbered}
use Rattle.nd_history.specs.declared.work.Job.{Job}
use Rattle.nd_history.specs.declared.work.Team.{Team}
use Rattle.nd_history.specs.declared.work.Work.{Work}
use Rattle.nd_history.proofs.Elements.{slice_get-snoc}

found : {X : Type 0} (xs : List X) (i : ℕ) (x : X) → slice_get xs i ≡ Some x → (i < length xs) × (get_or xs i x ≡ x)
found xs i x at =
    elim (slice_get_cases xs i).1 [
      | inl c ↦ let same : c.0 ≡ x = cc (sym c.2 ∙ at) in (c.1, subst (λ y. get_or xs i y ≡ y) same c.3)
      | inr c ↦ absurd (cc (sym c.1 ∙ at))
    ]

placed : {X : Type 0} (xs : List X) (i : ℕ) (x : X) → i < length xs → ((d : X) → get_or xs i d ≡ x) → slice_get xs i ≡ Some x
placed xs i x lt is =
    elim (slice_get_cases xs i).1 [
      | inl c ↦ c.2 ∙ ap Some (sym c.3 ∙ is c.0)
      | inr c ↦ absurd (omega (arith, lt, c.0))
    ]

pub none_numbered : {A : Type 0} (jobs : List (Job A)) → jobs ≡ [] → AreNumbered jobs
none_numbered jobs none = subst AreNumbered (sym none) (λ i job at. absurd cc)

-- one more job, with the next number
pub numbered_more : {A : Type 0} (jobs more : List (Job A)) (job : Job A) → more ≡ jobs ++ job ∷ [] → job.number ≡ length jobs → AreNumbered jobs → AreNumbered more
numbered_more jobs more job is next numbered =
    subst AreNumbered (sym is) (λ i x at. elim (slice_get-snoc jobs job i x at) [
      | inl p ↦ numbered i x p.1
      | inr p ↦ sym (ap (λ j. j.number) p.1) ∙ (next ∙ sym p.0)
    ])

module _ {A : Type 0} where
  -- what holds of each work holds of all
  pub all_of : (P : Work A → Type 0) (works : List (Work A)) → ((who : ℕ) (w : Work A) → slice_get works who ≡ Some w → P w) → All P works
  all_of P works each k d lt = each k (get_or works k d) (slice_get-get_or works k d lt)

-- each worker's work, with the worker's index as its number
module _ {A F G : Type 0} (call : Shared F (Job A × Unit {0}) (Work A)) (f : F) (team : Team A G) (Called : ℕ → ℕ → Type 0) where
  pub each_work : (jobs : List (Job A)) (works : List (Work A)) → length works ≡ length jobs → GivesJobs call f jobs works
      → ((job : Job A) (w : Work A) → call.post f (job, tt) w → IsWork team (Called job.number) w)
      → AreNumbered jobs → (who : ℕ) (w : Work A) → slice_get works who ≡ Some w → IsWork team (Called who) w
  each_work jobs works same gives ensures numbered who w at =
      let here = found works who w at in
      let lt : who < length jobs = omega (arith, same, here.0) in
      let given = (gives who w lt).1 in
      let number : given.job.number ≡ who = numbered who given.job (placed jobs who given.job lt given.job_is) in
      let made : IsWork team (Called given.job.number) (get_or works who w) = ensures given.job _ given.call.met in
      subst (λ (n : ℕ). IsWork team (Called n) w) number (subst (λ (x : Work A). IsWork team (Called given.job.number) x) here.1 made)
