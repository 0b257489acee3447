-- What is known about two locations decides between pointstamps there.
use Rattle.std.proofs.Common.{◌≡◌, ◌≢◌, ◌<◌, ◌≤◌, ℕ, not, eqb, List, [], ◌∷◌, length, Some, refl, sym, ap, ◌∙◌, arith, true≢false}
use Rattle.std.specs.Prelude.{IsTrue}
use Rattle.std.proofs.lemmas.Bool.{eq-eqb, ne_eqb}
use Rattle.nd_graph.specs.Graph.{Dataflow}
use Rattle.nd_paths.specs.Order.{CouldResultIn, IsStrictlyBefore}
use Rattle.nd_paths.specs.declared.point.Pointstamp.{Pointstamp}
use Rattle.nd_view.specs.Links.{IsEpochal}
use Rattle.nd_view.proofs.Nearest.{beside}
use Rattle.nd_view.proofs.TimeOrder.{before_itself}

pub none_of : (c : List ℕ) → length c ≡ 0 → c ≡ []
none_of [] e = refl
none_of (x ∷ c) e = absurd (omega (arith, e))

-- a later epoch is strictly after, where epochs alone decide
pub after : (g : Dataflow) (s t : Pointstamp) → IsEpochal g s.location t.location → s.time.counters ≡ [] → t.time.counters ≡ [] → s.time.epoch < t.time.epoch → IsStrictlyBefore g s t
after g s t epochal outside outside_t less = (epochal s t refl refl outside outside_t (omega (arith, less)), λ same. omega (arith, less, ap (λ p. p.time.epoch) same))

-- no point with counters is after one without, where epochs alone decide
pub never_after : (g : Dataflow) (s t : Pointstamp) → IsEpochal g s.location t.location → s.time.counters ≡ [] → (t.time.counters ≡ [] → ⊥) → IsStrictlyBefore g s t → ⊥
never_after g s t epochal outside some before =
    let there = epochal s (record { location = t.location; time = record { epoch = s.time.epoch; counters = [] } }) refl refl outside refl (omega arith) in
    some (none_of t.time.counters (let same : Some (length t.time.counters) ≡ Some 0 = sym before.0.fits_t.depth ∙ there.fits_t.depth in cc))

-- a point that is after something is before another one at its location with a later epoch, if neither has counters
pub beside_it : (g : Dataflow) (x s t : Pointstamp) → CouldResultIn g x s → s.location ≡ t.location → s.time.counters ≡ [] → t.time.counters ≡ [] → s.time.epoch ≤ t.time.epoch → s ≢ t → IsStrictlyBefore g s t
beside_it g x s t could place outside outside_t rise other = (
  beside g s s t place (outside ∙ sym outside_t) rise (record { fits_s = could.fits_t; fits_t = could.fits_t; walk = []; leads = refl; before = before_itself g.order s.time }),
  other,
)

-- pointstamps that agree are equal
pub one : (s t : Pointstamp) → s.location ≡ t.location → s.time.epoch ≡ t.time.epoch → s.time.counters ≡ t.time.counters → s ≡ t
one s t place epoch counters = λ i. record { location = place i; time = record { epoch = epoch i; counters = counters i } }

-- what the code's test whether two numbers differ says
pub unlike : (a b : ℕ) → (IsTrue (not (eqb a b)) → a ≡ b → ⊥) × ((a ≡ b → ⊥) → IsTrue (not (eqb a b)))
unlike a b = (λ yes e. true≢false (sym yes ∙ ap not (eq-eqb a b e)), λ other. ap not (ne_eqb a b other))
