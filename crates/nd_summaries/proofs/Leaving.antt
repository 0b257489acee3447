-- The arcs by the locations that they leave.
use Rattle.std.proofs.Common.{◌≡◌, inl, inr, ℕ, zero, suc, ◌+◌, ◌<◌, ◌≤◌, List, [], ◌∷◌, ◌++◌, length, get_or, refl, sym, ◌∙◌, ap, subst, arith}
use Rattle.std.specs.Prelude.{All, Vec}
use Rattle.std.proofs.lemmas.Bool.{cases_lt}
use Rattle.std.proofs.lemmas.Bool.Decides.{eqb_tells}
use Rattle.std.proofs.lemmas.List.{get_or_append_left, get_or_push, length_push}
use Rattle.std.proofs.lemmas.List.Elements.{All-weaker}
use Rattle.nd_graph.specs.declared.graph.Arc.{Arc}
use Rattle.nd_graph.specs.Graph.{ArcAgrees, Dataflow, arcs, depths}
use Rattle.nd_summaries.specs.Row.{leaving, AreLeaving}

-- the rows of the first n locations
pub record LeavingFirst {A : Type 0} (xs : List Arc) (rows : List (Vec Arc A)) (n : ℕ) : Type 0 where
  pub count : length rows ≡ n
  pub each : (l : ℕ) (d : Vec Arc A) → l < n → (get_or rows l d).items ≡ leaving l xs

pub LeavingFirst-more : {A : Type 0} (xs : List Arc) (rows new : List (Vec Arc A)) (row : Vec Arc A) (n : ℕ) → LeavingFirst xs rows n → row.items ≡ leaving n xs → new ≡ rows ++ row ∷ [] → LeavingFirst xs new (n + 1)
LeavingFirst-more xs rows new row n h k e =
    subst (λ r. LeavingFirst xs r (n + 1)) (sym e) (record {
      count = length_push rows row ∙ ap (λ m. m + 1) h.count;
      each = λ l d low. elim (cases_lt l n) [
        | inl old ↦ ap (λ v. v.items) (get_or_append_left rows (row ∷ []) d l (omega (arith, h.count))) ∙ h.each l d old
        | inr new' ↦ (let same : n ≡ l = omega arith in ap (λ v. v.items) (get_or_push rows row d l (omega (arith, h.count))) ∙ k ∙ ap (λ m. leaving m xs) same)
      ];
    })

pub AreLeaving-all : {A : Type 0} (g : Dataflow) (rows : List (Vec Arc A)) (n : ℕ) → All (ArcAgrees (depths g)) (arcs g) → n ≡ length (depths g) → LeavingFirst (arcs g) rows n → AreLeaving (arcs g) rows
AreLeaving-all g rows n agree e h = record {
  each = λ l d low. h.each l d (omega (arith, h.count));
  within = All-weaker (ArcAgrees (depths g)) (λ x. x.from < length rows) (λ x a. omega (arith, a.from, h.count)) (arcs g) agree;
}

-- no arc leaves a location past the last
pub leaving_none : (xs : List Arc) (count l : ℕ) → All (λ x. x.from < count) xs → count ≤ l → leaving l xs ≡ []
leaving_none [] count l h past = refl
leaving_none (x ∷ xs) count l h past =
    elim (eqb_tells x.from l) [
      | inl t ↦ absurd (omega (arith, t.1, h zero x (omega arith)))
      | inr f ↦ rw f.0 (leaving_none xs count l (λ k d low. h (suc k) d (omega arith)) past)
    ]
