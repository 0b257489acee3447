-- Forms among forms.
use Rattle.std.proofs.Common.{◌≡◌, ℕ, Bool, true, false, List, refl, sym}
use Rattle.std.specs.Prelude.{Contains, nat_eq}
use Rattle.std.specs.List.{list_any}
use Rattle.std.specs.Cmp.Lexicographic.{pointwise, same_text, nat_list_eq_equiv}
use Rattle.std.proofs.lemmas.Map.Views.{list_any-from_Contains, Contains-from_any}

-- whether a list of forms has one
abbrev pub has_form : List ℕ → List (List ℕ) → Bool
has_form f forms = list_any (λ g. pointwise nat_eq f g) forms

pub form_there : (f : List ℕ) (forms : List (List ℕ)) → Contains forms f → has_form f forms ≡ true
form_there f forms h = list_any-from_Contains nat_list_eq_equiv f forms h

pub there_form : (f : List ℕ) (forms : List (List ℕ)) → has_form f forms ≡ true → Contains forms f
there_form f forms h = Contains-from_any {eq = pointwise nat_eq} (λ x y e. same_text x y (sym e)) f forms h

pub form_absent : (f : List ℕ) (forms : List (List ℕ)) → (Contains forms f → ⊥) → has_form f forms ≡ false
form_absent f forms not = by_test (has_form f forms) refl
  where
    by_test : (b : Bool) → has_form f forms ≡ b → has_form f forms ≡ false
    by_test true h = absurd (not (there_form f forms h))
    by_test false h = h
