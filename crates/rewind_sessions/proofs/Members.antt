-- A map of members without one of its keys.
use Rattle.std.proofs.Common.{◌≡◌, ◌∙◌, ℕ, List, [], ◌∷◌, String, Global, Bool, true, false, cond, bytes_eq, nat_cmp, string_bytes, refl, ap}
use Rattle.std.specs.Prelude.{if◌then◌else◌}
use Rattle.std.specs.BTreeMap.{is_at}
use Rattle.std.specs.Cmp.Lexicographic.{slice_cmp}
use Rattle.std.specs.Map.{remove_entry}
use Rattle.std.proofs.lemmas.Map.Text.{is_eq-slice_cmp}
use Rattle.serde_json.specs.Data.{member}
use Rattle.serde_json.specs.View.{view, members_view}
use Rattle.serde_json.proofs.Views.{Entry}
use Rattle.rewind_sessions.specs.Numbers.{without_member}

-- the test of a key
abbrev pub test : List ℕ → String Global → Bool
test key = is_at (λ k. slice_cmp nat_cmp key (string_bytes k))

chosen : (b : Bool) (e : Entry) (es rest : List Entry) → members_view (cond b es (e ∷ rest)) ≡ if b then members_view es else member (string_bytes e.0) (view e.1) (members_view rest)
chosen true e es rest = refl
chosen false e es rest = refl

pub members_view-removed : (key : List ℕ) (es : List Entry) → members_view (remove_entry (test key) es) ≡ without_member key (members_view es)
members_view-removed key [] = refl
members_view-removed key (e ∷ es) =
    chosen (test key e.0) e es (remove_entry (test key) es)
    ∙ (ap (λ b. if b then members_view es else member (string_bytes e.0) (view e.1) (members_view (remove_entry (test key) es))) (is_eq-slice_cmp key (string_bytes e.0))
    ∙ ap (λ ms. if bytes_eq key (string_bytes e.0) then members_view es else member (string_bytes e.0) (view e.1) ms) (members_view-removed key es))
