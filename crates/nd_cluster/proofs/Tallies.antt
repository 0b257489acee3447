-- How many requests and tokens of one processor are at a pointstamp, by lookups.
use Rattle.std.proofs.Common.{◌≡◌, ◌+◌, ℕ, Bool, true, false, cond, List, [], ◌∷◌, Option, Some, None, refl, sym, ap, ◌∙◌, arith}
use Rattle.std.proofs.lemmas.Cmp.{tied_itself, nat_cmp_total}
use Rattle.std.proofs.lemmas.List.Sums.{sum_by-cons}
use Rattle.std.proofs.lemmas.Map.Views.{tells_apart}
use Rattle.std.specs.Ordering.{nat_cmp, is_eq}
use Rattle.std.specs.FinMap as fin
use Rattle.nd_paths.specs.Point.{point_cmp, point_total, point_exact}
use Rattle.nd_paths.specs.declared.point.Pointstamp.{Pointstamp}
use Rattle.nd_map.specs.Weights.{weight}
use Rattle.nd_delta.specs.Delta.{is_point}
use Rattle.nd_processor.specs.State.{Requests, token_point, one_at, in_requests, in_tokens}
use Rattle.nd_processor.specs.Held.{token_at}
use Rattle.nd_processor.specs.HeldLaws.{sum_by-map, one_at_itself, in_requests-remove, in_tokens-remove}

-- ---- requests

one_absent : (b : Bool) (r : Option (Unit {0})) → cond b (Some tt) r ≡ None → (◌≡◌ {A = ℕ} (cond b 1 0) 0) × (r ≡ None)
one_absent true r e = absurd (cc)
one_absent false r e = (refl, e)

none_found : (x : Pointstamp) (es : List (Pointstamp × Unit {0})) → fin.find point_cmp x es ≡ None → weight (λ k (u : Unit {0}). one_at k x) es ≡ 0
none_found x [] e = refl
none_found x (d ∷ es) e =
    let h = one_absent (is_eq (point_cmp x d.0)) (fin.find point_cmp x es) e in
    sum_by-cons (λ (d : Pointstamp × Unit {0}). one_at d.0 x) d es ∙ (λ i. h.0 i + none_found x es h.1 i)

pub no_request : (s : Requests) (x : Pointstamp) → fin.get s x ≡ None → in_requests s x ≡ 0
no_request s x e = sum_by-map (λ k. one_at k x) (λ (e : Pointstamp × Unit {0}). e.0) (fin.entries s) ∙ none_found x (fin.entries s) (sym (fin.get-entries s x) ∙ e)

pub one_request : (s : Requests) (x : Pointstamp) → fin.get s x ≡ Some tt → in_requests s x ≡ 1
one_request s x e =
    let gone : fin.get (fin.remove s x) x ≡ None = fin.get-remove point_total s x x ∙ ap (λ r. cond (is_eq r) None (fin.get s x)) (tied_itself point_total x) in
    sym (in_requests-remove s x x e) ∙ (λ i. no_request (fin.remove s x) x gone i + one_at_itself x i)

not_there : (o : Option (Unit {0})) → (o ≡ Some tt → ⊥) → o ≡ None
not_there None h = refl
not_there (Some u) h = absurd (h refl)

pub missing_request : (s : Requests) (x : Pointstamp) → (fin.get s x ≡ Some tt → ⊥) → in_requests s x ≡ 0
missing_request s x h = no_request s x (not_there (fin.get s x) h)

-- ---- tokens

other_vertex : (x : Pointstamp) (v e : ℕ) → is_eq (nat_cmp x.location v) ≡ false → one_at (token_point v e) x ≡ 0
other_vertex x v e off =
    elim (is_point x (token_point v e)) as (λ b. is_point x (token_point v e) ≡ b → ◌≡◌ {A = ℕ} (cond b 1 0) 0) [
      | true ↦ λ t.
          let same : x.location ≡ v = ap (λ (p : Pointstamp). p.location) (tells_apart point_exact x (token_point v e) t) in
          absurd (let no : true ≡ false = ap is_eq (sym (tied_itself nat_cmp_total v)) ∙ ap (λ l. is_eq (nat_cmp l v)) (sym same) ∙ off in cc)
      | false ↦ λ t. refl
    ] refl

token_absent : (b : Bool) (n : ℕ) (r : Option ℕ) → cond b (Some n) r ≡ None → (b ≡ false) × (r ≡ None)
token_absent true n r e = absurd (cc)
token_absent false n r e = (refl, e)

no_vertex : (x : Pointstamp) (es : List (ℕ × ℕ)) → fin.find nat_cmp x.location es ≡ None → weight (λ v e. one_at (token_point v e) x) es ≡ 0
no_vertex x [] e = refl
no_vertex x (d ∷ es) e =
    let h = token_absent (is_eq (nat_cmp x.location d.0)) d.1 (fin.find nat_cmp x.location es) e in
    sum_by-cons (λ (d : ℕ × ℕ). one_at (token_point d.0 d.1) x) d es ∙ (λ i. other_vertex x d.0 d.1 h.0 i + no_vertex x es h.1 i)

no_token : (m : fin.FinMap nat_cmp ℕ) (x : Pointstamp) → fin.get m x.location ≡ None → in_tokens m x ≡ 0
no_token m x e = no_vertex x (fin.entries m) (sym (fin.get-entries m x.location) ∙ e)

-- only the token of the pointstamp's vertex counts
pub one_token : (m : fin.FinMap nat_cmp ℕ) (x : Pointstamp) → in_tokens m x ≡ token_at x.location (fin.get m x.location) x
one_token m x =
    let gone : fin.get (fin.remove m x.location) x.location ≡ None = fin.get-remove nat_cmp_total m x.location x.location ∙ ap (λ r. cond (is_eq r) None (fin.get m x.location)) (tied_itself nat_cmp_total x.location) in
    let moved = in_tokens-remove m x.location x in
    let none : in_tokens (fin.remove m x.location) x ≡ 0 = no_token (fin.remove m x.location) x gone in
    omega arith
