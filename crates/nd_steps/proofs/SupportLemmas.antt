-- The pointstamps that support are those of the tokens that a processor holds, and of the capabilities that it holds at vertices
-- whose capabilities support; so they support the same entries.
use Rattle.std.proofs.Common.{◌≡◌, ◌≢◌, ◌<◌, ◌+◌, ℕ, zero, suc, ℤ, pos, Bool, true, false, cond, List, [], ◌∷◌, ◌++◌, length, map, get_or, Option, Some, None, inl, inr, append_assoc, refl, sym, ap, subst, ◌∙◌, arith, true≢false}
use Rattle.std.specs.Prelude.{Contains, IfSome, filter, sum_by}
use Rattle.std.proofs.lemmas.Int.{ints}
use Rattle.std.proofs.lemmas.List.Sums.{sum_by-cons, sum_by-append}
use Rattle.std.specs.FinMap as fin
use Rattle.nd_graph.specs.Graph.{Dataflow}
use Rattle.nd_paths.specs.Order.{IsStrictlyBefore}
use Rattle.nd_paths.specs.declared.point.Pointstamp.{Pointstamp}
use Rattle.nd_delta.specs.Delta.{DeltaValue, none, at, minus, at-none}
use Rattle.nd_delta.specs.Least.{IsLeast}
use Rattle.nd_delta.specs.Upright.{IsSupported, IsUpright, IsUnsupported}
use Rattle.nd_processor.specs.State.{ProcessorState, token_point, one_at}
use Rattle.nd_processor.specs.Edits.{token_points}
use Rattle.nd_processor.specs.HeldLaws.{point_cases, one_at_itself, sum_by-map}
use Rattle.nd_protocol.specs.Invariant.{supporting, Supports}
use Rattle.nd_steps.specs.Refusals.{supports_at, supporting_points, LeavesUpright, LeavesAlone}

-- ---- how often a pointstamp is in a list

abbrev many : List Pointstamp → Pointstamp → ℕ
many xs x = sum_by (λ (y : Pointstamp). one_at y x) xs

among : (x : Pointstamp) (xs : List Pointstamp) → 0 < many xs x → Contains xs x
among x [] h = absurd (omega arith)
among x (y ∷ ys) h =
    elim (point_cases x y) [
      | inl is ↦ (0, omega arith, sym is)
      | inr nothing ↦
          let s = sum_by-cons (λ (z : Pointstamp). one_at z x) y ys in
          let rest : Contains ys x = among x ys (omega arith) in
          (suc rest.0, omega (arith, rest.1), rest.2)
    ]

at_one : (x : Pointstamp) (xs : List Pointstamp) (k : ℕ) → k < length xs → get_or xs k x ≡ x → 0 < many xs x
at_one x [] k lt is = absurd (omega arith)
at_one x (y ∷ ys) zero lt is =
    let s = sum_by-cons (λ (z : Pointstamp). one_at z x) y ys in
    let one : one_at y x ≡ 1 = ap (λ (z : Pointstamp). one_at z x) is ∙ one_at_itself x in
    omega arith
at_one x (y ∷ ys) (suc k) lt is =
    let s = sum_by-cons (λ (z : Pointstamp). one_at z x) y ys in
    let rest = at_one x ys k (omega arith) is in
    omega arith

-- one pointstamp more or less: b says whether the test keeps it, c whether it keeps those that are counted
one_kept : (b c : Bool) (one rest kept : ℕ) → (b ≢ c → one ≡ 0) → kept ≡ cond c rest 0 → cond b (one + kept) kept ≡ cond c (one + rest) 0
one_kept true true one rest kept other is = ap (λ n. one + n) is
one_kept true false one rest kept other is = let none : one ≡ 0 = other true≢false in omega arith
one_kept false true one rest kept other is = let none : one ≡ 0 = other (λ e. true≢false (sym e)) in omega arith
one_kept false false one rest kept other is = is

module _ (keeps : Pointstamp → Bool) (x : Pointstamp) where
  none_either : (b : Bool) → ◌≡◌ {A = ℕ} 0 (cond b 0 0)
  none_either true = refl
  none_either false = refl

  many-cond : (b : Bool) (y : Pointstamp) (ys : List Pointstamp) → many (cond b (y ∷ ys) ys) x ≡ cond b (one_at y x + many ys x) (many ys x)
  many-cond true y ys = sum_by-cons (λ (z : Pointstamp). one_at z x) y ys
  many-cond false y ys = refl

  -- a pointstamp at another place counts nothing
  apart : (y : Pointstamp) → keeps y ≢ keeps x → one_at y x ≡ 0
  apart y other = elim (point_cases x y) [ inl is ↦ absurd (other (ap keeps (sym is))) | inr nothing ↦ nothing ]

  many-filter : (xs : List Pointstamp) → many (filter keeps xs) x ≡ cond (keeps x) (many xs x) 0
  many-filter [] = none_either (keeps x)
  many-filter (y ∷ ys) =
      many-cond (keeps y) y (filter keeps ys)
      ∙ one_kept (keeps y) (keeps x) (one_at y x) (many ys x) (many (filter keeps ys) x) (apart y) (many-filter ys)
      ∙ ap (λ n. cond (keeps x) n 0) (sym (sum_by-cons (λ (z : Pointstamp). one_at z x) y ys))

-- ---- the pointstamps that support

many_supporting : (g : Dataflow) (q : ProcessorState) (x : Pointstamp) → many (supporting_points g q) x ≡ supporting g q x
many_supporting g q x =
    sum_by-append (λ (y : Pointstamp). one_at y x) (token_points q) (filter (supports_at g) (fin.keys q.requests))
    ∙ (λ i. sum_by-map (λ (y : Pointstamp). one_at y x) (λ (e : ℕ × ℕ). token_point e.0 e.1) (fin.entries q.tokens) i + many-filter (supports_at g) x (fin.keys q.requests) i)

pub supports : (g : Dataflow) (q : ProcessorState) (x : Pointstamp) → Contains (supporting_points g q) x → Supports g q x
supports g q x inside = subst (λ n. 0 < n) (many_supporting g q x) (at_one x (supporting_points g q) inside.0 inside.1 inside.2)

pub among_supporting : (g : Dataflow) (q : ProcessorState) (x : Pointstamp) → Supports g q x → Contains (supporting_points g q) x
among_supporting g q x some = among x (supporting_points g q) (subst (λ n. 0 < n) (sym (many_supporting g q x)) some)

-- ---- support by two equal sets of held points

supported : (R : Pointstamp → Pointstamp → Type 0) (H K : Pointstamp → Type 0) (f : Pointstamp → ℤ) → ((x : Pointstamp) → H x → K x) → (x : Pointstamp) → IsSupported R H f x → IsSupported R K f x
supported R H K f to x s = (s.0, s.1, elim s.2 [ inl negative ↦ inl negative | inr held ↦ inr (to s.0 held) ])

module _ (R : Pointstamp → Pointstamp → Type 0) (H K : Pointstamp → Type 0) (f : Pointstamp → ℤ) (to : (x : Pointstamp) → H x → K x) (of : (x : Pointstamp) → K x → H x) where
  upright : IsUpright R H f → IsUpright R K f
  upright h x p = supported R H K f to x (h x p)

  least : (x : Pointstamp) → IsLeast (IsUnsupported R H f) x → IsLeast (IsUnsupported R K f) x
  least x l = record {
    is_one = record { positive = l.is_one.positive; alone = λ s. l.is_one.alone (supported R K H f of x s) };
    first = λ y p. l.first y (record { positive = p.positive; alone = λ s. p.alone (supported R H K f to y s) });
  }

-- if nothing stays, nothing stays without support
pub nothing_alone : (g : Dataflow) (q : ProcessorState) (c : DeltaValue) → minus q.unsent c ≡ none → LeavesUpright g q c
nothing_alone g q c e x positive = absurd (let z : at (minus q.unsent c) x ≡ pos 0 = ap (λ m. at m x) e ∙ at-none x in omega (arith, ints, positive, z))

module _ (g : Dataflow) (q : ProcessorState) (c stays : DeltaValue) (held : List Pointstamp) (stays_is : stays ≡ minus q.unsent c) (held_is : held ≡ supporting_points g q) where
  to_held : (x : Pointstamp) → Contains held x → Supports g q x
  to_held x inside = supports g q x (subst (λ ks. Contains ks x) held_is inside)

  of_held : (x : Pointstamp) → Supports g q x → Contains held x
  of_held x some = subst (λ ks. Contains ks x) (sym held_is) (among_supporting g q x some)

  pub leaves_upright : IsUpright (IsStrictlyBefore g) (Contains held) (at stays) → LeavesUpright g q c
  leaves_upright h =
      subst (λ s. IsUpright (IsStrictlyBefore g) (Supports g q) (at s)) stays_is
      (upright (IsStrictlyBefore g) (Contains held) (Supports g q) (at stays) to_held of_held h)

  pub leaves_alone : (o : Option Pointstamp) → IfSome o (IsLeast (IsUnsupported (IsStrictlyBefore g) (Contains held) (at stays))) → IfSome o (LeavesAlone g q c)
  leaves_alone None h = h
  leaves_alone (Some x) h =
      subst (λ s. IsLeast (IsUnsupported (IsStrictlyBefore g) (Supports g q) (at s)) x) stays_is
      (least (IsStrictlyBefore g) (Contains held) (Supports g q) (at stays) to_held of_held x h)

-- ---- a loop's step: the first of the requests that are left

module _ (keeps : Pointstamp → Bool) (before all : List Pointstamp) (e : Pointstamp × Unit {0}) (es rest : List (Pointstamp × Unit {0})) (step : es ≡ e ∷ rest)
    (so_far : before ++ filter keeps (map (λ (z : Pointstamp × Unit {0}). z.0) es) ≡ all) where
  abbrev left : List Pointstamp
  left = filter keeps (map (λ (z : Pointstamp × Unit {0}). z.0) rest)

  turned : before ++ cond (keeps e.0) (e.0 ∷ left) left ≡ all
  turned = ap (λ (zs : List (Pointstamp × Unit {0})). before ++ filter keeps (map (λ (z : Pointstamp × Unit {0}). z.0) zs)) (sym step) ∙ so_far

  pub kept_more : keeps e.0 ≡ true → (new : List Pointstamp) → new ≡ before ++ e.0 ∷ [] → new ++ left ≡ all
  kept_more kept new pushed =
      ap (λ ys. ys ++ left) pushed ∙ append_assoc before (e.0 ∷ []) left ∙ ap (λ b. before ++ cond b (e.0 ∷ left) left) (sym kept) ∙ turned

  pub passed_over : keeps e.0 ≡ false → before ++ left ≡ all
  passed_over other = ap (λ b. before ++ cond b (e.0 ∷ left) left) (sym other) ∙ turned
