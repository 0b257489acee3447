-- The choice among a list of steps.
use Rattle.std.proofs.Common.{◌≡◌, ◌-◌, ◌%◌, ◌++◌, inl, inr, ℕ, List, [], ◌∷◌, length, take, drop, Option, Some, None, refl, sym, ap, subst, ◌∙◌, arith}
use Rattle.std.specs.Prelude.{◌↔◌, Contains, IsNone, option_map}
use Rattle.std.specs.List.{range_with_len}
use Rattle.std.proofs.lemmas.List.{take-append-drop}
use Rattle.std.proofs.lemmas.List.Concat.{flat_map-append}
use Rattle.std.proofs.lemmas.List.Elements.{All-nil, All-cons, All-append, All-take, All-drop, All-weaker, All-contains, Contains-append_left, Contains-append_right, Contains-append_cases, Contains-push}
use Rattle.nd_protocol.specs.State.{ClusterState}
use Rattle.nd_protocol.specs.Enabled.{IsEnabled}
use Rattle.nd_protocol.specs.declared.step.Step.{Step}
use Rattle.nd_steps.specs.declared.record.Record.{Record}
use Rattle.nd_cluster.specs.Candidates.{candidates_if, candidates_on, IsAmong, AreComplete}
use Rattle.nd_cluster.specs.Choice.{candidates_from, turned_to, turned_by, Chooses, AreRefused, Finds}

module _ {A : Type 0} (s : ClusterState) where
  -- all of xs are refused
  pub chooses_later : (xs ys : List (Step A)) (choice : Option (Step A)) → Chooses s xs None → Chooses s ys choice → Chooses s (xs ++ ys) choice
  chooses_later [] ys choice h k = k
  chooses_later (x ∷ xs) ys choice (inl h) k = absurd (cc (h.1))
  chooses_later (x ∷ xs) ys choice (inr h) k = inr (h.0, chooses_later xs ys choice h.1 k)

  -- one of xs is enabled
  pub chooses_sooner : (xs ys : List (Step A)) (x : Step A) → Chooses s xs (Some x) → Chooses s (xs ++ ys) (Some x)
  chooses_sooner [] ys x h = absurd (cc (h))
  chooses_sooner (y ∷ xs) ys x (inl h) = inl h
  chooses_sooner (y ∷ xs) ys x (inr h) = inr (h.0, chooses_sooner xs ys x h.1)

  pub none_refused : (xs : List (Step A)) → Chooses s xs None → AreRefused s xs
  none_refused [] h = All-nil (λ y. IsEnabled s y → ⊥)
  none_refused (x ∷ xs) (inl h) = absurd (cc (h.1))
  none_refused (x ∷ xs) (inr h) = All-cons (λ y. IsEnabled s y → ⊥) x xs h.0 (none_refused xs h.1)

  pub some_enabled : (xs : List (Step A)) (x : Step A) → Chooses s xs (Some x) → Contains xs x × IsEnabled s x
  some_enabled [] x h = absurd (cc (h))
  some_enabled (y ∷ xs) x (inl h) =
      let same : y ≡ x = cc (h.1) in
      subst (λ z. Contains (y ∷ xs) z × IsEnabled s z) same (Contains-append_left (y ∷ []) xs y (Contains-push [] y), h.0)
  some_enabled (y ∷ xs) x (inr h) = let later = some_enabled xs x h.1 in (Contains-append_right (y ∷ []) xs x later.0, later.1)

  -- the choice among a complete list is none exactly if all of another complete list are refused
  pub none_exactly : (only : Option (List ℕ)) (xs ys : List (Step A)) (found : Option (Record A)) → AreComplete s only xs → AreComplete s only ys → Finds s xs found → IsNone found ↔ AreRefused s ys
  none_exactly only xs ys None here there h = (
    λ _. All-weaker (IsAmong only) (λ y. IsEnabled s y → ⊥) (λ y is e. All-contains (λ x. IsEnabled s x → ⊥) xs y (none_refused xs h.0) (here.covers y is e) e) ys there.kinds,
    λ _. refl,
  )
  none_exactly only xs ys (Some r) here there h =
      let found : Contains xs r.step × IsEnabled s r.step = some_enabled xs r.step h.0 in
      let listed : Contains ys r.step = there.covers r.step (All-contains (IsAmong only) xs r.step here.kinds found.0) found.1 in
      (λ e. absurd (cc (e)), λ refused. absurd (All-contains (λ x. IsEnabled s x → ⊥) ys r.step refused listed found.1))

  -- ---- the processors from the turn's on, and those before it

  module _ (only : Option (List ℕ)) (turn m n : ℕ) (from : m ≡ length s.processors) (count : n ≡ length s.processors) where
    halves : candidates_on {A = A} s only (range_with_len (turn % m) (n - turn % m)) ++ candidates_on s only (range_with_len 0 (turn % m - 0)) ≡ candidates_from s turn only
    halves =
        let first : ℕ = turn % length s.processors in
        let all : first - 0 ≡ first = omega arith in
        (λ i. candidates_on {A = A} s only (range_with_len (turn % from i) (count i - turn % from i)) ++ candidates_on s only (range_with_len 0 (turn % from i - 0)))
        ∙ ap (λ k. candidates_on {A = A} s only (range_with_len first (length s.processors - first)) ++ candidates_on s only (range_with_len 0 k)) all
        ∙ sym (flat_map-append (candidates_if s only) (range_with_len first (length s.processors - first)) (range_with_len 0 first))

    pub found_sooner : (r : Record A) → Finds s (candidates_on s only (range_with_len (turn % m) (n - turn % m))) (Some r) → Finds s (candidates_from s turn only) (Some r)
    found_sooner r h = (subst (λ xs. Chooses s xs (Some r.step)) halves (chooses_sooner (candidates_on s only (range_with_len (turn % m) (n - turn % m))) _ r.step h.0), h.1)

    pub found_later : (found : Option (Record A)) → Finds {A = A} s (candidates_on s only (range_with_len (turn % m) (n - turn % m))) None
        → Finds s (candidates_on s only (range_with_len 0 (turn % m - 0))) found → Finds s (candidates_from s turn only) found
    found_later found none h =
        (subst (λ xs. Chooses s xs (option_map (λ (r : Record A). r.step) found)) halves (chooses_later (candidates_on s only (range_with_len (turn % m) (n - turn % m))) _ _ none.0 h.0), h.1)

  -- ---- from a place of a list to its end, and then the items before it

  -- a complete list is complete from each of its places on
  pub complete_turned : (only : Option (List ℕ)) (j : ℕ) (xs : List (Step A)) → AreComplete s only xs → AreComplete s only (turned_to j xs)
  complete_turned only j xs is = record {
    kinds = All-append (IsAmong only) (drop j xs) (take j xs) (All-drop (IsAmong only) j xs is.kinds) (All-take (IsAmong only) j xs is.kinds);
    covers = λ x among e.
        let here : Contains (take j xs ++ drop j xs) x = subst (λ ys. Contains ys x) (sym (take-append-drop j xs)) (is.covers x among e) in
        elim (Contains-append_cases (take j xs) (drop j xs) x here) [
          | inl first ↦ Contains-append_right (drop j xs) (take j xs) x first
          | inr second ↦ Contains-append_left (drop j xs) (take j xs) x second
        ];
  }

  module _ (lot : ℕ) (xs : List (Step A)) where
    pub turned_sooner : (later : List (Step A)) (r : Record A) → later ≡ drop (lot % length xs) xs → Finds s later (Some r) → Finds s (turned_by lot xs) (Some r)
    turned_sooner later r is h = (subst (λ (ys : List (Step A)). Chooses s (ys ++ take (lot % length xs) xs) (Some r.step)) is (chooses_sooner later (take (lot % length xs) xs) r.step h.0), h.1)

    pub turned_later : (later earlier : List (Step A)) (found : Option (Record A)) → later ≡ drop (lot % length xs) xs → earlier ≡ take (lot % length xs) xs
        → Finds {A = A} s later None → Finds s earlier found → Finds s (turned_by lot xs) found
    turned_later later earlier found is also none h =
        let choice : Option (Step A) = option_map (λ (r : Record A). r.step) found in
        (subst (λ (ys : List (Step A)). Chooses s (drop (lot % length xs) xs ++ ys) choice) also (subst (λ (ys : List (Step A)). Chooses s (ys ++ earlier) choice) is (chooses_later later earlier choice none.0 h.0)), h.1)
