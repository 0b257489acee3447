-- What the accounts of the reasons say.
use Rattle.std.proofs.Common.{◌≡◌, ◌≢◌, ℤ, pos, List, [], ◌∷◌, length, get_or, refl, ap, sym, subst, ◌∙◌, arith}
use Rattle.std.specs.Prelude.{All, Contains, ◌↔◌}
use Rattle.std.proofs.lemmas.List.{get_or-map, length-map}
use Rattle.std.proofs.lemmas.List.Elements.{All-map}
use Rattle.nd_paths.specs.declared.point.Pointstamp.{Pointstamp}
use Rattle.nd_delta.specs.Delta.{at, entries}
use Rattle.nd_delta.specs.Least.{place_of}
use Rattle.nd_view.specs.View.{IsPositiveBefore, IsPassedBefore, HasFrontierBefore}
use Rattle.nd_view.specs.PartLaws.{part-entry}
use Rattle.nd_protocol.specs.State.{ClusterState, view}
use Rattle.nd_why.specs.Account.{Account}
use Rattle.nd_why.specs.Why.{account, IsReason, IsWhy, HasReasonBefore}
use Rattle.nd_why.specs.declared.question.Question.{Question}
use Rattle.nd_map.specs.Cases.{not_zero}

module _ (s : ClusterState) (asked : Question) (accounts : List Account) (why : IsWhy s asked accounts) where
  abbrev IsReasonAsked : Pointstamp → Type 0
  IsReasonAsked b = IsReason s.graph (view s asked.q) asked.extent asked.point b

  -- a property of the account of each reason holds of all accounts
  pub each_account : (P : Account → Type 0) → ((b : Pointstamp) → IsReasonAsked b → P (account s asked.q b)) → All P accounts
  each_account P holds =
      subst (All P) (sym why.2) (All-map P (λ e. account s asked.q e.0) (entries why.0) (λ k d lt.
      holds (get_or (entries why.0) k d).0 (part-entry IsReasonAsked (view s asked.q) why.0 why.1 k d lt)))

  -- each reason has an account
  has_account : (b : Pointstamp) → IsReasonAsked b → Contains accounts (account s asked.q b)
  has_account b reason =
      let some : at why.0 b ≢ pos 0 = λ e. not_zero (at (view s asked.q) b) reason.frontier.positive (sym (why.1.all b reason) ∙ e) in
      let place = place_of why.0 b some in
      let f : Pointstamp × ℤ → Account = λ e. account s asked.q e.0 in
      subst (λ xs. Contains xs (account s asked.q b)) (sym why.2) (
        place.index,
        omega (arith, place.in_range, length-map (entries why.0) f),
        get_or-map f (entries why.0) place.index (b, at why.0 b) (account s asked.q b) place.in_range ∙ ap (account s asked.q) place.is,
      )

  module _ (near : (x : Pointstamp) → IsPositiveBefore s.graph (view s asked.q) asked.extent asked.point x → HasFrontierBefore s.graph (view s asked.q) asked.extent asked.point x) where
    pub covered : (x : Pointstamp) → IsPositiveBefore s.graph (view s asked.q) asked.extent asked.point x → HasReasonBefore s.graph accounts x
    covered x b =
        let one = near x b in
        record { reason = account s asked.q one.point; among = has_account one.point (record { frontier = one.frontier; before = one.before }); before = one.near }

    none_of : (xs : List Account) → All (λ a. ⊥) xs → xs ≡ []
    none_of [] h = refl
    none_of (a ∷ rest) h = absurd (h 0 a (omega arith))

    pub passed_by : (accounts ≡ []) ↔ IsPassedBefore s.graph asked.extent (view s asked.q) asked.point
    passed_by = (
      λ e x b. let found = (covered x b).among in absurd (omega (arith, found.1, ap length e)),
      λ passed. none_of accounts (each_account (λ a. ⊥) (λ b reason. passed b (record { positive = reason.frontier.positive; before = reason.before }))),
    )
