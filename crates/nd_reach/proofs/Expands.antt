-- The moves of a state, tried one after the other.
use Rattle.std.proofs.Common.{◌≡◌, ◌∙◌, Bool, false, ℕ, zero, suc, ◌+◌, ◌<◌, ◌≤◌, List, [], ◌∷◌, ◌++◌, length, map, refl, sym, ap, subst, arith, length-append, append_assoc, Some}
use Rattle.std.specs.Prelude.{slice_get, All, get_or}
use Rattle.std.proofs.lemmas.List.{length-map}
use Rattle.std.proofs.lemmas.List.Elements.{All-head, All-tail}
use Rattle.std.proofs.lemmas.Option.{slice_get-get_or}
use Rattle.nd_protocol.specs.State.{ClusterState}
use Rattle.nd_protocol.specs.Steps.{after}
use Rattle.nd_protocol.specs.declared.step.Step.{Step}
use Rattle.nd_steps.specs.declared.record.Record.{Record}
use Rattle.nd_cluster.specs.Records.{IsPlanned}
use Rattle.nd_cluster.specs.Moves.{tries, ArePlanned}
use Rattle.nd_reach.specs.Found.{Wanted, HasBegun, HasSearched, HasWalked, StandsAt, GoesOn}
use Rattle.nd_reach.specs.declared.node.Node.{Node}
use Rattle.nd_reach.proofs.OneStep.{one_step}
use Rattle.nd_reach.proofs.Places.{within_list}
use Rattle.nd_reach.proofs.Searched.{going, gone}

abbrev pub steps : {A : Type 0} → List (Record A) → List (Step A)
steps rs = map (λ r. r.step) rs

-- `rest` has the records of the moves that were not tried
pub record IsLeft {A : Type 0} (q : Wanted) (forms : List (List ℕ)) (nodes : List (Node A)) (at : ℕ) (t : ClusterState) (rest : List (Record A)) : Type 0 where
  pub tried : List (Record A)
  pub going : GoesOn q forms nodes at t (steps (tried ++ rest)) (length tried)
  pub planned : All (λ (r : Record A). IsPlanned r t) rest

middle : {A : Type 0} (rs : List (Record A)) (r : Record A) (others : List (Record A)) → slice_get (steps (rs ++ r ∷ others)) (length rs) ≡ Some r.step
middle [] r others = refl
middle (x ∷ rs) r others = middle rs r others

module _ {A : Type 0} (q : Wanted) (forms : List (List ℕ)) (nodes : List (Node A)) (at : ℕ) where
  -- no move was tried
  pub none_tried : (t : ClusterState) → HasWalked q forms nodes at at t → at < length nodes → (rs : List (Record A)) → ArePlanned t (tries q.allowed t) rs → IsLeft q forms nodes at t rs
  none_tried t h lt rs planned = record {
    tried = [];
    going = record {
      ways = h.0.ways;
      way = get_or h.0.ways at [];
      found = h.0.found;
      going = going q.allowed q.start h.0.ways at (get_or h.0.ways at []) (steps rs) h.0.searched there (subst (λ (u : ClusterState). ArePlanned u (tries q.allowed u) rs) is planned).steps;
      there = is;
      none = h.0.none;
      within = h.0.within;
    };
    planned = planned.each;
  }
    where
      there : slice_get h.0.ways at ≡ Some (get_or h.0.ways at [])
      there = slice_get-get_or h.0.ways at [] (omega (arith, lt, h.0.found.many))

      is : t ≡ after q.start (get_or h.0.ways at [])
      is = h.1 (get_or h.0.ways at []) there

  module _ (t : ClusterState) where
    pub next_there : (r : Record A) (others : List (Record A)) (h : IsLeft q forms nodes at t (r ∷ others)) → slice_get (steps (h.tried ++ r ∷ others)) (length h.tried) ≡ Some r.step
    next_there r others h = middle h.tried r others

    pub next_planned : (r : Record A) (others : List (Record A)) → IsLeft q forms nodes at t (r ∷ others) → IsPlanned r t
    next_planned r others h = All-head (λ (r : Record A). IsPlanned r t) r others h.planned

    pub at_within : (rs : List (Record A)) → IsLeft q forms nodes at t rs → at < length nodes
    at_within rs h = omega (arith, within_ways h.going.ways at h.going.way h.going.going.here, h.going.found.many)
      where
        within_ways : (ways : List (List (Step A))) (k : ℕ) (w : List (Step A)) → slice_get ways k ≡ Some w → k < length ways
        within_ways [] k w is = absurd (cc (is))
        within_ways (v ∷ ways) zero w is = omega arith
        within_ways (v ∷ ways) (suc k) w is = let less : k < length ways = within_ways ways k w is in omega (arith, less)

    -- all moves were tried
    pub all_tried : IsLeft q forms nodes at t [] → HasWalked q forms nodes (at + 1) at t
    all_tried h = (
      record {
        ways = h.going.ways;
        found = h.going.found;
        searched = gone q.allowed q.start one_step h.going.ways at h.going.way (steps (h.tried ++ [])) (length h.tried) h.going.going
            (omega (arith, length-map (h.tried ++ []) (λ (r : Record A). r.step), length-append h.tried []));
        none = h.going.none;
        within = h.going.within;
      },
      stands,
    )
      where
        stands : StandsAt q.start h.going.ways at t
        stands w is = let same : h.going.way ≡ w = cc (h.going.going.here, is) in h.going.there ∙ ap (after q.start) same

    -- one move more was tried
    pub one_tried : (more : List (List ℕ)) (others : List (Node A)) (u : ClusterState) (r : Record A) (rest : List (Record A)) (h : IsLeft q forms nodes at t (r ∷ rest)) → u ≡ t
        → GoesOn q more others at u (steps (h.tried ++ r ∷ rest)) (length h.tried + 1) → IsLeft q more others at u rest
    one_tried more others u r rest h same on = record {
      tried = h.tried ++ r ∷ [];
      going = subst (λ n. GoesOn q more others at u (steps ((h.tried ++ r ∷ []) ++ rest)) n) (sym (length-append h.tried (r ∷ [])))
          (subst (λ rs. GoesOn q more others at u (steps rs) (length h.tried + 1)) (sym (append_assoc h.tried (r ∷ []) rest)) on);
      planned = subst (λ (v : ClusterState). All (λ (r : Record A). IsPlanned r v) rest) (sym same) (All-tail (λ (r : Record A). IsPlanned r t) r rest h.planned);
    }

pub nothing_left : {A : Type 0} (q : Wanted) (forms : List (List ℕ)) (nodes : List (Node A)) (at : ℕ) (t : ClusterState) (rest : List (Record A)) → length rest ≡ 0
    → IsLeft q forms nodes at t rest → IsLeft q forms nodes at t []
nothing_left q forms nodes at t [] none h = h
nothing_left q forms nodes at t (r ∷ rest) none h = absurd (omega (arith, none))

module _ {A : Type 0} (q : Wanted) (forms : List (List ℕ)) (nodes : List (Node A)) where
  -- the condition does not hold at the start
  pub begun_on : (b : Bool) → b ≡ false → HasBegun q forms nodes b → HasSearched q forms nodes 0
  begun_on b is h = subst (HasBegun q forms nodes) is h

  pub starts : (h : HasSearched q forms nodes 0) (t : ClusterState) → t ≡ q.start → StandsAt q.start h.ways 0 t
  unfolding after
  starts h t same w is = let none : [] ≡ w = cc (h.searched.start, is) in same ∙ ap (after q.start) none

  -- a search that has gone on from all states has gone on from as many as there are
  pub all_searched : (at : ℕ) → length nodes ≤ at → HasSearched q forms nodes at → HasSearched q forms nodes (length nodes)
  all_searched at le h = record {
    ways = h.ways;
    found = h.found;
    searched = record {
      start = h.searched.start;
      each = h.searched.each;
      order = h.searched.order;
      apart = h.searched.apart;
      expanded = λ k w x lt is move. h.searched.expanded k w x (omega (arith, lt, le)) is move;
      ahead = λ k i w v x more is there. absurd (omega (arith, more, within_list h.ways k w is, h.found.many));
    };
    none = h.none;
    within = h.within;
  }
