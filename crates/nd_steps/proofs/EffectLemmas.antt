-- Combined effects.
use Rattle.std.proofs.Common.{◌≡◌, ◌+◌, ◌<◌, ℕ, suc, List, [], ◌∷◌, ◌++◌, map, take, drop, length, get_or, sym, ap, ◌∙◌, append_assoc, arith}
use Rattle.std.proofs.lemmas.List.{append-nil, take_more, drop_more, map-append}
use Rattle.nd_steps.specs.Effect.{EffectValue, joined_below}
use Rattle.nd_steps.specs.Alterations.{nothing, beside, altered_of, altered_by}
use Rattle.nd_steps.specs.declared.change.Change.{Change}
use Rattle.nd_processor.specs.State.{ProcessorState}

-- combining with the effect that changes nothing
pub beside-nothing : (e : EffectValue) → beside e nothing ≡ e
beside-nothing e = λ i. record {
  items = append-nil e.items i;
  queues = append-nil e.queues i;
  records = append-nil e.records i;
  requests = append-nil e.requests i;
  sinks = append-nil e.sinks i;
  tokens = append-nil e.tokens i;
  unsent = append-nil e.unsent i;
  views = append-nil e.views i;
}

beside-beside : (e f k : EffectValue) → beside (beside e f) k ≡ beside e (beside f k)
beside-beside e f k = λ i. record {
  items = append_assoc e.items f.items k.items i;
  queues = append_assoc e.queues f.queues k.queues i;
  records = append_assoc e.records f.records k.records i;
  requests = append_assoc e.requests f.requests k.requests i;
  sinks = append_assoc e.sinks f.sinks k.sinks i;
  tokens = append_assoc e.tokens f.tokens k.tokens i;
  unsent = append_assoc e.unsent f.unsent k.unsent i;
  views = append_assoc e.views f.views k.views i;
}

-- a loop's step: the effect of one more change
pub add_more : (ps : List ProcessorState) (cs : List Change) (i : ℕ) (c : Change) → i < length cs → c ≡ get_or cs i c
    → (old new total : EffectValue) → new ≡ beside old (altered_of ps c) → beside old (altered_by ps (drop i cs)) ≡ total → beside new (altered_by ps (drop (i + 1) cs)) ≡ total
add_more ps cs i c lt is old new total added so_far =
    let rest : EffectValue = altered_by ps (drop (i + 1) cs) in
    let more : drop i cs ≡ c ∷ drop (i + 1) cs = drop_more cs i c lt ∙ ap (λ d. d ∷ drop (i + 1) cs) (sym is) in
    ap (λ e. beside e rest) added ∙ beside-beside old (altered_of ps c) rest ∙ ap (λ ds. beside old (altered_by ps ds)) (sym more) ∙ so_far

-- a loop's step: a row for one more element
pub row_more : {X Y : Type 0} (f : X → Y) (xs : List X) (i : ℕ) (x : X) → i < length xs → x ≡ get_or xs i x
    → (old new : List Y) (y : Y) → old ≡ map f (take i xs) → new ≡ old ++ y ∷ [] → y ≡ f x → new ≡ map f (take (i + 1) xs)
row_more f xs i x lt is old new y so_far pushed so =
    let more : take (i + 1) xs ≡ take i xs ++ x ∷ [] = take_more xs i x lt ∙ ap (λ z. take i xs ++ z ∷ []) (sym is) in
    pushed ∙ (λ j. so_far j ++ so j ∷ []) ∙ sym (map-append f (take i xs) (x ∷ [])) ∙ ap (map f) (sym more)

-- one more list
pub joined_more : {X : Type 0} (n : ℕ) (f : ℕ → List X) → joined_below (n + 1) f ≡ joined_below n f ++ f n
joined_more n f = let one : n + 1 ≡ suc n = omega arith in ap (λ k. joined_below k f) one
