-- Forms written one after the other.
use Rattle.std.proofs.Common.{◌≡◌, ℕ, suc, ◌+◌, ◌<◌, List, [], ◌∷◌, ◌++◌, length, map, drop, get_or, sym, ap, ◌∙◌, append_assoc, drop-cons, add-one}
use Rattle.std.specs.List.{flat_map}
use Rattle.std.proofs.lemmas.List.{append-nil, length-map}
use Rattle.std.proofs.lemmas.List.Folds.{flat_map-map}
use Rattle.std.specs.FinMap as fin
use Rattle.nd_paths.specs.declared.point.Pointstamp.{Pointstamp}
use Rattle.nd_map.specs.Counts.{entries}
use Rattle.nd_delta.specs.Delta.{DeltaValue}
use Rattle.nd_processor.specs.State.{ProcessorState}
use Rattle.nd_processor.specs.declared.key.ValueAt.{ValueAt}
use Rattle.nd_processor.specs.declared.key.SinkKey.{SinkKey}
use Rattle.nd_reach.specs.Bytes.{number, list, point}
use Rattle.nd_reach.specs.Forms.{change_form, items_form, processor_form, record_form, sink_form, token_form}

-- the bytes that there will be after the forms of these items too
abbrev pub to_come : {X : Type 0} → (X → List ℕ) → List ℕ → List X → List ℕ
to_come f bytes xs = bytes ++ flat_map f xs

-- one more item was written
pub one_more : {X : Type 0} (f : X → List ℕ) (x : X) (xs : List X) (old new all : List ℕ) → to_come f old (x ∷ xs) ≡ all → new ≡ old ++ f x → to_come f new xs ≡ all
one_more f x xs old new all before is = ap (λ bs. bs ++ flat_map f xs) is ∙ append_assoc old (f x) (flat_map f xs) ∙ before

-- the same of the item at an index of a list
pub more_at : {X : Type 0} (f : X → List ℕ) (xs : List X) (i : ℕ) (d : X) (old new all : List ℕ) → i < length xs → to_come f old (drop i xs) ≡ all
    → new ≡ old ++ f (get_or xs i d) → to_come f new (drop (i + 1) xs) ≡ all
more_at f xs i d old new all lt before is =
    rw add-one (one_more f (get_or xs i d) (drop (suc i) xs) old new all (ap (to_come f old) (sym (drop-cons xs i d lt)) ∙ before) is)

-- all items were written
pub all_written : {X : Type 0} (f : X → List ℕ) (rest : List X) (old new all : List ℕ) → rest ≡ [] → to_come f new rest ≡ all → new ≡ all
all_written f rest old new all none e = sym (append-nil new) ∙ ap (to_come f new) (sym none) ∙ e

-- all items of a list were written after their number
pub list_written : {X : Type 0} (f : X → List ℕ) (xs rest : List X) (n : ℕ) (first old new : List ℕ) → n ≡ length xs → rest ≡ [] → old ≡ first ++ number n
    → to_come f new rest ≡ to_come f old xs → new ≡ first ++ list f xs
list_written f xs rest n first old new count none begun e =
    all_written f rest old new (to_come f old xs) none e
    ∙ ap (λ bs. bs ++ flat_map f xs) begun
    ∙ append_assoc first (number n) (flat_map f xs)
    ∙ ap (λ k. first ++ (number k ++ flat_map f xs)) count

-- one form was written, and then another
pub then_more : (old new last a b : List ℕ) → new ≡ old ++ a → last ≡ new ++ b → last ≡ old ++ (a ++ b)
then_more old new last a b one other = other ∙ ap (λ bs. bs ++ b) one ∙ append_assoc old a b

-- ---- a processor

-- the pointstamps of requests are the keys of a map
requested : (es : List (Pointstamp × Unit {0})) → list (λ (e : Pointstamp × Unit {0}). point e.0) es ≡ list point (map (λ (e : Pointstamp × Unit {0}). e.0) es)
requested es =
    ap (λ k. number k ++ flat_map (λ (e : Pointstamp × Unit {0}). point e.0) es) (sym (length-map es (λ (e : Pointstamp × Unit {0}). e.0)))
    ∙ ap (λ bs. number (length (map (λ (e : Pointstamp × Unit {0}). e.0) es)) ++ bs) (sym (flat_map-map point (λ (e : Pointstamp × Unit {0}). e.0) es))

-- the parts of a processor were written in turn
pub processor_written : (q : ProcessorState) (records : List (ValueAt × ℕ)) (requests : List (Pointstamp × Unit {0})) (tokens : List (ℕ × ℕ)) (sinks : List (SinkKey × ℕ)) (unsent : DeltaValue) (old a b c d e new : List ℕ)
    → records ≡ entries q.records → requests ≡ fin.entries q.requests → tokens ≡ fin.entries q.tokens → sinks ≡ entries q.sinks → unsent ≡ q.unsent
    → a ≡ old ++ list record_form records → b ≡ a ++ list (λ (x : Pointstamp × Unit {0}). point x.0) requests → c ≡ b ++ list token_form tokens → d ≡ c ++ items_form q.items
    → e ≡ d ++ list sink_form sinks → new ≡ e ++ change_form unsent → new ≡ old ++ processor_form q
processor_written q records requests tokens sinks unsent old a b c d e new r s t u v h i j k l m =
    let one = h ∙ ap (λ es. old ++ list record_form es) r in
    let two = i ∙ ap (λ es. a ++ list (λ (x : Pointstamp × Unit {0}). point x.0) es) s ∙ ap (λ bs. a ++ bs) (requested (fin.entries q.requests)) in
    let three = j ∙ ap (λ es. b ++ list token_form es) t in
    let five = l ∙ ap (λ es. d ++ list sink_form es) u in
    let six = m ∙ ap (λ x. e ++ change_form x) v in
    let last = then_more d e new (list sink_form (entries q.sinks)) (change_form q.unsent) five six in
    let from_items = then_more c d new (items_form q.items) _ k last in
    let from_tokens = then_more b c new (list token_form (fin.entries q.tokens)) _ three from_items in
    let from_requests = then_more a b new (list point (fin.keys q.requests)) _ two from_tokens in
    then_more old a new (list record_form (entries q.records)) _ one from_requests
