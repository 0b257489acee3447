-- Arrays that are sent item by item.
use Rattle.std.proofs.Common.{◌≡◌, ◌∙◌, ℕ, ◌+◌, ◌<◌, ◌≤◌, List, [], ◌∷◌, ◌++◌, length, drop, get_or, map, Some, suc, refl, sym, ap, subst, drop-cons, add-one}
use Rattle.std.proofs.lemmas.List.{drop_all, length-map}
use Rattle.serde.specs.Event.{Log, Logs, seq_begins, seq_ends}
use Rattle.serde_json.specs.Data.{Data}
use Rattle.serde_json.specs.View.{items_of}
use Rattle.serde_json.specs.Events.{items_len, SendsValue, SendsItems}
use Rattle.nd_state_json.specs.Sent.{SendsEach, SentBefore}
use Rattle.nd_state_json.specs.StateText.{row}

-- ---- an array

items_len-of : (ds : List Data) → items_len (items_of ds) ≡ length ds
items_len-of [] = refl
items_len-of (d ∷ ds) = ap suc (items_len-of ds)

items-sent : (ds : List Data) (first last new : Log) → SendsEach ds first last → Logs last new seq_ends → SendsItems (items_of ds) first new
items-sent [] first last new h ended = subst (λ l. Logs l new seq_ends) h ended
items-sent (d ∷ ds) first last new h ended = (h.0, h.1, items-sent ds h.0 last new h.2 ended)

-- the items of an array between its ends
pub array-sent : (ds : List Data) (n : ℕ) (old first last new : Log) → n ≡ length ds
    → Logs old first (seq_begins (Some n)) → SendsEach ds first last → Logs last new seq_ends → SendsValue (row ds) old new
array-sent ds n old first last new len begun each ended =
    (first, subst (λ m. Logs old first (seq_begins (Some m))) (len ∙ sym (items_len-of ds)) begun, items-sent ds first last new each ended)

-- ---- items in turn

-- all items were sent
pub sent-all : (rest all : List Data) (first last : Log) → rest ≡ [] → SentBefore rest all first last → SendsEach all first last
sent-all rest all first last none sent = sent last (subst (λ ds. SendsEach ds last last) (sym none) refl)

-- items, and then others
pub each-joined : (ds es : List Data) (old mid new : Log) → SendsEach ds old mid → SendsEach es mid new → SendsEach (ds ++ es) old new
each-joined [] es old mid new h k = subst (λ l. SendsEach es l new) h k
each-joined (d ∷ ds) es old mid new h k = (h.0, h.1, each-joined ds es h.0 mid new h.2 k)

-- one more item of a list was sent, the one at an index
pub sent-more : {A : Type 0} (f : A → Data) (xs : List A) (i : ℕ) (x : A) (all : List Data) (first old mid : Log) → i < length xs → x ≡ get_or xs i x
    → SentBefore (map f (drop i xs)) all first old → SendsValue (f x) old mid → SentBefore (map f (drop (i + 1) xs)) all first mid
sent-more f xs i x all first old mid lt is before sent end h =
    let next = subst (λ k. SendsEach (map f (drop k xs)) mid end) (add-one i) h in
    let here = drop-cons xs i x lt ∙ ap (λ y. y ∷ drop (suc i) xs) (sym is) in
    before end (subst (λ ys. SendsEach (map f ys) old end) (sym here) (mid, sent, next))

-- a list, of which all was sent
pub sent-list : {A : Type 0} (f : A → Data) (xs : List A) (i n : ℕ) (old first last new : Log) → length xs ≤ i → n ≡ length xs
    → SentBefore (map f (drop i xs)) (map f xs) first last → Logs old first (seq_begins (Some n)) → Logs last new seq_ends → SendsValue (row (map f xs)) old new
sent-list f xs i n old first last new all len sent begun ended =
    array-sent (map f xs) n old first last new (len ∙ sym (length-map xs f)) begun (sent-all (map f (drop i xs)) (map f xs) first last (ap (map f) (drop_all i xs all)) sent) ended
