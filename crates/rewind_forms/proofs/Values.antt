-- Numbers, lists of numbers and pointstamps as JSON values are read back.
use Rattle.std.proofs.Common.{◌≡◌, ℕ, ◌≤◌, ◌^◌, true, ℤ, pos, negsuc, List, [], ◌∷◌, map, refl, ap, Option, Some, FitsSigned, w64, arith}
use Rattle.std.specs.Prelude.{All}
use Rattle.std.proofs.lemmas.Bool.{lt-ltb}
use Rattle.std.proofs.lemmas.List.Elements.{All-head, All-tail}
use Rattle.serde_json.specs.Data.{Data}
use Rattle.serde_json.specs.View.{items_of}
use Rattle.nd_json.specs.Forms.{small, whole as whole_of, integer, list, listed, text}
use Rattle.nd_time.specs.Time.{Time}
use Rattle.nd_graph.specs.Graph.{Dataflow}
use Rattle.nd_paths.specs.declared.point.Pointstamp.{Pointstamp}
use Rattle.nd_state_json.specs.StateText.{row, natural, whole, name_at, place, time_data, point_data}
use Rattle.nd_graph.specs.Draft.{every}
use Rattle.rewind_forms.specs.Forms.{are_read, numbers_of, point_of, listed_point, named_time}
use Rattle.nd_protocol.specs.Ranges.{IsSmall, TimeIsSmall}

-- ---- lists

-- each item can be read, if each is the value of another
pub are_read-as : {A B C : Type 0} (f : A → Option C) (shown : B → A) (r : B → C) (xs : List B) → All (λ x. f (shown x) ≡ Some (r x)) xs
    → are_read f (map shown xs) ≡ true
are_read-as f shown r [] h = refl
are_read-as {A} {B} {C} f shown r (x ∷ xs) h =
    let P : B → Type 0 = λ x. f (shown x) ≡ Some (r x) in
    rw (All-head P x xs h) (are_read-as f shown r xs (All-tail P x xs h))

pub every_back : {A B : Type 0} (f : A → Option B) (shown : B → A) (xs : List B) → All (λ x. f (shown x) ≡ Some x) xs
    → every f (map shown xs) ≡ Some xs
every_back f shown [] h = refl
every_back {A} {B} f shown (x ∷ xs) h =
    let P : B → Type 0 = λ x. f (shown x) ≡ Some x in
    rw (All-head P x xs h, every_back f shown xs (All-tail P x xs h)) refl

listed-items_of : (ds : List Data) → listed (items_of ds) ≡ ds
listed-items_of [] = refl
listed-items_of (d ∷ ds) = ap (λ es. d ∷ es) (listed-items_of ds)

pub list-row : (ds : List Data) → list (row ds) ≡ Some ds
unfolding list
list-row ds = ap Some (listed-items_of ds)

-- ---- numbers

pub small-natural : (n : ℕ) → IsSmall n → small (natural n) ≡ Some n
unfolding small whole_of
small-natural n h = rw (lt-ltb n (2 ^ 32) (let le : n ≤ 4294967295 = h in omega arith)) refl

pub integer-whole : (z : ℤ) → FitsSigned w64 z → integer (whole z) ≡ Some z
unfolding integer
integer-whole (pos n) h = rw (lt-ltb n (2 ^ 63) h.sfits) refl
integer-whole (negsuc n) h = refl

pub integers-whole : (values : List ℤ) → All (FitsSigned w64) values → every integer (map whole values) ≡ Some values
integers-whole values h = every_back integer whole values (λ k d lt. integer-whole _ (h k d lt))

pub numbers-natural : (t : Time) → TimeIsSmall t → numbers_of (map natural (t.epoch ∷ t.counters)) ≡ Some (t.epoch ∷ t.counters)
numbers-natural t h = every_back small natural (t.epoch ∷ t.counters) (λ k d lt. small-natural _ (h k d lt))

-- ---- pointstamps

-- the name and the numbers with which a pointstamp is written
abbrev pub named : Dataflow → Pointstamp → List ℕ × List ℕ
named g q = (name_at g q.location, q.time.epoch ∷ q.time.counters)

pub point-data : (g : Dataflow) (q : Pointstamp) → TimeIsSmall q.time → listed_point (point_data g q) ≡ Some (named g q)
unfolding listed_point point_of named_time text
point-data g q h =
    rw (list-row (place g q.location ∷ time_data q.time ∷ [])) (rw (list-row (map natural (q.time.epoch ∷ q.time.counters)), numbers-natural q.time h) refl)
