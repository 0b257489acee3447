-- Lists of summaries that stand once, and their numbers.
use Rattle.std.proofs.Common.{◌≡◌, ◌≢◌, inl, inr, ℕ, zero, suc, ◌+◌, ◌<◌, ◌≤◌, List, [], ◌∷◌, ◌++◌, length, get_or, take, drop, set, map, replicate, refl, sym, ◌∙◌, ap, subst, arith, length-append, append_assoc}
use Rattle.std.specs.Prelude.{All, Contains}
use Rattle.std.proofs.lemmas.Bool.{cases_lt, cases_eq}
use Rattle.std.proofs.lemmas.List.{length-set, length-replicate, append-nil, get_or-set_other, get_or-set_same, get_or-replicate, get_or_past, get_or_append_left, get_or_push, get_or_default, length_push, drop_more, drop_all, take_more}
use Rattle.std.proofs.lemmas.List.Elements.{All-nil, All-push, All-weaker, Contains-append_left, Contains-push, Contains-get_or}
use Rattle.std.proofs.lemmas.List.Quantifiers.{all_pairs_push}
use Rattle.nd_summaries.specs.declared.summary.Summary.{Summary}
use Rattle.nd_summaries.specs.declared.shared.TheConstants.{BUCKETS}
use Rattle.nd_summaries.specs.Shared.{bucket_of, mixed, mixed_all, named, IsNamed, IsIndexed, Extends, AreNumbers}
use Rattle.nd_summaries.specs.Row.{listed}
use Rattle.nd_summaries.specs.Table.{named_row}

-- ---- more lists

pub Extends-none : (lists : List (List Summary)) → Extends lists lists
Extends-none lists = ([], sym (append-nil lists))

pub Extends-trans : (a b c : List (List Summary)) → Extends a b → Extends b c → Extends a c
Extends-trans a b c (m, e) (n, f) = (m ++ n, f ∙ ap (λ l. l ++ n) e ∙ append_assoc a m n)

pub named_on : (old new : List (List Summary)) (n : ℕ) → Extends old new → n < length old → named new n ≡ named old n
named_on old new n (more, e) l = ap (λ x. named x n) e ∙ get_or_append_left old more [] n l

pub longer : (old new : List (List Summary)) → Extends old new → length old ≤ length new
longer old new (more, e) = omega (arith, ap length e, length-append old more)

names_on : (old new : List (List Summary)) (numbers : List ℕ) → Extends old new → All (λ n. n < length old) numbers → named_row old numbers ≡ named_row new numbers
names_on old new [] x h = refl
names_on old new (n ∷ numbers) x h =
    let first : named old n ≡ named new n = sym (named_on old new n x (h zero n (omega arith))) in
    let rest : named_row old numbers ≡ named_row new numbers = names_on old new numbers x (λ k d l. h (suc k) d (omega arith)) in
    ap (λ l. l ∷ named_row old numbers) first ∙ ap (λ l. named new n ∷ l) rest

pub small_on : (old new : List (List Summary)) (numbers : List ℕ) → Extends old new → All (λ n. n < length old) numbers → All (λ n. n < length new) numbers
small_on old new numbers x h =
    All-weaker (λ n. n < length old) (λ n. n < length new) (λ n l. omega (arith, l, longer old new x)) numbers h

pub AreNumbers-on : (old new : List (List Summary)) (numbers : List ℕ) (row : List (List Summary)) → Extends old new → AreNumbers old numbers row → AreNumbers new numbers row
AreNumbers-on old new numbers row x h = record { small = small_on old new numbers x h.small; names = h.names ∙ names_on old new numbers x h.small }

pub named_row-on : (old new : List (List Summary)) (numbers : List ℕ) → Extends old new → All (λ n. n < length old) numbers → named_row new numbers ≡ named_row old numbers
named_row-on old new numbers x h = sym (names_on old new numbers x h)

map_push : (f : ℕ → List Summary) (ns : List ℕ) (n : ℕ) → map f (ns ++ n ∷ []) ≡ map f ns ++ f n ∷ []
map_push f [] n = refl
map_push f (m ∷ ns) n = ap (λ l. f m ∷ l) (map_push f ns n)

pub AreNumbers-push : (lists : List (List Summary)) (numbers : List ℕ) (row : List (List Summary)) (n : ℕ) (list : List Summary) → AreNumbers lists numbers row → IsNamed lists n list → AreNumbers lists (numbers ++ n ∷ []) (row ++ list ∷ [])
AreNumbers-push lists numbers row n list h k = record {
  small = All-push (λ m. m < length lists) numbers n h.small k.0;
  names = ap (λ r. r ++ list ∷ []) h.names ∙ ap (λ l. named_row lists numbers ++ l ∷ []) (sym k.1) ∙ sym (map_push (named lists) numbers n);
}

-- the list that a row of numbers names for a location
pub listed-named : (lists : List (List Summary)) (numbers : List ℕ) (b : ℕ) → b < length numbers → listed (named_row lists numbers) b ≡ named lists (get_or numbers b 0)
listed-named lists [] b h = absurd (omega arith)
listed-named lists (n ∷ numbers) zero h = refl
listed-named lists (n ∷ numbers) (suc b) h = listed-named lists numbers b (omega arith)

-- ---- buckets

module _ (lists : List (List Summary)) (buckets : List (List ℕ)) (h : IsIndexed lists buckets) where
  -- a list that is among these is found in its bucket
  pub found_in : (list : List Summary) → Contains lists list → (n : ℕ) × Contains (get_or buckets (bucket_of list) []) n × IsNamed lists n list
  found_in list (k, l, e) =
      let there : get_or lists k [] ≡ list = get_or_any lists k list l e in
      (k, subst (λ x. Contains (get_or buckets (bucket_of x) []) k) there (h.found k l), (l, there))
    where
      get_or_any : (xs : List (List Summary)) (k : ℕ) (d : List Summary) → k < length xs → get_or xs k d ≡ d → get_or xs k [] ≡ d
      get_or_any [] k d l e = absurd (omega arith)
      get_or_any (x ∷ xs) zero d l e = e
      get_or_any (x ∷ xs) (suc k) d l e = get_or_any xs k d (omega arith) e

  -- a new list is added with its number
  pub Indexed-more : (list : List Summary) (b n : ℕ) → b ≡ bucket_of list → n ≡ length lists → b < BUCKETS → (Contains lists list → ⊥) → IsIndexed (lists ++ list ∷ []) (set buckets b (get_or buckets b [] ++ n ∷ []))
  Indexed-more list b n at is low new =
      let bucket : List ℕ = get_or buckets b [] ++ n ∷ [] in
      let size : length (lists ++ list ∷ []) ≡ length lists + 1 = length_push lists list in
      let here : get_or (set buckets b bucket) b [] ≡ bucket = get_or-set_same buckets b bucket [] (omega (arith, h.count)) in
      let other : (c : ℕ) → (c ≡ b → ⊥) → get_or (set buckets b bucket) c [] ≡ get_or buckets c [] = λ c m. get_or-set_other buckets b c bucket [] m in
      let kept : (c k : ℕ) → Contains (get_or buckets c []) k → Contains (get_or (set buckets b bucket) c []) k = λ c k there. elim (cases_eq c b) [
        | inl e ↦ subst (λ i. Contains (get_or (set buckets b bucket) i []) k) (sym e) (subst (λ l. Contains l k) (sym here) (Contains-append_left (get_or buckets b []) (n ∷ []) k (subst (λ i. Contains (get_or buckets i []) k) e there)))
        | inr m ↦ subst (λ l. Contains l k) (sym (other c m)) there
      ] in
      let more : (ns : List ℕ) → All (λ k. k < length lists) ns → All (λ k. k < length (lists ++ list ∷ [])) ns = λ ns all. All-weaker (λ k. k < length lists) (λ k. k < length (lists ++ list ∷ [])) (λ k l. omega (arith, l, size)) ns all in
      record {
        count = length-set buckets b bucket ∙ h.count;
        found = λ k l. elim (cases_lt k (length lists)) [
          | inl old ↦
              let same : named (lists ++ list ∷ []) k ≡ named lists k = get_or_append_left lists (list ∷ []) [] k old in
              subst (λ x. Contains (get_or (set buckets b bucket) (bucket_of x) []) k) (sym same) (kept (bucket_of (named lists k)) k (h.found k old))
          | inr past ↦
              let one : n ≡ k = omega (arith, size) in
              let same : named (lists ++ list ∷ []) k ≡ list = get_or_push lists list [] k (omega (arith, size)) in
              let there : Contains (get_or (set buckets b bucket) b []) k = subst (λ l. Contains l k) (sym here) (subst (Contains bucket) one (Contains-push (get_or buckets b []) n)) in
              subst (λ x. Contains (get_or (set buckets b bucket) (bucket_of x) []) k) (sym same) (subst (λ i. Contains (get_or (set buckets b bucket) i []) k) at there)
        ];
        small = λ c. elim (cases_eq c b) [
          | inl e ↦
              let all = All-push (λ k. k < length (lists ++ list ∷ [])) (get_or buckets b []) n (more (get_or buckets b []) (h.small b)) (omega (arith, size)) in
              subst (λ i. All (λ k. k < length (lists ++ list ∷ [])) (get_or (set buckets b bucket) i [])) (sym e) (subst (All (λ k. k < length (lists ++ list ∷ []))) (sym here) all)
          | inr m ↦ subst (All (λ k. k < length (lists ++ list ∷ []))) (sym (other c m)) (more (get_or buckets c []) (h.small c))
        ];
        once = all_pairs_push (λ s t. s ≢ t) lists list h.once (λ k d l e. new (subst (Contains lists) e (Contains-get_or lists k d l)));
      }

pub Indexed-none : (buckets : List (List ℕ)) → buckets ≡ replicate BUCKETS [] → IsIndexed [] buckets
Indexed-none buckets e =
    let none : (b : ℕ) → get_or buckets b [] ≡ [] = λ b. ap (λ l. get_or l b []) e ∙ nothing b in
    record {
      count = ap length e ∙ length-replicate {A = List ℕ} BUCKETS [];
      found = λ k l. absurd (omega arith);
      small = λ b. subst (All (λ n. n < 0)) (sym (none b)) (All-nil (λ n. n < 0));
      once = λ i j d l l'. absurd (omega arith);
    }
  where
    nothing : (b : ℕ) → get_or (replicate {A = List ℕ} BUCKETS []) b [] ≡ []
    nothing b =
        elim (cases_lt b BUCKETS) [
          | inl low ↦ get_or-replicate {A = List ℕ} BUCKETS b [] [] low
          | inr past ↦ get_or_past (replicate {A = List ℕ} BUCKETS []) b [] (omega (arith, past, length-replicate {A = List ℕ} BUCKETS []))
        ]

-- ---- which bucket

pub mixed_more : (h : ℕ) (xs : List ℕ) (i : ℕ) → i < length xs → mixed (mixed h (get_or xs i 0 ∷ [])) (drop (i + 1) xs) ≡ mixed h (drop i xs)
mixed_more h xs i l = sym (ap (mixed h) (drop_more xs i 0 l))

pub mixed_past : (h : ℕ) (xs : List ℕ) (i : ℕ) → length xs ≤ i → mixed h (drop i xs) ≡ h
mixed_past h xs i l = ap (mixed h) (drop_all i xs l)

pub mixed_all_more : (h : ℕ) (list : List Summary) (i : ℕ) (s : Summary) → i < length list → s ≡ get_or list i s → mixed_all (mixed (mixed (mixed h (s.keep ∷ [])) (s.add ∷ [])) s.constants) (drop (i + 1) list) ≡ mixed_all h (drop i list)
mixed_all_more h list i s l is = sym (ap (mixed_all h) (drop_more list i s l ∙ ap (λ x. x ∷ drop (i + 1) list) (sym is)))

pub mixed_all_past : (h : ℕ) (list : List Summary) (i : ℕ) → length list ≤ i → mixed_all h (drop i list) ≡ h
mixed_all_past h list i l = ap (mixed_all h) (drop_all i list l)

-- ---- equal lists

pub same_more : (xs ys : List Summary) (i : ℕ) (s t : Summary) → i < length xs → i < length ys → s ≡ get_or xs i s → t ≡ get_or ys i t → s ≡ t → take i xs ≡ take i ys → take (i + 1) xs ≡ take (i + 1) ys
same_more xs ys i s t l m is is' e h =
    take_more xs i s l
    ∙ ap (λ x. take i xs ++ x ∷ []) (sym is ∙ e ∙ is')
    ∙ ap (λ zs. zs ++ get_or ys i t ∷ []) h
    ∙ sym (take_more ys i t m)

pub same_at : (xs ys : List Summary) (i : ℕ) (s t : Summary) → i < length ys → s ≡ get_or xs i s → t ≡ get_or ys i t → xs ≡ ys → s ≡ t
same_at xs ys i s t m is is' e = is ∙ ap (λ zs. get_or zs i s) e ∙ get_or_default ys i s t m ∙ sym is'
