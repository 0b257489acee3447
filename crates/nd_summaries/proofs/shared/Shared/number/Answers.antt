use Rattle.std.proofs.Common.{◌≡◌, ◌<◌, ◌∙◌, ℕ, List, [], ◌∷◌, ◌++◌, set, sym, ap, subst, length, get_or, arith, rules}
use Rattle.std.specs.Prelude.{All, Contains}
use Rattle.std.specs.Vec.{vec_len}
use Rattle.std.proofs.lemmas.List.{get_or_default, get_or_push, length_push}
use Rattle.std.proofs.lemmas.List.Elements.{All-contains}
use Rattle.nd_summaries.specs.declared.summary.Summary.{Summary}
use Rattle.nd_summaries.specs.Shared.{bucket_of, named, IsIndexed, IsNamed}
use Rattle.nd_summaries.proofs.Sharing.{Extends-none, Indexed-more, found_in}
use Rattle.nd_summaries.proofs.shared.Shared.number.Goals as goal

-- the bucket that is read, at any default
bucket_at : (buckets : List (List ℕ)) (b : ℕ) (bucket : List ℕ) → b < length buckets → bucket ≡ get_or buckets b bucket → bucket ≡ get_or buckets b []
bucket_at buckets b bucket low is = is ∙ get_or_default buckets b bucket [] low

-- a list that no number of its bucket names is new
is_new : (lists : List (List Summary)) (buckets : List (List ℕ)) (list : List Summary) (ns : List ℕ) → IsIndexed lists buckets → ns ≡ get_or buckets (bucket_of list) [] → All (λ n. named lists n ≡ list → ⊥) ns → Contains lists list → ⊥
is_new lists buckets list ns h e none k =
    let (n, in', there) = found_in lists buckets h list k in
    All-contains (λ n. named lists n ≡ list → ⊥) ns n none (subst (λ l. Contains l n) (sym e) in') there.1

pub find-found-requires : goal.find-found-requires
find-found-requires g c =
    let b : ℕ = c.bucket_for-bucket.result in
    let low : b < length c.args.self.now.buckets.items = omega (arith, c.bucket_for-bucket.ensures.small, c.requires.count) in
    let is : c.as_slice-2.result.now ≡ get_or c.args.self.now.buckets.items b [] = c.as_slice-2.ensures ∙ bucket_at c.args.self.now.buckets.items b c.index.result.now low c.index.ensures in
    let small = subst (λ ns. All (λ n. n < length c.args.self.now.lists.items) ns) (sym is) (c.requires.small b) in
    subst (λ lists. All (λ n. n < length lists) c.as_slice-2.result.now) (sym c.deref.ensures.value) small

pub returns-in-Some : goal.returns-in-Some
returns-in-Some g c = record {
  indexed = c.requires;
  named = subst (λ lists. IsNamed lists c.in-Some.number c.args.list.now) c.deref.ensures.value (subst (λ l. IsNamed c.deref.result.now c.in-Some.number l) c.as_slice-3.ensures c.in-Some.ensures);
  extends = Extends-none c.args.self.now.lists.items;
}

pub returns : goal.returns
returns g c =
    let lists : List (List Summary) = c.args.self.now.lists.items in
    let buckets : List (List ℕ) = c.args.self.now.buckets.items in
    let list : List Summary = c.args.list.now in
    let b : ℕ = c.bucket_for-bucket.result in
    let n : ℕ = c.in_ok-number.number in
    let low : b < length buckets = omega (arith, c.bucket_for-bucket.ensures.small, c.requires.count) in
    let at' : b ≡ bucket_of list = c.bucket_for-bucket.ensures.value ∙ ap bucket_of c.as_slice.ensures in
    let counted : length c.args.self.now.lists.items ≡ vec_len c.args.self.now.lists = search rules in
    let is : n ≡ length lists = c.in_ok-number.ensures ∙ c.len.ensures ∙ sym counted in
    let read : c.as_slice-2.result.now ≡ get_or buckets (bucket_of list) [] = c.as_slice-2.ensures ∙ bucket_at buckets b c.index.result.now low c.index.ensures ∙ ap (λ i. get_or buckets i []) at' in
    let none = subst (λ ls. All (λ n. named ls n ≡ list → ⊥) c.as_slice-2.result.now) c.deref.ensures.value (subst (λ l. All (λ n. named c.deref.result.now n ≡ l → ⊥) c.as_slice-2.result.now) c.as_slice-3.ensures c.in_default.ensures) in
    let new = is_new lists buckets list c.as_slice-2.result.now c.requires read none in
    let more = Indexed-more lists buckets c.requires list b n at' is c.bucket_for-bucket.ensures.small new in
    let written : c.push.new.self ≡ get_or buckets b [] ++ n ∷ [] = c.in_ok-push.ensures ∙ ap (λ l. l ++ n ∷ []) (bucket_at buckets b c.index_mut.result.now low c.index_mut.ensures.value) in
    let longer : c.push-2.new.self.items ≡ lists ++ list ∷ [] = c.in_ok-push-2.ensures.items ∙ ap (λ l. lists ++ l ∷ []) c.in_ok-copy.ensures in
    let there : IsNamed (lists ++ list ∷ []) n list = (omega (arith, length_push lists list, is), get_or_push lists list [] n (sym is)) in
    record {
      indexed = subst (λ ls. IsIndexed ls (set buckets b c.push.new.self)) (sym longer) (subst (λ l. IsIndexed (lists ++ list ∷ []) (set buckets b l)) (sym written) more);
      named = subst (λ ls. IsNamed ls n list) (sym longer) there;
      extends = (list ∷ [], longer);
    }
