-- The line that is being read.
use Rattle.std.proofs.Common.{◌≡◌, ◌∙◌, ◌⊎◌, inl, inr, ℕ, ◌+◌, ◌-◌, ◌<◌, ◌≤◌, min, ◌&&◌, ◌||◌, Bool, true, false, cond, List, ◌++◌, length, take, Option, None, refl, sym, ap, arith, length-append}
use Rattle.std.proofs.lemmas.List.{append-nil, length-take, take_all, take_min, take-append-le}
use Rattle.std.proofs.lemmas.List.Folds.{list_all-append}
use Rattle.std.proofs.lemmas.Bool.{cases_lt, ltb-false}
use Rattle.std.proofs.lemmas.Bool.Decides.{nat_tests}
use Rattle.std.proofs.Math.Seq.{take-append-add}
use Rattle.std.proofs.lemmas.Str.{is_utf8-from_IsUtf8, IsUtf8-from_is_utf8}
use Rattle.std.specs.List.{list_all}
use Rattle.std.specs.Prelude.{nat_lt}
use Rattle.std.specs.Str.{IsUtf8, is_utf8}
use Rattle.serde_json.specs.Data.{Data}
use Rattle.serde_json.specs.Read.{read}
use Rattle.rewind_lines.specs.Front.{Front, front_of}
use Rattle.rewind_lines.specs.Lines.{blank, too_long, json_or_none, is_blank_byte, json_of, reading_of}

pub json_of-utf8 : (bs : List ℕ) → IsUtf8 bs → json_of bs ≡ read bs
unfolding json_of
json_of-utf8 bs h = rw (is_utf8-from_IsUtf8 bs h) refl

pub json_of-none : (bs : List ℕ) → (IsUtf8 bs → read bs ≡ None) → json_of bs ≡ None
unfolding json_of
json_of-none bs h = go (is_utf8 bs) refl
  where
    go : (b : Bool) → is_utf8 bs ≡ b → cond (is_utf8 bs) (read bs) None ≡ None
    go true e = rw e (h (IsUtf8-from_is_utf8 bs e))
    go false e = rw e refl

-- the first n elements of a list and what follows it
take-both : (n : ℕ) (xs ys : List ℕ) → take n (xs ++ ys) ≡ take n xs ++ take (n - length xs) ys
take-both n xs ys = either (cases_lt n (length xs))
  where
    either : ((n < length xs) ⊎ (length xs ≤ n)) → take n (xs ++ ys) ≡ take n xs ++ take (n - length xs) ys
    either (inl below) =
        let none : n - length xs ≡ 0 = omega arith in
        take-append-le n xs ys (omega arith) ∙ sym (ap (λ m. take n xs ++ take m ys) none ∙ append-nil (take n xs))
    either (inr above) =
        let at : n ≡ length xs + (n - length xs) = omega arith in
        ap (λ m. take m (xs ++ ys)) at ∙ (take-append-add xs ys (n - length xs) ∙ ap (λ zs. zs ++ take (n - length xs) ys) (sym (take_all n xs above)))

longer-more : (m a b : ℕ) → (nat_lt m a || nat_lt (min (m - a) b) b) ≡ nat_lt m (a + b)
longer-more m a b = grind (arith, nat_tests)

-- two fronts with equal parts are equal
kept : (f g : Front) → f.limit ≡ g.limit → f.bytes ≡ g.bytes → f.is_longer ≡ g.is_longer → f.is_blank ≡ g.is_blank → f ≡ g
kept f g limit bytes longer is_blank =
    ap (λ (n : ℕ). made n f.bytes f.is_longer f.is_blank) limit
    ∙ (ap (λ (x : List ℕ). made g.limit x f.is_longer f.is_blank) bytes
    ∙ (ap (λ (x : Bool). made g.limit g.bytes x f.is_blank) longer ∙ ap (made g.limit g.bytes g.is_longer) is_blank))
  where
    made : ℕ → List ℕ → Bool → Bool → Front
    made n b x y = record { limit = n; bytes = b; is_longer = x; is_blank = y }

-- the bytes that still fit are added to the stored bytes
pub holds-more : (held new : Front) (limit : ℕ) (line bytes : List ℕ) (k : ℕ) → held ≡ front_of limit line → new.limit ≡ held.limit → k ≡ min (held.limit - length held.bytes) (length bytes)
    → new.bytes ≡ held.bytes ++ take k bytes → new.is_longer ≡ (held.is_longer || nat_lt k (length bytes)) → new.is_blank ≡ (held.is_blank && list_all is_blank_byte bytes)
    → new ≡ front_of limit (line ++ bytes)
holds-more held new limit line bytes k h same fits front longer is_blank =
    let most : held.limit ≡ limit = ap (λ f. f.limit) h in
    let n : length held.bytes ≡ length (take limit line) = ap (λ f. length f.bytes) h in
    let room : held.limit - length held.bytes ≡ limit - length line = omega (arith, length-take limit line) in
    let at : k ≡ min (limit - length line) (length bytes) = fits ∙ ap (λ m. min m (length bytes)) room in
    kept new (front_of limit (line ++ bytes))
    (same ∙ most)
    (front
    ∙ (ap (λ f. f.bytes ++ take k bytes) h
    ∙ (ap (λ m. take limit line ++ take m bytes) at
    ∙ (ap (λ zs. take limit line ++ zs) (take_min (limit - length line) bytes) ∙ sym (take-both limit line bytes)))))
    (longer
    ∙ (ap (λ f. f.is_longer || nat_lt k (length bytes)) h
    ∙ (ap (λ m. nat_lt limit (length line) || nat_lt m (length bytes)) at
    ∙ (longer-more limit (length line) (length bytes) ∙ ap (nat_lt limit) (sym (length-append line bytes))))))
    (is_blank ∙ (ap (λ f. f.is_blank && list_all is_blank_byte bytes) h ∙ sym (list_all-append is_blank_byte line bytes)))

pub reading-blank : (held : Front) (limit : ℕ) (line : List ℕ) → held ≡ front_of limit line → held.is_blank ≡ true → blank ≡ reading_of limit line
unfolding reading_of
reading-blank held limit line h e =
    let all : list_all is_blank_byte line ≡ true = sym (ap (λ f. f.is_blank) h) ∙ e in
    rw all refl

pub reading-long : (held : Front) (limit : ℕ) (line : List ℕ) → held ≡ front_of limit line → held.is_blank ≡ false → held.is_longer ≡ true → too_long ≡ reading_of limit line
unfolding reading_of
reading-long held limit line h e long =
    let some : list_all is_blank_byte line ≡ false = sym (ap (λ f. f.is_blank) h) ∙ e in
    let over : nat_lt limit (length line) ≡ true = sym (ap (λ f. f.is_longer) h) ∙ long in
    rw (some, over) refl

pub reading-text : (held : Front) (limit : ℕ) (line : List ℕ) (o : Option Data) → held ≡ front_of limit line → held.is_blank ≡ false → held.is_longer ≡ false
    → o ≡ json_of held.bytes → json_or_none o ≡ reading_of limit line
unfolding reading_of
reading-text held limit line o h e short is =
    let some : list_all is_blank_byte line ≡ false = sym (ap (λ f. f.is_blank) h) ∙ e in
    let under : nat_lt limit (length line) ≡ false = sym (ap (λ f. f.is_longer) h) ∙ short in
    let all : held.bytes ≡ line = ap (λ f. f.bytes) h ∙ take_all limit line (ltb-false limit (length line) under) in
    rw (some, under) (ap json_or_none (is ∙ ap json_of all))
