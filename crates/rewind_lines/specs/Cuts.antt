-- Laws of dividing an input into lines. The last part is the line that is being read; the parts before it are complete.
use Rattle.std.proofs.Common.{◌≡◌, ◌∙◌, ℕ, zero, suc, ◌+◌, ◌-◌, ◌||◌, Bool, true, false, cond, List, [], ◌∷◌, ◌++◌, length, take, drop, refl, sym, ap, arith, append_assoc, length-append, take-add}
use Rattle.std.proofs.lemmas.Bool.{false≢true}
use Rattle.std.proofs.lemmas.List.{get_or_at, take-append-drop}
use Rattle.std.proofs.Math.Seq.{take-append_seam}
use Rattle.std.specs.List.{slice_split, onto_first}
use Rattle.rewind_lines.specs.Lines.{has_newline, is_newline, last_line_of, lines_of, whole_lines_of}

abbrev Parts : Type 0
Parts = List (List ℕ)

abbrev cut : List ℕ → Parts
cut input = slice_split is_newline input

-- there is at least one part
some-part : (input : List ℕ) → (first : List ℕ) × (more : Parts) × (cut input ≡ first ∷ more)
some-part [] = ([], [], refl)
some-part (b ∷ input) = either (is_newline b) (some-part input)
  where
    either : (ends : Bool) → ((first : List ℕ) × (more : Parts) × (cut input ≡ first ∷ more))
        → (first : List ℕ) × (more : Parts) × (cond ends ([] ∷ cut input) (onto_first b (cut input)) ≡ first ∷ more)
    either true s = ([], cut input, refl)
    either false s = (b ∷ s.0, s.1, rw s.2 refl)

-- the last of the parts joined with the first of the others
abbrev joined : Parts → Parts → Parts
joined [] others = others
joined (part ∷ []) [] = part ∷ []
joined (part ∷ []) (first ∷ more) = (part ++ first) ∷ more
joined (line ∷ (next ∷ lines)) others = line ∷ joined (next ∷ lines) others

joined-at : (lines : Parts) (part first : List ℕ) (more : Parts) → joined (lines ++ part ∷ []) (first ∷ more) ≡ lines ++ (part ++ first) ∷ more
joined-at [] part first more = refl
joined-at (line ∷ []) part first more = refl
joined-at (line ∷ (next ∷ lines)) part first more = ap (λ ps. line ∷ ps) (joined-at (next ∷ lines) part first more)

cut-append : (xs ys : List ℕ) → cut (xs ++ ys) ≡ joined (cut xs) (cut ys)
cut-append [] ys = let s = some-part ys in rw s.2 refl
cut-append (b ∷ xs) ys = rw (cut-append xs ys) (either (is_newline b) (some-part xs) (some-part ys))
  where
    onto : (first : List ℕ) (more : Parts) (q : List ℕ) (qs : Parts) → onto_first b (joined (first ∷ more) (q ∷ qs)) ≡ joined ((b ∷ first) ∷ more) (q ∷ qs)
    onto first [] q qs = refl
    onto first (next ∷ more) q qs = refl

    either : (ends : Bool) → ((first : List ℕ) × (more : Parts) × (cut xs ≡ first ∷ more)) → ((first : List ℕ) × (more : Parts) × (cut ys ≡ first ∷ more))
        → cond ends ([] ∷ joined (cut xs) (cut ys)) (onto_first b (joined (cut xs) (cut ys))) ≡ joined (cond ends ([] ∷ cut xs) (onto_first b (cut xs))) (cut ys)
    either true s t = rw s.2 refl
    either false s t = rw (s.2, t.2) (onto s.0 s.1 t.0 t.1)

-- bytes without a newline are one part
cut-none : (bytes : List ℕ) → has_newline bytes ≡ false → cut bytes ≡ bytes ∷ []
cut-none [] none = refl
cut-none (b ∷ bytes) none = either (is_newline b) (has_newline bytes) none (cut-none bytes)
  where
    either : (ends later : Bool) → (ends || later) ≡ false → (later ≡ false → cut bytes ≡ bytes ∷ []) → cond ends ([] ∷ cut bytes) (onto_first b (cut bytes)) ≡ (b ∷ bytes) ∷ []
    either true later none alone = absurd (false≢true (sym none))
    either false later none alone = ap (onto_first b) (alone none)

-- a list with an element has a last element
last-of : (first : List ℕ) (more : Parts) → (lines : Parts) × (part : List ℕ) × (first ∷ more ≡ lines ++ part ∷ [])
last-of first [] = ([], first, refl)
last-of first (next ∷ more) = let l = last-of next more in (first ∷ l.0, l.1, ap (λ ps. first ∷ ps) l.2)

-- ---- the complete lines, and the last line

whole_lines-at : (done : List ℕ) (lines : Parts) (part : List ℕ) → lines_of done ≡ lines ++ part ∷ [] → whole_lines_of done ≡ lines
unfolding whole_lines_of
whole_lines-at done lines part e =
    let n : length (lines ++ part ∷ []) ≡ length lines + 1 = length-append lines (part ∷ []) in
    let m : length (lines ++ part ∷ []) - 1 ≡ length lines = omega arith in
    rw (e, m) (take-append_seam lines (part ∷ []))

last_line-at : (done : List ℕ) (lines : Parts) (part : List ℕ) → lines_of done ≡ lines ++ part ∷ [] → last_line_of done ≡ part
unfolding last_line_of
last_line-at done lines part e =
    let n : length (lines ++ part ∷ []) ≡ length lines + 1 = length-append lines (part ∷ []) in
    let m : length lines ≡ length (lines ++ part ∷ []) - 1 = omega arith in
    rw e (get_or_at lines part [] [] (length (lines ++ part ∷ []) - 1) m)

pub lines-split : (done : List ℕ) → lines_of done ≡ whole_lines_of done ++ last_line_of done ∷ []
unfolding lines_of
lines-split done =
    let s = some-part done in
    let l = last-of s.0 s.1 in
    let same : cut done ≡ l.0 ++ l.1 ∷ [] = s.2 ∙ l.2 in
    rw (whole_lines-at done l.0 l.1 same, last_line-at done l.0 l.1 same) same

pub lines-count : (done : List ℕ) → length (lines_of done) ≡ 1 + length (whole_lines_of done)
lines-count done =
    let n : length (lines_of done) ≡ length (whole_lines_of done ++ last_line_of done ∷ []) = ap length (lines-split done) in
    omega (arith, length-append (whole_lines_of done) (last_line_of done ∷ []))

-- an empty input has one line, which is empty
lines-empty : lines_of [] ≡ [] ∷ []
unfolding lines_of
lines-empty = refl

pub whole_lines-empty : whole_lines_of [] ≡ []
whole_lines-empty = whole_lines-at [] [] [] lines-empty

pub last_line-empty : last_line_of [] ≡ []
last_line-empty = last_line-at [] [] [] lines-empty

-- bytes without a newline are added to the last line
lines-on : (done bytes : List ℕ) → has_newline bytes ≡ false → lines_of (done ++ bytes) ≡ whole_lines_of done ++ (last_line_of done ++ bytes) ∷ []
unfolding lines_of
lines-on done bytes none =
    cut-append done bytes
    ∙ (ap (λ ps. joined ps (cut bytes)) (lines-split done)
    ∙ (ap (joined (whole_lines_of done ++ last_line_of done ∷ [])) (cut-none bytes none) ∙ joined-at (whole_lines_of done) (last_line_of done) bytes []))

pub whole_lines-on : (done bytes : List ℕ) → has_newline bytes ≡ false → whole_lines_of (done ++ bytes) ≡ whole_lines_of done
whole_lines-on done bytes none = whole_lines-at (done ++ bytes) (whole_lines_of done) (last_line_of done ++ bytes) (lines-on done bytes none)

pub last_line-on : (done bytes : List ℕ) → has_newline bytes ≡ false → last_line_of (done ++ bytes) ≡ last_line_of done ++ bytes
last_line-on done bytes none = last_line-at (done ++ bytes) (whole_lines_of done) (last_line_of done ++ bytes) (lines-on done bytes none)

-- a newline ends the last line and starts another one
lines-newline : (done more : List ℕ) → lines_of (done ++ 10 ∷ more) ≡ lines_of done ++ lines_of more
unfolding lines_of
lines-newline [] more = refl
lines-newline (b ∷ done) more = rw (lines-newline done more) (either (is_newline b) (some-part done))
  where
    either : (ends : Bool) → ((first : List ℕ) × (rest : Parts) × (cut done ≡ first ∷ rest))
        → cond ends ([] ∷ (cut done ++ cut more)) (onto_first b (cut done ++ cut more)) ≡ cond ends ([] ∷ cut done) (onto_first b (cut done)) ++ cut more
    either true s = refl
    either false s = rw s.2 refl

lines-ended : (done : List ℕ) → lines_of (done ++ 10 ∷ []) ≡ lines_of done ++ [] ∷ []
lines-ended done = lines-newline done [] ∙ ap (λ ls. lines_of done ++ ls) lines-empty

pub whole_lines-newline : (done : List ℕ) → whole_lines_of (done ++ 10 ∷ []) ≡ lines_of done
whole_lines-newline done = whole_lines-at (done ++ 10 ∷ []) (lines_of done) [] (lines-ended done)

pub last_line-newline : (done : List ℕ) → last_line_of (done ++ 10 ∷ []) ≡ []
last_line-newline done = last_line-at (done ++ 10 ∷ []) (lines_of done) [] (lines-ended done)

-- complete lines stay as they are, whatever follows
pub whole_lines-more : (done more : List ℕ) → (rest : List (List ℕ)) × (whole_lines_of (done ++ more) ≡ whole_lines_of done ++ rest)
unfolding lines_of
whole_lines-more done more =
    let m = some-part more in
    let n = last-of (last_line_of done ++ m.0) m.1 in
    let w = whole_lines_of done in
    let same : cut (done ++ more) ≡ (w ++ n.0) ++ n.1 ∷ [] =
    cut-append done more
    ∙ (ap (λ ps. joined ps (cut more)) (lines-split done)
    ∙ (ap (joined (w ++ last_line_of done ∷ [])) m.2
    ∙ (joined-at w (last_line_of done) m.0 m.1 ∙ (ap (λ ps. w ++ ps) n.2 ∙ sym (append_assoc w n.0 (n.1 ∷ [])))))) in
    (n.0, whole_lines-at (done ++ more) (w ++ n.0) n.1 same)

pub whole_lines-front : (done more : List ℕ) → take (length (whole_lines_of done)) (whole_lines_of (done ++ more)) ≡ whole_lines_of done
whole_lines-front done more =
    let w = whole_lines-more done more in
    ap (take (length (whole_lines_of done))) w.1 ∙ take-append_seam (whole_lines_of done) w.0

-- ---- the bytes of a part

-- the bytes before an index, and those from it to the end
pub up_to : (done bytes : List ℕ) (from : ℕ) → (done ++ take from bytes) ++ drop from bytes ≡ done ++ bytes
up_to done bytes from = append_assoc done (take from bytes) (drop from bytes) ∙ ap (λ zs. done ++ zs) (take-append-drop from bytes)

pub up_to-more : (done bytes : List ℕ) (from m : ℕ) → (done ++ take from bytes) ++ take m (drop from bytes) ≡ done ++ take (from + m) bytes
up_to-more done bytes from m = append_assoc done (take from bytes) (take m (drop from bytes)) ∙ ap (λ zs. done ++ zs) (sym (take-add from m bytes))

-- the bytes up to the end of a line
pub up_to-newline : (done bytes rest : List ℕ) (from n : ℕ) → take n (drop from bytes) ≡ rest ++ 10 ∷ [] → ((done ++ take from bytes) ++ rest) ++ 10 ∷ [] ≡ done ++ take (from + n) bytes
up_to-newline done bytes rest from n split =
    append_assoc (done ++ take from bytes) rest (10 ∷ []) ∙ (ap (λ zs. (done ++ take from bytes) ++ zs) (sym split) ∙ up_to-more done bytes from n)

-- a prefix of a prefix is a prefix
pub take-clip : {A : Type 0} (n : ℕ) (xs ys : List A) → take (length (take n xs)) (xs ++ ys) ≡ take n xs
take-clip zero xs ys = refl
take-clip (suc n) [] ys = refl
take-clip (suc n) (x ∷ xs) ys = ap (λ zs. x ∷ zs) (take-clip n xs ys)
