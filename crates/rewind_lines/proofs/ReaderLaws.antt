-- What is stored of a script, after some more bytes or a newline.
use Rattle.std.proofs.Common.{◌≡◌, ◌∙◌, ℕ, zero, suc, ◌+◌, ◌<◌, ◌==◌, ◌||◌, Bool, true, false, List, [], ◌∷◌, ◌++◌, length, take, get_or, refl, sym, ap, arith}
use Rattle.std.proofs.lemmas.Bool.{eqb-true}
use Rattle.std.proofs.lemmas.List.{take_more}
use Rattle.std.proofs.Math.Seq.{take-length}
use Rattle.memchr.specs.Find.{NoneBefore, Nowhere, Passes, is_byte}
use Rattle.rewind_lines.specs.Cuts.{last_line-empty, last_line-newline, last_line-on, lines-count, whole_lines-empty, whole_lines-newline, whole_lines-on}
use Rattle.rewind_lines.specs.Front.{Front, Held, front_of, held_of}
use Rattle.rewind_lines.specs.Lines.{EndsLine, has_newline, last_line_of, lines_of}

-- two values with equal parts are equal
kept : (f g : Held) → f.line ≡ g.line → f.number ≡ g.number → f ≡ g
kept f g line number = ap (λ (x : Front). made x f.number) line ∙ ap (made g.line) number
  where
    made : Front → ℕ → Held
    made x n = record { line = x; number = n }

pub held-first : (new : Held) (limit : ℕ) → new.line ≡ front_of limit [] → new.number ≡ 1 → new ≡ held_of limit []
held-first new limit line number =
    kept new (held_of limit []) (line ∙ ap (front_of limit) (sym last_line-empty)) (number ∙ sym (lines-count [] ∙ ap (λ (ls : List (List ℕ)). 1 + length ls) whole_lines-empty))

pub held-on : (held new : Held) (limit : ℕ) (done bytes : List ℕ) → has_newline bytes ≡ false
    → ((limit : ℕ) (line : List ℕ) → held.line ≡ front_of limit line → new.line ≡ front_of limit (line ++ bytes))
    → new.number ≡ held.number → held ≡ held_of limit done → new ≡ held_of limit (done ++ bytes)
held-on held new limit done bytes none line number h =
    let old : held.number ≡ length (lines_of done) = ap (λ f. f.number) h in
    let same : length (lines_of done) ≡ length (lines_of (done ++ bytes)) =
    lines-count done ∙ (ap (λ (ls : List (List ℕ)). 1 + length ls) (sym (whole_lines-on done bytes none)) ∙ sym (lines-count (done ++ bytes))) in
    kept new (held_of limit (done ++ bytes)) (line limit (last_line_of done) (ap (λ f. f.line) h) ∙ ap (front_of limit) (sym (last_line-on done bytes none))) (number ∙ (old ∙ same))

pub held-next : (held new : Held) (before limit : ℕ) (done : List ℕ) → new.line ≡ front_of limit [] → new.number ≡ held.number + 1 → held ≡ held_of before done
    → new ≡ held_of limit (done ++ 10 ∷ [])
held-next held new before limit done line number h =
    let old : held.number ≡ length (lines_of done) = ap (λ f. f.number) h in
    let count : length (lines_of (done ++ 10 ∷ [])) ≡ 1 + length (lines_of done) =
    lines-count (done ++ 10 ∷ []) ∙ ap (λ (ls : List (List ℕ)). 1 + length ls) (whole_lines-newline done) in
    let same : new.number ≡ length (lines_of (done ++ 10 ∷ [])) = omega arith in
    kept new (held_of limit (done ++ 10 ∷ [])) (line ∙ ap (front_of limit) (sym (last_line-newline done))) same

-- ---- the next newline

none-below : (bytes : List ℕ) (n : ℕ) → Nowhere (Passes (is_byte 10) bytes) 0 n → has_newline (take n bytes) ≡ false
none-below bytes zero none = refl
none-below [] (suc n) none = refl
none-below (b ∷ bytes) (suc n) none = either (b == 10) refl (none-below bytes n (λ k low less here. none (suc k) (omega arith) (omega arith) here))
  where
    either : (here : Bool) → (b == 10) ≡ here → has_newline (take n bytes) ≡ false → ((b == 10) || has_newline (take n bytes)) ≡ false
    either true e rest = absurd (none 0 (omega arith) (omega arith) e)
    either false e rest = ap (λ r. r || has_newline (take n bytes)) e ∙ rest

pub no-newline : (bytes : List ℕ) → Nowhere (Passes (is_byte 10) bytes) 0 (length bytes) → has_newline bytes ≡ false
no-newline bytes none = ap has_newline (sym (take-length bytes)) ∙ none-below bytes (length bytes) none

pub ends-line : (bytes : List ℕ) (i : ℕ) → NoneBefore (Passes (is_byte 10) bytes) 0 (length bytes) i → Passes (is_byte 10) bytes i → EndsLine bytes (i + 1) (take i bytes)
ends-line bytes i first here = record {
  some = omega arith;
  within = let below : i < length bytes = first.high in omega arith;
  split = take_more bytes i 0 first.high ∙ ap (λ (b : ℕ). take i bytes ++ b ∷ []) (eqb-true (get_or bytes i 0) 10 here);
  one_line = none-below bytes i first.before;
}
