-- A run processes one more line.
use Rattle.std.proofs.Common.{◌≡◌, ◌∙◌, ℕ, ◌+◌, List, [], ◌∷◌, ◌++◌, length, Option, Some, None, Vec, refl, sym, ap, subst, arith, append_assoc}
use Rattle.std.proofs.lemmas.List.{append-nil}
use Rattle.serde_json.specs.Data.{Data}
use Rattle.std.specs.declared.alloc.Global.{Global}
use Rattle.rewind_lines.specs.Lines.{Reading, reading_of}
use Rattle.rewind_lines.specs.Texts.{reply_text}
use Rattle.rewind_answers.specs.Answers.{Answers, Phase, limit_in}
use Rattle.rewind_answers.specs.Stages.{AreReplies}
use Rattle.rewind_run.specs.Script.{Run}
use Rattle.rewind_run.specs.States.{Gathers}

pub Run-push : (old mid new : Phase) (k n : ℕ) (lines : List (List ℕ)) (line : List ℕ) (replies first : List Data) → n ≡ k + length lines
    → Run old k lines replies mid → Answers mid n (reading_of (limit_in mid) line) first new → Run old k (lines ++ line ∷ []) (replies ++ first) new
unfolding Run
Run-push old mid new k n [] line replies first e h a =
    let same : n ≡ k = omega arith in
    let mine : Answers old k (reading_of (limit_in old) line) first new =
    subst (λ (m : ℕ). Answers old m (reading_of (limit_in old) line) first new) same (subst (λ (p : Phase). Answers p n (reading_of (limit_in p) line) first new) h.1 a) in
    (first, new, [], mine, (refl, refl), ap (λ rs. rs ++ first) h.0 ∙ sym (append-nil first))
Run-push old mid new k n (l ∷ ls) line replies first e h a =
    let count : n ≡ (k + 1) + length ls = omega arith in (
      h.0,
      h.1,
      h.2 ++ first,
      h.3,
      Run-push h.1 mid new (k + 1) n ls line h.2 first count h.4 a,
      ap (λ rs. rs ++ first) h.5 ∙ append_assoc h.0 h.2 first,
    )

-- a line without a reply
pub gathers-none : (old new : Phase) (n m : ℕ) (reading : Reading) (reply : Option (Vec ℕ Global)) (waited : List ℕ) → reply ≡ None → m ≡ n
    → AreReplies (λ rs. Answers old m reading rs new) reply → Gathers old n reading waited waited 0 new
gathers-none old new n m reading reply waited is same h = record {
  replies = [];
  answers = subst (λ (k : ℕ). Answers old k reading [] new) same (subst (λ (r : Option (Vec ℕ Global)). AreReplies (λ rs. Answers old m reading rs new) r) is h);
  gathered = sym (append-nil waited);
  is_count = refl;
}

-- a line whose reply has this text
pub gathers-one : (old new : Phase) (n m : ℕ) (reading : Reading) (reply : Option (Vec ℕ Global)) (text : Vec ℕ Global) (waited waits : List ℕ) → reply ≡ Some text → m ≡ n
    → AreReplies (λ rs. Answers old m reading rs new) reply → waits ≡ waited ++ (text.items ++ 10 ∷ []) → Gathers old n reading waited waits 1 new
unfolding reply_text
gathers-one old new n m reading reply text waited waits is same h added =
    let told = subst (λ (r : Option (Vec ℕ Global)). AreReplies (λ rs. Answers old m reading rs new) r) is h in record {
      replies = told.0 ∷ [];
      answers = subst (λ (k : ℕ). Answers old k reading (told.0 ∷ []) new) same told.1;
      gathered = added ∙ ap (λ t. waited ++ (t ++ 10 ∷ [])) told.2 ∙ ap (λ t. waited ++ t) (sym (append-nil (reply_text told.0)));
      is_count = refl;
    }
