-- How much of some replies was written. The writer held `before` and holds `after`.
use Rattle.std.proofs.Common.{◌≡◌, ◌∙◌, ℕ, List, ◌++◌, length, take, Option, Some, sym, ap}
use Rattle.serde_json.specs.Data.{Data}
use Rattle.rewind_lines.specs.Cuts.{take-clip}
use Rattle.rewind_lines.specs.Known.{Known, text_of-append}
use Rattle.rewind_lines.specs.Texts.{text_of}

-- the first bytes of their text were written
pub record WroteFront (replies : List Data) (before : List ℕ) (after : Option (List ℕ)) : Type 0 where
  pub count : ℕ
  pub written : after ≡ Some (before ++ take count (text_of replies))

-- their first lines were written
pub record WroteLines (replies : List Data) (before : List ℕ) (after : Option (List ℕ)) : Type 0 where
  pub count : ℕ
  pub written : after ≡ Some (before ++ text_of (take count replies))

-- ---- the first of some replies are the first of more

pub front-more : (xs ys : List Data) (before : List ℕ) (after : Known) → WroteFront xs before after → WroteFront (xs ++ ys) before after
front-more xs ys before after h = record {
  count = length (take h.count (text_of xs));
  written = h.written
      ∙ ap (λ (t : List ℕ). Some (before ++ t))
      (sym (ap (take (length (take h.count (text_of xs)))) (text_of-append xs ys) ∙ take-clip h.count (text_of xs) (text_of ys)));
}

pub lines-more : (xs ys : List Data) (before : List ℕ) (after : Known) → WroteLines xs before after → WroteLines (xs ++ ys) before after
lines-more xs ys before after h = record {
  count = length (take h.count xs);
  written = h.written ∙ ap (λ (rs : List Data). Some (before ++ text_of rs)) (sym (take-clip h.count xs ys));
}
