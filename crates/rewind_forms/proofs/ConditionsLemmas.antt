-- Literals that are read one after another.
use Rattle.std.proofs.Common.{◌≡◌, ◌≢◌, ◌∙◌, ℕ, ◌+◌, ◌<◌, Bool, true, false, if◌then◌else◌, nat_le, List, [], ◌∷◌, ◌++◌, length, drop, get_or, Option, Result, Ok, Err, IfOk, IfErr, refl, sym, ap, subst, suc, append_assoc, length-append, arith}
use Rattle.std.proofs.Math.Seq.{drop-cons}
use Rattle.serde_json.specs.Data.{Data}
use Rattle.nd_graph.specs.Graph.{Dataflow}
use Rattle.nd_breaks.specs.Conditions.{ConditionValue}
use Rattle.nd_breaks.specs.declared.condition.Literal.{Literal}
use Rattle.nd_breaks.specs.declared.condition.Quantifier.{Quantifier}
use Rattle.rewind_forms.specs.Conditions.{lesser, beside, literal_of, literals_of, literals_read, with_literal, with_fault, IsOf}
use Rattle.rewind_forms.specs.LineFaults.{code_of}
use Rattle.rewind_forms.specs.declared.version.Version.{Version}
use Rattle.rewind_forms.specs.declared.fault.LineFault.{LineFault}

-- the literals that were read, followed by the others, or the error with the least number
abbrev pub ahead : Result (List Literal) LineFault → Result (List Literal) LineFault → Result (List Literal) LineFault
ahead (Ok ks) (Ok ls) = Ok (ks ++ ls)
ahead (Ok ks) (Err f) = Err f
ahead (Err e) (Ok ls) = Err e
ahead (Err e) (Err f) = Err (lesser e f)

lesser_of_three : (e f h : LineFault) → lesser e (lesser f h) ≡ lesser (lesser e f) h
unfolding lesser
lesser_of_three e f h = grind arith

-- the next item is a literal
pub ahead_literal : (r rest : Result (List Literal) LineFault) (l : Literal) → ahead r (beside (Ok l) rest) ≡ ahead (with_literal r l) rest
ahead_literal (Ok ks) (Ok ls) l = ap Ok (sym (append_assoc ks (l ∷ []) ls))
ahead_literal (Ok ks) (Err f) l = refl
ahead_literal (Err e) (Ok ls) l = refl
ahead_literal (Err e) (Err f) l = refl

-- the next item is an error
pub ahead_fault : (r rest : Result (List Literal) LineFault) (f : LineFault) → ahead r (beside (Err f) rest) ≡ ahead (Err (with_fault r f)) rest
ahead_fault (Ok ks) (Ok ls) f = refl
ahead_fault (Ok ks) (Err h) f = refl
ahead_fault (Err e) (Ok ls) f = refl
ahead_fault (Err e) (Err h) f = ap Err (lesser_of_three e f h)

-- ---- one by one

-- the first i values of a list were read as literals
pub record HaveRead (v : Version) (g : Dataflow) (quantifier : Quantifier) (ds : List Data) (i : ℕ) (read : Result (Option ConditionValue) LineFault) : Type 0 where
  pub all : literals_of v g ds ≡ ahead (literals_read read) (literals_of v g (drop i ds))
  pub count : IfOk (literals_read read) (λ literals. length literals ≡ i)
  pub kind : IsOf quantifier read

-- the next item of a list
next_literal : (v : Version) (g : Dataflow) (ds : List Data) (i : ℕ) (d : Data) → i < length ds → d ≡ get_or ds i d
    → literals_of v g (drop i ds) ≡ beside (literal_of v g d) (literals_of v g (drop (i + 1) ds))
next_literal v g ds i d lt is =
    let after : suc i ≡ i + 1 = omega arith in
    ap (literals_of v g) (drop-cons ds i d lt)
    ∙ (λ j. beside (literal_of v g (sym is j)) (literals_of v g (drop (after j) ds)))

one_more : (r : Result (List Literal) LineFault) (l : Literal) (i : ℕ) → IfOk r (λ literals. length literals ≡ i) → IfOk (with_literal r l) (λ literals. length literals ≡ i + 1)
one_more (Ok ls) l i count = length-append ls (l ∷ []) ∙ ap (λ n. n + 1) count
one_more (Err e) l i count = count

module _ (v : Version) (g : Dataflow) (quantifier : Quantifier) (ds : List Data) (i : ℕ) (d : Data) (lt : i < length ds) (is : d ≡ get_or ds i d) (read : Result (Option ConditionValue) LineFault) where
  -- one more literal
  pub read_literal : (new : Result (Option ConditionValue) LineFault) (l : Literal) → literal_of v g d ≡ Ok l → literals_read new ≡ with_literal (literals_read read) l
      → (IsOf quantifier read → IsOf quantifier new) → HaveRead v g quantifier ds i read → HaveRead v g quantifier ds (i + 1) new
  read_literal new l literal more kept before = record {
    all = before.all
        ∙ ap (ahead (literals_read read)) (next_literal v g ds i d lt is ∙ ap (λ r. beside r (literals_of v g (drop (i + 1) ds))) literal)
        ∙ ahead_literal (literals_read read) (literals_of v g (drop (i + 1) ds)) l
        ∙ ap (λ r. ahead r (literals_of v g (drop (i + 1) ds))) (sym more);
    count = subst (λ (r : Result (List Literal) LineFault). IfOk r (λ literals. length literals ≡ i + 1)) (sym more) (one_more (literals_read read) l i before.count);
    kind = kept before.kind;
  }

  -- one more faulty literal
  pub read_fault : (f e : LineFault) → literal_of v g d ≡ Err f → e ≡ with_fault (literals_read read) f
      → HaveRead v g quantifier ds i read → HaveRead v g quantifier ds (i + 1) (Err e)
  read_fault f e literal more before = record {
    all = before.all
        ∙ ap (ahead (literals_read read)) (next_literal v g ds i d lt is ∙ ap (λ r. beside r (literals_of v g (drop (i + 1) ds))) literal)
        ∙ ahead_fault (literals_read read) (literals_of v g (drop (i + 1) ds)) f
        ∙ ap (λ h. ahead (Err h) (literals_of v g (drop (i + 1) ds))) (sym more);
    count = tt;
    kind = tt;
  }
