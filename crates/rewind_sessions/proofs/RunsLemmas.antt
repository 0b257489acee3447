-- The lines of a log and of errors, gathered one after another.
use Rattle.std.proofs.Common.{◌≡◌, ◌∙◌, ℕ, ◌+◌, ◌<◌, List, [], ◌∷◌, ◌++◌, length, take, drop, get_or, map, Some, None, sym, ap, subst, arith, append_assoc}
use Rattle.std.proofs.lemmas.List.{length-take, map-append, take-append-drop, take_more}
use Rattle.std.proofs.Math.Seq.{take-append_seam}
use Rattle.serde_json.specs.Data.{Data}
use Rattle.rewind_lines.specs.Known.{Known}
use Rattle.rewind_lines.specs.Texts.{text_of}
use Rattle.nd_session.specs.Faults.{code_of}
use Rattle.rewind_options.specs.declared.fault.DebugFault.{DebugFault}
use Rattle.rewind_options.specs.declared.fault.DebugFault.TheVariants as fault
use Rattle.rewind_sessions.specs.Gathered.{Gathered, GatherFails, StopsIn}
use Rattle.rewind_sessions.specs.Written.{WroteFront, WroteLines, front-more}
use Rattle.rewind_sessions.specs.Runs.{Ended, client_fault, faults_data}

-- the gathered replies that were written are complete lines
pub lines-of : (xs ys all : List Data) (waiting before : List ℕ) (after : Known) → Gathered xs waiting before after → xs ++ ys ≡ all → WroteLines all before after
lines-of xs ys all waiting before after h same = record {
  count = length h.sent;
  written = h.written
      ∙ ap (λ (rs : List Data). Some (before ++ text_of rs))
      (sym (ap (take (length h.sent)) (sym same ∙ (ap (λ (rs : List Data). rs ++ ys) h.split ∙ append_assoc h.sent h.kept ys)) ∙ take-append_seam h.sent (h.kept ++ ys)));
}

-- the gathering of one reply failed
pub stops-put : (xs ys all : List Data) (x : Data) (waiting before : List ℕ) (after : Known) (e : DebugFault) → GatherFails xs x waiting before after e
    → (xs ++ x ∷ []) ++ ys ≡ all → StopsIn all before after e
stops-put xs ys all x waiting before after fault.Memory h same = lines-of xs (x ∷ ys) all waiting before after h (sym (append_assoc xs (x ∷ []) ys) ∙ same)
stops-put xs ys all x waiting before after fault.Write h same = subst (λ (rs : List Data). WroteFront rs before after) same (front-more (xs ++ x ∷ []) ys before after h)
stops-put xs ys all x waiting before after fault.Graph h same = absurd h
stops-put xs ys all x waiting before after fault.Script h same = absurd h
stops-put xs ys all x waiting before after fault.Read h same = absurd h
stops-put xs ys all x waiting before after fault.TooLong h same = absurd h
stops-put xs ys all x waiting before after fault.Close h same = absurd h

-- ---- the lines of a list, by a function

pub map-one : {A : Type 0} (f : A → Data) (xs : List Data) (zs : List A) (i : ℕ) (a : A) (x : Data) → i < length zs → a ≡ get_or zs i a → x ≡ f a
    → (xs ++ map f (take i zs)) ++ x ∷ [] ≡ xs ++ map f (take (i + 1) zs)
map-one f xs zs i a x h at here =
    append_assoc xs (map f (take i zs)) (x ∷ [])
    ∙ ap (λ ds. xs ++ ds) (ap (λ (d : Data). map f (take i zs) ++ d ∷ []) here ∙ (sym (map-append f (take i zs) (a ∷ []))
    ∙ ap (map f) (ap (λ y. take i zs ++ y ∷ []) at ∙ sym (take_more zs i a h))))

pub map-rest : {A : Type 0} (f : A → Data) (xs : List Data) (zs : List A) (i : ℕ) → (xs ++ map f (take i zs)) ++ map f (drop i zs) ≡ xs ++ map f zs
map-rest f xs zs i =
    append_assoc xs (map f (take i zs)) (map f (drop i zs)) ∙ ap (λ ds. xs ++ ds) (sym (map-append f (take i zs) (drop i zs)) ∙ ap (map f) (take-append-drop i zs))

-- ---- errors

faults-append : (k : ℕ) (xs ys : List Ended) → faults_data k (xs ++ ys) ≡ faults_data k xs ++ faults_data (k + length xs) ys
faults-append k [] ys = ap (λ j. faults_data j ys) (omega arith)
faults-append k (None ∷ xs) ys = faults-append (k + 1) xs ys ∙ ap (λ j. faults_data (k + 1) xs ++ faults_data j ys) (omega arith)
faults-append k (Some e ∷ xs) ys =
    ap (λ ds. client_fault k (code_of e) ∷ ds) (faults-append (k + 1) xs ys ∙ ap (λ j. faults_data (k + 1) xs ++ faults_data j ys) (omega arith))

pub faults-one : (xs : List Data) (fs : List Ended) (i : ℕ) (f : Ended) → i < length fs → f ≡ get_or fs i f → (xs ++ faults_data 0 (take i fs)) ++ faults_data i (f ∷ []) ≡ xs ++ faults_data 0 (take (i + 1) fs)
faults-one xs fs i f h at =
    let size : 0 + length (take i fs) ≡ i = omega (arith, length-take i fs) in
    append_assoc xs (faults_data 0 (take i fs)) (faults_data i (f ∷ []))
    ∙ ap (λ ds. xs ++ ds) (ap (λ j. faults_data 0 (take i fs) ++ faults_data j (f ∷ [])) (sym size)
    ∙ (sym (faults-append 0 (take i fs) (f ∷ [])) ∙ ap (faults_data 0) (ap (λ y. take i fs ++ y ∷ []) at ∙ sym (take_more fs i f h))))

-- those before one of them, that one, and the others
pub faults-step : (xs : List Data) (fs : List Ended) (i : ℕ) (f : Ended) → i < length fs → f ≡ get_or fs i f
    → ((xs ++ faults_data 0 (take i fs)) ++ faults_data i (f ∷ [])) ++ faults_data (i + 1) (drop (i + 1) fs) ≡ xs ++ faults_data 0 fs
faults-step xs fs i f h at =
    ap (λ ds. ds ++ faults_data (i + 1) (drop (i + 1) fs)) (faults-one xs fs i f h at)
    ∙ (append_assoc xs (faults_data 0 (take (i + 1) fs)) (faults_data (i + 1) (drop (i + 1) fs))
    ∙ ap (λ ds. xs ++ ds) (
    let size : 0 + length (take (i + 1) fs) ≡ i + 1 = omega (arith, length-take (i + 1) fs) in
    ap (λ j. faults_data 0 (take (i + 1) fs) ++ faults_data j (drop (i + 1) fs)) (sym size)
    ∙ (sym (faults-append 0 (take (i + 1) fs) (drop (i + 1) fs)) ∙ ap (faults_data 0) (take-append-drop (i + 1) fs))
    ))
