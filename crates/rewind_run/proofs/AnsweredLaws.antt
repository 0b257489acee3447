-- What was gathered is written, and the run continues or ends.
use Rattle.std.proofs.Common.{◌≡◌, ◌∙◌, ℕ, ◌+◌, List, [], ◌++◌, length, take, drop, Some, Result, Ok, Err, IfOk, IfErr, sym, ap, subst}
use Rattle.std.proofs.lemmas.List.{append-nil}
use Rattle.std.proofs.Math.Seq.{take-append-add}
use Rattle.std.specs.Io.KnownBytes.{Appends}
use Rattle.serde_json.specs.Data.{Data}
use Rattle.rewind_lines.specs.Cuts.{up_to, whole_lines-front}
use Rattle.rewind_lines.specs.Front.{held_of}
use Rattle.rewind_lines.specs.Known.{Known, written-on}
use Rattle.rewind_lines.specs.Lines.{whole_lines_of}
use Rattle.rewind_lines.specs.Texts.{text_of}
use Rattle.rewind_answers.specs.Answers.{Phase, limit_in}
use Rattle.rewind_answers.specs.declared.stage.Stage.{Stage}
use Rattle.rewind_run.specs.Script.{Replies, WroteFront}
use Rattle.rewind_answers.specs.Stages.{phase_of}
use Rattle.rewind_run.specs.States.{Answered, EndsEarly, Faulted, Stands, Stopped}
use Rattle.rewind_options.specs.declared.fault.DebugFault.{DebugFault}
use Rattle.rewind_options.specs.declared.fault.DebugFault.TheVariants as fault
use Rattle.rewind_run.specs.declared.run.Run as declared

-- all that waited was written
pub answered-flush : (n : ℕ) (done before sent : List ℕ) (old new : Known) (run next : declared.Run) → Stands n done sent run → old ≡ Some (before ++ sent)
    → Appends old new run.outbox → next.outbox ≡ [] → next.lines ≡ run.lines → next.stage ≡ run.stage → next.replied ≡ run.replied → Answered n done before new next
answered-flush n done before sent old new run next s e h none lines stage replied = record {
  sent = sent ++ run.outbox;
  stands = record {
    replies = s.replies;
    held = lines ∙ (s.held ∙ ap (λ (st : Stage). held_of (limit_in (phase_of st)) done) (sym stage));
    ran = rw stage s.ran;
    text = s.text ∙ sym (ap (λ t. (sent ++ run.outbox) ++ t) none ∙ append-nil (sent ++ run.outbox));
    replied = replied ∙ s.replied;
  };
  written = written-on old new before sent run.outbox e h;
  none_waits = none;
}

-- the first bytes of what waited were written
wrote-front : (n k : ℕ) (lines : List (List ℕ)) (before sent waiting : List ℕ) (old new : Known) (replies : List Data) (phase : Phase) → Replies n lines replies phase
    → text_of replies ≡ sent ++ waiting → old ≡ Some (before ++ sent) → Appends old new (take k waiting) → WroteFront n lines before new
wrote-front n k lines before sent waiting old new replies phase ran text e h = record {
  replies = replies;
  phase = phase;
  run = ran;
  sent = length sent + k;
  written = written-on old new before sent (take k waiting) e h
      ∙ ap (λ t. Some (before ++ t)) (sym (ap (take (length sent + k)) text ∙ take-append-add sent waiting k));
}

-- a write failed, after `P m` was gathered or after an error
pub ends-write : {A : Type 0} (n k : ℕ) (lines : List (List ℕ)) (before sent : List ℕ) (old new : Known) (run : declared.Run) (P : A → List ℕ) (r : Result A DebugFault)
    → IfOk r (λ m. Stands n (P m) sent run) → IfErr r (λ e. Stopped n lines sent run e)
    → ((m : A) → take (length (whole_lines_of (P m))) lines ≡ whole_lines_of (P m))
    → old ≡ Some (before ++ sent) → Appends old new (take k run.outbox) → EndsEarly n lines before new fault.Write
unfolding EndsEarly Faulted
ends-write n k lines before sent old new run P (Ok m) s stopped front e h = (
  length (whole_lines_of (P m)),
  wrote-front n k (take (length (whole_lines_of (P m))) lines) before sent run.outbox old new s.replies (phase_of run.stage)
      (subst (λ (ls : List (List ℕ)). Replies n ls s.replies (phase_of run.stage)) (sym (front m)) s.ran) s.text e h,
)
ends-write n k lines before sent old new run P (Err x) stands s front e h =
    (s.count, wrote-front n k (take s.count lines) before sent run.outbox old new s.replies s.phase s.ran s.text e h)

-- an error, and all that waited was written
pub ends-stopped : (n : ℕ) (lines : List (List ℕ)) (before sent : List ℕ) (old new : Known) (run : declared.Run) (e : DebugFault) → Stopped n lines sent run e
    → old ≡ Some (before ++ sent) → Appends old new run.outbox → EndsEarly n lines before new e
unfolding EndsEarly Faulted
ends-stopped n lines before sent old new run fault.Graph s e h = (
  s.count,
  record {
    replies = s.replies;
    run = subst (λ (p : Phase). Replies n (take s.count lines) s.replies p) s.stops s.ran;
    written = written-on old new before sent run.outbox e h ∙ ap (λ t. Some (before ++ t)) (sym s.text);
  },
)
ends-stopped n lines before sent old new run fault.Memory s e h = (
  s.count,
  record {
    replies = s.replies;
    phase = s.phase;
    run = s.ran;
    goes_on = s.stops;
    written = written-on old new before sent run.outbox e h ∙ ap (λ t. Some (before ++ t)) (sym s.text);
  },
)
ends-stopped n lines before sent old new run fault.Script s e h = absurd s.stops
ends-stopped n lines before sent old new run fault.Read s e h = absurd s.stops
ends-stopped n lines before sent old new run fault.Write s e h = absurd s.stops
ends-stopped n lines before sent old new run fault.TooLong s e h = absurd s.stops
ends-stopped n lines before sent old new run fault.Close s e h = absurd s.stops

-- a write failed before the end
pub feeds-write : (n k from : ℕ) (done bytes before sent : List ℕ) (old new : Known) (run : declared.Run) (r : Result ℕ DebugFault)
    → IfOk r (λ m. Stands n ((done ++ take from bytes) ++ take m (drop from bytes)) sent run)
    → IfErr r (λ e. Stopped n (whole_lines_of ((done ++ take from bytes) ++ drop from bytes)) sent run e)
    → old ≡ Some (before ++ sent) → Appends old new (take k run.outbox) → EndsEarly n (whole_lines_of (done ++ bytes)) before new fault.Write
feeds-write n k from done bytes before sent old new run r stands stopped e h =
    let rest = drop from bytes in
    let all = done ++ take from bytes in
    let front = λ (m : ℕ).
    ap (λ xs. take (length (whole_lines_of (all ++ take m rest))) (whole_lines_of xs)) (sym (up_to all rest m)) ∙ whole_lines-front (all ++ take m rest) (drop m rest) in
    subst (λ (xs : List ℕ). EndsEarly n (whole_lines_of xs) before new fault.Write) (up_to done bytes from)
    (ends-write n k (whole_lines_of (all ++ rest)) before sent old new run (λ m. all ++ take m rest) r stands stopped front e h)
