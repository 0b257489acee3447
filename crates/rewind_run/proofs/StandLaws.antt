-- A run in progress processes one more line, or stops.
use Rattle.std.proofs.Common.{◌≡◌, ◌∙◌, ℕ, ◌+◌, ◌<◌, ◌≤◌, false, List, [], ◌∷◌, ◌++◌, length, take, refl, sym, ap, subst, arith, append_assoc, length-append}
use Rattle.std.proofs.lemmas.List.{append-nil}
use Rattle.std.proofs.Math.Seq.{take-append_seam, take-length}
use Rattle.serde_json.specs.Data.{Data}
use Rattle.rewind_lines.specs.Cuts.{lines-count, lines-split, take-clip, whole_lines-empty, whole_lines-front, whole_lines-more, whole_lines-newline, whole_lines-on}
use Rattle.rewind_lines.specs.Front.{held_of}
use Rattle.rewind_lines.specs.Known.{text_of-append}
use Rattle.rewind_lines.specs.Lines.{Reading, has_newline, last_line_of, lines_of, reading_of, whole_lines_of}
use Rattle.rewind_lines.specs.Texts.{text_of}
use Rattle.nd_time.specs.Limits.{max_line}
use Rattle.rewind_answers.specs.Answers.{Phase, unopened, refused, Answers, limit_in}
use Rattle.rewind_run.specs.Script.{Run, Replies}
use Rattle.rewind_answers.specs.Stages.{phase_of}
use Rattle.rewind_run.specs.States.{AddsOne, Gathers, Stands, Stopped, WaitsFew}
use Rattle.rewind_options.specs.declared.fault.DebugFault.{DebugFault}
use Rattle.rewind_options.specs.declared.fault.DebugFault.TheVariants as fault
use Rattle.rewind_run.specs.declared.run.Run as declared
use Rattle.rewind_answers.specs.declared.stage.Stage.{Stage}
use Rattle.rewind_answers.specs.declared.stage.Stage.TheVariants.{Unopened, Unstarted, Running}
use Rattle.rewind_run.proofs.RunLaws.{Run-push}

-- a stage is never that of a refused graph
pub phase_of-goes_on : (stage : Stage) → phase_of stage ≡ refused → ⊥
phase_of-goes_on (Unopened processors) e = cc
phase_of-goes_on (Unstarted version processors) e = cc
phase_of-goes_on (Running script) e = cc

-- the line is answered
all-ran : (n : ℕ) (done sent : List ℕ) (run : declared.Run) (number : ℕ) (reading : Reading) (s : Stands n done sent run) (replies : List Data) (new : Phase)
    → number ≡ run.lines.number → reading ≡ reading_of (limit_in (phase_of run.stage)) (last_line_of done) → Answers (phase_of run.stage) number reading replies new → Replies n (lines_of done) (s.replies ++ replies) new
all-ran n done sent run number reading s replies new at is a =
    let here : Answers (phase_of run.stage) number (reading_of (limit_in (phase_of run.stage)) (last_line_of done)) replies new = subst (λ (l : Reading). Answers (phase_of run.stage) number l replies new) is a in
    let count : number ≡ 1 + length (whole_lines_of done) = at ∙ (ap (λ h. h.number) s.held ∙ lines-count done) in
    rw (lines-split done) (Run-push (unopened n) (phase_of run.stage) new 1 number (whole_lines_of done) (last_line_of done) s.replies replies count s.ran here)

-- its reply is gathered
all-gathered : (n : ℕ) (done sent : List ℕ) (run next : declared.Run) (number : ℕ) (reading : Reading) (count : ℕ) (new : Phase) (s : Stands n done sent run)
    (a : Gathers (phase_of run.stage) number reading run.outbox next.outbox count new) → text_of (s.replies ++ a.replies) ≡ sent ++ next.outbox
all-gathered n done sent run next number reading count new s a =
    text_of-append s.replies a.replies
    ∙ (ap (λ t. t ++ text_of a.replies) s.text ∙ (append_assoc sent run.outbox (text_of a.replies) ∙ ap (λ t. sent ++ t) (sym a.gathered)))

pub stands-new : (n : ℕ) (run : declared.Run) → phase_of run.stage ≡ unopened n → run.lines ≡ held_of max_line [] → run.outbox ≡ [] → run.replied ≡ 0 → Stands n [] [] run
unfolding Run
stands-new n run stage held none replied = record {
  replies = [];
  held = held ∙ ap (λ (p : Phase). held_of (limit_in p) []) (sym stage);
  ran = rw whole_lines-empty (refl, stage);
  text = sym none;
  replied = replied;
}

-- nothing was appended to what waited
pub adds-none : (waited waits : List ℕ) → waits ≡ waited → AddsOne waited waits
adds-none waited waits same = record { last = []; at_most_one = omega arith; text = same ∙ sym (append-nil waited) }

-- the reply to a line was appended
pub adds-reply : (old new : Phase) (number : ℕ) (reading : Reading) (waited waits : List ℕ) (count : ℕ) → Gathers old number reading waited waits count new → count ≤ 1 → AddsOne waited waits
adds-reply old new number reading waited waits count a one = record { last = a.replies; at_most_one = omega (arith, a.is_count, one); text = a.gathered }

-- what waits has room for one more reply
pub waits-few : (waits : List ℕ) → length waits < 65536 → WaitsFew waits
waits-few waits few = record { before = waits; few = few; more = adds-none waits waits refl }

-- memory ran out at a line, among these or later ones
stopped-memory-at : (n : ℕ) (done sent : List ℕ) (run next : declared.Run) (lines : List (List ℕ)) (s : Stands n done sent run) → next.outbox ≡ run.outbox
    → take (length (whole_lines_of done)) lines ≡ whole_lines_of done → Stopped n lines sent next fault.Memory
stopped-memory-at n done sent run next lines s waits front = record {
  count = length (whole_lines_of done);
  replies = s.replies;
  phase = phase_of run.stage;
  ran = subst (λ (ls : List (List ℕ)). Replies n ls s.replies (phase_of run.stage)) (sym front) s.ran;
  stops = phase_of-goes_on run.stage;
  text = s.text ∙ ap (λ t. sent ++ t) (sym waits);
}

pub stopped-memory : (n : ℕ) (done more all sent : List ℕ) (run next : declared.Run) → done ++ more ≡ all → Stands n done sent run → next.outbox ≡ run.outbox
    → Stopped n (whole_lines_of all) sent next fault.Memory
stopped-memory n done more all sent run next same s waits =
    stopped-memory-at n done sent run next (whole_lines_of all) s waits (ap (λ xs. take (length (whole_lines_of done)) (whole_lines_of xs)) (sym same) ∙ whole_lines-front done more)

pub stopped-memory-here : (n : ℕ) (done sent : List ℕ) (run next : declared.Run) → Stands n done sent run → next.outbox ≡ run.outbox
    → Stopped n (lines_of done) sent next fault.Memory
stopped-memory-here n done sent run next s waits =
    stopped-memory-at n done sent run next (lines_of done) s waits
    (ap (take (length (whole_lines_of done))) (lines-split done) ∙ take-append_seam (whole_lines_of done) (last_line_of done ∷ []))

-- the graph's line was refused
pub stopped-refused : (n : ℕ) (done sent : List ℕ) (run next : declared.Run) (number : ℕ) (reading : Reading) (count : ℕ) → Stands n done sent run → number ≡ run.lines.number
    → reading ≡ reading_of (limit_in (phase_of run.stage)) (last_line_of done) → Gathers (phase_of run.stage) number reading run.outbox next.outbox count refused → Stopped n (lines_of done) sent next fault.Graph
stopped-refused n done sent run next number reading count s at is a = record {
  count = length (lines_of done);
  replies = s.replies ++ a.replies;
  phase = refused;
  ran = rw (take-length (lines_of done)) (all-ran n done sent run number reading s a.replies refused at is a.answers);
  stops = refl;
  text = all-gathered n done sent run next number reading count refused s a;
}

-- the next line begins
pub stands-next : (n : ℕ) (done sent : List ℕ) (run next : declared.Run) (number : ℕ) (reading : Reading) (count : ℕ) → Stands n done sent run → number ≡ run.lines.number
    → reading ≡ reading_of (limit_in (phase_of run.stage)) (last_line_of done) → Gathers (phase_of run.stage) number reading run.outbox next.outbox count (phase_of next.stage)
    → ((limit : ℕ) (d : List ℕ) → run.lines ≡ held_of limit d → next.lines ≡ held_of (limit_in (phase_of next.stage)) (d ++ 10 ∷ [])) → next.replied ≡ run.replied + count
    → Stands n (done ++ 10 ∷ []) sent next
stands-next n done sent run next number reading count s at is a hold replied = record {
  replies = s.replies ++ a.replies;
  held = hold _ done s.held;
  ran = rw (whole_lines-newline done) (all-ran n done sent run number reading s a.replies (phase_of next.stage) at is a.answers);
  text = all-gathered n done sent run next number reading count (phase_of next.stage) s a;
  replied =
      let k : run.replied ≡ length s.replies = s.replied in
      let m : count ≡ length a.replies = a.is_count in
      omega (arith, length-append s.replies a.replies);
}

-- more bytes of the same line
pub stands-on : (n : ℕ) (done bytes sent : List ℕ) (run next : declared.Run) → has_newline bytes ≡ false → Stands n done sent run
    → ((limit : ℕ) (d : List ℕ) → run.lines ≡ held_of limit d → next.lines ≡ held_of limit (d ++ bytes)) → next.stage ≡ run.stage → next.outbox ≡ run.outbox → next.replied ≡ run.replied
    → Stands n (done ++ bytes) sent next
stands-on n done bytes sent run next none s hold stage waits replied = record {
  replies = s.replies;
  held = hold _ done s.held ∙ ap (λ (st : Stage). held_of (limit_in (phase_of st)) (done ++ bytes)) (sym stage);
  ran = rw (whole_lines-on done bytes none, stage) s.ran;
  text = s.text ∙ ap (λ t. sent ++ t) (sym waits);
  replied = replied ∙ s.replied;
}

-- what stopped a run at a newline stops it also if more follows
pub stopped-newline : (n : ℕ) (done more all sent : List ℕ) (run : declared.Run) (e : DebugFault) → (done ++ 10 ∷ []) ++ more ≡ all → Stopped n (lines_of done) sent run e
    → Stopped n (whole_lines_of all) sent run e
stopped-newline n done more all sent run e same h =
    let w = whole_lines-more (done ++ 10 ∷ []) more in
    let whole : whole_lines_of all ≡ lines_of done ++ w.0 = ap whole_lines_of (sym same) ∙ (w.1 ∙ ap (λ ls. ls ++ w.0) (whole_lines-newline done)) in
    let front : take (length (take h.count (lines_of done))) (whole_lines_of all) ≡ take h.count (lines_of done) =
    ap (take (length (take h.count (lines_of done)))) whole ∙ take-clip h.count (lines_of done) w.0 in
    record {
      count = length (take h.count (lines_of done));
      replies = h.replies;
      phase = h.phase;
      ran = subst (λ (ls : List (List ℕ)). Replies n ls h.replies h.phase) (sym front) h.ran;
      stops = h.stops;
      text = h.text;
    }
