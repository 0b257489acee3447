-- How a run of a script ends.
use Rattle.std.proofs.Common.{◌≡◌, ◌≢◌, ◌∙◌, ℕ, ◌+◌, ◌-◌, ◌<◌, ◌≤◌, false, List, [], ◌∷◌, ◌++◌, length, take, drop, refl, Some, sym, ap, arith, length-append, Ok, Err}
use Rattle.std.proofs.lemmas.List.{append-nil, take-append-le, take-take, take_all, length-take}
use Rattle.std.proofs.Math.Seq.{drop-append_seam, take-append-add}
use Rattle.std.specs.Io.KnownBytes.{Consumes, IsAtEnd, Keeps}
use Rattle.rewind_lines.specs.Cuts.{whole_lines-newline}
use Rattle.rewind_lines.specs.Known.{Known, read-failed, read-none, read-on}
use Rattle.rewind_lines.specs.Lines.{lines_of, whole_lines_of}
use Rattle.rewind_answers.specs.Answers.{unopened}
use Rattle.rewind_options.specs.Faults.{is_read_fault}
use Rattle.rewind_run.specs.Faults.{IsOfRun}
use Rattle.rewind_run.specs.Script.{AreRead, Ends, RepliedTo, Run, Takes, ended, last}
use Rattle.rewind_answers.specs.Stages.{phase_of}
use Rattle.rewind_run.specs.States.{Answered, EndsEarly, Faulted, Going}
use Rattle.rewind_options.specs.declared.fault.DebugFault.{DebugFault}
use Rattle.rewind_options.specs.declared.fault.DebugFault.TheVariants as fault
use Rattle.rewind_run.specs.declared.run.Run as declared
use Rattle.rewind_run.proofs.StandLaws.{phase_of-goes_on}

-- the lines before the one that is being read are answered
abbrev replied-to : (n : ℕ) (done before : List ℕ) (after : Known) (run : declared.Run) (lines : List (List ℕ)) (a : Answered n done before after run) → whole_lines_of done ≡ lines
    → RepliedTo n lines before after
replied-to n done before after run lines a same = record {
  replies = a.stands.replies;
  phase = phase_of run.stage;
  run = rw (← same) a.stands.ran;
  goes_on = phase_of-goes_on run.stage;
  written = a.written ∙ ap (λ t. Some (before ++ t)) (sym (a.stands.text ∙ (ap (λ t. a.sent ++ t) a.none_waits ∙ append-nil a.sent)));
}

-- everything was read and answered
pub ends-ok : (n limit left : ℕ) (input before : List ℕ) (old new old_text new_text : Known) (run next : declared.Run) (piece : List ℕ) → Going n limit left input before old old_text run
    → Consumes old new piece → piece ≡ [] → IsAtEnd new → ((done : List ℕ) → Answered n done before old_text run → Answered n (done ++ 10 ∷ []) before new_text next)
    → Ends n limit input new before new_text (Ok next.replied)
ends-ok n limit left input before old new old_text new_text run next piece g h none end go =
    let r = read-none input g.taken g.rest piece old new g.whole g.told h none end in
    let a = go g.taken g.answered in
    let ls : whole_lines_of (g.taken ++ 10 ∷ []) ≡ lines_of input = whole_lines-newline g.taken ∙ ap lines_of (sym r.1) in
    let count : left + length g.taken ≡ limit = g.count in
    let size : length input ≡ length g.taken = ap length r.1 in
    record {
      replied = replied-to n (g.taken ++ 10 ∷ []) before new_text next (lines_of input) a ls;
      count = a.stands.replied;
      within = omega arith;
      ended = r.0;
    }

-- an error before the end is one of the run
ends-fault : (n limit : ℕ) (input taken rest before : List ℕ) (left after : Known) (lines : List (List ℕ)) (e : DebugFault) → input ≡ taken ++ rest → left ≡ Some rest
    → length taken ≤ limit + 1 → ((k : ℕ) → AreRead limit taken rest (take k lines)) → EndsEarly n lines before after e → Ends n limit input left before after (Err e)
unfolding EndsEarly Faulted
ends-fault n limit input taken rest before left after lines fault.Graph whole told within are_read h =
    (record { taken = taken; rest = rest; lines = take h.0 lines; split = whole; told = told; within = within; are_read = are_read h.0 }, h.1)
ends-fault n limit input taken rest before left after lines fault.Memory whole told within are_read h =
    (record { taken = taken; rest = rest; lines = take h.0 lines; split = whole; told = told; within = within; are_read = are_read h.0 }, h.1)
ends-fault n limit input taken rest before left after lines fault.Write whole told within are_read h =
    (record { taken = taken; rest = rest; lines = take h.0 lines; split = whole; told = told; within = within; are_read = are_read h.0 }, h.1)
ends-fault n limit input taken rest before left after lines fault.Script whole told within are_read h = absurd h.1
ends-fault n limit input taken rest before left after lines fault.Read whole told within are_read h = absurd h.1
ends-fault n limit input taken rest before left after lines fault.TooLong whole told within are_read h = absurd h.1
ends-fault n limit input taken rest before left after lines fault.Close whole told within are_read h = absurd h.1

-- memory ran out before anything was read
pub ends-first : (n limit : ℕ) (input before : List ℕ) (left after : Known) → left ≡ Some input → after ≡ Some before → Ends n limit input left before after (Err fault.Memory)
unfolding Run
ends-first n limit input before left after told had = (
  record { taken = []; rest = input; lines = []; split = refl; told = told; within = omega arith; are_read = ended 0 refl },
  record {
    replies = [];
    phase = unopened n;
    run = (refl, refl);
    goes_on = λ e. cc;
    written = had ∙ ap Some (sym (append-nil before));
  },
)

-- the reader failed
pub ends-read : (n limit left : ℕ) (input before : List ℕ) (old new text : Known) (run : declared.Run) → Going n limit left input before old text run → Keeps old new
    → Ends n limit input new before text (Err fault.Read)
ends-read n limit left input before old new text run g h = record {
  taken = g.taken;
  rest = g.rest;
  whole = g.whole;
  told = read-failed g.rest old new g.told h;
  within = let count : left + length g.taken ≡ limit = g.count in omega arith;
  replied = replied-to n g.taken before text run (whole_lines_of g.taken) g.answered refl;
}

-- what was taken up to the limit, if more was read
over-limit : (limit left k : ℕ) (taken chunk : List ℕ) → left + length taken ≡ limit → left < k → k ≤ length chunk → take limit (taken ++ take k chunk) ≡ taken ++ take left chunk
over-limit limit left k taken chunk count over within =
    let at : limit ≡ length taken + left = omega arith in
    ap (λ m. take m (taken ++ take k chunk)) at ∙ (take-append-add taken (take k chunk) left ∙ ap (λ zs. taken ++ zs) (take-take left k chunk (omega arith)))

-- what was taken up to the limit, if no more was read
under-limit : (limit left k : ℕ) (taken chunk : List ℕ) → left + length taken ≡ limit → k ≤ left → k ≤ length chunk → take limit (taken ++ take k chunk) ≡ taken ++ take k chunk
under-limit limit left k taken chunk count under within =
    take_all limit (taken ++ take k chunk) (omega (arith, length-append taken (take k chunk), length-take k chunk))

-- the input is longer than the limit
pub ends-long : (n limit left : ℕ) (input before : List ℕ) (old new old_text new_text : Known) (run next : declared.Run) (chunk : List ℕ) (k : ℕ)
    → Going n limit left input before old old_text run → Consumes old new (take k chunk) → left < k → k ≤ left + 1 → k ≤ length chunk
    → ((done : List ℕ) → Answered n done before old_text run → Answered n (done ++ take left chunk) before new_text next)
    → Ends n limit input new before new_text (Err fault.TooLong)
ends-long n limit left input before old new old_text new_text run next chunk k g h over one within go =
    let r = read-on input g.taken g.rest (take k chunk) old new g.whole g.told h in
    let a = go g.taken g.answered in
    let count : left + length g.taken ≡ limit = g.count in
    let size : length input ≡ length ((g.taken ++ take k chunk) ++ r.0) = ap length r.2 in
    let longer : limit < length input = omega (arith, length-append (g.taken ++ take k chunk) r.0, length-append g.taken (take k chunk), length-take k chunk) in
    let room : limit ≤ length (g.taken ++ take k chunk) = omega (arith, length-append g.taken (take k chunk), length-take k chunk) in
    let front : take limit input ≡ g.taken ++ take left chunk =
    ap (take limit) r.2 ∙ (take-append-le limit (g.taken ++ take k chunk) r.0 room ∙ over-limit limit left k g.taken chunk count over within) in
    let seen : limit + 1 ≡ length (g.taken ++ take k chunk) = omega (arith, length-append g.taken (take k chunk), length-take k chunk) in
    let rest : drop (limit + 1) input ≡ r.0 =
    ap (drop (limit + 1)) r.2 ∙ (ap (λ m. drop m ((g.taken ++ take k chunk) ++ r.0)) seen ∙ drop-append_seam (g.taken ++ take k chunk) r.0) in
    record {
      longer = longer;
      told = r.1 ∙ ap Some (sym rest);
      replied = replied-to n (g.taken ++ take left chunk) before new_text next (whole_lines_of (take limit input)) a
          (sym (ap whole_lines_of front));
    }

-- more was read
pub going-on : (n limit left after : ℕ) (input before : List ℕ) (old new old_text new_text : Known) (run next : declared.Run) (chunk : List ℕ) (k : ℕ)
    → Going n limit left input before old old_text run → Consumes old new (take k chunk) → k ≤ left → k ≤ length chunk → after + k ≡ left
    → ((done : List ℕ) → Answered n done before old_text run → Answered n (done ++ take k chunk) before new_text next)
    → Going n limit after input before new new_text next
going-on n limit left after input before old new old_text new_text run next chunk k g h under within fewer go =
    let r = read-on input g.taken g.rest (take k chunk) old new g.whole g.told h in
    let count : left + length g.taken ≡ limit = g.count in
    record {
      taken = g.taken ++ take k chunk;
      rest = r.0;
      whole = r.2;
      told = r.1;
      count = omega (arith, length-append g.taken (take k chunk), length-take k chunk);
      answered = go g.taken g.answered;
    }

-- an error while the m bytes of a piece within the limit were answered
ends-piece : (n limit left : ℕ) (input before : List ℕ) (old new old_text new_text : Known) (run : declared.Run) (chunk : List ℕ) (k m : ℕ) (e : DebugFault)
    → (g : Going n limit left input before old old_text run) → Consumes old new (take k chunk) → k ≤ left + 1 → k ≤ length chunk
    → take limit (g.taken ++ take k chunk) ≡ g.taken ++ take m chunk
    → ((done : List ℕ) → Answered n done before old_text run → EndsEarly n (whole_lines_of (done ++ take m chunk)) before new_text e)
    → Ends n limit input new before new_text (Err e)
ends-piece n limit left input before old new old_text new_text run chunk k m e g h under within cut go =
    let r = read-on input g.taken g.rest (take k chunk) old new g.whole g.told h in
    let count : left + length g.taken ≡ limit = g.count in
    ends-fault n limit input (g.taken ++ take k chunk) r.0 before new new_text (whole_lines_of (g.taken ++ take m chunk)) e r.2 r.1
    (omega (arith, length-append g.taken (take k chunk), length-take k chunk))
    (λ j. ended j (ap (λ xs. take j (whole_lines_of xs)) (sym cut))) (go g.taken g.answered)

pub ends-piece-under : (n limit left : ℕ) (input before : List ℕ) (old new old_text new_text : Known) (run : declared.Run) (chunk : List ℕ) (k : ℕ) (e : DebugFault)
    → Going n limit left input before old old_text run → Consumes old new (take k chunk) → k ≤ left → k ≤ length chunk
    → ((done : List ℕ) → Answered n done before old_text run → EndsEarly n (whole_lines_of (done ++ take k chunk)) before new_text e)
    → Ends n limit input new before new_text (Err e)
ends-piece-under n limit left input before old new old_text new_text run chunk k e g h under within go =
    ends-piece n limit left input before old new old_text new_text run chunk k k e g h (omega arith) within (under-limit limit left k g.taken chunk g.count under within) go

pub ends-piece-over : (n limit left : ℕ) (input before : List ℕ) (old new old_text new_text : Known) (run : declared.Run) (chunk : List ℕ) (k : ℕ) (e : DebugFault)
    → Going n limit left input before old old_text run → Consumes old new (take k chunk) → left < k → k ≤ left + 1 → k ≤ length chunk
    → ((done : List ℕ) → Answered n done before old_text run → EndsEarly n (whole_lines_of (done ++ take left chunk)) before new_text e)
    → Ends n limit input new before new_text (Err e)
ends-piece-over n limit left input before old new old_text new_text run chunk k e g h over one within go =
    ends-piece n limit left input before old new old_text new_text run chunk k left e g h one within (over-limit limit left k g.taken chunk g.count over within) go

-- an error at the last line
pub ends-last : (n limit left : ℕ) (input before : List ℕ) (old new old_text new_text : Known) (run : declared.Run) (piece : List ℕ) (e : DebugFault)
    → Going n limit left input before old old_text run → Consumes old new piece → piece ≡ [] → IsAtEnd new
    → ((done : List ℕ) → Answered n done before old_text run → EndsEarly n (lines_of done) before new_text e)
    → Ends n limit input new before new_text (Err e)
ends-last n limit left input before old new old_text new_text run piece e g h none end go =
    let r = read-none input g.taken g.rest piece old new g.whole g.told h none end in
    let count : left + length g.taken ≡ limit = g.count in
    let fits : length g.taken ≤ limit = omega arith in
    ends-fault n limit input g.taken [] before new new_text (lines_of g.taken) e (r.1 ∙ sym (append-nil g.taken)) r.0 (omega arith)
    (λ j. last j refl fits refl) (go g.taken g.answered)

-- how many bytes a run takes that ends at a line
pub takes-run : (limit left old mid new n most : ℕ) (e : DebugFault) → IsOfRun e → mid + left ≡ old + limit → new ≡ mid + n → n ≤ most → most ≤ left + 1
    → Takes limit (Err e) (new - old)
takes-run limit left old mid new n most fault.Graph h given took within few = omega arith
takes-run limit left old mid new n most fault.Memory h given took within few = omega arith
takes-run limit left old mid new n most fault.Write h given took within few = omega arith
takes-run limit left old mid new n most fault.Script h given took within few = absurd h
takes-run limit left old mid new n most fault.Read h given took within few = absurd h
takes-run limit left old mid new n most fault.TooLong h given took within few = absurd h
takes-run limit left old mid new n most fault.Close h given took within few = absurd h

-- no read failed if a line ended the run
pub not-read : (e : DebugFault) → IsOfRun e → is_read_fault {A = ℕ} (Err e) ≡ false
not-read fault.Graph h = refl
not-read fault.Memory h = refl
not-read fault.Write h = refl
not-read fault.Script h = absurd h
not-read fault.Read h = absurd h
not-read fault.TooLong h = absurd h
not-read fault.Close h = absurd h

-- the error is not one of several clients
pub one-client : (e : DebugFault) → IsOfRun e → (e ≢ fault.Script) × (e ≢ fault.Close)
one-client fault.Graph h = (λ x. cc, λ x. cc)
one-client fault.Memory h = (λ x. cc, λ x. cc)
one-client fault.Write h = (λ x. cc, λ x. cc)
one-client fault.Script h = absurd h
one-client fault.Read h = absurd h
one-client fault.TooLong h = absurd h
one-client fault.Close h = absurd h
