-- What is written for a script, depending on how far its run came.
use Rattle.std.proofs.Common.{◌≡◌, ◌∙◌, ℕ, ◌+◌, List, [], ◌∷◌, ◌++◌, length, take, Option, Some, None, Result, Err, Ok, OnOk, IfErr, false, refl, sym, ap, append_assoc}
use Rattle.std.proofs.Math.Seq.{take-append-add, take-append_seam}
use Rattle.serde_json.specs.Data.{Data}
use Rattle.rewind_lines.specs.Known.{Known, text_of-append}
use Rattle.rewind_lines.specs.Texts.{text_of}
use Rattle.rewind_forms.specs.declared.version.Version.{Version}
use Rattle.rewind_answers.specs.Answers.{Logged}
use Rattle.rewind_options.specs.Faults.{is_write_fault}
use Rattle.rewind_options.specs.declared.fault.DebugFault.{DebugFault}
use Rattle.rewind_options.specs.declared.fault.DebugFault.TheVariants as fault
use Rattle.rewind_clients.specs.Clients.{Replies, Writes}
use Rattle.rewind_clients.specs.Intake.{Intake, nothing, refused_graph, faulty_line, script}
use Rattle.rewind_clients.specs.Intakes.{unstarted_view}
use Rattle.rewind_sessions.specs.Gathered.{StopsIn, stops-more}
use Rattle.rewind_clients.specs.Readers.{IsOfReading}
use Rattle.rewind_sessions.specs.Openings.{version_replies}
use Rattle.rewind_sessions.specs.Runs.{AreLines, Commands, IsOfDriving}
use Rattle.rewind_sessions.specs.Written.{WroteFront, WroteLines}

-- ---- a part of the replies, and all of them

joined : (before : List ℕ) (xs ys : List Data) → (before ++ text_of xs) ++ text_of ys ≡ before ++ text_of (xs ++ ys)
joined before xs ys = append_assoc before (text_of xs) (text_of ys) ∙ ap (λ (t : List ℕ). before ++ t) (sym (text_of-append xs ys))

lines-behind : (xs ys : List Data) (before : List ℕ) (after : Known) → WroteLines ys (before ++ text_of xs) after → WroteLines (xs ++ ys) before after
lines-behind xs ys before after h = record {
  count = length xs + h.count;
  written = h.written ∙ ap Some (joined before xs (take h.count ys)) ∙ ap (λ (rs : List Data). Some (before ++ text_of rs)) (sym (take-append-add xs ys h.count));
}

front-behind : (xs ys : List Data) (before : List ℕ) (after : Known) → WroteFront ys (before ++ text_of xs) after → WroteFront (xs ++ ys) before after
front-behind xs ys before after h =
    let t = text_of xs in
    record {
      count = length t + h.count;
      written = h.written
          ∙ ap Some (append_assoc before t (take h.count (text_of ys))
          ∙ ap (λ (s : List ℕ). before ++ s) (sym (ap (take (length t + h.count)) (text_of-append xs ys) ∙ take-append-add t (text_of ys) h.count)));
    }

-- ---- how a run ends

-- one reply
pub refused-told : (reply : Data) (before : List ℕ) (after : Known) → after ≡ Some (before ++ text_of (reply ∷ [])) → Writes (refused_graph reply) before after (Err fault.Graph)
refused-told reply before after e = (tt, (reply ∷ [], refl, e))

pub faulty-told : (reply : Data) (before : List ℕ) (after : Known) → after ≡ Some (before ++ text_of (reply ∷ [])) → Writes (faulty_line reply) before after (Err fault.Script)
faulty-told reply before after e = (tt, (reply ∷ [], refl, e))

-- it could not be written completely, and it is the first of these replies
pub stops-in : (intake : Intake) (first lines : List Data) (before : List ℕ) (after : Known) (e : DebugFault) → Replies intake (first ++ lines)
    → StopsIn first before after e → Writes intake before after (Err e)
stops-in intake first lines before after fault.Memory are h = (first ++ lines, are, stops-more first lines before after fault.Memory h)
stops-in intake first lines before after fault.Write are h = (first ++ lines, are, stops-more first lines before after fault.Write h)
stops-in intake first lines before after fault.Graph are h = absurd h
stops-in intake first lines before after fault.Script are h = absurd h
stops-in intake first lines before after fault.Read are h = absurd h
stops-in intake first lines before after fault.TooLong are h = absurd h
stops-in intake first lines before after fault.Close are h = absurd h

-- a version line's reply was written, or nothing if there was no such line
version-told : (v : Option Version) (before : List ℕ) (after : Known) → after ≡ Some (before ++ text_of (version_replies v)) → Writes (unstarted_view v) before after (Ok tt)
version-told None before after e = (tt, ([], refl, e))
version-told (Some v) before after e = (tt, (version_replies (Some v), refl, e))

version-stops : (v : Option Version) (before : List ℕ) (after : Known) (e : DebugFault) → StopsIn (version_replies v) before after e → Writes (unstarted_view v) before after (Err e)
version-stops None before after e h = stops-in nothing [] [] before after e refl h
version-stops (Some v) before after e h = stops-in (unstarted_view (Some v)) (version_replies (Some v)) [] before after e refl h

pub version-ends : (v : Option Version) (before : List ℕ) (old after : Known) (r : Result (Unit {0}) DebugFault) → old ≡ Some before
    → OnOk r ((b : List ℕ) → old ≡ Some b → after ≡ Some (b ++ text_of (version_replies v)))
    → IfErr r (λ e. (b : List ℕ) → old ≡ Some b → StopsIn (version_replies v) b after e) → Writes (unstarted_view v) before after r
version-ends v before old after (Ok u) had ok err = version-told v before after (ok before had)
version-ends v before old after (Err e) had ok err = version-stops v before after e (err before had)

-- the opening replies were written, and then the run of the clients failed
pub stops-driving : (v : Version) (opening : List Data) (m : Logged) (commands : Commands) (lines : List Data) (before : List ℕ) (after : Known) (e : DebugFault) → AreLines m.machine commands lines
    → IsOfDriving e → after ≡ Some (before ++ text_of opening) → Writes (script v opening m commands) before after (Err e)
stops-driving v opening m commands lines before after fault.Memory t h e =
    (opening ++ lines, (lines, t, refl), record { count = length opening; written = e ∙ ap (λ (rs : List Data). Some (before ++ text_of rs)) (sym (take-append_seam opening lines)) })
stops-driving v opening m commands lines before after fault.Close t h e = e
stops-driving v opening m commands lines before after fault.Graph t h e = absurd h
stops-driving v opening m commands lines before after fault.Script t h e = absurd h
stops-driving v opening m commands lines before after fault.Read t h e = absurd h
stops-driving v opening m commands lines before after fault.Write t h e = absurd h
stops-driving v opening m commands lines before after fault.TooLong t h e = absurd h

-- the lines after them could not be written completely
stops-telling : (v : Version) (opening : List Data) (m : Logged) (commands : Commands) (lines : List Data) (before : List ℕ) (after : Known) (e : DebugFault) → AreLines m.machine commands lines
    → StopsIn lines (before ++ text_of opening) after e → Writes (script v opening m commands) before after (Err e)
stops-telling v opening m commands lines before after fault.Memory t h = (opening ++ lines, (lines, t, refl), lines-behind opening lines before after h)
stops-telling v opening m commands lines before after fault.Write t h = (opening ++ lines, (lines, t, refl), front-behind opening lines before after h)
stops-telling v opening m commands lines before after fault.Graph t h = absurd h
stops-telling v opening m commands lines before after fault.Script t h = absurd h
stops-telling v opening m commands lines before after fault.Read t h = absurd h
stops-telling v opening m commands lines before after fault.TooLong t h = absurd h
stops-telling v opening m commands lines before after fault.Close t h = absurd h

-- everything was written
script-told : (v : Version) (opening : List Data) (m : Logged) (commands : Commands) (lines : List Data) (before : List ℕ) (after : Known) → AreLines m.machine commands lines
    → after ≡ Some ((before ++ text_of opening) ++ text_of lines) → Writes (script v opening m commands) before after (Ok tt)
script-told v opening m commands lines before after t e = (tt, (opening ++ lines, (lines, t, refl), e ∙ ap Some (joined before opening lines)))

-- not everything was written
pub script-ends : (v : Version) (opening : List Data) (m : Logged) (commands : Commands) (lines : List Data) (before : List ℕ) (old after : Known) (r : Result (Unit {0}) DebugFault)
    → AreLines m.machine commands lines → old ≡ Some (before ++ text_of opening) → OnOk r ((b : List ℕ) → old ≡ Some b → after ≡ Some (b ++ text_of lines))
    → IfErr r (λ e. (b : List ℕ) → old ≡ Some b → StopsIn lines b after e) → Writes (script v opening m commands) before after r
script-ends v opening m commands lines before old after (Ok u) t had ok err = script-told v opening m commands lines before after t (ok _ had)
script-ends v opening m commands lines before old after (Err e) t had ok err = stops-telling v opening m commands lines before after e t (err _ had)

-- no write failed while a script was read
pub not-write : (A : Type 0) (e : DebugFault) → IsOfReading e → is_write_fault {A = A} (Err e) ≡ false
not-write A fault.Read h = refl
not-write A fault.TooLong h = refl
not-write A fault.Memory h = refl
not-write A fault.Graph h = absurd h
not-write A fault.Script h = absurd h
not-write A fault.Write h = absurd h
not-write A fault.Close h = absurd h
