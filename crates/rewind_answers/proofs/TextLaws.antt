-- How replies are told as text.
use Rattle.std.proofs.Common.{◌≡◌, ℕ, List, [], ◌∷◌, Option, Some, None, Result, Ok, Err, IfOk, OnErr, Vec, refl, sym, subst, ap, inl, inr}
use Rattle.std.specs.Option.{option_to_list}
use Rattle.std.specs.declared.alloc.AllocError.{AllocError}
use Rattle.std.specs.declared.alloc.Global.{Global}
use Rattle.serde_json.specs.Data.{Data}
use Rattle.serde_json.specs.Written.{compact_text}
use Rattle.rewind_lines.specs.Lines.{too_long, no_json}
use Rattle.nd_timeline.specs.Timeline.{TimelineValue, cluster_of}
use Rattle.nd_commands.specs.declared.command.Command.{Command}
use Rattle.rewind_forms.specs.Asked.{asked_of}
use Rattle.rewind_replies.specs.Replies.{IsReply}
use Rattle.rewind_answers.specs.FaultyLines.{line_fault}
use Rattle.rewind_forms.specs.declared.asked.Asked.{Asked}
use Rattle.rewind_forms.specs.declared.asked.Asked.TheVariants.{Do, Look}
use Rattle.rewind_forms.specs.declared.fault.LineFault.{LineFault}
use Rattle.rewind_forms.specs.declared.fault.LineFault.TheVariants as line
use Rattle.rewind_forms.specs.declared.queries.Query.{Query}
use Rattle.rewind_forms.specs.declared.version.Version.{Version}
use Rattle.rewind_answers.specs.Answers.{Logged, Phase, running, Answers, after_fault, AskedReply, CommandReply, LineReplies, QueryReply}
use Rattle.rewind_answers.specs.Stages.{IsOrFollows, AreReplies, phase_of, phase_after}
use Rattle.rewind_answers.specs.declared.stage.Answer.{Answer}
use Rattle.rewind_answers.specs.declared.stage.Stage.{Stage}
use Rattle.rewind_answers.specs.declared.stage.Stage.TheVariants.{Unopened, Unstarted, Running}
use Rattle.rewind_answers.proofs.AnswerLaws.{asked_replies, fault_replies}

-- the text of a reply that may be given
pub tells : (P : Data → Type 0) (d : Data) (t : Result (Vec ℕ Global) AllocError) → IfOk t (λ b. b.items ≡ compact_text d) → P d → IfOk t (λ b. IsReply P b.items)
tells P d (Ok b) text may = (d, may, text)
tells P d (Err e) text may = text

-- the same text, of which less is said
pub tells_so : (P Q : Data → Type 0) (t : Result (Vec ℕ Global) AllocError) → ((d : Data) → P d → Q d) → IfOk t (λ b. IsReply P b.items) → IfOk t (λ b. IsReply Q b.items)
tells_so P Q (Ok b) so h = (h.0, so h.0 h.1, h.2)
tells_so P Q (Err e) so h = h

-- ---- where memory runs out

-- what holds anyway
pub unmade : {X P : Type 0} (t : Result X AllocError) → P → OnErr t P
unmade (Ok b) h = tt
unmade (Err e) h = h

-- a reply that is told, or lost
pub told_or_lost : (May : Data → Logged → Type 0) (m new : Logged) (d : Data) (t : Result (Vec ℕ Global) AllocError) → IfOk t (λ b. b.items ≡ compact_text d) → May d new
    → record { reply : IfOk t (λ b. IsReply (λ v. May v new) b.items); memory : OnErr t (IsOrFollows May m new) }
told_or_lost May m new d t text may = record { reply = tells (λ v. May v new) d t text may; memory = unmade t (inr (d, may)) }

pub lost_do : (m new : Logged) (asked : Asked) (command : Command Global) (t : Result (Vec ℕ Global) AllocError) → asked ≡ Do command
    → OnErr t (IsOrFollows (CommandReply m command) m new) → OnErr t (IsOrFollows (AskedReply m asked) m new)
lost_do m new asked command (Ok b) is h = tt
lost_do m new asked command (Err e) is (inl same) = inl same
lost_do m new asked command (Err e) is (inr h) = inr (h.0, subst (λ (a : Asked). AskedReply m a h.0 new) (sym is) h.1)

pub lost_asked : (script : Version) (m : Logged) (n : ℕ) (d : Data) (asked : Asked) (t : Result (Vec ℕ Global) AllocError) (new : Logged) → asked_of script (cluster_of m.machine.timeline).graph d ≡ Ok asked
    → OnErr t (IsOrFollows (AskedReply m asked) m new) → OnErr t (IsOrFollows (LineReplies script m n d) (running script m) (running script new))
lost_asked script m n d asked (Ok b) new is h = tt
lost_asked script m n d asked (Err e) new is (inl same) = inl (ap (running script) same)
lost_asked script m n d asked (Err e) new is (inr h) = inr (h.0 ∷ [], asked_replies script m n d asked h.0 new is h.1)

-- ---- queries

-- a query whose reply is written as text
pub query_text : {X : Type 0} (P : X → Data → Type 0) (m : TimelineValue Global) (x y : X) (query asked : Query) (t : Result (Vec ℕ Global) AllocError) → x ≡ y → query ≡ asked
    → ((v : Data) → P y v → QueryReply m asked v) → IfOk t (λ b. IsReply (P x) b.items) → IfOk t (λ b. IsReply (QueryReply m query) b.items)
query_text {X} P m x y query asked (Ok b) same is means h =
    (h.0, subst (λ (q : Query). QueryReply m q h.0) (sym is) (means h.0 (subst (λ (z : X). P z h.0) same h.1)), h.2)
query_text P m x y query asked (Err e) same is means h = h

-- ---- later lines

pub asked_do : (m new : Logged) (asked : Asked) (command : Command Global) (t : Result (Vec ℕ Global) AllocError) → asked ≡ Do command
    → IfOk t (λ b. IsReply (λ v. CommandReply m command v new) b.items) → IfOk t (λ b. IsReply (λ v. AskedReply m asked v new) b.items)
asked_do m new asked command (Ok b) is h = (h.0, subst (λ (a : Asked). AskedReply m a h.0 new) (sym is) h.1, h.2)
asked_do m new asked command (Err e) is h = h

pub asked_look : (m : Logged) (asked : Asked) (query : Query) (t : Result (Vec ℕ Global) AllocError) → asked ≡ Look query
    → IfOk t (λ b. IsReply (QueryReply m.machine.timeline query) b.items) → IfOk t (λ b. IsReply (λ v. AskedReply m asked v m) b.items)
asked_look m asked query (Ok b) is h = (h.0, subst (λ (a : Asked). AskedReply m a h.0 m) (sym is) (h.1, refl), h.2)
asked_look m asked query (Err e) is h = h

pub later_asked : (script : Version) (m : Logged) (n : ℕ) (d : Data) (asked : Asked) (t : Result (Vec ℕ Global) AllocError) (new : Logged) → asked_of script (cluster_of m.machine.timeline).graph d ≡ Ok asked
    → IfOk t (λ b. IsReply (λ v. AskedReply m asked v new) b.items) → IfOk t (λ b. IsReply (λ v. LineReplies script m n d (v ∷ []) (running script new)) b.items)
later_asked script m n d asked (Ok b) new is h = (h.0, asked_replies script m n d asked h.0 new is h.1, h.2)
later_asked script m n d asked (Err e) new is h = h

pub later_fault : (script : Version) (m : Logged) (n : ℕ) (d : Data) (e : LineFault) (t : Result (Vec ℕ Global) AllocError) → (¬ (e ≡ line.Memory) → asked_of script (cluster_of m.machine.timeline).graph d ≡ Err e)
    → IfOk t (λ b. IsReply (λ v. Some v ≡ line_fault e n) b.items) → IfOk t (λ b. IsReply (λ v. LineReplies script m n d (v ∷ []) (running script m)) b.items)
later_fault script m n d e (Ok b) is h = (h.0, fault_replies script m n d e h.0 is h.1, h.2)
later_fault script m n d e (Err x) is h = h

-- ---- lines that are no JSON value

retold : (P Q : List Data → Type 0) (t : Option (Vec ℕ Global)) → ((vs : List Data) → P vs → Q vs) → AreReplies P t → AreReplies Q t
retold P Q None means h = means [] h
retold P Q (Some text) means h = (h.0, means (h.0 ∷ []) h.1, h.2)

long_answer : (s : Stage) (n : ℕ) (vs : List Data) (new : Phase) → vs ≡ option_to_list (line_fault line.LineTooLong n) → new ≡ after_fault (phase_of s) → Answers (phase_of s) n too_long vs new
long_answer (Unopened processors) n vs new is after = (is, after)
long_answer (Unstarted v processors) n vs new is after = (is, after)
long_answer (Running script) n vs new is after = (is, after)

bad_answer : (s : Stage) (n : ℕ) (vs : List Data) (new : Phase) → vs ≡ option_to_list (line_fault line.BadLine n) → new ≡ after_fault (phase_of s) → Answers (phase_of s) n no_json vs new
bad_answer (Unopened processors) n vs new is after = (is, after)
bad_answer (Unstarted v processors) n vs new is after = (is, after)
bad_answer (Running script) n vs new is after = (is, after)

pub long_line : (s : Stage) (n : ℕ) (r : Result Answer AllocError) → IfOk r (λ a. AreReplies (λ vs. vs ≡ option_to_list (line_fault line.LineTooLong n)) a.reply)
    → IfOk r (λ a. phase_after a.is_last s ≡ after_fault (phase_of s)) → IfOk r (λ a. AreReplies (λ vs. Answers (phase_of s) n too_long vs (phase_after a.is_last s)) a.reply)
long_line s n (Ok a) h after =
    retold (λ vs. vs ≡ option_to_list (line_fault line.LineTooLong n)) (λ vs. Answers (phase_of s) n too_long vs (phase_after a.is_last s)) a.reply
    (λ vs is. long_answer s n vs (phase_after a.is_last s) is after) h
long_line s n (Err e) h after = h

pub bad_line : (s : Stage) (n : ℕ) (r : Result Answer AllocError) → IfOk r (λ a. AreReplies (λ vs. vs ≡ option_to_list (line_fault line.BadLine n)) a.reply)
    → IfOk r (λ a. phase_after a.is_last s ≡ after_fault (phase_of s)) → IfOk r (λ a. AreReplies (λ vs. Answers (phase_of s) n no_json vs (phase_after a.is_last s)) a.reply)
bad_line s n (Ok a) h after =
    retold (λ vs. vs ≡ option_to_list (line_fault line.BadLine n)) (λ vs. Answers (phase_of s) n no_json vs (phase_after a.is_last s)) a.reply
    (λ vs is. bad_answer s n vs (phase_after a.is_last s) is after) h
bad_line s n (Err e) h after = h
