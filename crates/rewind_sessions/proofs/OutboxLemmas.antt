-- Replies that are gathered, and then written.
use Rattle.std.proofs.Common.{◌≡◌, ◌∙◌, ℕ, ◌+◌, List, [], ◌∷◌, ◌++◌, length, take, Some, Result, Ok, Err, OnOk, refl, sym, ap, append_assoc}
use Rattle.std.proofs.lemmas.List.{append-nil}
use Rattle.std.proofs.Math.Seq.{take-append-add}
use Rattle.std.specs.Io.KnownBytes.{Appends}
use Rattle.serde_json.specs.Data.{Data}
use Rattle.rewind_lines.specs.Known.{Known, text_of-append, written-on}
use Rattle.serde_json.specs.Written.{compact_text}
use Rattle.rewind_lines.specs.Texts.{reply_text, text_of}
use Rattle.rewind_sessions.specs.Gathered.{Gathered}
use Rattle.rewind_sessions.specs.Written.{WroteFront}

-- the text of all replies is that of the written ones and the text that waits
whole : (replies : List Data) (waiting before : List ℕ) (after : Known) (h : Gathered replies waiting before after) → text_of replies ≡ text_of h.sent ++ waiting
whole replies waiting before after h = ap text_of h.split ∙ (text_of-append h.sent h.kept ∙ ap (λ t. text_of h.sent ++ t) (sym h.waits))

-- one more reply waits
pub added : (replies : List Data) (reply : Data) (text waiting waits before : List ℕ) (after : Known) → text ≡ compact_text reply → waits ≡ waiting ++ (text ++ 10 ∷ []) → Gathered replies waiting before after
    → Gathered (replies ++ reply ∷ []) waits before after
unfolding reply_text
added replies reply text waiting waits before after shown told h = let more = told ∙ ap (λ t. waiting ++ (t ++ 10 ∷ [])) shown in record {
  sent = h.sent;
  kept = h.kept ++ reply ∷ [];
  split = ap (λ rs. rs ++ reply ∷ []) h.split ∙ append_assoc h.sent h.kept (reply ∷ []);
  waits = more ∙ (ap (λ t. t ++ reply_text reply) h.waits ∙ sym (text_of-append h.kept (reply ∷ []) ∙ ap (λ t. text_of h.kept ++ t) (append-nil (reply_text reply))));
  written = h.written;
}

-- all that waited was written
flushed : (replies : List Data) (waiting before : List ℕ) (old new : Known) → Gathered replies waiting before old → Appends old new waiting → Gathered replies [] before new
flushed replies waiting before old new h wrote = record {
  sent = replies;
  kept = [];
  split = sym (append-nil replies);
  waits = refl;
  written = written-on old new before (text_of h.sent) waiting h.written wrote ∙ ap (λ t. Some (before ++ t)) (sym (whole replies waiting before old h));
}

pub flush-ok : {E : Type 0} (waiting waits : List ℕ) (old new : Known) (r : Result (Unit {0}) E) → OnOk r (Appends old new waiting) → OnOk r (waits ≡ [])
    → OnOk r ((replies : List Data) (before : List ℕ) → Gathered replies waiting before old → Gathered replies waits before new)
flush-ok waiting waits old new (Ok done) wrote none = λ replies before h. rw none (flushed replies waiting before old new h wrote)
flush-ok waiting waits old new (Err e) wrote none = tt

-- the first bytes of what waited were written
pub front-written : (replies : List Data) (waiting before : List ℕ) (old new : Known) (n : ℕ) → Gathered replies waiting before old → Appends old new (take n waiting)
    → WroteFront replies before new
front-written replies waiting before old new n h wrote = record {
  count = length (text_of h.sent) + n;
  written = written-on old new before (text_of h.sent) (take n waiting) h.written wrote
      ∙ ap (λ t. Some (before ++ t)) (sym (ap (take (length (text_of h.sent) + n)) (whole replies waiting before old h) ∙ take-append-add (text_of h.sent) waiting n));
}

-- ---- an outbox at its beginning and its end

pub none-gathered : (waiting before : List ℕ) (after : Known) → waiting ≡ [] → after ≡ Some before → Gathered [] waiting before after
none-gathered waiting before after none told = record { sent = []; kept = []; split = refl; waits = none; written = told ∙ ap Some (sym (append-nil before)) }

pub all-written : (replies : List Data) (waiting before : List ℕ) (after : Known) → Gathered replies waiting before after → waiting ≡ [] → after ≡ Some (before ++ text_of replies)
all-written replies waiting before after h none =
    h.written
    ∙ ap (λ (t : List ℕ). Some (before ++ t))
    (sym (ap text_of h.split ∙ (text_of-append h.sent h.kept ∙ (ap (λ (t : List ℕ). text_of h.sent ++ t) (sym h.waits ∙ none) ∙ append-nil (text_of h.sent)))))
