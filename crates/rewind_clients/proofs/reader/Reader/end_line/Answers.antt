use Rattle.std.proofs.Common.{◌∙◌, ℕ, [], ◌∷◌, ◌++◌, ap, refl}
use Rattle.rewind_lines.specs.Front.{held_of}
use Rattle.rewind_clients.proofs.ReadersLemmas.{stands-next}
use Rattle.rewind_clients.proofs.reader.Reader.end_line.Goals as goal

pub returns-clause-ok : goal.returns-clause-ok
returns-clause-ok c = λ o done s.
    stands-next o done c.args.self.now _ c.number-number.result _ s c.number-number.ensures (c.in_ok-reading.ensures.reading _ done s.held)
    c.in_ok-read_line.ensures.reads (λ l d h. c.begin_next.ensures.next l d h ∙ ap (λ (n : ℕ). held_of n (d ++ 10 ∷ [])) c.limit-limit.ensures) refl
