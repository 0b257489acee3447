-- One more command of a client.
use Rattle.std.proofs.Common.{◌≡◌, ℕ, zero, suc, ◌<◌, List, [], ◌∷◌, ◌++◌, length, Global, Vec, ap, arith}
use Rattle.std.specs.Prelude.{slice_index_or, slice_set}
use Rattle.nd_commands.specs.declared.command.Command.{Command}
use Rattle.rewind_sessions.specs.Runs.{lists_of}

pub lists-set : (vs : List (Vec (Command Global) Global)) (i : ℕ) (v d : Vec (Command Global) Global) (x : Command Global) → i < length vs → v.items ≡ (slice_index_or vs i d).items ++ x ∷ []
    → lists_of (slice_set vs i v) ≡ slice_set (lists_of vs) i (slice_index_or (lists_of vs) i [] ++ x ∷ [])
lists-set [] i v d x h e = absurd (omega arith)
lists-set (w ∷ ws) zero v d x h e = ap (λ l. l ∷ lists_of ws) e
lists-set (w ∷ ws) (suc i) v d x h e = ap (λ ls. w.items ∷ ls) (lists-set ws i v d x (omega arith) e)
