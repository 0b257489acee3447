use Rattle.std.proofs.Common.{◌≡◌, ◌≤◌, take, length}
use Rattle.std.specs.List.{filter}
use Rattle.nd_vertex.specs.Edits.{edited, directed}
use Rattle.nd_vertex.proofs.EditsLemmas.{adds, others}
use Rattle.nd_vertex.proofs.state.VertexState.make_all.Given as goal

-- of the edits so far, those that add an item are applied
abbrev pub invariant-loop-i : goal.invariant-loop-i
invariant-loop-i g l = l.self ≡ edited l.fn.self (filter adds (take l.i (directed l.back l.edits)))

-- the same while they are undone, down to the first
abbrev pub invariant-loop-j : goal.invariant-loop-j
invariant-loop-j g l = record {
  made_so_far : l.self ≡ edited l.fn.self (filter adds (take l.j (directed l.back l.edits)));
  below : l.j ≤ l.i;
  in_range : l.i ≤ length l.edits;
}

-- all edits that add an item are applied, and of the others those so far
abbrev pub invariant-loop-k : goal.invariant-loop-k
invariant-loop-k g l = l.self ≡ edited (edited l.fn.self (filter adds (directed l.back l.edits))) (filter others (take l.k (directed l.back l.edits)))
