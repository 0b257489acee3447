use Rattle.std.proofs.Common.{◌≡◌, drop}
use Rattle.std.specs.List.{enumerate_from}
use Rattle.nd_map.specs.Counts.{entries}
use Rattle.nd_reach.specs.Forms.{vertex_form}
use Rattle.nd_reach.proofs.Written.{to_come}
use Rattle.nd_reach.proofs.writing.put_items.Given as goal

abbrev pub invariant-loop-vertex : goal.invariant-loop-vertex
invariant-loop-vertex g l =
    let all = enumerate_from 0 l.processor.items in
    to_come (λ v. vertex_form v.0 (entries v.1)) l.bytes.items (drop l.vertex all) ≡ to_come (λ v. vertex_form v.0 (entries v.1)) l.initial.bytes.items all
