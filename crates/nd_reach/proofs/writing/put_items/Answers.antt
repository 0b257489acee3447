use Rattle.std.proofs.Common.{◌≡◌, ℕ, List, ◌++◌, ◌+◌, ◌<◌, ◌≤◌, length, drop, get_or, sym, ap, ◌∙◌, arith, append_assoc}
use Rattle.std.specs.List.{enumerate_from, flat_map}
use Rattle.std.proofs.lemmas.List.{drop_all}
use Rattle.std.proofs.lemmas.List.FromFn.{length-enumerate_from, get_or-enumerate_from}
use Rattle.std.proofs.lemmas.Result.{on_ok_weaker}
use Rattle.nd_map.specs.Counts.{entries, none}
use Rattle.nd_vertex.specs.Items.{Items}
use Rattle.nd_reach.specs.Bytes.{number}
use Rattle.nd_reach.specs.Forms.{vertex_form}
use Rattle.nd_reach.proofs.Written.{more_at, all_written}
use Rattle.nd_reach.proofs.writing.put_items.Goals as goal

-- the form of the items of a vertex, by its number and its items
abbrev form_at : ℕ × Items → List ℕ
form_at v = vertex_form v.0 (entries v.1)

pub loop-vertex-preserved : goal.loop-vertex-preserved
loop-vertex-preserved g c =
    let items = c.args.processor.now.items in
    let i = c.loop-vertex.vertex in
    let old = c.loop-vertex.bytes.items in
    let lt : i < length items = omega (arith, c.loop-vertex-test.true, c.vertex_count-vertex-end.ensures) in
    let some : i < length (enumerate_from 0 items) = omega (arith, lt, length-enumerate_from 0 items) in
    let zero : 0 + i ≡ i = omega arith in
    let is : get_or (enumerate_from 0 items) i (0, none) ≡ (i, get_or items i none) = get_or-enumerate_from 0 items i (0, none) lt ∙ ap (λ (k : ℕ). (k, get_or items i none)) zero in
    more_at form_at (enumerate_from 0 items) i (0, none) old c.put_vertex.new.bytes.items _ some c.loop-vertex.invariant
    (c.in_ok-put_vertex.ensures ∙ ap (λ v. old ++ form_at v) (sym is))

pub returns : goal.returns
returns g c =
    let items = c.args.processor.now.items in
    let old = c.args.bytes.now.items in
    let all = flat_map form_at (enumerate_from 0 items) in
    let none : length (enumerate_from 0 items) ≤ c.loop-vertex.vertex = omega (arith, c.loop-vertex-test.false, c.vertex_count-vertex-end.ensures, length-enumerate_from 0 items) in
    let written = all_written form_at (drop c.loop-vertex.vertex (enumerate_from 0 items)) old c.loop-vertex.bytes.items (old ++ all) (drop_all c.loop-vertex.vertex (enumerate_from 0 items) none) c.loop-vertex.invariant in
    on_ok_weaker c.put_number.result (λ e. e ∙ ap (λ bs. bs ++ number 0) written ∙ append_assoc old all (number 0)) c.put_number.ensures
