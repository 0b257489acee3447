use Rattle.std.proofs.Common.{◌≡◌, ◌<◌, ◌≤◌, ◌+◌, ◌-◌, true, false, cond, length, take, ap, sym, ◌∙◌, arith, rules}
use Rattle.std.specs.List.{filter}
use Rattle.std.proofs.lemmas.List.{take_all, length-map}
use Rattle.nd_vertex.specs.Edits.{item_of, with_item, edited, directed}
use Rattle.nd_vertex.proofs.EditsLemmas.{adds, others, present, absent, other, still, still_other, new_some, next, stands, taken_back, directed_at, reordered}
use Rattle.nd_vertex.proofs.state.VertexState.make_all.Goals as goal

pub make-requires-clause-there : goal.make-requires-clause-there
make-requires-clause-there g c = λ w.
    let es = directed c.args.back c.args.edits.now in
    let lt : c.loop-i.i < length es = rw length-map c.loop-i-test.true in
    let d = c.directed-edit.result in
    let is = directed_at c.args.back c.args.edits.now c.loop-i.i c.index-edits-i.result d c.loop-i-test.true c.index-edits-i.is c.directed-edit.ensures in
    ap (λ s. item_of s d.key) c.loop-i.invariant ∙ still c.args.self.now es c.requires c.loop-i.i d lt is adds

pub make-requires-clause-some : goal.make-requires-clause-some
make-requires-clause-some g c = λ w.
    let es = directed c.args.back c.args.edits.now in
    let lt : c.loop-i.i < length es = rw length-map c.loop-i-test.true in
    let d = c.directed-edit.result in
    new_some c.args.self.now es c.requires c.loop-i.i d lt (directed_at c.args.back c.args.edits.now c.loop-i.i c.index-edits-i.result d c.loop-i-test.true c.index-edits-i.is c.directed-edit.ensures)

pub loop-i-preserved : goal.loop-i-preserved
loop-i-preserved g c =
    let es = directed c.args.back c.args.edits.now in
    let lt : c.loop-i.i < length es = rw length-map c.loop-i-test.true in
    let d = c.directed-edit.result in
    let is = directed_at c.args.back c.args.edits.now c.loop-i.i c.index-edits-i.result d c.loop-i-test.true c.index-edits-i.is c.directed-edit.ensures in
    let m = edited c.args.self.now (filter adds (take c.loop-i.i es)) in
    c.in-Ok.ensures.ok ∙ ap (λ s. cond c.is_none.result (with_item s d.key d.new) s) c.loop-i.invariant
    ∙ ap (λ b. cond b (with_item m d.key d.new) m) (absent d.old c.is_none.result c.is_none.ensures)
    ∙ sym (next adds c.args.self.now es c.loop-i.i d lt is)

pub make-requires-in-loop-j-clause-there : goal.make-requires-in-loop-j-clause-there
make-requires-in-loop-j-clause-there g c = λ w.
    let es = directed c.args.back c.args.edits.now in
    let j = c.loop-j.j - 1 in
    let less : j < length c.args.edits.now = omega (arith, c.loop-j.invariant.below, c.loop-j.invariant.in_range, c.loop-j-test.true) in
    let lt : j < length es = rw length-map less in
    let above : c.loop-j.j ≡ j + 1 = omega (arith, c.loop-j-test.true) in
    let x = c.directed-made.result in
    let is = directed_at c.args.back c.args.edits.now j c.index-edits-j.result x less c.index-edits-j.is c.directed-made.ensures in
    let kind : adds x ≡ true = sym (absent x.old c.is_none-in-loop-j.result c.is_none-in-loop-j.ensures) ∙ w in
    rw c.turned.ensures (ap (λ s. item_of s x.key) (c.loop-j.invariant.made_so_far ∙ ap (λ k. edited c.args.self.now (filter adds (take k es))) above) ∙ stands c.args.self.now es c.requires j x lt is adds kind)

pub loop-j-preserved : goal.loop-j-preserved
loop-j-preserved g c =
    let es = directed c.args.back c.args.edits.now in
    let j = c.loop-j.j - 1 in
    let less : j < length c.args.edits.now = omega (arith, c.loop-j.invariant.below, c.loop-j.invariant.in_range, c.loop-j-test.true) in
    let lt : j < length es = rw length-map less in
    let above : c.loop-j.j ≡ j + 1 = omega (arith, c.loop-j-test.true) in
    let x = c.directed-made.result in
    let is = directed_at c.args.back c.args.edits.now j c.index-edits-j.result x less c.index-edits-j.is c.directed-made.ensures in
    let here : c.loop-j.self ≡ edited c.args.self.now (filter adds (take (j + 1) es)) = c.loop-j.invariant.made_so_far ∙ ap (λ k. edited c.args.self.now (filter adds (take k es))) above in
    record {
      made_so_far = (rw (c.turned.ensures, absent x.old c.is_none-in-loop-j.result c.is_none-in-loop-j.ensures) at c.in-Ok-make.ensures.ok) ∙ ap (λ s. cond (adds x) (with_item s x.key x.old) s) here ∙ taken_back c.args.self.now es c.requires j x lt is adds;
      below = omega (arith, c.loop-j.invariant.below);
      in_range = c.loop-j.invariant.in_range;
    }

pub make-requires-in-loop-k-clause-there : goal.make-requires-in-loop-k-clause-there
make-requires-in-loop-k-clause-there g c = λ w.
    let es = directed c.args.back c.args.edits.now in
    let lt : c.loop-k.k < length es = rw length-map c.loop-k-test.true in
    let d = c.directed-edit-in-loop-k.result in
    let is = directed_at c.args.back c.args.edits.now c.loop-k.k c.index-edits-k.result d c.loop-k-test.true c.index-edits-k.is c.directed-edit-in-loop-k.ensures in
    let kind : adds d ≡ false = present d.old (sym c.is_some.ensures ∙ w) in
    ap (λ s. item_of s d.key) c.loop-k.invariant ∙ still_other c.args.self.now es c.requires c.loop-k.k d lt is adds others kind

pub make-requires-in-loop-k-clause-some : goal.make-requires-in-loop-k-clause-some
make-requires-in-loop-k-clause-some g c = λ w.
    let es = directed c.args.back c.args.edits.now in
    let lt : c.loop-k.k < length es = rw length-map c.loop-k-test.true in
    let d = c.directed-edit-in-loop-k.result in
    new_some c.args.self.now es c.requires c.loop-k.k d lt (directed_at c.args.back c.args.edits.now c.loop-k.k c.index-edits-k.result d c.loop-k-test.true c.index-edits-k.is c.directed-edit-in-loop-k.ensures)

pub loop-k-preserved : goal.loop-k-preserved
loop-k-preserved g c =
    let es = directed c.args.back c.args.edits.now in
    let lt : c.loop-k.k < length es = rw length-map c.loop-k-test.true in
    let d = c.directed-edit-in-loop-k.result in
    let is = directed_at c.args.back c.args.edits.now c.loop-k.k c.index-edits-k.result d c.loop-k-test.true c.index-edits-k.is c.directed-edit-in-loop-k.ensures in
    let first = edited c.args.self.now (filter adds es) in
    let m = edited first (filter others (take c.loop-k.k es)) in
    c.in-Ok-make-2.ensures.ok ∙ ap (λ s. cond c.is_some.result (with_item s d.key d.new) s) c.loop-k.invariant
    ∙ ap (λ b. cond b (with_item m d.key d.new) m) (c.is_some.ensures ∙ other d.old)
    ∙ sym (next others first es c.loop-k.k d lt is)

pub returns-clause-ok : goal.returns-clause-ok
returns-clause-ok g c =
    let es = directed c.args.back c.args.edits.now in
    let past : length c.args.edits.now ≤ c.loop-k.k = omega (arith, c.loop-k-test.false) in
    let all : length es ≤ c.loop-k.k = rw length-map past in
    c.loop-k.invariant ∙ ap (λ xs. edited (edited c.args.self.now (filter adds es)) (filter others xs)) (take_all c.loop-k.k es all) ∙ reordered adds c.args.self.now es c.requires.once

pub returns-in_default-clause-err : goal.returns-in_default-clause-err
returns-in_default-clause-err g c = search rules
