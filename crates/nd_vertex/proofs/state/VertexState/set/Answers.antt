use Rattle.std.proofs.Common.{◌≡◌, ◌∙◌, None, Some, Ok, Err, rules, ap, sym, w64}
use Rattle.std.specs.Prelude.{OnErr, Result}
use Rattle.std.proofs.lemmas.Int.{to_z-of_z}
use Rattle.nd_map.specs.Counts.{integers, set}
use Rattle.nd_map.specs.KeptLaws as laws
use Rattle.std.specs.FinMap.{find, put}
use Rattle.nd_vertex.specs.Items.{item_key, item_cmp, item_total, item_exact}
use Rattle.nd_vertex.specs.Edits.{number_of}
use Rattle.nd_vertex.specs.Kept.{IsNumber}
use Rattle.nd_vertex.proofs.KeptLemmas.{found, kept_put}
use Rattle.nd_vertex.proofs.state.VertexState.set.Given.{Over}
use Rattle.nd_vertex.proofs.state.VertexState.set.Goals as goal

pub invariant_of-self-in-None : goal.invariant_of-self-in-None
invariant_of-self-in-None g c = rw c.remove.ensures.value (laws.kept_without item_cmp item_total c.self.inside.map _ IsNumber c.self.invariant)

pub returns-in-None-clause-ok : goal.returns-in-None-clause-ok
returns-in-None-clause-ok g c =
    let key = item_key c.args.time.now c.args.item in
    let is_none : c.args.new ≡ None = cc in
    laws.of_without integers item_total item_exact c.self.inside.map c.args.self.now c.self.view_is key _ (rw (c.copy.ensures, to_z-of_z w64 c.args.item c.ranges.item) at c.remove.ensures.value)
    ∙ ap (λ n. set item_total c.args.self.now key (number_of n)) (sym is_none)

-- a fact holds if a call fails, too
on_err : {X E P : Type 0} (r : Result X E) → P → OnErr r P
on_err (Ok _) p = tt
on_err (Err _) p = p

pub returns-in_err-put-in-Some-clause-absent : goal.returns-in_err-put-in-Some-clause-absent
returns-in_err-put-in-Some-clause-absent g c =
    let key = item_key c.args.time.now c.args.item in
    let absent : find item_cmp key c.self.inside.map ≡ None = rw (c.copy.ensures, to_z-of_z w64 c.args.item c.ranges.item) at c.in_err-put-in-Some.ensures.absent in
    on_err c.from_residual.result (sym c.requires.there ∙ sym (found c.self.inside.map c.self.invariant c.args.self.now c.self.view_is key) ∙ absent)

-- the number to put
number : (g : Over) (c : goal.In_ok-put-in-Some g) → IsNumber (item_key c.args.time.now c.args.item) c.in-Some.number
number g c = record { some = λ e. c.requires.some (c.in-Some.is ∙ ap Some e); fits = search rules; item = c.ranges.item }

-- the entries after the put
entries : (g : Over) (c : goal.In_ok-put-in-Some g) → c.put.new.self ≡ put item_cmp (item_key c.args.time.now c.args.item) c.in-Some.number c.self.inside.map
entries g c = rw (c.copy.ensures, to_z-of_z w64 c.args.item c.ranges.item, to_z-of_z w64 c.in-Some.number (number g c).fits) at c.in_ok-put-in-Some.ensures.ok

pub invariant_of-self : goal.invariant_of-self
invariant_of-self g c = rw (entries g c) (kept_put c.self.inside.map _ c.in-Some.number (number g c) c.self.invariant)

pub returns-in_ok-put-in-Some-clause-ok : goal.returns-in_ok-put-in-Some-clause-ok
returns-in_ok-put-in-Some-clause-ok g c =
    let key = item_key c.args.time.now c.args.item in
    laws.of_put integers item_total item_exact c.self.inside.map c.args.self.now c.self.view_is key c.in-Some.number _ (entries g c) ∙ ap (λ n. set item_total c.args.self.now key (number_of n)) (sym c.in-Some.is)
