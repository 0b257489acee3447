use Rattle.std.proofs.Common.{◌≡◌, ℕ, ◌<◌, ◌%◌, ◌-◌, List, None, length, drop, take, length-take, eqb, false, sym, ◌∙◌, refl, subst, arith}
use Rattle.std.proofs.lemmas.Bool.Decides.{nat_tests}
use Rattle.std.proofs.lemmas.Nat.{mod_below}
use Rattle.std.proofs.lemmas.Slice.{between_to_end}
use Rattle.std.proofs.lemmas.Result.{IfOk-weaker}
use Rattle.nd_protocol.specs.declared.step.Step.{Step}
use Rattle.nd_cluster.specs.Choice.{Finds, turned_by}
use Rattle.nd_cluster.proofs.ChoiceLemmas.{turned_sooner, turned_later}
use Rattle.nd_cluster.proofs.cluster.Cluster.first_by_lot.Goals as goal

positive : (n : ℕ) → eqb n 0 ≡ false → 0 < n
positive n h = grind (arith, nat_tests)

pub slice_bounds-first_of-end-in-None : goal.slice_bounds-first_of-end-in-None
slice_bounds-first_of-end-in-None g c =
    let xs : List (Step g.row.A.Denot) = c.args.steps.now in
    let some : 0 < length xs = positive (length xs) (sym c.is_empty.ensures ∙ c.if-is_empty.false) in
    let within : c.args.lot % length xs < length xs = mod_below c.args.lot (length xs) some in
    omega (arith, within, length-take (c.args.lot % length xs) xs)

pub returns-in-Some : goal.returns-in-Some
returns-in-Some g c =
    let s = c.args.self.now in
    let xs : List (Step g.row.A.Denot) = c.args.steps.now in
    let later : List (Step g.row.A.Denot) = take (length xs - c.args.lot % length xs) (drop (c.args.lot % length xs) xs) in
    let to_end : later ≡ drop (c.args.lot % length xs) xs = between_to_end xs (c.args.lot % length xs) (length xs) (omega arith) in
    turned_sooner s c.args.lot xs later c.in-Some.record to_end (subst (Finds s later) c.in-Some.is c.in_ok-record.ensures)

pub returns-in-None : goal.returns-in-None
returns-in-None g c =
    let s = c.args.self.now in
    let xs : List (Step g.row.A.Denot) = c.args.steps.now in
    let later : List (Step g.row.A.Denot) = take (length xs - c.args.lot % length xs) (drop (c.args.lot % length xs) xs) in
    let to_end : later ≡ drop (c.args.lot % length xs) xs = between_to_end xs (c.args.lot % length xs) (length xs) (omega arith) in
    let earlier : List (Step g.row.A.Denot) = take (c.args.lot % length xs) xs in
    let none : Finds s later None = subst (Finds s later) c.in-None.is c.in_ok-record.ensures in
    IfOk-weaker c.first_of-in-None.result (Finds s earlier) (Finds s (turned_by c.args.lot xs)) (λ found h. turned_later s c.args.lot xs later earlier found to_end refl none h) c.first_of-in-None.ensures
