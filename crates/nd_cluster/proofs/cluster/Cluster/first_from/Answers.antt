use Rattle.std.proofs.Common.{◌≡◌, ◌-◌, ◌%◌, ◌∙◌, None, length, subst}
use Rattle.std.specs.Prelude.{option_copied}
use Rattle.std.specs.List.{range_with_len}
use Rattle.std.proofs.lemmas.Result.{IfOk-weaker}
use Rattle.nd_cluster.specs.Candidates.{candidates_on}
use Rattle.nd_cluster.specs.Choice.{candidates_from, Finds}
use Rattle.nd_cluster.proofs.ChoiceLemmas.{found_sooner, found_later}
use Rattle.nd_cluster.proofs.cluster.Cluster.first_from.Goals as goal

pub returns-in-Some : goal.returns-in-Some
returns-in-Some g c =
    let s = c.args.self.now in
    let only = option_copied c.args.only in
    let count : c.processor_count-n.result ≡ length s.processors = c.processor_count-n.ensures.value in
    let from : c.from.result ≡ length s.processors = c.from.ensures ∙ count in
    let first = c.args.turn % c.from.result in
    let here = candidates_on {A = g.row.A.Denot} s only (range_with_len first (c.processor_count-n.result - first)) in
    found_sooner s only c.args.turn c.from.result c.processor_count-n.result from count c.in-Some.record (subst (Finds s here) c.in-Some.is c.in_ok-record.ensures)

pub returns-in-None : goal.returns-in-None
returns-in-None g c =
    let s = c.args.self.now in
    let only = option_copied c.args.only in
    let count : c.processor_count-n.result ≡ length s.processors = c.processor_count-n.ensures.value in
    let from : c.from.result ≡ length s.processors = c.from.ensures ∙ count in
    let first = c.args.turn % c.from.result in
    let here = candidates_on {A = g.row.A.Denot} s only (range_with_len first (c.processor_count-n.result - first)) in
    let none : Finds s here None = subst (Finds s here) c.in-None.is c.in_ok-record.ensures in
    IfOk-weaker c.first_between-in-None.result
    (Finds s (candidates_on s only (range_with_len 0 (first - 0)))) (Finds s (candidates_from s c.args.turn only))
    (λ found h. found_later s only c.args.turn c.from.result c.processor_count-n.result from count found none h) c.first_between-in-None.ensures
