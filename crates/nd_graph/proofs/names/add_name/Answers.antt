use Rattle.std.proofs.Common.{◌≡◌, ◌∙◌, inr, refl, sym, ap, true}
use Rattle.std.specs.List.{list_any}
use Rattle.std.specs.Str.{bytes_eq}
use Rattle.nd_graph.proofs.names.add_name.Goals as goal
use Rattle.std.proofs.lemmas.Bool.{not-false}

pub returns-else-is_new-clause-err : goal.returns-else-is_new-clause-err
returns-else-is_new-clause-err g c =
    let there : list_any (bytes_eq c.copy.result) c.args.names.now.keys ≡ true = not-false _ (sym c.in_ok-is_new.ensures.added ∙ c.if-is_new.false) in
    inr (refl, ap (λ n. list_any (bytes_eq n) c.args.names.now.keys) (sym c.copy.ensures) ∙ there)

pub returns-else-is_new-clause-added : goal.returns-else-is_new-clause-added
returns-else-is_new-clause-added g c = tt

pub returns-else-is_new-clause-new : goal.returns-else-is_new-clause-new
returns-else-is_new-clause-new g c = tt
