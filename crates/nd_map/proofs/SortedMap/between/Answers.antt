use Rattle.std.proofs.Common.{not, ap, ◌∙◌}
use Rattle.std.specs.List.{filter}
use Rattle.std.specs.BTreeMap.Range.{is_from_start, is_past_end, entries_between}
use Rattle.std.specs.declared.ops.Bound.TheVariants.{Included}
use Rattle.nd_map.proofs.Cuts.{both}
use Rattle.nd_map.proofs.SortedMap.between.Goals as goal

pub returns-clause-value : goal.returns-clause-value
returns-clause-value g c =
    c.up_to.ensures.value ∙ ap (filter (λ e. not (is_past_end g.K.Ord.cmp (Included c.args.last.now) e.0))) c.from.ensures.value
    ∙ both (λ e. is_from_start g.K.Ord.cmp (Included c.args.first.now) e.0) (λ e. not (is_past_end g.K.Ord.cmp (Included c.args.last.now) e.0)) c.listed.result.now
    ∙ ap (entries_between g.K.Ord.cmp (Included c.args.first.now) (Included c.args.last.now)) c.listed.ensures.value
