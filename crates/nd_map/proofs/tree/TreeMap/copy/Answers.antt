use Rattle.std.proofs.Common.{◌≡◌, ◌++◌, [], ap, subst, sym, ◌∙◌}
use Rattle.std.specs.BTreeMap.{IsFromIterResult}
use Rattle.std.specs.Map.Iter.{deref_pair}
use Rattle.std.proofs.IntoIterSteps.{All-taken}
use Rattle.std.proofs.lemmas.List.{append-nil}
use Rattle.std.proofs.lemmas.Map.Iter.{rest_all}
use Rattle.nd_map.specs.Listed.{IsListed}
use Rattle.nd_map.proofs.Trees.{made_of}
use Rattle.nd_map.proofs.tree.TreeMap.copy.Given.{Over}
use Rattle.nd_map.proofs.tree.TreeMap.copy.Goals as goal

all_copied : (g : Over) (c : goal.In_ok-from_iter g) → c.in_ok-from_iter.field-0.entries ≡ c.args.self.now
all_copied g c =
    let h = c.in_ok-from_iter.ensures.ran in
    let none : c.loop-key.key-iterator ≡ [] = rest_all deref_pair c.loop-key.key-iterator c.next.new.self c.next.result c.in-None.is c.next.ensures.steps in
    let whole : c.loop-key.entries.items ≡ c.args.self.now
    = sym (append-nil c.loop-key.entries.items) ∙ ap (λ es. c.loop-key.entries.items ++ es) (sym none) ∙ c.loop-key.invariant in
    let xs = All-taken h.0 h.1 ((h.3.2 tt).0, (h.3.0, h.3.1, (h.3.2 tt).1)) ∙ h.2.0 ∙ whole in
    made_of g.K.Ord.cmp g.met.K.Ord.total g.met.K.Key.exact c.args.self.now c.iter-left.ensures.listed c.in_ok-from_iter.field-0 (subst (λ es. IsFromIterResult g.K.Ord.cmp es c.in_ok-from_iter.field-0) xs h.4)

pub invariant_of-result : goal.invariant_of-result
invariant_of-result g c = subst (IsListed g.K.Ord.cmp) (sym (all_copied g c)) c.iter-left.ensures.listed

pub returns-clause-equal : goal.returns-clause-equal
returns-clause-equal g c = all_copied g c
