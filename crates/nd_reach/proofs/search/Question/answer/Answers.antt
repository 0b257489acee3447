use Rattle.std.proofs.Common.{◌≡◌, ◌++◌, ◌∷◌, [], length, sym, subst, arith}
use Rattle.nd_reach.specs.Found.{AreFound}
use Rattle.nd_reach.specs.Questions.{wanted}
use Rattle.nd_reach.proofs.Ends.{hit_count, hit_last, hit_reached, all_reached, as_hit, as_all}
use Rattle.nd_reach.proofs.search.Question.answer.Goals as goal

pub returns-in_default-clause-reached : goal.returns-in_default-clause-reached
returns-in_default-clause-reached g c =
    let count : c.len-count.result ≡ length c.args.found.now.nodes.items = omega (arith, c.len-count.ensures) in
    let all = as_all (wanted c.args.self.now) c.args.found.now.forms.keys c.args.found.now.nodes.items c.args.end c.in_default.is c.requires.run in
    all_reached (wanted c.args.self.now) c.args.found.now.forms.keys c.args.found.now.nodes.items all c.len-count.result count

pub overflow_sub-count : goal.overflow_sub-count
overflow_sub-count g c =
    let hit = as_hit (wanted c.args.self.now) c.args.found.now.forms.keys c.args.found.now.nodes.items c.args.end c.in-Some.end c.in-Some.is c.in-Hit.is c.requires.run in
    omega (arith, c.len-count.ensures, hit_count (wanted c.args.self.now) c.args.found.now.forms.keys c.args.found.now.nodes.items hit)

pub way_to-requires-clause-within : goal.way_to-requires-clause-within
way_to-requires-clause-within g c =
    let hit = as_hit (wanted c.args.self.now) c.args.found.now.forms.keys c.args.found.now.nodes.items c.args.end c.in-Some.end c.in-Some.is c.in-Hit.is c.requires.run in
    omega (arith, c.len-count.ensures, c.deref.ensures.len, hit_count (wanted c.args.self.now) c.args.found.now.forms.keys c.args.found.now.nodes.items hit)

pub way_to-requires-clause-found : goal.way_to-requires-clause-found
way_to-requires-clause-found g c =
    let hit = as_hit (wanted c.args.self.now) c.args.found.now.forms.keys c.args.found.now.nodes.items c.args.end c.in-Some.end c.in-Some.is c.in-Hit.is c.requires.run in (
      c.args.self.now.start.now,
      (
        hit.earlier ++ hit.last ∷ [],
        c.args.found.now.forms.keys,
        subst (AreFound c.args.self.now.start.now (hit.earlier ++ hit.last ∷ []) c.args.found.now.forms.keys) (sym c.deref.ensures.value) hit.found,
      ),
    )

pub returns-in_ok-steps-in-Hit-clause-reached : goal.returns-in_ok-steps-in-Hit-clause-reached
returns-in_ok-steps-in-Hit-clause-reached g c =
    let count : c.len-count.result ≡ length c.args.found.now.nodes.items = omega (arith, c.len-count.ensures) in
    let hit = as_hit (wanted c.args.self.now) c.args.found.now.forms.keys c.args.found.now.nodes.items c.args.end c.in-Some.end c.in-Some.is c.in-Hit.is c.requires.run in
    hit_reached (wanted c.args.self.now) c.args.found.now.forms.keys c.args.found.now.nodes.items hit c.in_ok-steps-in-Hit.steps
    (c.in_ok-steps-in-Hit.ensures c.args.self.now.start.now (hit.earlier ++ hit.last ∷ []) c.args.found.now.forms.keys hit.last
    (subst (AreFound c.args.self.now.start.now (hit.earlier ++ hit.last ∷ []) c.args.found.now.forms.keys) (sym c.deref.ensures.value) hit.found)
    (hit_last (wanted c.args.self.now) c.args.found.now.forms.keys c.args.found.now.nodes.items hit c.len-count.result count))
