use Rattle.std.proofs.Common.{◌≡◌, ◌++◌, ◌∷◌, length, sym, subst, ap, arith}
use Rattle.std.specs.Vec.Iter.{into_iter_items}
use Rattle.nd_reach.specs.Found.{HasTried, Stays}
use Rattle.nd_reach.specs.Questions.{wanted}
use Rattle.nd_reach.proofs.Expands.{IsLeft, none_tried, next_there, next_planned, at_within, all_tried, one_tried, nothing_left, steps}
use Rattle.nd_reach.proofs.search.Question.expand.Goals as goal

pub loop-made-init : goal.loop-made-init
loop-made-init g c = (
  tt,
  tt,
  omega (arith, c.into_iter-made-iterator.ensures.into_iter_gives.1, ap length c.into_iter-made-iterator.ensures.into_iter_gives.0),
  subst (IsLeft (wanted c.args.self.now) c.args.found.now.forms.keys c.args.found.now.nodes.items c.args.at c.go.new.walker) (sym c.into_iter-made-iterator.ensures.into_iter_gives.0)
      (none_tried (wanted c.args.self.now) c.args.found.now.forms.keys c.args.found.now.nodes.items c.args.at c.go.new.walker c.in_ok-go.ensures.ok c.requires.there
      c.in_ok-moves.moves.items c.in_ok-moves.ensures),
)

pub try_move-requires-clause-planned : goal.try_move-requires-clause-planned
try_move-requires-clause-planned g c =
    let left = subst (IsLeft (wanted c.args.self.now) c.loop-made.found.forms.keys c.loop-made.found.nodes.items c.args.at c.loop-made.walker) c.in-Some.ensures.steps.0 c.loop-made.invariant.3 in
    next_planned (wanted c.args.self.now) c.loop-made.found.forms.keys c.loop-made.found.nodes.items c.args.at c.loop-made.walker c.in-Some.made (into_iter_items c.next.new.self) left

pub try_move-requires-clause-there : goal.try_move-requires-clause-there
try_move-requires-clause-there g c =
    at_within (wanted c.args.self.now) c.loop-made.found.forms.keys c.loop-made.found.nodes.items c.args.at c.loop-made.walker (into_iter_items c.loop-made.made-iterator) c.loop-made.invariant.3

pub returns-in-Some-2 : goal.returns-in-Some-2
returns-in-Some-2 g c = record {
  err = tt;
  ok =
      (let left = subst (IsLeft (wanted c.args.self.now) c.loop-made.found.forms.keys c.loop-made.found.nodes.items c.args.at c.loop-made.walker) c.in-Some.ensures.steps.0 c.loop-made.invariant.3 in
      subst (λ end. HasTried (wanted c.args.self.now) c.try_move.new.found.forms.keys c.try_move.new.found.nodes.items c.args.at c.try_move.new.walker
      (steps (left.tried ++ c.in-Some.made ∷ into_iter_items c.next.new.self)) (length left.tried) end) c.in-Some-2.is
      (c.in_ok-end.ensures.tried (steps (left.tried ++ c.in-Some.made ∷ into_iter_items c.next.new.self)) (length left.tried) left.going
      (next_there (wanted c.args.self.now) c.loop-made.found.forms.keys c.loop-made.found.nodes.items c.args.at c.loop-made.walker c.in-Some.made (into_iter_items c.next.new.self) left)));
}

pub loop-made-preserved : goal.loop-made-preserved
loop-made-preserved g c =
    let left = subst (IsLeft (wanted c.args.self.now) c.loop-made.found.forms.keys c.loop-made.found.nodes.items c.args.at c.loop-made.walker) c.in-Some.ensures.steps.0 c.loop-made.invariant.3 in
    let same = subst (λ end. Stays end c.loop-made.walker c.try_move.new.walker) c.in_default.is c.in_ok-end.ensures.stays in
    let on = subst (λ end. HasTried (wanted c.args.self.now) c.try_move.new.found.forms.keys c.try_move.new.found.nodes.items c.args.at c.try_move.new.walker
    (steps (left.tried ++ c.in-Some.made ∷ into_iter_items c.next.new.self)) (length left.tried) end) c.in_default.is
    (c.in_ok-end.ensures.tried (steps (left.tried ++ c.in-Some.made ∷ into_iter_items c.next.new.self)) (length left.tried) left.going
    (next_there (wanted c.args.self.now) c.loop-made.found.forms.keys c.loop-made.found.nodes.items c.args.at c.loop-made.walker c.in-Some.made (into_iter_items c.next.new.self) left)) in (
      tt,
      tt,
      omega (arith, c.in-Some.ensures.steps.1, c.loop-made.invariant.2, ap length c.in-Some.ensures.steps.0),
      one_tried (wanted c.args.self.now) c.loop-made.found.forms.keys c.loop-made.found.nodes.items c.args.at c.loop-made.walker c.try_move.new.found.forms.keys c.try_move.new.found.nodes.items
          c.try_move.new.walker c.in-Some.made (into_iter_items c.next.new.self) left same on,
    )

pub returns : goal.returns
returns g c = record {
  err = tt;
  ok =
      (let none : length (into_iter_items c.loop-made.made-iterator) ≡ 0 = omega (arith, c.loop-made.invariant.2, c.in-None.ensures.steps.0) in
      all_tried (wanted c.args.self.now) c.loop-made.found.forms.keys c.loop-made.found.nodes.items c.args.at c.loop-made.walker
      (nothing_left (wanted c.args.self.now) c.loop-made.found.forms.keys c.loop-made.found.nodes.items c.args.at c.loop-made.walker (into_iter_items c.loop-made.made-iterator) none c.loop-made.invariant.3));
}
