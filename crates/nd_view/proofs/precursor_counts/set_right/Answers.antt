use Rattle.std.proofs.Common.{◌++◌, ◌∷◌, [], ap, sym, ◌∙◌, arith, true≢false}
use Rattle.nd_view.specs.Rows.{joined}
use Rattle.nd_view.proofs.Zeros.{right_with, right_without}
use Rattle.nd_view.proofs.precursor_counts.set_right.Goals as goal

pub returns-then-not-is_zero : goal.returns-then-not-is_zero
returns-then-not-is_zero g c =
    right_without (joined c.args.counts.now) c.args.frontier.now.items c.forget.new.frontier.items c.args.point.now _ c.requires.others c.forget.ensures.gone c.forget.ensures.others
    (let room = c.forget.ensures.room in omega (arith, c.requires.room, room)) (λ e. true≢false (sym (c.requires.zero.1 e) ∙ c.if-not-is_zero.true))

pub returns : goal.returns
returns g c =
    let p = c.args.point.now in
    right_with (joined c.args.counts.now) c.args.frontier.now.items c.forget.new.frontier.items p _ c.requires.others c.forget.ensures.gone c.forget.ensures.others
    (let room = c.forget.ensures.room in omega (arith, c.requires.room, room, c.in-Ok.ensures.capacity)) c.push.new.self.items
    (c.in-Ok.ensures.items ∙ ap (λ y. c.forget.new.frontier.items ++ y ∷ []) c.copy.ensures) (c.requires.zero.0 c.if-not-is_zero.false)
