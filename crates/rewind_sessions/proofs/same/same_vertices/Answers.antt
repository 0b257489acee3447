use Rattle.std.proofs.Common.{◌≡◌, length, rules, arith}
use Rattle.rewind_sessions.proofs.Starts.{same_lists}
use Rattle.rewind_sessions.proofs.same.same_vertices.Goals as goal

pub returns : goal.returns
returns c =
    let long : length c.args.one.now ≡ length c.args.other.now = search rules in
    same_lists c.args.one.now c.args.other.now long (λ k d lt. c.loop-i.invariant k d (omega (arith, lt, c.loop-i-test.false)))
