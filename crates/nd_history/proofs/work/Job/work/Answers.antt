use Rattle.std.proofs.Common.{rules, ◌≡◌, ◌+◌, ◌-◌, ◌<◌, ◌++◌, ◌∷◌, [], ℕ, length, length-append, inl, inr, refl, sym, ap, subst, ◌∙◌, arith}
use Rattle.nd_history.specs.Least.{HoldsAt}
use Rattle.atomic_table.specs.declared.shared.Seat.{Seat}
use Rattle.nd_history.specs.declared.hand.Hand.{Hand}
use Rattle.nd_history.specs.Hands.{hand}
use Rattle.nd_history.specs.Works.{IsWork}
use Rattle.nd_history.specs.declared.work.Searched.{Searched}
use Rattle.nd_history.proofs.Shares.{undrawn, drew}
use Rattle.nd_history.proofs.Elements.{all_none, all_more}
use Rattle.nd_history.proofs.Found.{starts, begins, ends}
use Rattle.nd_history.proofs.WorksLemmas.{just_drawn}
use Rattle.nd_history.proofs.HandsLemmas.{pieces_drawn, one_over}
use Rattle.nd_history.proofs.work.Job.work.Goals as goal
use Rattle.nd_history.proofs.work.Job.work.Goals.{else-loop-test, then-loop-test+then-piece-team, then-loop-test+else-piece-team+in_default}

abbrev Ticket : Type 0
Ticket = Seat ℕ Hand

pub loop-init : goal.loop-init
loop-init g c =
    let job = c.requires.job in
    let s = c.args.self.searched in
    let none : length s.claimed.items ≡ 0 = ap length job.empty.nothing_claimed in
    let nothing : length s.found.items ≡ 0 = ap length job.empty.nothing_found in record {
      table = job.table_is;
      me = undrawn c.args.self.ticket.me (c.args.team.now.pieces + 1) s.claimed.items job.me_is job.empty.nothing_claimed;
      counted = search rules;
      even = omega (arith, none, nothing);
      below = all_none (λ x. x < c.args.team.now.pieces) s.claimed.items job.empty.nothing_claimed;
      claimed_room = job.empty.claimed_room;
      found_room = job.empty.found_room;
      on = job.on;
      called = all_none (g.G.Gate.called c.args.team.now.scan.now.gate.now c.args.self.number) s.claimed.items job.empty.nothing_claimed;
      right = starts (HoldsAt c.args.team.now.scan.now.timeline.now c.args.team.now.scan.now.condition.now) c.args.team.now.scan.now.positions.lo c.args.team.now.scan.now.positions.hi s.claimed.items s.found.items job.empty.nothing_claimed job.empty.nothing_found;
    }

pub loop-preserved : goal.loop-preserved
loop-preserved g c =
    let m = c.args.team.now.scan.now.timeline.now in
    let at = c.loop.invariant in
    let claimed = c.loop.searched.claimed.items in
    let piece = c.draw-piece.result in
    record {
      table = search rules;
      me = drew c.loop.ticket.me c.draw-piece.new.ticket.me (c.args.team.now.pieces + 1) (c.args.team.now.pieces + 1 - c.loop.counter) (c.args.team.now.pieces + 1 - (c.loop.counter + 1)) piece claimed c.push_reserved.new.self.items at.me c.draw-piece.ensures.drawn (omega arith) (sym c.push_reserved.ensures.items);
      counted = search rules;
      even = search rules;
      below = all_more (λ x. x < c.args.team.now.pieces) claimed c.push_reserved.new.self.items piece c.push_reserved.ensures.items at.below (search rules);
      claimed_room = search rules;
      found_room = search rules;
      on = c.search_piece.ensures.on;
      called = all_more (g.G.Gate.called c.args.team.now.scan.now.gate.now c.args.self.number) claimed c.push_reserved.new.self.items piece c.push_reserved.ensures.items at.called c.call.ensures;
      right = ends (HoldsAt m c.args.team.now.scan.now.condition.now) c.args.team.now.scan.now.positions.lo c.args.team.now.scan.now.positions.hi claimed c.push_reserved.new.self.items c.loop.searched.found.items c.push_reserved-in-loop.new.self.items piece c.in-Ok.found at.right at.even c.in-Ok.ensures.found c.push_reserved.ensures.items c.push_reserved-in-loop.ensures.items;
    }

pub returns : goal.returns
returns g c =
    let p : ℕ = c.args.team.now.pieces in
    let k : ℕ = c.loop.counter in
    let at = c.loop.invariant in
    let table = c.args.team.now.word.now.table_id in
    let Hit : ℕ → Type 0 = HoldsAt c.args.team.now.scan.now.timeline.now c.args.team.now.scan.now.condition.now in
    let Called : ℕ → Type 0 = g.G.Gate.called c.args.team.now.scan.now.gate.now c.args.self.number in
    let lo : ℕ = c.args.team.now.scan.now.positions.lo in
    let hi : ℕ = c.args.team.now.scan.now.positions.hi in
    let claimed = c.loop.searched.claimed.items in
    let count : length claimed ≡ k = search rules in
    let drawn : c.loop.ticket.me.0.drawn ≡ claimed = ap (λ m. m.0.drawn) at.me in
    let P : Ticket → Searched g.row.A.Denot → Type 0 = λ t s. IsWork c.args.team.now Called (record { ticket = t; searched = s }) in
    elim c.loop-test.branch [
      | else-loop-test w ↦ subst (λ t. P t c.loop-test.searched) (sym w.ticket-is) (subst (λ s. P c.loop.ticket s) (sym w.searched-is)
          (record {
            drawn = pieces_drawn table p k (record { ticket = c.loop.ticket; searched = c.loop.searched }) at.table at.me count c.loop.auto.counter-end at.below;
            searched = at.right;
            stopped = inr (at.even, inr (omega (arith, w.loop-test.false, count, ap length drawn)));
            called = at.called;
          }))
      | then-loop-test+then-piece-team w ↦
          let n : ℕ = w.draw-piece.result in
          let me : w.draw-piece.new.ticket.me ≡ (hand (p + 1) (p + 1 - (k + 1)) (claimed ++ n ∷ []), []) =
          drew c.loop.ticket.me w.draw-piece.new.ticket.me (p + 1) (p + 1 - k) (p + 1 - (k + 1)) n claimed (claimed ++ n ∷ []) at.me w.draw-piece.ensures.drawn (omega arith) refl in
          let now : w.draw-piece.new.ticket.me.0.drawn ≡ c.loop.ticket.me.0.drawn ++ n ∷ [] = ap (λ m. m.0.drawn) w.draw-piece.ensures.drawn in
          subst (λ t. P t c.loop-test.searched) (sym w.ticket-is) (subst (λ s. P w.draw-piece.new.ticket s) (sym w.searched-is)
          (record {
            drawn = one_over table p k (record { ticket = w.draw-piece.new.ticket; searched = c.loop.searched }) (w.draw-piece.ensures.ticket.0 ∙ at.table) n w.if-piece-team.true me count w.loop-test.true at.below;
            searched = at.right;
            stopped = inr (at.even, inl (record { number = n; no_piece = w.if-piece-team.true; there = just_drawn n c.loop.ticket.me.0.drawn w.draw-piece.new.ticket.me.0.drawn now }));
            called = at.called;
          }))
      | then-loop-test+else-piece-team+in_default w ↦
          let n : ℕ = w.draw-piece.result in
          let more = w.push_reserved.new.self in
          let me : w.draw-piece.new.ticket.me ≡ (hand (p + 1) (p + 1 - (k + 1)) more.items, []) =
          drew c.loop.ticket.me w.draw-piece.new.ticket.me (p + 1) (p + 1 - k) (p + 1 - (k + 1)) n claimed more.items at.me w.draw-piece.ensures.drawn (omega arith) (sym w.push_reserved.ensures.items) in
          let counted : length more.items ≡ k + 1 = ap length w.push_reserved.ensures.items ∙ omega (arith, length-append claimed (n ∷ []), count) in
          let below = all_more (λ x. x < p) claimed more.items n w.push_reserved.ensures.items at.below (search rules) in
          subst (λ t. P t c.loop-test.searched) (sym w.ticket-is) (subst (λ s. P w.draw-piece.new.ticket s) (sym w.searched-is)
          (record {
            drawn = pieces_drawn table p (k + 1) (record { ticket = w.draw-piece.new.ticket; searched = record { claimed = more; found = c.loop.searched.found } }) (w.draw-piece.ensures.ticket.0 ∙ at.table) me counted (omega (arith, w.loop-test.true)) below;
            searched = begins Hit lo hi claimed more.items c.loop.searched.found.items n at.right w.push_reserved.ensures.items;
            stopped = inl (omega (arith, counted, count, at.even));
            called = all_more Called claimed more.items n w.push_reserved.ensures.items at.called w.call.ensures;
          }))
    ]
