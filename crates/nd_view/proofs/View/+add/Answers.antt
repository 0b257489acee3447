use Rattle.std.proofs.Common.{◌≡◌, ◌≤◌, refl, sym, ap, ◌∙◌, arith, true≢false, unsigned_abs}
use Rattle.nd_time.specs.Limits.{max_count}
use Rattle.nd_delta.specs.Delta.{at, set, set-at, at-set_same}
use Rattle.nd_view.proofs.Points.{small, moved_by, turned, within_room, rest_still, all_added, all_after, set_back}
use Rattle.nd_view.proofs.View.+add.Goals as goal

pub counted-n-requires-clause-by : goal.counted-n-requires-clause-by
counted-n-requires-clause-by g n = λ c.
    let within : unsigned_abs c.in-Some.entry.now.1 ≤ max_count = c.in-Some.ensures.first in
    rw (small c.in-Some.entry.now.1 (omega (arith, within))) within

pub leave-requires-clause-was : goal.leave-requires-clause-was
leave-requires-clause-was g n = λ c.
    let was = c.get-was.result in
    let small_was : unsigned_abs was ≤ max_count = c.get-was.ensures.within in
    let here : was ≡ at c.args.self.now.map c.in-Some.entry.now.0 = c.get-was.ensures.value in
    let still = rest_still c.args.entries.now c.in-Some.entry.now c.in-Some.others.now c.in-Some.ensures.parts c.requires.listed c.args.minus c.args.self.now.map c.add.new.self.map (c.if-not-add.ensures.added refl) in
    rw (small was (omega (arith, small_was))) (here ∙ sym still)

pub leave-requires-clause-room : goal.leave-requires-clause-room
leave-requires-clause-room g n = λ c. within_room _ _ (λ never. true≢false (sym (c.if-not-takes_room.ensures.1 never)))

pub returns-then-not-takes_room-clause-added : goal.returns-then-not-takes_room-clause-added
returns-then-not-takes_room-clause-added g n = λ c yes.
    let m = c.args.self.now.map in
    let e = c.in-Some.entry.now in
    let was = c.get-was.result in
    let small_was : unsigned_abs was ≤ max_count = c.get-was.ensures.within in
    let small_by : unsigned_abs e.1 ≤ max_count = c.in-Some.ensures.first in
    let here : was ≡ at m e.0 = c.get-was.ensures.value in
    let value : c.counted-n.result ≡ moved_by c.args.minus was e.1 = rw (small was (omega (arith, small_was)), small e.1 (omega (arith, small_by))) at c.counted-n.ensures.value in
    all_added c.args.entries.now e c.in-Some.others.now c.in-Some.ensures.parts c.requires.listed c.args.minus m m c.add.new.self.map c.leave.new.self.map (at m e.0) c.counted-n.result
    (sym (set-at m e.0)) (c.if-not-add.ensures.added refl) (rw (small c.counted-n.result c.counted-n.ensures.fits) at c.leave.ensures.ok) (value ∙ ap (λ w. moved_by c.args.minus w e.1) here)

pub leave-requires-then-not-add-2-clause-was : goal.leave-requires-then-not-add-2-clause-was
leave-requires-then-not-add-2-clause-was g n = λ c.
    let m = c.args.self.now.map in
    let x = c.in-Some.entry.now.0 in
    let fits = small c.counted-n.result c.counted-n.ensures.fits in
    let set_is : c.enter.new.self.map ≡ set m x c.counted-n.result = rw fits at c.in-Ok.ensures.ok in
    let same : c.add-2.new.self.map ≡ c.enter.new.self.map = c.if-not-add-2.ensures.none (λ yes. true≢false (sym yes)) in
    rw fits (sym (ap (λ k. at k x) (same ∙ set_is) ∙ at-set_same m x c.counted-n.result))

pub leave-requires-then-not-add-2-clause-room : goal.leave-requires-then-not-add-2-clause-room
leave-requires-then-not-add-2-clause-room g n = λ c. turned _ _ (c.if-not-takes_room.ensures.0 refl)

pub returns-then-not-add-2-clause-none : goal.returns-then-not-add-2-clause-none
returns-then-not-add-2-clause-none g n = λ c no.
    let m = c.args.self.now.map in
    let x = c.in-Some.entry.now.0 in
    let was = c.get-was.result in
    let small_was : unsigned_abs was ≤ max_count = c.get-was.ensures.within in
    let here : was ≡ at m x = c.get-was.ensures.value in
    let set_is : c.enter.new.self.map ≡ set m x c.counted-n.result = rw (small c.counted-n.result c.counted-n.ensures.fits) at c.in-Ok.ensures.ok in
    let same : c.add-2.new.self.map ≡ c.enter.new.self.map = c.if-not-add-2.ensures.none (λ yes. true≢false (sym yes)) in
    set_back m c.add-2.new.self.map c.leave-then-not-add-2.new.self.map x c.counted-n.result was (same ∙ set_is) (rw (small was (omega (arith, small_was))) at c.leave-then-not-add-2.ensures.ok) here

pub returns-clause-added : goal.returns-clause-added
returns-clause-added g n = λ c yes.
    let m = c.args.self.now.map in
    let e = c.in-Some.entry.now in
    let was = c.get-was.result in
    let small_was : unsigned_abs was ≤ max_count = c.get-was.ensures.within in
    let small_by : unsigned_abs e.1 ≤ max_count = c.in-Some.ensures.first in
    let here : was ≡ at m e.0 = c.get-was.ensures.value in
    let value : c.counted-n.result ≡ moved_by c.args.minus was e.1 = rw (small was (omega (arith, small_was)), small e.1 (omega (arith, small_by))) at c.counted-n.ensures.value in
    let set_is : c.enter.new.self.map ≡ set m e.0 c.counted-n.result = rw (small c.counted-n.result c.counted-n.ensures.fits) at c.in-Ok.ensures.ok in
    all_after c.args.entries.now e c.in-Some.others.now c.in-Some.ensures.parts c.requires.listed c.args.minus m c.enter.new.self.map c.add-2.new.self.map c.counted-n.result
    set_is (c.if-not-add-2.ensures.added refl) (value ∙ ap (λ w. moved_by c.args.minus w e.1) here)
