use Rattle.std.proofs.Common.{rules, ◌≡◌, ◌+◌, ◌*◌, ◌++◌, ◌∷◌, [], ◌∙◌, sym, ap, ℕ, List, map, length, length-append, arith, subst}
use Rattle.std.proofs.lemmas.Iterator.Adapters.{YieldsList-from_vec}
use Rattle.std.proofs.lemmas.Iterator.Consumers.{YieldsList-turn}
use Rattle.nd_history.specs.declared.work.Work.{Work}
use Rattle.nd_history.specs.declared.work.Searched.{Searched}
use Rattle.nd_history.specs.Claims.{times, times_all}
use Rattle.nd_history.specs.Works.{HasDrawn}
use Rattle.nd_history.proofs.WorksLemmas.{drawn_more}
use Rattle.nd_history.proofs.Lists.{times_all-more, more_lists, times_under, map-more}
use Rattle.nd_history.proofs.team.gathered.Goals as goal

pub loop-work-preserved : goal.loop-work-preserved
loop-work-preserved g c =
    let A : Type 0 = g.row.A.Denot in
    let turn = YieldsList-turn (YieldsList-from_vec {s = c.into_iter-work-iterator.result} c.args.works.items (search rules) (search rules)) c.loop-work.yielded c.loop-work.work-iterator c.loop-work.yielded_by c.next.result c.next.new.self c.in-Some.work c.in-Some.is c.next.ensures.steps in
    let work = c.in-Some.work in
    let done : HasDrawn c.args.team.now.word.now.table_id c.args.team.now.pieces work = subst (λ (w : Work A). HasDrawn c.args.team.now.word.now.table_id c.args.team.now.pieces w) (sym turn.1) (c.requires.all (length c.loop-work.yielded) work turn.0) in
    let was = c.loop-work.ticket.me.0 in
    let was_all = c.loop-work.invariant.gathered in
    let other = work.ticket.me.0 in
    let a : c.gather.new.ticket.me.0.allowance ≡ was.allowance + other.allowance = ap (λ m. m.0.allowance) c.gather.ensures.joined in
    let d : c.gather.new.ticket.me.0.drawn ≡ was.drawn ++ other.drawn = ap (λ m. m.0.drawn) c.gather.ensures.joined in
    let items : c.push_reserved.new.self.items ≡ c.loop-work.list.items ++ work.searched ∷ [] = c.push_reserved.ensures.items in
    let more : length c.gather.new.ticket.me.0.drawn ≡ length was.drawn + length other.drawn = ap length d ∙ length-append was.drawn other.drawn in
    let one : length (c.loop-work.yielded ++ work ∷ []) ≡ length c.loop-work.yielded + 1 = length-append c.loop-work.yielded (work ∷ []) in
    let each : (length c.loop-work.yielded + 1) * (c.args.team.now.pieces + 1) ≡ length c.loop-work.yielded * (c.args.team.now.pieces + 1) + (c.args.team.now.pieces + 1) = omega arith in record {
      table = c.gather.ensures.seat ∙ c.loop-work.invariant.table;
      gathered = record {
        weight = rw (one, each) (omega (arith, a, more, done.weight, was_all.weight));
        drawn = d ∙ (ap (λ (ns : List ℕ). ns ++ other.drawn) was_all.drawn ∙ sym (drawn_more c.loop-work.yielded work));
        each = items ∙ (ap (λ (ss : List (Searched A)). ss ++ work.searched ∷ []) was_all.each ∙ sym (map-more (λ (w : Work A). w.searched) c.loop-work.yielded work));
        claimed = λ x.
            ap (λ (ss : List (Searched A)). times_all x (map (λ s. s.claimed.items) ss)) items
            ∙ (times_all-more x (λ (s : Searched A). s.claimed.items) c.loop-work.list.items work.searched
            ∙ (ap (λ (n : ℕ). n + times x work.searched.claimed.items) (was_all.claimed x)
            ∙ (sym (more_lists c.args.team.now.pieces x was.drawn work.searched.claimed.items done.over done.below done.above)
            ∙ ap (λ (ys : List ℕ). times_under c.args.team.now.pieces x ys) (ap (λ (zs : List ℕ). was.drawn ++ zs) (sym done.drawn) ∙ sym d))));
      };
      room = search rules;
    }
