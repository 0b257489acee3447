use Rattle.std.proofs.Common.{◌∙◌, ◌++◌, ◌∷◌, [], ap, sym}
use Rattle.std.proofs.lemmas.List.{map-append}
use Rattle.rewind_sessions.specs.declared.drive.Done.{Done}
use Rattle.rewind_sessions.proofs.ServedLemmas.{ended-more}
use Rattle.rewind_sessions.proofs.drive.split.Goals as goal

pub loop-one-preserved : goal.loop-one-preserved
loop-one-preserved c =
    let one = c.in-Some.one in
    let ys = c.loop-one.yielded in
    let at = c.loop-one.invariant in
    record {
      clients = c.in_ok-push.ensures.items ∙ (ap (λ xs. xs ++ one.client ∷ []) at.clients ∙ sym (map-append (λ (d : Done). d.client) ys (one ∷ [])));
      faults = c.in_ok-push-2.ensures.items ∙ (ap (λ xs. xs ++ one.fault ∷ []) at.faults ∙ sym (map-append (λ (d : Done). d.fault) ys (one ∷ [])));
      ended = ended-more c.loop-one.faults.items c.push-in-loop-one.new.self.items one.fault c.in_ok-push-2.ensures.items at.ended c.if-not-may_end.ensures;
    }
