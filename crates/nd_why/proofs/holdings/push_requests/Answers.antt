use Rattle.std.proofs.Common.{◌≡◌, ◌++◌, ◌∷◌, ap, sym, ◌∙◌}
use Rattle.std.proofs.lemmas.List.Folds.{flat_map-map}
use Rattle.std.proofs.lemmas.Map.Iter.{rest_more}
use Rattle.std.specs.List.{flat_map}
use Rattle.std.specs.FinMap as fin
use Rattle.std.specs.Map.Iter.{deref_pair}
use Rattle.nd_paths.specs.declared.point.Pointstamp.{Pointstamp}
use Rattle.nd_why.specs.Why.{if_at, requests_at}
use Rattle.nd_why.specs.declared.answer.Held.TheVariants.{Request}
use Rattle.nd_why.proofs.Turns.{left_more}
use Rattle.nd_why.proofs.holdings.push_requests.Goals as goal

pub loop-key-init : goal.loop-key-init
loop-key-init g c =
    let b = c.args.point.now in
    let p = c.args.p in
    ap (λ es. c.args.held.now.items ++ flat_map (λ (e : Pointstamp × Unit {0}). if_at b e.0 (Request p)) es) (c.into_iter-key-iterator.ensures.into_iter_gives ∙ c.requests-key-items.ensures.rest)
    ∙ ap (λ hs. c.args.held.now.items ++ hs) (sym (flat_map-map (λ x. if_at b x (Request p)) (λ (e : Pointstamp × Unit {0}). e.0) (fin.entries c.args.processor.now.requests)))

pub loop-key-preserved : goal.loop-key-preserved
loop-key-preserved g c =
    let b = c.args.point.now in
    let f = λ (e : Pointstamp × Unit {0}). if_at b e.0 (Request c.args.p) in
    let step : c.loop-key.key-iterator ≡ (c.in-Some.key.now, c.in-Some.field-0-1.now) ∷ c.next.new.self
    = rest_more deref_pair c.loop-key.key-iterator c.next.new.self c.next.result (c.in-Some.key, c.in-Some.field-0-1) c.in-Some.is c.next.ensures.steps in
    left_more c.args.held.now.items c.loop-key.held.items c.push_if.new.held.items f c.loop-key.key-iterator (c.args.held.now.items ++ requests_at c.args.p c.args.processor.now b) (c.in-Some.key.now, c.in-Some.field-0-1.now) c.next.new.self step c.loop-key.invariant c.in_ok-push_if.ensures
