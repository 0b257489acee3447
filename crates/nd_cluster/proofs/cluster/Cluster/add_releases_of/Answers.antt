use Rattle.std.proofs.Common.{◌≡◌, List, sym, ap, subst, ◌∙◌}
use Rattle.std.specs.List.{flat_map}
use Rattle.std.specs.Map.Iter.{deref_pair}
use Rattle.std.specs.FinMap as fin
use Rattle.std.proofs.lemmas.Map.Iter.{rest_more}
use Rattle.nd_paths.specs.declared.point.Pointstamp.{Pointstamp}
use Rattle.nd_processor.specs.State.{ProcessorState}
use Rattle.nd_protocol.specs.State.{processor}
use Rattle.nd_steps.specs.declared.record.Record.{Record}
use Rattle.nd_cluster.specs.Moves.{AddsPlanned, releases_at}
use Rattle.nd_cluster.proofs.MovesLemmas.{adds_none, adds_both}
use Rattle.nd_cluster.proofs.cluster.Cluster.add_releases_of.Goals as goal

pub loop-point-init : goal.loop-point-init
loop-point-init g c = λ new rest.
    let s = c.args.self.now in
    let each = λ (e : Pointstamp × Unit {0}). releases_at {A = g.row.A.Denot} s c.args.p e.0 in
    let same : c.into_iter-point-iterator.result ≡ fin.entries (processor s c.args.p).requests
    = c.into_iter-point-iterator.ensures.into_iter_gives ∙ c.requests-point-items.ensures.rest ∙ ap (λ (q : ProcessorState). fin.entries q.requests) c.processor.ensures in
    subst (λ (es : List (Pointstamp × Unit {0})). AddsPlanned s (flat_map each es) c.args.moves.now.items new) same rest

pub loop-point-preserved : goal.loop-point-preserved
loop-point-preserved g c = λ new rest.
    let s = c.args.self.now in
    let each = λ (e : Pointstamp × Unit {0}). releases_at {A = g.row.A.Denot} s c.args.p e.0 in
    let e : Pointstamp × Unit {0} = (c.in-Some.point.now, c.in-Some.field-0-1.now) in
    let more = rest_more deref_pair c.loop-point.point-iterator c.next.new.self c.next.result (c.in-Some.point, c.in-Some.field-0-1) c.in-Some.is c.next.ensures.steps in
    let here : List (Record g.row.A.Denot) = c.loop-point.moves.items in
    c.loop-point.invariant new
    (subst (λ (es : List (Pointstamp × Unit {0})). AddsPlanned s (flat_map each es) here new) (sym more)
    (adds_both s here c.add_releases_at.new.moves.items new (each e) (flat_map each c.next.new.self) c.in_ok-add_releases_at.ensures rest))

pub returns : goal.returns
returns g c =
    let s = c.args.self.now in
    let each = λ (e : Pointstamp × Unit {0}). releases_at {A = g.row.A.Denot} s c.args.p e.0 in
    let here : List (Record g.row.A.Denot) = c.loop-point.moves.items in
    c.loop-point.invariant here (subst (λ (es : List (Pointstamp × Unit {0})). AddsPlanned s (flat_map each es) here here) (sym c.in-None.ensures.steps.0) (adds_none s here))
