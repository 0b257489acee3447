use Rattle.std.proofs.Common.{◌≡◌, ◌∷◌, ◌+◌, length, map, Some, sym, arith, rules}
use Rattle.std.proofs.lemmas.List.{length-map}
use Rattle.serde_json.specs.View.{view}
use Rattle.nd_json.specs.Forms.{small}
use Rattle.nd_graph.specs.Draft.{every}
use Rattle.nd_time.specs.Time.{Time}
use Rattle.rewind_forms.specs.Forms.{all_read}
use Rattle.rewind_forms.specs.Places.{time_of}
use Rattle.rewind_forms.proofs.NamesLemmas.{other-depth, same-depth}
use Rattle.rewind_forms.proofs.places.time_at.Goals as goal

pub returns-then-counters-location_depth : goal.returns-then-counters-location_depth
returns-then-counters-location_depth c =
    let ds = map view c.args.counters.now in
    other-depth c.args.graph.now c.args.location c.location_depth.result (view c.args.epoch.now) ds c.location_depth.ensures.depth
    (λ e. omega (arith, e, c.if-counters-location_depth.true, length-map c.args.counters.now view))

pub returns : goal.returns
returns c =
    let ds = map view c.args.counters.now in
    let e = c.in_ok-epoch.epoch in
    let cs = c.in_ok-epoch.counters.items in
    let read : every small (view c.args.epoch.now ∷ ds) ≡ Some (e ∷ cs) = first_of (search rules, grind arith, cc) in
    let long : length (view c.args.epoch.now ∷ ds) ≡ c.location_depth.result + 1 = omega (arith, c.if-counters-location_depth.false, length-map c.args.counters.now view) in
    let made : c.new.result ≡ Some (record { epoch = e; counters = cs }) = first_of (search rules, grind arith, cc) in
    rw (same-depth c.args.graph.now c.args.location c.location_depth.result (view c.args.epoch.now ∷ ds) e cs c.location_depth.ensures.depth long read) made
