use Rattle.std.proofs.Common.{◌≡◌, ◌<◌, sym, subst, get_or}
use Rattle.std.specs.Prelude.{All, slice_index}
use Rattle.nd_graph.specs.Graph.{Dataflow, depths, location_count}
use Rattle.nd_time.specs.declared.order.TimeOrder.TheVariants.{Lexicographic}
use Rattle.nd_summaries.specs.Summary.{AreMinimalSummaries, AreLeastSummaries}
use Rattle.nd_summaries.specs.Table.{Fit}
use Rattle.nd_summaries.proofs.Made.{pair_list, pair_fits}
use Rattle.nd_summaries.proofs.summaries.Summaries.summaries.Goals as goal

pub returns : goal.returns
returns g c =
    let graph : Dataflow = c.self.inside.graph in
    let view : graph ≡ c.args.self.now = c.self.view_is in
    let from = subst (λ (v : Dataflow). c.args.from < location_count v) (sym view) c.requires.from in
    let to = subst (λ (v : Dataflow). c.args.to < location_count v) (sym view) c.requires.to in
    let numbers = subst (λ ns. ns ≡ get_or c.self.inside.rows.items c.args.from ns) (sym c.as_slice.ensures) c.index.ensures in
    let list = subst (λ l. l ≡ get_or c.self.inside.lists.items (get_or c.as_slice.result.now c.args.to 0) l) (sym c.as_slice-2.ensures) c.index-2.ensures in
    let both = pair_list graph.order graph c.self.inside.lists.items c.self.inside.rows.items c.args.from c.args.to c.as_slice.result.now c.as_slice-2.result.now c.self.invariant from to numbers list in
    let fits = pair_fits graph.order graph c.self.inside.lists.items c.self.inside.rows.items c.args.from c.args.to c.as_slice-2.result.now c.self.invariant to both.0 in
    record {
      minimal = subst (λ (v : Dataflow). AreMinimalSummaries v.order v c.args.from c.args.to c.as_slice-2.result.now) view both.0;
      least = subst (λ (v : Dataflow). v.order ≡ Lexicographic → AreLeastSummaries v c.args.from c.args.to c.as_slice-2.result.now) view both.1;
      fit = subst (λ (v : Dataflow). All (Fit (slice_index (depths v) c.args.from) (slice_index (depths v) c.args.to)) c.as_slice-2.result.now) view fits.0;
      few = fits.1;
    }
