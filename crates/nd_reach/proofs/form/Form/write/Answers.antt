use Rattle.std.proofs.Common.{◌≤◌, ◌++◌, length, drop, ap, ◌∙◌, arith}
use Rattle.std.specs.List.{flat_map}
use Rattle.std.proofs.lemmas.List.{drop_all}
use Rattle.nd_reach.specs.Forms.{form, processor_form, change_form, row_form}
use Rattle.nd_reach.proofs.Written.{all_written, then_more}
use Rattle.nd_reach.proofs.form.Form.write.Goals as goal

pub returns : goal.returns
unfolding form
returns g c = record {
  form =
      (let s = c.args.cluster.now in
      let fits = c.n-p-end.ensures.state.fits in
      let begun = c.clear.new.self.items in
      let no_processor : length s.processors ≤ c.loop-p.p = omega (arith, c.loop-p-test.false, c.n-p-end.ensures.value) in
      let no_view : length s.views ≤ c.loop-q.q = omega (arith, c.loop-q-test.false, c.n-q-end.ensures.value, fits.each_view) in
      let no_row : length s.queues ≤ c.loop-from.from = omega (arith, c.loop-from-test.false, c.n-from-end.ensures.value, fits.each_sender) in
      let one = all_written processor_form (drop c.loop-p.p s.processors) begun c.loop-p.bytes.items (begun ++ flat_map processor_form s.processors) (drop_all c.loop-p.p s.processors no_processor) c.loop-p.invariant in
      let two = all_written change_form (drop c.loop-q.q s.views) c.loop-p.bytes.items c.loop-q.bytes.items (c.loop-p.bytes.items ++ flat_map change_form s.views) (drop_all c.loop-q.q s.views no_view) c.loop-q.invariant in
      let three = all_written row_form (drop c.loop-from.from s.queues) c.loop-q.bytes.items c.loop-from.bytes.items (c.loop-q.bytes.items ++ flat_map row_form s.queues) (drop_all c.loop-from.from s.queues no_row) c.loop-from.invariant in
      let later = then_more c.loop-p.bytes.items c.loop-q.bytes.items c.loop-from.bytes.items (flat_map change_form s.views) (flat_map row_form s.queues) two three in
      then_more begun c.loop-p.bytes.items c.loop-from.bytes.items (flat_map processor_form s.processors) (flat_map change_form s.views ++ flat_map row_form s.queues) one later
      ∙ ap (λ bs. bs ++ (flat_map processor_form s.processors ++ (flat_map change_form s.views ++ flat_map row_form s.queues))) c.clear.ensures.items);
  state = c.n-p-end.ensures.state;
}
