use Rattle.std.proofs.Common.{◌∙◌, length, ap, sym}
use Rattle.std.proofs.lemmas.Result.{on_ok_weaker}
use Rattle.nd_delta.specs.Delta.{entries}
use Rattle.nd_state_json.proofs.Shown.{processor_shown}
use Rattle.nd_state_json.proofs.state.send_processor.Goals as goal

pub send_map-requires-3 : goal.send_map-requires-3
send_map-requires-3 g c = c.count_of-3.ensures ∙ ap length (c.sinks.ensures.rest ∙ sym c.sinks-2.ensures.rest)

pub returns : goal.returns
returns g c =
    let shown = processor_shown c.args.graph.now c.args.processor.now c.args.known.now.map c.records-2.result c.requests-2.result c.sinks-2.result c.tokens.result.now (entries c.unsent.result.now) (entries c.counts.result.now)
    c.records-2.ensures.rest c.requests-2.ensures.rest c.sinks-2.ensures.rest c.tokens.ensures (ap entries c.unsent.ensures) (ap entries c.counts.ensures) in
    on_ok_weaker c.end_map.result
    (λ ended. rw (sym shown) (
      _,
      c.in_ok-begin_map.ensures,
      (
        _,
        _,
        c.in_ok-key.ensures,
        c.in_ok-send_items.ensures,
        (
          _,
          _,
          c.in_ok-key-2.ensures,
          c.in_ok-send_map.ensures,
          (
            _,
            _,
            c.in_ok-key-3.ensures,
            c.in_ok-send_map-2.ensures,
            (
              _,
              _,
              c.in_ok-key-4.ensures,
              c.in_ok-send_map-3.ensures,
              (
                _,
                _,
                c.in_ok-key-5.ensures,
                c.in_ok-send_list.ensures,
                (
                  _,
                  _,
                  c.in_ok-key-6.ensures,
                  c.in_ok-send_counts.ensures,
                  (
                    _,
                    _,
                    c.in_ok-key-7.ensures,
                    c.in_ok-send_counts-2.ensures,
                    ended,
                  ),
                ),
              ),
            ),
          ),
        ),
      ),
    ))
    c.end_map.ensures
