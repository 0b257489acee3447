use Rattle.std.proofs.Common.{◌≡◌, ◌∙◌, ◌∷◌, ℕ, List, Some, ap, length, map, rules, subst, suc, sym}
use Rattle.std.proofs.lemmas.List.{drop_all, length-map}
use Rattle.std.proofs.lemmas.Result.{on_ok_weaker}
use Rattle.serde.specs.Event.{Log, Logs, seq_begins, seq_ends, unsigned}
use Rattle.serde_json.specs.Events.{SendsValue}
use Rattle.nd_time.specs.Time.{Time}
use Rattle.nd_state_json.specs.Sent.{SendsEach}
use Rattle.nd_state_json.specs.SentLaws.{array-sent, sent-all}
use Rattle.nd_state_json.specs.StateText.{natural, time_data}
use Rattle.rewind_replies.proofs.lists.ArrivalTimeShown.send.Goals as goal

-- a time, whose epoch and counters are sent
sent : (t : Time) (epoch n : ℕ) (counters : List ℕ) (old first mid last new : Log) → epoch ≡ t.epoch → counters ≡ t.counters → n ≡ suc (length counters)
    → Logs old first (seq_begins (Some n)) → Logs first mid (unsigned epoch) → SendsEach (map natural counters) mid last → Logs last new seq_ends → SendsValue (time_data t) old new
sent t epoch n counters old first mid last new here there len begun one each ended =
    let items = subst (λ ns. SendsEach (map natural ns) mid last) there each in
    array-sent (map natural (t.epoch ∷ t.counters)) n old first last new (len ∙ ap (λ ns. suc (length ns)) there ∙ ap suc (sym (length-map t.counters natural)))
    begun (mid, subst (λ k. Logs first mid (unsigned k)) here one, items) ended

pub returns : goal.returns
returns g c =
    let counters = c.counters-counters.result.now in
    on_ok_weaker c.end_seq.result
    (sent c.args.self.now c.from.result _ counters _ _ _ _ _ (c.from.ensures ∙ c.epoch.ensures) c.counters-counters.ensures.value (search rules)
    c.in_ok-begin_seq.ensures c.in_ok-u64.ensures
    (sent-all _ (map natural counters) _ _ (ap (map natural) (drop_all c.loop-counter.counter-index counters (search rules))) c.loop-counter.invariant)) c.end_seq.ensures
