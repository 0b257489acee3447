use Rattle.std.proofs.Common.{◌≡◌, ◌<◌, ◌≤◌, ◌∙◌, ℕ, Bool, eqb, List, [], ◌∷◌, length, Some, ap, arith, refl, subst}
use Rattle.std.proofs.Math.Dec.{eqb-suc-zero}
use Rattle.std.specs.Prelude.{◌↔◌, IsTrue}
use Rattle.std.specs.declared.alloc.Global.{Global}
use Rattle.serde_json.specs.Data.{Data}
use Rattle.nd_graph.specs.Graph.{Dataflow}
use Rattle.nd_protocol.specs.State.{ClusterState}
use Rattle.nd_timeline.specs.Timeline.{cluster_of}
use Rattle.nd_why.specs.Account.{Account}
use Rattle.nd_at_rest.specs.AtRest.{IsAtRestWhy}
use Rattle.rewind_replies.specs.Reasons.{reasons_data}
use Rattle.rewind_replies.specs.Replies.{no_processor, why_at_rest}
use Rattle.rewind_answers.specs.AtRest.{WhyAtRestReply, missing, rested, unanswered, rest_fault}
use Rattle.rewind_answers.proofs.TextLaws.{tells, tells_so}
use Rattle.rewind_answers.proofs.at_rest.answer_why_at_rest.Goals as goal

empty : {X : Type 0} (b : Bool) (xs : List X) → b ≡ eqb (length xs) 0 → IsTrue b ↔ (xs ≡ [])
empty b [] is = (λ _. refl, λ _. is)
empty b (x ∷ xs) is = (λ yes. absurd (cc (yes, is, eqb-suc-zero (length xs))), λ e. absurd (cc (e)))

pub returns-then-query-n : goal.returns-then-query-n
returns-then-query-n c =
    let m = c.args.timeline.now in
    let q = c.args.query.now.asked.q in
    let k = c.cluster-cluster.result.now in
    let past : length k.processors ≤ q = omega (arith, c.n.ensures.value, c.if-query-n.true) in
    record {
      reply = tells (WhyAtRestReply (cluster_of m) m.cursor c.args.query.now) no_processor c.no_processor.result c.no_processor.ensures.reply
          (missing (subst (λ (s : ClusterState). length s.processors ≤ q) c.cluster-cluster.ensures.value past) refl);
    }

pub returns-in-Err : goal.returns-in-Err
returns-in-Err c =
    let m = c.args.timeline.now in
    let q = c.args.query.now.asked.q in
    let k = c.cluster-cluster.result.now in
    let there : q < length k.processors = omega (arith, c.n.ensures.value, c.if-query-n.false) in
    record {
      reply = tells_so (λ v. Some v ≡ rest_fault c.in-Err.fault) (WhyAtRestReply (cluster_of m) m.cursor c.args.query.now) c.refuse_rest.result
          (λ d told. unanswered c.in-Err.fault (subst (λ (s : ClusterState). q < length s.processors) c.cluster-cluster.ensures.value there) c.in-Err.ensures.cannot told)
          c.refuse_rest.ensures.reply;
    }

pub returns : goal.returns
returns c =
    let m = c.args.timeline.now in
    let query = c.args.query.now in
    let k = c.cluster-cluster.result.now in
    let answer = c.in-Ok.answer in
    let same = c.cluster-cluster.ensures.value in
    let there : query.asked.q < length k.processors = omega (arith, c.n.ensures.value, c.if-query-n.false) in
    let told : Dataflow → List Account → List ℕ → Data = λ g accounts word. why_at_rest answer.finished c.is_empty.result answer.ran (reasons_data g accounts) word in
    let graph = c.graph.ensures ∙ ap (λ (s : ClusterState). s.graph) same in
    record {
      reply = tells (WhyAtRestReply (cluster_of m) m.cursor query) (told c.graph.result.now c.as_slice-reasons.result.now c.word.result.now) c.text_of.result c.text_of.ensures
          (rested (subst (λ (s : ClusterState). query.asked.q < length s.processors) same there) c.in-Ok.ensures.may record {
            answer = answer;
            whole = subst (λ s. IsAtRestWhy s query.asked m.cursor query.limit answer) same
                (subst (λ n. IsAtRestWhy k query.asked n query.limit answer) c.at-turn.ensures.value c.in-Ok.ensures.whole);
            passed = c.is_empty.result;
            has_passed = subst (λ (l : List Account). IsTrue c.is_empty.result ↔ (l ≡ [])) c.as_slice-reasons.ensures (empty c.is_empty.result c.as_slice-reasons.result.now c.is_empty.ensures);
            told = λ i. told (graph i) (c.as_slice-reasons.ensures i) (c.word.ensures i);
          });
    }
