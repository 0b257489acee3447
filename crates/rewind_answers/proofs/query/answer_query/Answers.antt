use Rattle.std.proofs.Common.{◌≡◌, refl}
use Rattle.nd_state_json.specs.StateText.{state_data}
use Rattle.nd_timeline.specs.Timeline.{cluster_of}
use Rattle.rewind_replies.specs.Replies.{count, state}
use Rattle.rewind_forms.specs.declared.queries.Query.TheVariants.{State, Count, Before, View, Frontier, Passed, Search, Export, Why, Changes, Step, Candidates, Effect, Turns, FrontierAt, Reach, WhyAtRest}
use Rattle.rewind_answers.specs.Ahead.{CandidatesReply, FrontierAtReply}
use Rattle.rewind_answers.specs.Answers.{BeforeReply, ViewReply, FrontierReply, PassedReply, SearchReply, true_count}
use Rattle.rewind_answers.specs.Explained.{WhyReply, ChangesReply, ExportReply, StepReply, EffectReply, TurnsReply}
use Rattle.rewind_answers.specs.Reached.{ReachReply}
use Rattle.rewind_answers.specs.AtRest.{WhyAtRestReply}
use Rattle.rewind_answers.proofs.TextLaws.{query_text}
use Rattle.rewind_answers.proofs.query.answer_query.Goals as goal

pub returns-in-State : goal.returns-in-State
returns-in-State g c = record {
  reply =
      let m = c.args.state.now.machine.timeline in
      query_text (λ s v. v ≡ state (state_data s)) m c.cluster-cluster.result.now (cluster_of m) c.args.query.now State c.answer_state.result
      c.cluster-cluster.ensures.value c.in-State.is (λ v h. h) c.answer_state.ensures.reply;
}

pub returns-in-Count : goal.returns-in-Count
returns-in-Count g c = record {
  reply =
      let m = c.args.state.now.machine.timeline in
      query_text (λ s v. v ≡ count (true_count s c.in-Count.point)) m c.cluster-cluster.result.now (cluster_of m) c.args.query.now (Count c.in-Count.point) c.answer_count.result
      c.cluster-cluster.ensures.value c.in-Count.is (λ v h. h) c.answer_count.ensures.reply;
}

pub returns-in-Before : goal.returns-in-Before
returns-in-Before g c = record {
  reply =
      let m = c.args.state.now.machine.timeline in
      query_text (λ s v. BeforeReply s.graph c.in-Before.from c.in-Before.to v) m c.cluster-cluster.result.now (cluster_of m) c.args.query.now (Before c.in-Before.from c.in-Before.to) c.answer_before.result
      c.cluster-cluster.ensures.value c.in-Before.is (λ v h. h) c.answer_before.ensures.reply;
}

pub returns-in-View : goal.returns-in-View
returns-in-View g c = record {
  reply =
      let m = c.args.state.now.machine.timeline in
      query_text (λ s v. ViewReply s c.in-View.q v) m c.cluster-cluster.result.now (cluster_of m) c.args.query.now (View c.in-View.q) c.answer_view.result c.cluster-cluster.ensures.value c.in-View.is (λ v h. h) c.answer_view.ensures.reply;
}

pub returns-in-Frontier : goal.returns-in-Frontier
returns-in-Frontier g c = record {
  reply =
      let m = c.args.state.now.machine.timeline in
      query_text (λ s v. FrontierReply s c.in-Frontier.q v) m c.cluster-cluster.result.now (cluster_of m) c.args.query.now (Frontier c.in-Frontier.q) c.answer_frontier.result c.cluster-cluster.ensures.value c.in-Frontier.is (λ v h. h) c.answer_frontier.ensures.reply;
}

pub returns-in-Passed : goal.returns-in-Passed
returns-in-Passed g c = record {
  reply =
      let m = c.args.state.now.machine.timeline in
      query_text (λ s v. PassedReply s c.in-Passed.q c.in-Passed.point v) m c.cluster-cluster.result.now (cluster_of m) c.args.query.now (Passed c.in-Passed.q c.in-Passed.point) c.answer_passed.result
      c.cluster-cluster.ensures.value c.in-Passed.is (λ v h. h) c.answer_passed.ensures.reply;
}

pub returns-in-Search : goal.returns-in-Search
returns-in-Search g c = record {
  reply =
      let m = c.args.state.now.machine.timeline in
      query_text (λ t v. SearchReply t c.in-Search.search v) m c.args.state.now.machine.timeline m c.args.query.now (Search c.in-Search.search) c.answer_search.result
      refl c.in-Search.is (λ v h. h) c.answer_search.ensures.reply;
}

pub returns-in-Export : goal.returns-in-Export
returns-in-Export g c = record {
  reply =
      let m = c.args.state.now.machine.timeline in
      query_text (λ t v. ExportReply t v) m c.timeline.result.now m c.args.query.now Export c.answer_export.result c.timeline.ensures.value c.in-Export.is (λ v h. h) c.answer_export.ensures.reply;
}

pub returns-in-Why : goal.returns-in-Why
returns-in-Why g c = record {
  reply =
      let m = c.args.state.now.machine.timeline in
      query_text (λ s v. WhyReply s c.in-Why.asked v) m c.cluster-cluster.result.now (cluster_of m) c.args.query.now (Why c.in-Why.asked) c.answer_why.result
      c.cluster-cluster.ensures.value c.in-Why.is (λ v h. h) c.answer_why.ensures.reply;
}

pub returns-in-Changes : goal.returns-in-Changes
returns-in-Changes g c = record {
  reply =
      let m = c.args.state.now.machine.timeline in
      query_text (λ t v. ChangesReply t c.in-Changes.asked v) m c.timeline-in-Changes.result.now m c.args.query.now (Changes c.in-Changes.asked) c.answer_changes.result
      c.timeline-in-Changes.ensures.value c.in-Changes.is (λ v h. h) c.answer_changes.ensures.reply;
}

pub returns-in-Step : goal.returns-in-Step
returns-in-Step g c = record {
  reply =
      let m = c.args.state.now.machine.timeline in
      query_text (λ t v. StepReply t c.in-Step.to v) m c.timeline-in-Step.result.now m c.args.query.now (Step c.in-Step.to) c.answer_step.result
      c.timeline-in-Step.ensures.value c.in-Step.is (λ v h. h) c.answer_step.ensures.reply;
}

pub returns-in-Candidates : goal.returns-in-Candidates
returns-in-Candidates g c = record {
  reply =
      let m = c.args.state.now.machine.timeline in
      query_text (λ s v. CandidatesReply s v) m c.cluster-cluster.result.now (cluster_of m) c.args.query.now Candidates c.answer_candidates.result
      c.cluster-cluster.ensures.value c.in-Candidates.is (λ v h. h) c.answer_candidates.ensures.reply;
}

pub returns-in-Effect : goal.returns-in-Effect
returns-in-Effect g c = record {
  reply =
      let m = c.args.state.now.machine.timeline in
      query_text (λ t v. EffectReply t c.in-Effect.to v) m c.timeline-in-Effect.result.now m c.args.query.now (Effect c.in-Effect.to) c.answer_effect.result
      c.timeline-in-Effect.ensures.value c.in-Effect.is (λ v h. h) c.answer_effect.ensures.reply;
}

pub returns-in-Turns : goal.returns-in-Turns
returns-in-Turns g c = record {
  reply =
      let m = c.args.state.now.machine.timeline in
      query_text (λ t v. TurnsReply t c.in-Turns.asked v) m c.timeline-in-Turns.result.now m c.args.query.now (Turns c.in-Turns.asked) c.answer_turns.result
      c.timeline-in-Turns.ensures.value c.in-Turns.is (λ v h. h) c.answer_turns.ensures.reply;
}

pub returns-in-FrontierAt : goal.returns-in-FrontierAt
returns-in-FrontierAt g c = record {
  reply =
      let m = c.args.state.now.machine.timeline in
      query_text (λ s v. FrontierAtReply s c.in-FrontierAt.q c.in-FrontierAt.location v) m c.cluster-cluster.result.now (cluster_of m) c.args.query.now (FrontierAt c.in-FrontierAt.q c.in-FrontierAt.location) c.answer_frontier_at.result
      c.cluster-cluster.ensures.value c.in-FrontierAt.is (λ v h. h) c.answer_frontier_at.ensures.reply;
}

pub returns-in-Reach : goal.returns-in-Reach
returns-in-Reach g c = record {
  reply =
      let m = c.args.state.now.machine.timeline in
      query_text (λ s v. ReachReply s c.in-Reach.asked v) m c.cluster-cluster.result.now (cluster_of m) c.args.query.now (Reach c.in-Reach.asked) c.answer_reach.result
      c.cluster-cluster.ensures.value c.in-Reach.is (λ v h. h) c.answer_reach.ensures.reply;
}

pub returns-in-WhyAtRest : goal.returns-in-WhyAtRest
returns-in-WhyAtRest g c = record {
  reply =
      let m = c.args.state.now.machine.timeline in
      query_text (λ t v. WhyAtRestReply (cluster_of t) t.cursor c.in-WhyAtRest.asked v) m c.timeline-in-WhyAtRest.result.now m c.args.query.now (WhyAtRest c.in-WhyAtRest.asked) c.answer_why_at_rest.result
      c.timeline-in-WhyAtRest.ensures.value c.in-WhyAtRest.is (λ v h. h) c.answer_why_at_rest.ensures.reply;
}
