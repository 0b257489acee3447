use Rattle.std.proofs.Common.{◌≡◌, ◌-◌, true, false, length, drop, sym, ap, ◌∙◌, arith}
use Rattle.std.specs.FinMap.{from_entries, nat_cmp-IsAntisymmetric, insert}
use Rattle.std.specs.Ordering.{nat_cmp}
use Rattle.std.proofs.lemmas.Cmp.{nat_cmp_total}
use Rattle.nd_map.specs.Maps.{from_entries-put}
use Rattle.nd_processor.specs.Start.{first_tokens}
use Rattle.nd_processor.proofs.Started.{tokens_turn, drop_end}
use Rattle.nd_processor.proofs.start.first_tokens.Goals as goal

pub loop-l-preserved : goal.loop-l-preserved
loop-l-preserved g c = record {
  within = omega arith;
  tokens = c.loop-l.invariant.tokens ∙ sym (tokens_turn c.vertices-vertices.result.now c.loop-l.l _ false c.loop-l-test.true c.loop-l.invariant.within c.if-is_input.ensures);
}

pub loop-l-preserved-in-Ok-1 : goal.loop-l-preserved-in-Ok-1
loop-l-preserved-in-Ok-1 g c = record {
  within = omega arith;
  tokens =
      ap from_entries c.in-Ok.ensures.ok
      ∙ from_entries-put nat_cmp nat_cmp_total nat_cmp-IsAntisymmetric (c.loop-l.l - 1) 0 c.loop-l.tokens
      ∙ ap (λ m. insert m (c.loop-l.l - 1) 0) c.loop-l.invariant.tokens
      ∙ sym (tokens_turn c.vertices-vertices.result.now c.loop-l.l _ true c.loop-l-test.true c.loop-l.invariant.within c.if-is_input.ensures);
}

pub loop-l-init : goal.loop-l-init
loop-l-init g c = record {
  within = omega arith;
  tokens = ap from_entries c.new-tokens.ensures ∙ sym (ap (first_tokens (length c.vertices-vertices.result.now)) (drop_end c.vertices-vertices.result.now));
}

pub returns : goal.returns
returns g c =
    let all : c.loop-l.l ≡ 0 = omega arith in
    c.loop-l.invariant.tokens ∙ ap (λ n. first_tokens n (drop n c.vertices-vertices.result.now)) all ∙ ap (first_tokens 0) c.vertices-vertices.ensures.vertices
