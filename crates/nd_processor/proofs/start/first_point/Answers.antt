use Rattle.std.proofs.Common.{◌≡◌, ◌∙◌, ap, subst, IfSome, take, replicate, ℕ, ◌∷◌, []}
use Rattle.nd_processor.proofs.Started.{take_zeros}
use Rattle.nd_processor.proofs.start.first_point.Goals as goal

pub returns : goal.returns
returns c =
    let zeros : take {A = ℕ} c.args.depth (0 ∷ 0 ∷ 0 ∷ 0 ∷ 0 ∷ 0 ∷ []) ≡ replicate c.args.depth 0 = take_zeros c.args.depth 6 c.requires in
    let time = subst (λ o. IfSome o (λ t. t ≡ record { epoch = 0; counters = take {A = ℕ} c.args.depth (0 ∷ 0 ∷ 0 ∷ 0 ∷ 0 ∷ 0 ∷ []) })) c.unwrap.ensures c.new.ensures.value in
    λ i. record { location = c.args.location; time = (time ∙ ap (λ cs. record { epoch = 0; counters = cs }) zeros) i }
