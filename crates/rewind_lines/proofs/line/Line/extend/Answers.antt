use Rattle.std.proofs.Common.{◌≡◌, ◌∙◌, ◌-◌, length, min, take, refl, ap, arith}
use Rattle.std.proofs.lemmas.List.{length-take}
use Rattle.rewind_lines.proofs.LineLaws.{holds-more}
use Rattle.rewind_lines.proofs.line.Line.extend.Goals as goal

pub returns-in_err-extend_from_slice-clause-long : goal.returns-in_err-extend_from_slice-clause-long
returns-in_err-extend_from_slice-clause-long g c = λ full.
    let ok = c.self.inside.front.ok in
    let same : length c.self.inside.front.items ≡ length c.args.self.now.bytes = ap (λ f. length f.bytes) c.self.view_is in
    let most : c.self.inside.limit ≡ c.args.self.now.limit = ap (λ f. f.limit) c.self.view_is in
    let part : length c.front.result.now ≡ length (take c.min-fits.result c.args.bytes.now) = ap length c.front.ensures in
    absurd (omega (arith, ok.0, ok.1, length-take c.min-fits.result c.args.bytes.now, c.in_err-extend_from_slice.ensures.full))

pub returns-clause-ok : goal.returns-clause-ok
returns-clause-ok g c = λ limit line h.
    let n = c.self.inside.front.ok.0 in
    let fits : c.min-fits.result ≡ min (c.self.inside.limit - length c.self.inside.front.items) (length c.args.bytes.now) = omega arith in
    holds-more _ _ limit line c.args.bytes.now c.min-fits.result (c.self.view_is ∙ h) refl fits (rw c.front.ensures at c.in_ok-extend_from_slice.ensures.items) c.now_longer-self-inside.ensures c.still_blank-self-inside.ensures
