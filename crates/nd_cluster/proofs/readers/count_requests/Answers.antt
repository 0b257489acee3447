use Rattle.std.proofs.Common.{◌≡◌, true, false, refl, sym}
use Rattle.nd_cluster.proofs.Tallies.{one_request, missing_request}
use Rattle.nd_cluster.proofs.readers.count_requests.Goals as goal

pub returns-then-has_request-clause-value : goal.returns-then-has_request-clause-value
returns-then-has_request-clause-value g c = sym (one_request c.args.processor.now.requests c.args.point.now (c.if-has_request.ensures.0 refl))

pub returns-else-has_request-clause-value : goal.returns-else-has_request-clause-value
returns-else-has_request-clause-value g c = sym (missing_request c.args.processor.now.requests c.args.point.now (λ e. let no : false ≡ true = c.if-has_request.ensures.1 e in cc))
