use Rattle.nd_cluster.proofs.CandidatesLemmas.{all_left}
use Rattle.nd_cluster.proofs.cluster.Cluster.candidates_of.Goals as goal

pub returns : goal.returns
returns g c = all_left {A = g.row.A.Denot} c.args.self.now c.args.p c.processor-processor.result.now c.records.result c.requests.result c.unsent.result.now c.len.result c.processor-processor.ensures c.records.ensures.rest c.requests.ensures.rest c.unsent.ensures c.len.ensures
