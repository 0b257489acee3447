use Rattle.nd_graph.proofs.draft.GraphDraft.check_v8.Goals as goal

pub returns : goal.returns
returns g c = c.check_within.ensures
