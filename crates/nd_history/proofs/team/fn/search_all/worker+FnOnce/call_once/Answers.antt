use Rattle.nd_history.proofs.team.fn.search_all.worker+FnOnce.call_once.Goals as goal

pub worker-requires : goal.worker-requires
worker-requires g c =
    let asked = c.requires.1.1.0 in
    let bounds = c.requires.1.1.1 in
    (bounds.0, (bounds.1, (bounds.2, (bounds.3, asked))))
