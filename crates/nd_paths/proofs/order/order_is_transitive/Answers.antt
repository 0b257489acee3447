use Rattle.nd_paths.proofs.PointOrder.{could_trans, could_antisym, strictly_trans}
use Rattle.nd_paths.proofs.order.order_is_transitive.Goals as goal

pub returns-clause-could : goal.returns-clause-could
returns-clause-could c = λ g s t u. could_trans g (c.times_are_ordered.ensures.transitive g.order g) s t u

pub returns-clause-strictly : goal.returns-clause-strictly
returns-clause-strictly c = λ g s t u ok.
    strictly_trans g (could_trans g (c.times_are_ordered.ensures.transitive g.order g))
    (could_antisym g (λ k l v w. c.times_are_ordered.ensures.antisymmetric g.order g k l v w ok)) s t u
