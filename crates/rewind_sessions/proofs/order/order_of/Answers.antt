use Rattle.rewind_sessions.proofs.OrdersLemmas.{asked_asks}
use Rattle.rewind_sessions.proofs.order.order_of.Goals as goal

pub is_query-query-requires : goal.is_query-query-requires
is_query-query-requires c = asked_asks _ _ _ _ c.asked_of-asked.ensures.ok
