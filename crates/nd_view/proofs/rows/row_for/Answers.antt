use Rattle.nd_view.proofs.RowLists.{insert_here, insert_same, rows_insert}
use Rattle.nd_view.proofs.rows.row_for.Goals as goal

pub returns-in-Ok-insert-clause-found : goal.returns-in-Ok-insert-clause-found
returns-in-Ok-insert-clause-found g c =
    rw c.in-Ok-insert.ensures.items (insert_here c.args.rows.now.items c.in-Err.r (record { location = c.args.location; numbers = c.new.result }) (rw c.deref.ensures.value at c.in-Err.ensures.absent))

pub returns-in-Ok-insert-clause-rows : goal.returns-in-Ok-insert-clause-rows
returns-in-Ok-insert-clause-rows g c =
    rw c.in-Ok-insert.ensures.items
    (rows_insert c.args.rows.now.items c.in-Err.r (record { location = c.args.location; numbers = c.new.result }) c.requires (rw c.deref.ensures.value at c.in-Err.ensures.absent) c.new.ensures)

pub returns-in-Ok-insert-clause-same : goal.returns-in-Ok-insert-clause-same
returns-in-Ok-insert-clause-same g c =
    rw c.in-Ok-insert.ensures.items (insert_same c.args.rows.now.items c.in-Err.r (record { location = c.args.location; numbers = c.new.result }) c.new.ensures)
