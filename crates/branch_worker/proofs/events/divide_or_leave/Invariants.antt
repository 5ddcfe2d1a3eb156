use Rattle.branch_worker.proofs.events.divide_or_leave.Given as goal

abbrev pub ghost-divide : goal.ghost-divide
ghost-divide g a = g.start

abbrev pub ghost-leave_open : goal.ghost-leave_open
ghost-leave_open g a = g.start
