use Rattle.branch_worker.proofs.events.step.Given as goal

abbrev pub ghost-close : goal.ghost-close
ghost-close g a = g.start

abbrev pub ghost-close_or_divide : goal.ghost-close_or_divide
ghost-close_or_divide g a = g.start
