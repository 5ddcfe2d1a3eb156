use Rattle.branch_worker.proofs.finding.steal_by.Given as goal

abbrev pub ghost-steal : goal.ghost-steal
ghost-steal g a = g.start
