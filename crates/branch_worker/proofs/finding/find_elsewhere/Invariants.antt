use Rattle.branch_worker.proofs.finding.find_elsewhere.Given as goal

abbrev pub ghost-steal_from_others : goal.ghost-steal_from_others
ghost-steal_from_others g a = g.start
