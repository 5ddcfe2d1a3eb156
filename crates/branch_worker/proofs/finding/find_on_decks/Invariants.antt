use Rattle.branch_worker.proofs.finding.find_on_decks.Given as goal

abbrev pub ghost-pop : goal.ghost-pop
ghost-pop g a = g.start

abbrev pub ghost-find_elsewhere : goal.ghost-find_elsewhere
ghost-find_elsewhere g a = g.start
