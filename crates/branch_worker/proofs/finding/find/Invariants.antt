use Rattle.branch_worker.proofs.finding.find.Given as goal

abbrev pub ghost-take : goal.ghost-take
ghost-take g a = g.start

abbrev pub ghost-find_on_decks : goal.ghost-find_on_decks
ghost-find_on_decks g a = g.start
