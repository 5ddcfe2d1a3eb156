use Rattle.branch_worker.proofs.events.close_beaten.Given as goal

abbrev pub ghost-leave : goal.ghost-leave
ghost-leave g a = g.start
