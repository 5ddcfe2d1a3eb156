use Rattle.branch_worker.proofs.events.close_or_divide.Given as goal

abbrev pub ghost-close_beaten : goal.ghost-close_beaten
ghost-close_beaten g a = g.start

abbrev pub ghost-divide_or_leave : goal.ghost-divide_or_leave
ghost-divide_or_leave g a = g.start
