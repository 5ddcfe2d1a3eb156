use Rattle.branch_worker.proofs.events.advance.Given as goal

abbrev pub ghost-step : goal.ghost-step
ghost-step g a = g.start

abbrev pub ghost-take : goal.ghost-take
ghost-take g a = g.start
