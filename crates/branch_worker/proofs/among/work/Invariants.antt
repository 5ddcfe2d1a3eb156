use Rattle.branch_worker.specs.inside.Working.{start_of}
use Rattle.branch_worker.proofs.among.work.Given as goal

-- it begins with what its seat, its tasks and its deck are then
abbrev pub ghost-work_on : goal.ghost-work_on
ghost-work_on g a = start_of a.site.now.plant.now a.site.now.n a.worker.now
