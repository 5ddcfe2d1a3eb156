use Rattle.branch_worker.specs.inside.Working.{start_of}
use Rattle.branch_worker.proofs.alone.work_alone.Given as goal

-- it begins with what its seat and its tasks are then
abbrev pub ghost-work_off : goal.ghost-work_off
ghost-work_off g a = start_of a.site.now.plant.now a.site.now.n a.worker
