use Rattle.std.specs.Prelude.{None}
use Rattle.branch_worker.specs.inside.Working.{IsWorking}
use Rattle.branch_worker.proofs.among.work_on.Given as goal

abbrev pub ghost-find : goal.ghost-find
ghost-find g a = g.start

abbrev pub ghost-follow : goal.ghost-follow
ghost-follow g a = g.start

abbrev pub invariant-loop : goal.invariant-loop
invariant-loop g l = record {
  working : IsWorking g.start l.worker None None;
}
