use Rattle.std.specs.Prelude.{◌≡◌, None, length}
use Rattle.branch_worker.specs.inside.Working.{IsWorking}
use Rattle.branch_worker.proofs.finding.steal_from_others.Given as goal

abbrev pub ghost-steal_by : goal.ghost-steal_by
ghost-steal_by g a = g.start

abbrev pub invariant-loop-k : goal.invariant-loop-k
invariant-loop-k g l = record {
  working : IsWorking g.start l.worker None None;
  others : l.worker ≡ record l.fn.worker { passes = l.worker.passes };
  many : length l.worker.passes ≡ l.count;
}
