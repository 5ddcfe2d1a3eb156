use Rattle.std.specs.Prelude.{IfSome, None}
use Rattle.search_node.specs.Looks.{IsTaskOf}
use Rattle.branch_worker.specs.inside.Working.{IsWorking, work_left}
use Rattle.branch_worker.proofs.among.follow.Given as goal

abbrev pub ghost-step : goal.ghost-step
ghost-step g a = g.start

abbrev pub invariant-loop-hand : goal.invariant-loop-hand
invariant-loop-hand g l = record {
  working : IsWorking g.start l.worker l.hand None;
  task : IfSome l.hand (IsTaskOf g.start.parts g.start.slots);
}

abbrev pub decreases-loop-hand : goal.decreases-loop-hand
decreases-loop-hand g l = work_left l.site.board.now.budget l.worker l.hand
