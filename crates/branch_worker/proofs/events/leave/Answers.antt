use Rattle.std.proofs.Common.{None, sym, subst}
use Rattle.branch_worker.specs.declared.worker.Worker.{Worker}
use Rattle.branch_worker.specs.inside.Working.{IsWorking}
use Rattle.branch_worker.proofs.WorkLaws.{IsWorking-left}
use Rattle.branch_worker.proofs.events.leave.Goals as goal

pub returns-clause-working : goal.returns-clause-working
returns-clause-working g c =
    subst (λ (w : Worker). IsWorking g.start w None None) (sym (rw c.id.ensures at c.in_ok-note.ensures.note))
    (IsWorking-left g.start c.args.worker.now c.args.task.now c.args.leaf c.args.value c.args.seen c.requires.0 c.requires.1.0 c.requires.1.1.0
    c.requires.1.1.1.0 c.requires.1.1.1.1.0 c.requires.1.1.1.1.1.0 c.requires.1.1.1.1.1.1)
