use Rattle.std.proofs.Common.{None, Option, subst, rules}
use Rattle.std.specs.Prelude.{IfSome}
use Rattle.slot_box.specs.Tasks.{TaskParts}
use Rattle.search_node.specs.Looks.{IsTaskOf}
use Rattle.branch_worker.specs.inside.Working.{IsWorking}
use Rattle.branch_worker.proofs.among.work_on.Goals as goal

pub follow-requires-sync-G : goal.follow-requires-sync-G
follow-requires-sync-G g c κs shorter = (
  search rules,
  (
    search rules,
    (
      search rules,
      (
        search rules,
        (
          c.in_ok-table.ensures,
          (
            subst (λ (hand : Option TaskParts). IsWorking g.start c.find.new.worker hand None) c.in-Some-2.is c.in_ok-task.ensures.working,
            subst (λ (hand : Option TaskParts). IfSome hand (IsTaskOf g.start.parts g.start.slots)) c.in-Some-2.is c.in_ok-task.ensures.task,
          ),
        ),
      ),
    ),
  ),
)
