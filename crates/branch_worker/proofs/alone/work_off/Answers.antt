use Rattle.std.proofs.Common.{None, Option, subst, rules}
use Rattle.std.specs.Prelude.{IfSome}
use Rattle.slot_box.specs.Tasks.{TaskParts}
use Rattle.search_node.specs.Looks.{IsTaskOf}
use Rattle.branch_worker.specs.inside.Working.{IsWorking}
use Rattle.branch_worker.proofs.alone.work_off.Goals as goal

pub advance-requires-sync-G : goal.advance-requires-sync-G
advance-requires-sync-G g c κs shorter = (
  search rules,
  (
    search rules,
    (
      c.requires.1.1.0,
      (
        c.requires.1.1.1.0,
        (
          c.in_ok-table.ensures,
          (
            subst (λ (hand : Option TaskParts). IsWorking g.start c.loop-hand.worker hand None) c.in-Some.is c.loop-hand.invariant.working,
            subst (λ (hand : Option TaskParts). IfSome hand (IsTaskOf g.start.parts g.start.slots)) c.in-Some.is c.loop-hand.invariant.task,
          ),
        ),
      ),
    ),
  ),
)
