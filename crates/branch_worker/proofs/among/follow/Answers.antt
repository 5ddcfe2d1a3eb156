use Rattle.std.proofs.Common.{None, Option, subst, rules}
use Rattle.std.specs.Prelude.{IfSome}
use Rattle.slot_box.specs.Tasks.{TaskParts}
use Rattle.search_node.specs.Looks.{IsTaskOf}
use Rattle.branch_worker.specs.inside.Working.{IsWorking}
use Rattle.branch_worker.proofs.among.follow.Goals as goal

pub step-requires-sync-G : goal.step-requires-sync-G
step-requires-sync-G g c κs shorter = (
  search rules,
  (
    search rules,
    (
      c.requires.1.1.0,
      (
        c.requires.1.1.1.0.at,
        (
          c.requires.1.1.1.1.0,
          (
            subst (λ (hand : Option TaskParts). IsWorking g.start c.loop-hand.worker hand None) c.in-Some.is c.loop-hand.invariant.working,
            subst (λ (hand : Option TaskParts). IfSome hand (IsTaskOf g.start.parts g.start.slots)) c.in-Some.is c.loop-hand.invariant.task,
          ),
        ),
      ),
    ),
  ),
)
