use Rattle.branch_worker.specs.inside.Working.{setting_of}
use Rattle.branch_worker.proofs.LeafLaws.{below-warm, left-closed, true-closed}
use Rattle.branch_worker.proofs.events.close.Goals as goal

pub leave-requires : goal.leave-requires
leave-requires g c =
    let setting = setting_of g.start in
    let closes = c.requires.1.1.1.0 in
    let dead = c.requires.1.1.1.1.0 in
    let point = c.requires.1.1.1.1.1 in (
      c.requires.0,
      (
        c.requires.1.0,
        (
          c.requires.1.1.0,
          (
            true-closed setting c.args.task.now c.args.seen c.args.leaf c.args.value closes dead,
            (
              left-closed setting c.args.task.now c.args.seen c.args.leaf c.args.value closes dead c.args.worker.now.seat c.requires.1.1.0 point,
              (
                point,
                below-warm setting c.args.task.now c.args.value closes.leaf_for.bounded,
              ),
            ),
          ),
        ),
      ),
    )
