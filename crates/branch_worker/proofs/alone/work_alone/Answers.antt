use Rattle.std.proofs.Common.{None, [], false, ap, ◌∙◌, refl, rules}
use Rattle.branch_worker.specs.declared.worker.Worker.{Worker}
use Rattle.branch_worker.proofs.BeginLaws.{IsWorking-begun}
use Rattle.branch_worker.proofs.EndLaws.{IsAloneDone-ended}
use Rattle.branch_worker.proofs.alone.work_alone.Goals as goal

pub work_off-requires-sync-G : goal.work_off-requires-sync-G
work_off-requires-sync-G g c κs shorter = (
  search rules,
  (
    search rules,
    (
      c.requires.site,
      (
        record { parts = refl; slots = refl; board = ap (λ (w : Worker). w.seat.board) c.begin.ensures ∙ c.requires.seat.of_board },
        IsWorking-begun c.args.site.now.plant.now c.args.site.now.n c.args.site.now.board.now c.args.me.seat c.args.me.first None [] false c.begin.result
            c.requires.seat c.begin.ensures refl refl refl,
      ),
    ),
  ),
)

pub returns : goal.returns
returns g c =
    IsAloneDone-ended c.args.site.now.plant.now c.args.site.now.n c.args.me c.in_ok-worker.worker (rw c.begin.ensures at c.in_ok-worker.ensures.working)
    c.in_ok-worker.ensures.none
