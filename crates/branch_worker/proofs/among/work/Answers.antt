use Rattle.std.proofs.Common.{◌≡◌, ◌∙◌, [], Some, None, ap, refl, rules}
use Rattle.branch_worker.specs.declared.worker.Worker.{Worker}
use Rattle.branch_worker.specs.inside.Working.{BeganAmong, IsWorking, start_of}
use Rattle.branch_worker.proofs.BeginLaws.{IsWorking-begun, stolen-none}
use Rattle.branch_worker.proofs.EndLaws.{IsDone-ended}
use Rattle.branch_worker.proofs.among.work.Goals as goal

pub work_on-requires-sync-G : goal.work_on-requires-sync-G
work_on-requires-sync-G g c κs shorter =
    let me = c.args.me in
    let site = c.args.site.now in
    let is = c.join_in-worker.ensures in
    let begun = IsWorking-begun site.plant.now site.n site.board.now me.seat c.in-Ok.waiting (Some me.owner) me.passes c.is_some-busy.result
    c.join_in-worker.result c.requires.seat is c.requires.doors.none_popped c.requires.doors.none_pushed
    (stolen-none me.passes c.requires.doors.none_stolen) in
    let began : BeganAmong site me.number (start_of site.plant.now site.n c.join_in-worker.result) = record {
      at = record { parts = refl; slots = refl; board = ap (λ (w : Worker). w.seat.board) is ∙ c.requires.seat.of_board };
      deck = rw is refl;
      door = c.requires.doors.door;
      passes = rw is c.requires.doors.passes;
    } in (search rules, (search rules, (search rules, (c.requires.site, (began, begun)))))

pub returns : goal.returns
returns g c =
    let me = c.args.me in
    let site = c.args.site.now in
    let worker = c.work_on.new.worker in
    let none : worker.waiting ≡ [] = search rules in
    let working : IsWorking (start_of site.plant.now site.n c.join_in-worker.result) worker None None = search rules in
    let owner : worker.owner ≡ Some c.unwrap.result = c.unwrap.ensures in
    rw c.new.ensures (IsDone-ended site.plant.now site.n me worker c.unwrap.result owner none (rw (c.join_in-worker.ensures, c.in-Ok.ensures) at working))
