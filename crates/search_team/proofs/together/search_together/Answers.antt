use Rattle.std.proofs.Common.{◌∙◌}
use Rattle.search_team.proofs.DoneLaws.{owners-after, row-each-door, rows-after}
use Rattle.search_team.proofs.EndLaws.{apart-board, apart-may, together-end}
use Rattle.search_team.proofs.together.search_together.Goals as goal

pub account_all-requires-clause-owners : goal.account_all-requires-clause-owners
account_all-requires-clause-owners g c =
    owners-after c.args.scene.now.plant.now c.args.scene.now.n c.args.workers c.args.seat c.in_ok-owners.field-0.doors c.in_ok-owners.field-0.owners
    c.in_ok-owners.field-0.rows c.args.root c.in_ok-apart.apart c.in_ok-owners.ensures c.in_ok-apart.ensures

pub account_all-requires-clause-workers : goal.account_all-requires-clause-workers
account_all-requires-clause-workers g c =
    row-each-door c.args.scene.now.plant.now c.args.scene.now.n c.args.workers c.args.seat c.in_ok-owners.field-0.doors c.in_ok-owners.field-0.owners
    c.in_ok-owners.field-0.rows c.args.root c.in_ok-apart.apart c.in_ok-owners.ensures c.in_ok-apart.ensures

pub account_all-requires-clause-rows : goal.account_all-requires-clause-rows
account_all-requires-clause-rows g c =
    rows-after c.args.scene.now.plant.now c.args.scene.now.n c.args.workers c.args.seat c.in_ok-owners.field-0.doors c.in_ok-owners.field-0.owners
    c.in_ok-owners.field-0.rows c.args.root c.in_ok-apart.apart c.in_ok-owners.ensures c.in_ok-apart.ensures

pub add_worker-requires-clause-board : goal.add_worker-requires-clause-board
add_worker-requires-clause-board g c κs within =
    apart-board c.args.scene.now.plant.now c.args.scene.now.n c.args.workers c.args.seat c.in_ok-owners.field-0.owners c.in_ok-owners.field-0.rows c.args.root
    c.in_ok-apart.apart (c.in_ok-owners.ensures.each_owner.many ∙ c.in_ok-owners.ensures.each_door) c.in_ok-apart.ensures ∙ c.requires.board

pub add_worker-requires-clause-may : goal.add_worker-requires-clause-may
add_worker-requires-clause-may g c κs within =
    apart-may c.args.scene.now.plant.now c.args.scene.now.n c.args.workers c.args.seat c.in_ok-owners.field-0.owners c.in_ok-owners.field-0.rows c.args.root
    c.in_ok-apart.apart (c.in_ok-owners.ensures.each_owner.many ∙ c.in_ok-owners.ensures.each_door) c.in_ok-apart.ensures c.requires.may

pub returns : goal.returns
returns g c =
    together-end c.args.scene.now.plant.now c.args.scene.now.n c.args.workers c.args.seat c.in_ok-owners.field-0.owners c.in_ok-owners.field-0.rows c.args.root
    c.in_ok-apart.apart (c.in_ok-owners.ensures.each_owner.many ∙ c.in_ok-owners.ensures.each_door) c.in_ok-apart.ensures c.in_ok-left.left c.in_ok-left.ensures
    c.shares_law.ensures c.requires.root c.requires.tickets c.requires.may c.requires.few c.add_worker.result c.add_worker.ensures
