use Rattle.std.proofs.Common.{◌≡◌, ◌∷◌, [], rules}
use Rattle.search_team.proofs.EndLaws.{alone-end}
use Rattle.search_team.proofs.alone.search_alone.Goals as goal

pub returns : goal.returns
returns g c =
    let tasks : c.push.new.self ≡ c.args.root ∷ [] = search rules in
    let notes : c.new.result ≡ [] = search rules in
    let cuts : c.new-2.result ≡ [] = search rules in
    alone-end c.args.scene.now.plant.now c.args.scene.now.n c.args.seat c.args.root c.shares_law.ensures c.requires.root c.requires.tickets c.requires.may c.add_worker.result
    c.push.new.self c.new.result c.new-2.result tasks notes cuts c.add_worker.ensures
