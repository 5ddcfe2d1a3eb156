use Rattle.std.proofs.Common.{◌≡◌, ◌∷◌, [], ◌++◌, rules}
use Rattle.search_team.proofs.ApartLaws.{IsApart-more}
use Rattle.search_team.proofs.apart.add.Goals as goal

pub returns-clause-apart : goal.returns-clause-apart
returns-clause-apart c parts n before dones is planned =
    let owners : c.push.new.self ≡ c.args.apart.now.owners ++ c.args.done.owner ∷ [] = search rules in
    let rows : c.push-2.new.self ≡ c.args.apart.now.rows ++ c.args.done.passes ∷ [] = search rules in
    let notes : c.push-3.new.self ≡ c.args.apart.now.notes ++ c.args.done.notes ∷ [] = search rules in
    let cuts : c.push-4.new.self ≡ c.args.apart.now.cuts ++ c.args.done.cuts ∷ [] = search rules in
    let taken : c.take.result ≡ c.args.apart.now.found = search rules in
    IsApart-more parts n before dones c.args.apart.now
    (record {
      seat = c.join.new.into;
      owners = c.push.new.self;
      rows = c.push-2.new.self;
      notes = c.push-3.new.self;
      cuts = c.push-4.new.self;
      found = c.better.result;
    }) c.args.done is planned c.join.ensures owners rows notes cuts (rw taken at c.better.ensures.margin) (rw taken at c.better.ensures.one)
