use Rattle.std.proofs.Common.{◌≡◌, [], ◌∷◌, ◌++◌, List, sym, subst, rules}
use Rattle.std.proofs.lemmas.List.Elements.{All-push}
use Rattle.search_node.specs.declared.block.RowBlock.{RowBlock}
use Rattle.search_node.specs.inside.Spans.{AreBlocks, KeepNames}
use Rattle.search_node.specs.Tables.{HaveName, IsBlockOf}
use Rattle.search_node.proofs.BlockLaws.{name_there, names_grow, names_kept}
use Rattle.search_node.proofs.table.add_row.Goals as goal

pub returns-clause-blocks : goal.returns-clause-blocks
returns-clause-blocks c =
    let parts = c.args.source.now.plant.now in
    let n = c.args.source.now.n in
    let pushed : c.push-2.new.self ≡ c.take_last.new.blocks ++ c.push.new.self ∷ [] = search rules in
    let block = c.in_ok-push.ensures.block parts n c.in_ok-block.ensures.block c.requires.named c.requires.fits in
    subst (AreBlocks parts n) (sym pushed) (All-push (IsBlockOf parts n) c.take_last.new.blocks c.push.new.self c.in_ok-block.ensures.rest block)

pub returns-clause-kept : goal.returns-clause-kept
returns-clause-kept c =
    let rest = c.take_last.new.blocks in
    let old = c.in_ok-block.block in
    let new = c.push.new.self in
    let pushed : c.push-2.new.self ≡ rest ++ new ∷ [] = search rules in
    let grown = names_grow rest old new c.args.name c.in_ok-push.ensures.names in
    subst (λ (blocks : List RowBlock). KeepNames c.args.blocks.now blocks) (sym pushed)
    (names_kept c.args.blocks.now (rest ++ old ∷ []) (rest ++ new ∷ []) c.in_ok-block.ensures.kept grown)

pub returns-clause-there : goal.returns-clause-there
returns-clause-there c =
    let rest = c.take_last.new.blocks in
    let pushed : c.push-2.new.self ≡ rest ++ c.push.new.self ∷ [] = search rules in
    subst (λ (blocks : List RowBlock). HaveName blocks c.args.name) (sym pushed)
    (name_there rest c.in_ok-block.block c.push.new.self c.args.name c.in_ok-push.ensures.names)
