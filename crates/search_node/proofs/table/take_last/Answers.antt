use Rattle.std.proofs.Common.{◌≡◌, [], ◌∷◌, ◌++◌, List, ◌∙◌, sym, subst, rules}
use Rattle.search_node.specs.declared.block.RowBlock.{RowBlock}
use Rattle.search_node.specs.inside.Spans.{KeepNames}
use Rattle.search_node.specs.Tables.{IsBlockOf}
use Rattle.search_node.proofs.BlockLaws.{all_before, all_last, names_stay}
use Rattle.search_node.proofs.table.take_last.Goals as goal

pub returns-then-is_full-clause-kept : goal.returns-then-is_full-clause-kept
returns-then-is_full-clause-kept c =
    let pushed : c.push.new.self ≡ c.pop.new.self ++ c.in-Some.last ∷ [] = search rules in
    let same : c.push.new.self ≡ c.args.blocks.now = pushed ∙ sym c.in-Some.ensures in
    let new = c.new-then-is_full.result in
    subst (λ (blocks : List RowBlock). KeepNames blocks (c.push.new.self ++ new ∷ [])) same (names_stay c.push.new.self new)

pub returns-clause-rest : goal.returns-clause-rest
returns-clause-rest c =
    all_before (IsBlockOf c.args.source.now.plant.now c.args.source.now.n) c.args.blocks.now c.pop.new.self c.in-Some.last c.in-Some.ensures c.requires

pub returns-clause-block : goal.returns-clause-block
returns-clause-block c =
    all_last (IsBlockOf c.args.source.now.plant.now c.args.source.now.n) c.args.blocks.now c.pop.new.self c.in-Some.last c.in-Some.ensures c.requires
