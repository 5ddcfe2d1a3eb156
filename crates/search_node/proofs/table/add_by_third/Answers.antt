use Rattle.std.proofs.Common.{◌≡◌, None, arith}
use Rattle.search_node.proofs.NameLaws.{Third, added_all, added_more, added_none}
use Rattle.search_node.proofs.table.add_by_third.Goals as goal

pub loop-c-init : goal.loop-c-init
loop-c-init c =
    let source = c.args.source.now in
    added_none source.plant.now source.n (source.most ≡ None) Third c.args.spans c.args.blocks.now c.requires.blocks

pub loop-c-preserved : goal.loop-c-preserved
loop-c-preserved c =
    let parts = c.args.source.now.plant.now in
    let n = c.args.source.now.n in
    let all = c.args.source.now.most ≡ None in
    let spans = c.args.spans in
    let i = c.loop-c.c in
    added_more parts n all Third spans i c.only.result c.args.blocks.now c.loop-c.blocks c.add_by_last.new.blocks c.only.ensures.from c.only.ensures.below
    c.loop-c.invariant (record {
      blocks = c.in_ok-add_by_last.ensures.blocks;
      kept = c.in_ok-add_by_last.ensures.kept;
      there = c.in_ok-add_by_last.ensures.there;
    })

pub returns : goal.returns
returns c =
    let source = c.args.source.now in
    let added = added_all source.plant.now source.n (source.most ≡ None) Third c.args.spans c.loop-c.c c.args.blocks.now c.loop-c.blocks (omega arith) c.loop-c.invariant in
    record { blocks = added.blocks; kept = added.kept; there = added.there }
