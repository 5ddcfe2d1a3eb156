use Rattle.std.proofs.Common.{◌≡◌, None, arith}
use Rattle.search_node.proofs.NameLaws.{First, added_all, added_more, added_none}
use Rattle.search_node.proofs.table.add_names.Goals as goal

pub loop-a-init : goal.loop-a-init
loop-a-init c =
    let source = c.args.source.now in
    added_none source.plant.now source.n (source.most ≡ None) First c.args.spans c.args.blocks.now c.requires.blocks

pub loop-a-preserved : goal.loop-a-preserved
loop-a-preserved c =
    let parts = c.args.source.now.plant.now in
    let n = c.args.source.now.n in
    let all = c.args.source.now.most ≡ None in
    let spans = c.args.spans in
    let i = c.loop-a.a in
    added_more parts n all First spans i c.only.result c.args.blocks.now c.loop-a.blocks c.add_by_second.new.blocks c.only.ensures.from c.only.ensures.below
    c.loop-a.invariant (record {
      blocks = c.in_ok-add_by_second.ensures.blocks;
      kept = c.in_ok-add_by_second.ensures.kept;
      there = c.in_ok-add_by_second.ensures.there;
    })

pub returns : goal.returns
returns c =
    let source = c.args.source.now in
    let added = added_all source.plant.now source.n (source.most ≡ None) First c.args.spans c.loop-a.a c.args.blocks.now c.loop-a.blocks (omega arith) c.loop-a.invariant in
    record { blocks = added.blocks; kept = added.kept; there = added.there }
