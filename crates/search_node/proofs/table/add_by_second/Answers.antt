use Rattle.std.proofs.Common.{◌≡◌, None, arith}
use Rattle.search_node.proofs.NameLaws.{Second, added_all, added_more, added_none}
use Rattle.search_node.proofs.table.add_by_second.Goals as goal

pub loop-b-init : goal.loop-b-init
loop-b-init c =
    let source = c.args.source.now in
    added_none source.plant.now source.n (source.most ≡ None) Second c.args.spans c.args.blocks.now c.requires.blocks

pub loop-b-preserved : goal.loop-b-preserved
loop-b-preserved c =
    let parts = c.args.source.now.plant.now in
    let n = c.args.source.now.n in
    let all = c.args.source.now.most ≡ None in
    let spans = c.args.spans in
    let i = c.loop-b.b in
    added_more parts n all Second spans i c.only.result c.args.blocks.now c.loop-b.blocks c.add_by_third.new.blocks c.only.ensures.from c.only.ensures.below
    c.loop-b.invariant (record {
      blocks = c.in_ok-add_by_third.ensures.blocks;
      kept = c.in_ok-add_by_third.ensures.kept;
      there = c.in_ok-add_by_third.ensures.there;
    })

pub returns : goal.returns
returns c =
    let source = c.args.source.now in
    let added = added_all source.plant.now source.n (source.most ≡ None) Second c.args.spans c.loop-b.b c.args.blocks.now c.loop-b.blocks (omega arith) c.loop-b.invariant in
    record { blocks = added.blocks; kept = added.kept; there = added.there }
