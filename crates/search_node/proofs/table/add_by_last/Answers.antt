use Rattle.std.proofs.Common.{◌≡◌, None, ◌+◌, refl, arith}
use Rattle.search_node.proofs.NameLaws.{Last, added_all, added_more, added_none, one_name}
use Rattle.search_node.proofs.table.add_by_last.Goals as goal

pub loop-d-init : goal.loop-d-init
loop-d-init c =
    let source = c.args.source.now in
    added_none source.plant.now source.n (source.most ≡ None) Last c.args.spans c.args.blocks.now c.requires.blocks

pub loop-d-preserved : goal.loop-d-preserved
loop-d-preserved c =
    let parts = c.args.source.now.plant.now in
    let n = c.args.source.now.n in
    let all = c.args.source.now.most ≡ None in
    let spans = c.args.spans in
    let i = c.loop-d.d in
    added_more parts n all Last spans i (record { from = i; below = i + 1 }) c.args.blocks.now c.loop-d.blocks c.add_name.new.blocks refl refl
    c.loop-d.invariant (record {
      blocks = c.in_ok-add_name.ensures.blocks;
      kept = c.in_ok-add_name.ensures.kept;
      there = λ every. one_name parts n spans i c.add_name.new.blocks c.requires.one_a c.requires.one_b c.requires.one_c
          (c.in_ok-add_name.ensures.there every);
    })

pub returns : goal.returns
returns c =
    let source = c.args.source.now in
    let added = added_all source.plant.now source.n (source.most ≡ None) Last c.args.spans c.loop-d.d c.args.blocks.now c.loop-d.blocks (omega arith) c.loop-d.invariant in
    record { blocks = added.blocks; kept = added.kept; there = added.there }
