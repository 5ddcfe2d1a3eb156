use Rattle.std.proofs.Common.{◌∙◌}
use Rattle.std.proofs.lemmas.Int.{to_z-of_z}
use Rattle.crude_amounts.proofs.WeightLaws.{product-low, product-high, computed_product}
use Rattle.crude_amounts.proofs.cells.product.Goals as goal
use mir.Syntax.{w64}

pub returns-clause-value : goal.returns-clause-value
returns-clause-value c =
    computed_product c.args.weight c.from.result c.from-2.result c.args.amount (c.from.ensures ∙ to_z-of_z w64 c.args.weight c.ranges.weight) c.from-2.ensures
    c.ranges.weight c.requires

pub returns-clause-low : goal.returns-clause-low
returns-clause-low c =
    let exact = computed_product c.args.weight c.from.result c.from-2.result c.args.amount (c.from.ensures ∙ to_z-of_z w64 c.args.weight c.ranges.weight)
    c.from-2.ensures c.ranges.weight c.requires in
    rw exact (product-low c.args.weight c.args.amount c.ranges.weight)

pub returns-clause-high : goal.returns-clause-high
returns-clause-high c =
    let exact = computed_product c.args.weight c.from.result c.from-2.result c.args.amount (c.from.ensures ∙ to_z-of_z w64 c.args.weight c.ranges.weight)
    c.from-2.ensures c.ranges.weight c.requires in
    rw exact (product-high c.args.weight c.args.amount c.ranges.weight)
