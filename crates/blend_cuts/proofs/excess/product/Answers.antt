use Rattle.blend_cuts.proofs.SizeLaws.{stored-fits, stored-product}
use Rattle.blend_cuts.proofs.excess.product.Goals as goal

pub overflow_mul-result : goal.overflow_mul-result
overflow_mul-result c = stored-fits c.args.a c.args.b c.ranges.a c.ranges.b c.requires

pub returns : goal.returns
returns c = stored-product c.args.a c.args.b c.ranges.a c.ranges.b c.requires
