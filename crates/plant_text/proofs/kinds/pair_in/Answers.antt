use Rattle.std.proofs.Common.{sym, arith}
use Rattle.plant_text.proofs.Lists.{pair_in-other}
use Rattle.plant_text.proofs.kinds.pair_in.Goals as goal

pub returns-in_default : goal.returns-in_default
returns-in_default c = sym (pair_in-other c.args.values.now (λ two. omega (arith, two)))

pub returns-in_default-2 : goal.returns-in_default-2
returns-in_default-2 c = sym (pair_in-other c.args.values.now (λ two. omega (arith, two)))
