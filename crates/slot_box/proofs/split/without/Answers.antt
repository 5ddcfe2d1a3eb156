use Rattle.std.proofs.Common.{arith}
use Rattle.number_laws.proofs.BitLaws.{and-not}
use Rattle.slot_box.proofs.split.without.Goals as goal

pub returns : goal.returns
returns c = and-not 64 c.args.set c.args.other (omega arith) (omega arith)
