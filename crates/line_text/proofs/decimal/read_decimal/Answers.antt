use Rattle.std.proofs.Common.{arith}
use Rattle.line_text.proofs.DecimalLaws.{decimal-found, decimal-none}
use Rattle.line_text.proofs.decimal.read_decimal.Goals as goal

pub returns-clause-found : goal.returns-clause-found
returns-clause-found c = decimal-found c.args.limit c.args.bytes.now c.decimal_of.result c.decimal_of.ensures (omega arith)

pub returns-clause-none : goal.returns-clause-none
returns-clause-none c = decimal-none c.args.limit c.args.bytes.now c.decimal_of.result c.decimal_of.ensures (omega arith)
