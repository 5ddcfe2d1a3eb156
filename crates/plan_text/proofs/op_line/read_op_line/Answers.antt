use Rattle.std.proofs.lemmas.Result.{IfOk-weaker}
use Rattle.plan_text.proofs.OpLineLaws.{op_line-found, op_line-none}
use Rattle.plan_text.proofs.op_line.read_op_line.Goals as goal

pub returns-clause-found : goal.returns-clause-found
returns-clause-found c = IfOk-weaker c.op_line_of.result _ _ (op_line-found c.args.line.now) c.op_line_of.ensures

pub returns-clause-none : goal.returns-clause-none
returns-clause-none c = IfOk-weaker c.op_line_of.result _ _ (op_line-none c.args.line.now) c.op_line_of.ensures
