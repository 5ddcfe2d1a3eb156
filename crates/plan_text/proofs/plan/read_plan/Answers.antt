use Rattle.plan_text.proofs.PlanLaws.{few-read, said-read, printed-again}
use Rattle.plan_text.proofs.plan.read_plan.Goals as goal

pub returns-clause-text : goal.returns-clause-text
returns-clause-text c = said-read c.args.plant.now c.args.bytes.now c.read_lines.result c.sound.ensures.plant c.read_lines.ensures

pub returns-clause-printed : goal.returns-clause-printed
returns-clause-printed c = λ plan is text.
    printed-again c.args.plant.now c.args.bytes.now c.read_lines.result plan c.sound.ensures.plant c.read_lines.ensures is text

pub returns-clause-few : goal.returns-clause-few
returns-clause-few c = few-read c.args.plant.now c.args.bytes.now c.read_lines.result c.read_lines.ensures
