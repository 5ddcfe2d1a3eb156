use Rattle.plan_text.proofs.PlanLaws.{printed-says}
use Rattle.plan_text.proofs.plan.print_plan.Goals as goal

pub returns-clause-again : goal.returns-clause-again
returns-clause-again c =
    printed-says c.args.plant.now c.args.plan.now c.print_lines.result c.sound.ensures.plant c.requires.few c.print_lines.ensures.text
    c.print_lines.ensures.sayable
