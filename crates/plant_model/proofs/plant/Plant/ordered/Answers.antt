use Rattle.std.proofs.Common.{◌∙◌, sym}
use Rattle.plant_model.proofs.RelationLaws.{ordered_of-symmetric, ordered_from_refused, apart_from_unordered}
use Rattle.plant_model.proofs.plant.Plant.ordered.Goals as goal

pub returns-clause-symmetric : goal.returns-clause-symmetric
returns-clause-symmetric c = c.is_ordered.ensures ∙ ordered_of-symmetric c.args.self.now c.args.v c.args.w

pub returns-clause-refused : goal.returns-clause-refused
returns-clause-refused c = λ refused. c.is_ordered.ensures ∙ ordered_from_refused c.args.self.now c.args.v c.args.w refused

pub returns-clause-apart : goal.returns-clause-apart
returns-clause-apart c = λ unordered. apart_from_unordered c.args.self.now c.args.v c.args.w (sym c.is_ordered.ensures ∙ unordered)
