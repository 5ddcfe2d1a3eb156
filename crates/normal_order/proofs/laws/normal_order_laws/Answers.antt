use Rattle.normal_order.proofs.FormLaws.{words_have_normal_forms, normal_words_are_least}
use Rattle.normal_order.proofs.laws.normal_order_laws.Goals as goal

pub returns-clause-forms : goal.returns-clause-forms
returns-clause-forms c = words_have_normal_forms c.args.plant.now

pub returns-clause-least : goal.returns-clause-least
returns-clause-least c = normal_words_are_least c.args.plant.now
