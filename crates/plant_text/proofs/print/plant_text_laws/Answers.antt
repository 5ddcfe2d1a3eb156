use Rattle.plant_text.proofs.TextLaws.{read_back, accepted, one_plant}
use Rattle.plant_text.proofs.print.plant_text_laws.Goals as goal

pub returns-clause-read_back : goal.returns-clause-read_back
returns-clause-read_back c = read_back

pub returns-clause-accepted : goal.returns-clause-accepted
returns-clause-accepted c = accepted

pub returns-clause-one_plant : goal.returns-clause-one_plant
returns-clause-one_plant c = one_plant
