use Rattle.plant_maker.proofs.Sound.{made_plants_are_sound}
use Rattle.plant_maker.proofs.making.maker_laws.Goals as goal

pub returns : goal.returns
returns c = λ number small. made_plants_are_sound number
