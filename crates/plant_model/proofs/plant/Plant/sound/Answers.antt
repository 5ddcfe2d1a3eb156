use Rattle.std.proofs.Common.{subst}
use Rattle.plant_model.specs.Sound.{SoundPlant}
use Rattle.plant_model.proofs.PlantIsSound.{sound_plant}
use Rattle.plant_model.proofs.plant.Plant.sound.Goals as goal

pub returns-clause-plant : goal.returns-clause-plant
returns-clause-plant c = subst SoundPlant c.self.view_is (sound_plant c.self.inside.parts c.self.invariant.sound)
