use Rattle.plant_model.proofs.NoFaults.{sound_parts}
use Rattle.plant_model.proofs.plant.Plant.parts.Goals as goal

pub returns-clause-sound : goal.returns-clause-sound
returns-clause-sound c = sound_parts c.self.inside.parts c.self.invariant.sound
