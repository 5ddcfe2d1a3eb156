use Rattle.std.proofs.Common.{◌∙◌, ap, subst, ℕ, ◌<◌, length}
use Rattle.plant_model.specs.declared.parts.Parts.{Parts}
use Rattle.plant_model.specs.Parts.{op_count_of, op_of}
use Rattle.plant_model.specs.Sound.{SoundOp}
use Rattle.plant_model.proofs.NoFaults.{sound_parts}
use Rattle.plant_model.proofs.OpsAreSound.{length-ops_of, sound_op}
use Rattle.plant_model.proofs.plant.Plant.ops.Goals as goal

pub returns-clause-count : goal.returns-clause-count
returns-clause-count c = ap length (c.as_slice.ensures.value ∙ c.self.invariant.table) ∙ length-ops_of c.self.inside.parts ∙ ap op_count_of c.self.view_is

pub returns-clause-sound : goal.returns-clause-sound
returns-clause-sound c =
    let Each : Parts → Type 0 = λ parts. (v : ℕ) → v < op_count_of parts → SoundOp parts (op_of parts v) in
    subst Each c.self.view_is (sound_op c.self.inside.parts (sound_parts c.self.inside.parts c.self.invariant.sound))
