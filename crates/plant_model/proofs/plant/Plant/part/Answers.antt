use Rattle.std.proofs.Common.{rules, subst}
use Rattle.plant_model.specs.inside.PlaceParts.{IsPartAt}
use Rattle.plant_model.specs.inside.SoundParts.{SoundParts}
use Rattle.plant_model.proofs.PlaceLists.{place_of_part, place_name_of_part, initial_amounts_of_part, sound_part, sound_place}
use Rattle.plant_model.proofs.plant.Plant.part.Goals as goal

-- the entry stands at the number
at_number : (c : goal.After-unwrap) → IsPartAt c.args.self.now c.args.p c.unwrap.result
at_number c = search rules

pub returns-clause-info : goal.returns-clause-info
returns-clause-info c = place_of_part c.args.self.now c.args.p c.unwrap.result (at_number c)

pub returns-clause-name : goal.returns-clause-name
returns-clause-name c = place_name_of_part c.args.self.now c.args.p c.unwrap.result (at_number c)

pub returns-clause-amounts : goal.returns-clause-amounts
returns-clause-amounts c = initial_amounts_of_part c.args.self.now c.args.p c.unwrap.result (at_number c)

pub returns-clause-sound_place : goal.returns-clause-sound_place
returns-clause-sound_place c =
    rw (place_of_part c.args.self.now c.args.p c.unwrap.result (at_number c))
    (sound_place c.args.self.now c.unwrap.result
    (sound_part c.args.self.now (subst SoundParts c.parts.ensures.value c.parts.ensures.sound) c.args.p c.unwrap.result (at_number c)))
