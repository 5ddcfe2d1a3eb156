use Rattle.number_laws.proofs.FloorLaws.{floors_are_greatest}
use Rattle.number_laws.proofs.floors.floor_laws.Goals as goal

pub returns : goal.returns
returns c = floors_are_greatest
