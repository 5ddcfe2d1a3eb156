use Rattle.std.proofs.Common.{◌≡◌, ◌++◌, map, take, drop}
use Rattle.plant_model.specs.Parts.{without_demand}
use Rattle.plant_model.proofs.making.clear_demands.Given as goal

-- the tanks so far have no demand, and those that follow are as they were
abbrev pub invariant-loop-tank : goal.invariant-loop-tank
invariant-loop-tank l = l.tanks ≡ map without_demand (take l.tank-index l.initial.tanks) ++ drop l.tank-index l.initial.tanks
