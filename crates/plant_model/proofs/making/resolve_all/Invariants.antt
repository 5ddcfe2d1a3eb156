use Rattle.std.proofs.Common.{◌≡◌, map, take}
use Rattle.plant_model.specs.Parts.{resolved}
use Rattle.plant_model.proofs.making.resolve_all.Given as goal

-- the table has the operations so far
abbrev pub invariant-loop-operation : goal.invariant-loop-operation
invariant-loop-operation l = l.ops.items ≡ map (resolved l.parts) (take l.operation-index l.operation-items)
