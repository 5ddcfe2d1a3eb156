-- What a replay is seen as.
use Rattle.std.specs.Prelude.{List}
use Rattle.plant_model.specs.declared.parts.Parts.{Parts}
use Rattle.replay_core.specs.declared.timed.Timed.{Timed}
use Rattle.replay_core.specs.declared.order.Order.{Order}

-- a plant, the order that its operations keep, and those that have run in it, which broke no rule
pub record Replayed : Type 0 where
  pub parts : Parts
  pub order : Order
  pub steps : List Timed
