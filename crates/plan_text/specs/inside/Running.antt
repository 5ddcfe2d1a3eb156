-- A replay of which a ledger is written.
use Rattle.std.specs.Prelude.{◌≡◌, ◌+◌, List, length, Some, ⊤}
use Rattle.item_lists.specs.Faults.{first_of}
use Rattle.plant_model.specs.declared.parts.Parts.{Parts}
use Rattle.replay_core.specs.declared.timed.Timed.{Timed}
use Rattle.replay_core.specs.declared.order.Order.TheVariants.{ByStart}
use Rattle.replay_core.specs.declared.outcome.ReplayFault.{ReplayFault}
use Rattle.replay_core.specs.declared.outcome.ReplayFault.TheVariants.{Rule, Memory}
use Rattle.replay_core.specs.Replayed.{Replayed}
use Rattle.replay_core.specs.Legal.{op_faults}

-- the operations of a plan of the plant have run
abbrev pub ran : Parts → List Timed → Replayed
ran parts steps = record { parts = parts; order = ByStart; steps = steps }

-- why the next operation is not written: the first rule that it breaks, or the want of memory
abbrev pub BreaksStep : Parts → List Timed → Timed → ReplayFault → Type 0
BreaksStep parts steps t (Rule broken) = first_of (op_faults parts ByStart steps t (length steps + 1)) ≡ Some broken
BreaksStep parts steps t Memory = ⊤
