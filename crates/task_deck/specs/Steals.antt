-- What a thief comes away with.
use Rattle.slot_box.specs.Tasks.{TaskParts}
use Rattle.task_deck.specs.declared.ends.Stolen.{Stolen}
use Rattle.task_deck.specs.declared.ends.Stolen.TheVariants.{Got, Empty, Again}

-- the one fact where it has no task, the other of the task that it has
abbrev pub MatchStolen : Stolen → Type 0 → (TaskParts → Type 0) → Type 0
MatchStolen (Got task) none some = some task
MatchStolen Empty none some = none
MatchStolen Again none some = none
