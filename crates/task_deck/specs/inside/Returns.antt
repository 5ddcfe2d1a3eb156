-- What the rule knows of passes when they come back.
use Rattle.std.specs.Prelude.{List, [], ◌∷◌}
use Rattle.task_deck.specs.declared.ends.DoorPass.{DoorPass}
use Rattle.task_deck.specs.declared.hand.Taken.{Taken}
use Rattle.task_deck.specs.Decks.{pass_view}

-- each number with what was stolen by the pass
abbrev pub known_of : List DoorPass → List Taken
known_of [] = []
known_of (pass ∷ passes) = (record { pass = (pass_view pass).number; tasks = (pass_view pass).stolen }) ∷ known_of
    passes
