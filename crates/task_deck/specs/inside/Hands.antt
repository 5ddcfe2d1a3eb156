-- What the owner and the passes of a deck know.
use Rattle.std.specs.Prelude.{suc, true, false, List, [], ◌∷◌, ◌++◌}
use Rattle.slot_box.specs.Tasks.{TaskParts}
use Rattle.task_deck.specs.declared.hand.Hand.{Hand}

-- the owner of an empty deck
abbrev pub owner_hand : Hand
owner_hand = record { owns = true; gone = false; number = 0; passes = 0; pushed = []; taken = []; known = [] }

-- a pass that was given back
abbrev pub gone_hand : Hand
gone_hand = record { owns = false; gone = true; number = 0; passes = 0; pushed = []; taken = []; known = [] }

-- the next pass of this owner
abbrev pub pass_hand : Hand → Hand
pass_hand v = record {
  owns = false;
  gone = false;
  number = v.passes;
  passes = 0;
  pushed = [];
  taken = [];
  known = [];
}

-- tasks were pushed
abbrev pub with_pushed : Hand → List TaskParts → Hand
with_pushed v tasks = record v { pushed = v.pushed ++ tasks }

-- tasks were taken
abbrev pub with_taken : Hand → List TaskParts → Hand
with_taken v tasks = record v { taken = v.taken ++ tasks }

-- a pass was made
abbrev pub with_pass : Hand → Hand
with_pass v = record v { passes = suc v.passes }

-- a pass was given back
abbrev pub with_known : Hand → Hand → Hand
with_known v u = record v { known = (record { pass = u.number; tasks = u.taken }) ∷ v.known }
