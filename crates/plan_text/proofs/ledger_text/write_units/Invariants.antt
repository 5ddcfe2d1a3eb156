use Rattle.std.proofs.Common.{◌≡◌, ◌++◌, drop}
use Rattle.item_lists.specs.Faults.{each_from}
use Rattle.line_text.specs.Words.{text_of}
use Rattle.plant_model.specs.Parts.{places_of}
use Rattle.plan_text.specs.Ledger.{lines_at, unit_lines}
use Rattle.plan_text.proofs.ledger_text.write_units.Given as goal

-- what is written and what is left make the whole
abbrev pub invariant-loop-p : goal.invariant-loop-p
invariant-loop-p l =
    l.out.items ++ text_of (each_from (lines_at l.plant l.replay.steps) l.p (drop l.p (places_of l.plant)))
    ≡ l.fn.out.items ++ text_of (unit_lines l.plant l.replay.steps)
