-- One line of a plan, as the reader of a plan meets it.
use Rattle.std.specs.Prelude.{◌≡◌, ◌⊎◌, ℕ, ◌+◌, ◌<◌, ◌≤◌, List, ◌∷◌, ◌++◌}
use Rattle.limits.specs.declared.TheConstants.{MOST_STEPS}
use Rattle.line_text.specs.Lines.{LinesLeft}
use Rattle.plant_model.specs.declared.parts.Parts.{Parts}
use Rattle.replay_core.specs.declared.timed.Timed.{Timed}
use Rattle.plan_text.specs.declared.op_line.OpLine.{OpLine}
use Rattle.plan_text.specs.OpLine.{op_line_bytes, IsOpLine}
use Rattle.plan_text.specs.Plans.{timed_of}
use Rattle.plan_text.specs.PlanText.{BeginsWithLine}

-- the text is an operation's line of this number, and says the operation
pub record SaysStep (parts : Parts) (number : ℕ) (text : List ℕ) (t : Timed) : Type 0 where
  pub line : OpLine
  pub form : IsOpLine line
  pub numbered : line.number ≡ number
  pub written : text ≡ op_line_bytes line
  pub says : t ≡ timed_of parts line

-- the next line was read, and says the operation
pub record IsStepRead (parts : Parts) (before after : LinesLeft) (t : Timed) : Type 0 where
  pub line : OpLine
  pub form : IsOpLine line
  pub numbered : line.number ≡ before.number
  pub text : before.rest ≡ op_line_bytes line ++ 10 ∷ after.rest
  pub says : t ≡ timed_of parts line
  pub few : before.number ≤ MOST_STEPS
  pub next : after.number ≡ before.number + 1

-- the next line is none of a plan
abbrev pub IsStepBad : LinesLeft → Type 0
IsStepBad before = (MOST_STEPS < before.number) ⊎ (BeginsWithLine before.number before.rest → ⊥)
