-- The text of plans, and the first line of other bytes that is none of a plan.
use Rattle.std.specs.Prelude.{◌≡◌, ◌≢◌, ◌⊎◌, ℕ, ◌+◌, ◌≤◌, List, [], ◌∷◌, ◌++◌, map, length, Result, Ok, Err, ⊤}
use Rattle.limits.specs.declared.TheConstants.{MOST_STEPS}
use Rattle.line_text.specs.Words.{text_of}
use Rattle.plant_model.specs.declared.parts.Parts.{Parts}
use Rattle.replay_core.specs.declared.timed.Timed.{Timed}
use Rattle.plan_text.specs.declared.op_line.OpLine.{OpLine}
use Rattle.plan_text.specs.declared.fault.PlanTextFault.{PlanTextFault}
use Rattle.plan_text.specs.declared.fault.PlanTextFault.TheVariants.{Line, Memory}
use Rattle.plan_text.specs.OpLine.{op_line_words, op_line_bytes, IsOpLine}
use Rattle.plan_text.specs.Plans.{plan_of, lines_from}

-- lines of operations that are numbered, the first by number
abbrev pub AreOpLines : ℕ → List OpLine → Type 0
AreOpLines number [] = Unit {0}
AreOpLines number (line ∷ lines) = (line.number ≡ number) × IsOpLine line × AreOpLines (number + 1) lines

-- the text of lines, each with its line feed
abbrev pub lines_bytes : List OpLine → List ℕ
lines_bytes lines = text_of (map op_line_words lines)

-- the bytes are the text of these lines, which are those of a plan: numbered from 1, and no more than a plan may have
pub record IsPlanText (bytes : List ℕ) (lines : List OpLine) : Type 0 where
  pub few : length lines ≤ MOST_STEPS
  pub numbered : AreOpLines 1 lines
  pub text : bytes ≡ lines_bytes lines

-- the bytes are the text of lines of a plan, and by the names in these the plan is this one
pub record SaysPlan (parts : Parts) (bytes : List ℕ) (plan : List Timed) : Type 0 where
  pub lines : List OpLine
  pub text : IsPlanText bytes lines
  pub says : plan ≡ plan_of parts lines

-- the bytes begin with the line of an operation that has this number, and its line feed (10)
pub record BeginsWithLine (number : ℕ) (bytes : List ℕ) : Type 0 where
  pub line : OpLine
  pub after : List ℕ
  pub form : IsOpLine line
  pub numbered : line.number ≡ number
  pub text : bytes ≡ op_line_bytes line ++ 10 ∷ after

-- the first line of the bytes that is none of a plan has this number: those before it are, something stands behind
-- them, and that begins with no such line, or comes after as many as a plan may have
pub record IsFirstBad (bytes : List ℕ) (number : ℕ) : Type 0 where
  pub lines : List OpLine
  pub rest : List ℕ
  pub text : bytes ≡ lines_bytes lines ++ rest
  pub numbered : AreOpLines 1 lines
  pub few : length lines ≤ MOST_STEPS
  pub next : number ≡ length lines + 1
  pub some : rest ≢ []
  pub bad : (length lines ≡ MOST_STEPS) ⊎ (BeginsWithLine number rest → ⊥)

-- what reading the bytes as a plan answers: the plan that they say, or the first line that is none of a plan, or the
-- want of memory
abbrev pub ReadsPlan : Parts → List ℕ → Result (List Timed) PlanTextFault → Type 0
ReadsPlan parts bytes (Ok plan) = SaysPlan parts bytes plan
ReadsPlan parts bytes (Err (Line number)) = IsFirstBad bytes number
ReadsPlan parts bytes (Err Memory) = ⊤

-- the text of a plan, by the names of its operations
abbrev pub plan_bytes : Parts → List Timed → List ℕ
plan_bytes parts plan = lines_bytes (lines_from parts 1 plan)

-- ---- laws

-- bytes are the text of no other lines, have no other first line that is none, and do not have both
pub record ReadOneWay (bytes : List ℕ) : Type 0 where
  pub one_text : (lines others : List OpLine) → IsPlanText bytes lines → IsPlanText bytes others → lines ≡ others
  pub one_bad : (m n : ℕ) → IsFirstBad bytes m → IsFirstBad bytes n → m ≡ n
  pub not_both : (lines : List OpLine) (n : ℕ) → IsPlanText bytes lines → IsFirstBad bytes n → ⊥
