-- What `replay` answers to the bytes of a plan, and `show` to a plant.
use Rattle.std.specs.Prelude.{◌≡◌, ◌⊎◌, ℕ, List, Some}
use Rattle.plant_model.specs.declared.parts.Parts.{Parts}
use Rattle.replay_core.specs.declared.timed.Timed.{Timed}
use Rattle.replay_core.specs.declared.broken.Broken.{Broken}
use Rattle.replay_core.specs.Legal.{first_broken, IsLegal}
use Rattle.plan_text.specs.PlanText.{SaysPlan, IsFirstBad}
use Rattle.crude_run.specs.declared.answer.Answer.{Answer}
use Rattle.crude_run.specs.Texts.{plan_refused, legal, illegal, shown}

-- a plan that breaks no rule
pub record IsLegalReplay (parts : Parts) (plan : List Timed) (answer : Answer) : Type 0 where
  pub breaks_none : IsLegal parts plan
  -- the answer is its ledger
  pub says : answer ≡ legal parts plan

-- a plan that breaks a rule
pub record IsIllegalReplay (parts : Parts) (plan : List Timed) (answer : Answer) : Type 0 where
  -- this is the first, with its place
  pub broken : Broken
  pub first : first_broken parts plan ≡ Some broken
  -- and the answer tells both
  pub says : answer ≡ illegal broken

-- bytes that are a plan
pub record IsReplay (parts : Parts) (bytes : List ℕ) (answer : Answer) : Type 0 where
  pub plan : List Timed
  pub read : SaysPlan parts bytes plan
  pub replayed : IsLegalReplay parts plan answer ⊎ IsIllegalReplay parts plan answer

-- bytes that are none
pub record IsNoPlan (bytes : List ℕ) (answer : Answer) : Type 0 where
  -- this is the first line that is none of a plan
  pub line : ℕ
  pub first : IsFirstBad bytes line
  -- and the answer tells it
  pub says : answer ≡ plan_refused line

-- what `replay` answers: to a plan how it runs, and else the first line that is none of a plan
abbrev pub Replays : Parts → List ℕ → Answer → Type 0
Replays parts bytes answer = IsReplay parts bytes answer ⊎ IsNoPlan bytes answer

-- what `show` answers: the one text of the plant
abbrev pub Shows : Parts → Answer → Type 0
Shows parts answer = answer ≡ shown parts

-- that is one answer: a law
abbrev pub HasOneAnswer : Parts → List ℕ → Type 0
HasOneAnswer parts bytes =
    (answer other : Answer) → Replays parts bytes answer → Replays parts bytes other → answer ≡ other
