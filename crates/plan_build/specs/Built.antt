-- What a built plan is: legal, no longer than asked for, of just the margin that it names, and no worse than the greedy
-- plan of the hint.
use Rattle.std.specs.Prelude.{ℕ, ℤ, ◌≤ℤ◌, Option, Some, None, List, option_map}
use Rattle.plant_model.specs.declared.parts.Parts.{Parts}
use Rattle.replay_core.specs.declared.planned.Planned.{Planned}
use Rattle.replay_core.specs.Claim.{IsPlanOf}
use Rattle.replay_core.specs.Legal.{IsLegal}
use Rattle.replay_core.specs.Margin.{margin_of}
use Rattle.greedy_plan.specs.Greedy.{greedy_of}

-- a legal plan of at most n operations, which earns the margin that it names
abbrev pub IsPlanned : Parts → ℕ → Planned → Type 0
IsPlanned parts n planned = IsPlanOf parts n planned.margin planned.plan

-- where the greedy plan of the hint is legal, this one earns no less
abbrev pub IsNoWorseThanGreedy : Parts → ℕ → List ℕ → Planned → Type 0
IsNoWorseThanGreedy parts n hint planned =
    IsLegal parts (greedy_of parts n hint) → margin_of parts (greedy_of parts n hint) ≤ℤ planned.margin

-- what is answered to a hint
pub record IsBuiltPlan (parts : Parts) (n : ℕ) (hint : List ℕ) (planned : Planned) : Type 0 where
  pub plan : IsPlanned parts n planned
  pub no_worse : IsNoWorseThanGreedy parts n hint planned

-- a built plan; or none, and then the greedy plan of the hint is not legal
abbrev pub IsBuilt : Parts → ℕ → List ℕ → Option Planned → Type 0
IsBuilt parts n hint None = IsLegal parts (greedy_of parts n hint) → ⊥
IsBuilt parts n hint (Some planned) = IsBuiltPlan parts n hint planned

-- the margin of a plan, if one was found
abbrev pub found_margin : Option Planned → Option ℤ
found_margin found = option_map (λ (planned : Planned). planned.margin) found
