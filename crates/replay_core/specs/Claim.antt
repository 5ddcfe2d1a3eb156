-- What may be claimed of a plant and of its plans of at most so many operations.
use Rattle.std.specs.Prelude.{◌≡◌, ℕ, ◌≤◌, ℤ, ◌≤ℤ◌, List, length}
use Rattle.plant_model.specs.declared.parts.Parts.{Parts}
use Rattle.replay_core.specs.declared.timed.Timed.{Timed}
use Rattle.replay_core.specs.Legal.{IsLegal}
use Rattle.replay_core.specs.Margin.{margin_of}

-- a legal plan of at most n operations that has the margin
pub record IsPlanOf (parts : Parts) (n : ℕ) (margin : ℤ) (plan : List Timed) : Type 0 where
  pub legal : IsLegal parts plan
  pub short : length plan ≤ n
  pub earns : margin_of parts plan ≡ margin

-- no legal plan of at most n operations has a greater margin
abbrev pub IsBound : Parts → ℕ → ℤ → Type 0
IsBound parts n bound = (plan : List Timed) → IsLegal parts plan → length plan ≤ n → margin_of parts plan ≤ℤ bound

-- there is no legal plan of at most n operations
abbrev pub IsInfeasible : Parts → ℕ → Type 0
IsInfeasible parts n = (plan : List Timed) → IsLegal parts plan → length plan ≤ n → ⊥
