-- Plans that are built, and better ones.
use Rattle.std.proofs.Common.{◌≡◌, ℕ, inl, inr, Option, Some, None, List, sym, subst, arith}
use Rattle.std.specs.Prelude.{◌⊎◌, IfSome}
use Rattle.std.proofs.lemmas.Int.{ints}
use Rattle.number_laws.specs.Missing.{IsAtMost, greater}
use Rattle.number_laws.proofs.MissingLaws.{greater_is}
use Rattle.plant_model.specs.declared.parts.Parts.{Parts}
use Rattle.replay_core.specs.declared.planned.Planned.{Planned}
use Rattle.replay_core.specs.Legal.{IsLegal}
use Rattle.replay_core.specs.Margin.{margin_of}
use Rattle.greedy_plan.specs.Greedy.{greedy_of}
use Rattle.plan_build.specs.Built.{IsBuilt, IsPlanned, found_margin}

-- a built plan is one
pub plan-built : (parts : Parts) (n : ℕ) (hint : List ℕ) (best : Option Planned) → IsBuilt parts n hint best → IfSome best (IsPlanned parts n)
plan-built parts n hint None built = tt
plan-built parts n hint (Some planned) built = built.plan

-- a plan that earns no less is as good as a built one
as_good : (parts : Parts) (n : ℕ) (hint : List ℕ) (first second : Option Planned) → IsBuilt parts n hint first → IfSome second (IsPlanned parts n) →
    IsAtMost (found_margin first) (found_margin second) → IsBuilt parts n hint second
as_good parts n hint None None built plan up = built
as_good parts n hint None (Some planned) built plan up = record { plan = plan; no_worse = λ legal. absurd (built legal) }
as_good parts n hint (Some old) None built plan up = absurd up
as_good parts n hint (Some old) (Some planned) built plan up =
    record { plan = plan; no_worse = λ legal. (let least = built.no_worse legal in omega (arith, ints, least, up)) }

-- where the greedy plan is legal, a built plan earns no less
pub built-earns : (parts : Parts) (n : ℕ) (hint : List ℕ) (best : Option Planned) → IsBuilt parts n hint best → IsLegal parts (greedy_of parts n hint) →
    IsAtMost (Some (margin_of parts (greedy_of parts n hint))) (found_margin best)
built-earns parts n hint None built legal = absurd (built legal)
built-earns parts n hint (Some planned) built legal = built.no_worse legal

-- the better of a built plan and another
pub built-better : (parts : Parts) (n : ℕ) (hint : List ℕ) (first found better : Option Planned) → IsBuilt parts n hint first → IfSome found (IsPlanned parts n) →
    found_margin better ≡ greater (found_margin first) (found_margin found) → (better ≡ first) ⊎ (better ≡ found) → IsBuilt parts n hint better
built-better parts n hint first found better built plan rise (inl same) = subst (IsBuilt parts n hint) (sym same) built
built-better parts n hint first found better built plan rise (inr same) =
    let up = (greater_is (found_margin first) (found_margin found) (found_margin better) rise).first in
    subst (IsBuilt parts n hint) (sym same)
    (as_good parts n hint first found built plan (subst (λ (b : Option Planned). IsAtMost (found_margin first) (found_margin b)) same up))
