-- What holds of dual values, whatever the rows.
use Rattle.std.specs.Prelude.{ℕ, ◌≤◌, List, [], ◌∷◌, ℤ, pos, neg_ℤ, ◌≤ℤ◌, ◌<ℤ◌}
use Rattle.linear_form.specs.declared.row.RowTerm.{RowTerm}
use Rattle.linear_form.specs.Bounds.{Bounds}
use Rattle.linear_form.specs.Points.{Point, LiesIn, value_at}
use Rattle.linear_form.specs.Rows.{RowForm}
use Rattle.dual_bound.specs.Conditions.{AreColumns}
use Rattle.dual_bound.specs.Dual.{dual_value, emptiness_sum}

-- the row that an objective makes when it is taken the other way round
abbrev pub against : List RowTerm → RowForm
against objective = record { terms = objective; right = pos 0 }

-- the least that an objective comes to over ranges, with the other sign
abbrev pub greatest_loss : Bounds → List RowTerm → ℤ
greatest_loss bounds objective = emptiness_sum (against objective ∷ []) bounds (1 ∷ [])

-- a dual value below that least comes from rows that contradict each other over the ranges
abbrev pub LowValuesAreContradictions : Type 0
LowValuesAreContradictions =
    (rows : List RowForm) (bounds : Bounds) (objective : List RowTerm) (multipliers : List ℕ) (q : ℕ) → 1 ≤ q
    → dual_value rows bounds objective multipliers q <ℤ neg_ℤ (greatest_loss bounds objective)
    → emptiness_sum rows bounds multipliers <ℤ pos 0

-- no point in the ranges brings the objective below it
abbrev pub PointsAreAboveLeast : Type 0
PointsAreAboveLeast =
    (bounds : Bounds) (objective : List RowTerm) (point : Point) → bounds.extent.ops ≤ 255
    → AreColumns bounds.extent objective → LiesIn bounds point
    → neg_ℤ (greatest_loss bounds objective) ≤ℤ value_at objective point
