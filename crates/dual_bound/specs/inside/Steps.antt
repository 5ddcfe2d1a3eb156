-- What the steps keep that improve a guess.
use Rattle.std.specs.Prelude.{◌≡◌, ℕ, ◌*◌, ◌^◌, ◌<◌, ◌≤◌, ◌⊎◌, List, length, slice_index_or, unsigned_abs}
use Rattle.std.specs.Prelude.{ℤ, pos, ◌-ℤ◌, ◌*ℤ◌, ◌≤ℤ◌, ◌<ℤ◌}
use Rattle.linear_form.specs.declared.ranges.Interval.{Interval}
use Rattle.linear_form.specs.declared.row.RowTerm.{RowTerm}
use Rattle.linear_form.specs.Bounds.{Bounds, zero_alone}
use Rattle.linear_form.specs.Columns.{number_of}
use Rattle.dual_bound.specs.declared.system.System.{System}
use Rattle.dual_bound.specs.declared.trial.Best.{Best}
use Rattle.dual_bound.specs.Conditions.{IsGuess, reach_of}
use Rattle.dual_bound.specs.Dual.{most_in, range_at}
use Rattle.dual_bound.specs.inside.Cells.{Hold, AreWithin}
use Rattle.dual_bound.specs.Improving.{single}
use Rattle.dual_bound.specs.inside.Systems.{row_count, column_count, weight_in, value_in}

-- the guess is kept with its own value
pub record IsKnown (system : System) (best : Best) : Type 0 where
  pub guess : IsGuess system.rows.now best.y.items best.q
  pub value : best.value ≡ value_in system best.y.items best.q

-- of two guesses the one of lesser value is kept
abbrev pub KeepsLesser : Best → Best → List ℕ → ℕ → ℤ → Type 0
KeepsLesser old new multipliers q value =
    ((value <ℤ old.value) × (new.y.items ≡ multipliers) × (new.q ≡ q) × (new.value ≡ value))
    ⊎ ((old.value ≤ℤ value) × (new ≡ old))

-- how much more a column earns where so many times a factor are taken from its weight
abbrev pub change_of : Interval → ℤ → ℕ → ℤ → ℤ
change_of range weight y factor = most_in range (weight -ℤ (pos y *ℤ factor)) -ℤ most_in range weight

-- how much more the column of a term earns where so many times the term are taken from the weights
abbrev pub changes : Bounds → List ℤ → ℕ → RowTerm → ℤ
changes bounds weights y term =
    change_of
    (range_at bounds (number_of bounds.extent term.column))
    (slice_index_or weights (number_of bounds.extent term.column) (pos 0))
    y
    term.factor

-- each weight has room in its range, and so has one from which so much is taken as a multiplier may
abbrev pub HaveMoreRoom : List Interval → List ℤ → Type 0
HaveMoreRoom ranges weights =
    (k : ℕ) → k < length ranges →
    unsigned_abs (slice_index_or weights k (pos 0)) * reach_of (slice_index_or ranges k zero_alone) ≤ 2 ^ 103

-- the weights of all columns, which fit
pub record AreWeights (system : System) (multipliers : List ℕ) (q : ℕ) (weights : List ℤ) : Type 0 where
  pub as_many : length weights ≡ column_count system
  pub held : Hold (weight_in system multipliers q) weights
  pub within : AreWithin (2 ^ 125) weights
  pub room : HaveMoreRoom system.ranges.now.ends weights

-- the value of a power of two as the multiplier of one row, without the others
abbrev pub power_value : System → ℕ → ℕ → ℤ
power_value system r k = value_in system (single (row_count system) r (2 ^ k)) 1

-- where this power has no less value than the number, no greater power has less value
abbrev pub TurnsFrom : System → ℕ → ℤ → ℕ → Type 0
TurnsFrom system r number k =
    number ≤ℤ power_value system r k → (j : ℕ) → k ≤ j → power_value system r k ≤ℤ power_value system r j
