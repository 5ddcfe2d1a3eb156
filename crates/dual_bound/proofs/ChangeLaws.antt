-- How large the change of a sum is where a row is taken from the weights.
use Rattle.std.proofs.Common.{◌≡◌, ℕ, ◌*◌, ◌^◌, ◌<◌, ◌≤◌, List, [], ◌∷◌, length, take, slice_index_or, ℤ, pos, ◌-ℤ◌, ◌*ℤ◌, ap, refl, arith, unsigned_abs}
use Rattle.std.proofs.lemmas.List.Elements.{All-take, All-head, All-tail}
use Rattle.linear_form.specs.declared.ranges.Interval.{Interval}
use Rattle.linear_form.specs.declared.row.RowTerm.{RowTerm}
use Rattle.linear_form.specs.Bounds.{Bounds, range_of}
use Rattle.linear_form.specs.Columns.{IsColumn, count_of, number_of}
use Rattle.linear_form.specs.Rows.{HasEachOnce}
use Rattle.number_laws.specs.SignedSums.{total_by}
use Rattle.number_laws.proofs.SignedSumLaws.{abs-difference, total_below-abs}
use Rattle.linear_form.proofs.ColumnLaws.{number-below}
use Rattle.dual_bound.specs.inside.Cells.{Hold}
use Rattle.dual_bound.specs.Conditions.{AreColumns, AreSmall, reach_of}
use Rattle.dual_bound.specs.Dual.{factor_of, most_in, range_at}
use Rattle.dual_bound.specs.inside.Steps.{changes, change_of, HaveMoreRoom}
use Rattle.dual_bound.proofs.EarnedLaws.{most_in-size}
use Rattle.dual_bound.proofs.FactorLaws.{factor-limit, once-take}
use Rattle.dual_bound.proofs.RoomLaws.{at-most, times-limit, difference-limit}
use Rattle.dual_bound.proofs.SingleLaws.{factors-sum, change-none}

change-size : (range : Interval) (weight : ℤ) (y : ℕ) (factor : ℤ) → unsigned_abs weight * reach_of range ≤ 2 ^ 103 → y ≤ 2 ^ 32 →
    unsigned_abs factor * reach_of range ≤ 2 ^ 60 →
    unsigned_abs (change_of range weight y factor) ≤ 2 ^ 105
change-size range weight y factor room few small =
    let less = difference-limit weight (pos y *ℤ factor) (reach_of range) (2 ^ 103) (2 ^ 32 * 2 ^ 60) room (times-limit y factor (reach_of range) few small) in
    let first = most_in-size range (weight -ℤ (pos y *ℤ factor)) (2 ^ 104) (omega (arith, less)) in
    let second = most_in-size range weight (2 ^ 104) (omega (arith, room)) in
    omega (arith, first, second, abs-difference (most_in range (weight -ℤ (pos y *ℤ factor))) (most_in range weight))

pub changes-size : (bounds : Bounds) (weights : List ℤ) (y : ℕ) (terms : List RowTerm) → count_of bounds.extent ≤ 65535 →
    length bounds.ends ≡ count_of bounds.extent → y ≤ 2 ^ 32 →
    AreColumns bounds.extent terms → HasEachOnce terms → AreSmall bounds terms → HaveMoreRoom bounds.ends weights →
    unsigned_abs (total_by (changes bounds weights y) terms) ≤ 65535 * 2 ^ 105
changes-size bounds weights y terms few_columns count few columns once small room =
    let n = count_of bounds.extent in
    let change = λ (j : ℕ) (factor : ℤ). change_of (range_at bounds j) (slice_index_or weights j (pos 0)) y factor in
    let sum = factors-sum bounds.extent change terms (λ j. change-none (range_at bounds j) (slice_index_or weights j (pos 0)) y) columns once in
    let size = total_below-abs n (2 ^ 105) (λ j. change j (factor_of bounds.extent j terms))
    (λ j below. change-size (range_at bounds j) (slice_index_or weights j (pos 0)) y (factor_of bounds.extent j terms) (room j (omega (arith, count))) few
    (factor-limit bounds.extent (λ k. reach_of (range_at bounds k)) (2 ^ 60) terms columns once (at-most bounds terms small) j)) in
    rw (← sum) (omega (arith, size, few_columns))

pub prefix_changes-size : (bounds : Bounds) (weights : List ℤ) (y : ℕ) (terms : List RowTerm) (t : ℕ) → count_of bounds.extent ≤ 65535 →
    length bounds.ends ≡ count_of bounds.extent → y ≤ 2 ^ 32 →
    AreColumns bounds.extent terms → HasEachOnce terms → AreSmall bounds terms → HaveMoreRoom bounds.ends weights →
    unsigned_abs (total_by (changes bounds weights y) (take t terms)) ≤ 65535 * 2 ^ 105
prefix_changes-size bounds weights y terms t few_columns count few columns once small room =
    changes-size bounds weights y (take t terms) few_columns count few (All-take (λ (term : RowTerm). IsColumn bounds.extent term.column) t terms columns)
    (once-take t terms once)
    (All-take (λ (term : RowTerm). unsigned_abs term.factor * reach_of (range_of bounds term.column) < 2 ^ 60) t terms small) room

-- weights that are held in cells
pub changes-held : (bounds : Bounds) (z : ℕ → ℤ) (weights : List ℤ) (y : ℕ) (terms : List RowTerm) → length weights ≡ count_of bounds.extent → Hold z weights →
    AreColumns bounds.extent terms →
    total_by (changes bounds weights y) terms
    ≡ total_by (λ term. change_of (range_at bounds (number_of bounds.extent term.column)) (z (number_of bounds.extent term.column)) y term.factor) terms
changes-held bounds z weights y [] count held columns = refl
changes-held bounds z weights y (term ∷ terms) count held columns =
    let there = number-below bounds.extent term.column (All-head (λ (t : RowTerm). IsColumn bounds.extent t.column) term terms columns) in
    let weight = held (number_of bounds.extent term.column) (omega (arith, there, count)) in
    let first = ap (λ (w : ℤ). change_of (range_at bounds (number_of bounds.extent term.column)) w y term.factor) weight in
    let rest = changes-held bounds z weights y terms count held (All-tail (λ (t : RowTerm). IsColumn bounds.extent t.column) term terms columns) in
    cc
