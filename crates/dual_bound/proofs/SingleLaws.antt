-- One multiplier that is not 0: its value by the row's own columns.
use Rattle.std.proofs.Common.{◌≡◌, ◌≢◌, ℕ, suc, zero, ◌<◌, List, [], ◌∷◌, length, get_or, replicate, slice_set, ℤ, pos, ◌+ℤ◌, ◌-ℤ◌, ◌*ℤ◌, ap, sym, ◌∙◌, refl, arith}
use Rattle.std.proofs.Math.IntN.{zero-*ℤ, *ℤ_comm}
use Rattle.std.proofs.lemmas.Int.{ints}
use Rattle.std.proofs.lemmas.List.Elements.{All-tail, All-head}
use Rattle.linear_form.specs.declared.ranges.Interval.{Interval}
use Rattle.linear_form.specs.declared.row.RowTerm.{RowTerm}
use Rattle.linear_form.specs.Bounds.{Bounds}
use Rattle.linear_form.specs.Columns.{Extent, IsColumn, count_of, number_of}
use Rattle.linear_form.specs.Rows.{RowForm, HasEachOnce}
use Rattle.linear_form.proofs.ColumnLaws.{number-below}
use Rattle.number_laws.specs.SignedSums.{total_below, total_by, total_by_pairs}
use Rattle.number_laws.proofs.SignedSumLaws.{total_below-same, total_below-sum, total_below-difference, total_below-single, total_below-zeros}
use Rattle.dual_bound.specs.Conditions.{AreColumns}
use Rattle.dual_bound.specs.Dual.{factor_of, weight_of, most_in, range_at, dual_sum}
use Rattle.dual_bound.specs.Improving.{single}
use Rattle.dual_bound.specs.inside.Steps.{change_of}
use Rattle.dual_bound.proofs.CellLaws.{factor_in-here, factor_in-elsewhere}
use Rattle.dual_bound.proofs.FactorLaws.{apart-numbers, factor-elsewhere}

-- ---- a sum over columns that only the terms' columns change

factor-other : (extent : Extent) (j : ℕ) (term : RowTerm) (terms : List RowTerm) → number_of extent term.column ≢ j →
    factor_of extent j (term ∷ terms) ≡ factor_of extent j terms
factor-other extent j term terms elsewhere = let first = factor_in-elsewhere extent j term elsewhere in omega (arith, ints, first)

factor-first : (extent : Extent) (term : RowTerm) (terms : List RowTerm) → factor_of extent (number_of extent term.column) terms ≡ pos 0 →
    factor_of extent (number_of extent term.column) (term ∷ terms) ≡ term.factor
factor-first extent term terms none = let first = factor_in-here extent (number_of extent term.column) term refl in omega (arith, ints, first, none)

pub factors-sum : (extent : Extent) (change : ℕ → ℤ → ℤ) (terms : List RowTerm) → ((j : ℕ) → change j (pos 0) ≡ pos 0) → AreColumns extent terms →
    HasEachOnce terms →
    total_below (count_of extent) (λ j. change j (factor_of extent j terms)) ≡ total_by (λ term. change (number_of extent term.column) term.factor) terms
factors-sum extent change [] none columns once = total_below-zeros (count_of extent) (λ j. change j (pos 0)) (λ j below. none j)
factors-sum extent change (term ∷ terms) none columns once =
    let n = count_of extent in
    let i = number_of extent term.column in
    let there = All-head (λ (t : RowTerm). IsColumn extent t.column) term terms columns in
    let others = All-tail (λ (t : RowTerm). IsColumn extent t.column) term terms columns in
    let f = λ (j : ℕ). change j (factor_of extent j (term ∷ terms)) in
    let g = λ (j : ℕ). change j (factor_of extent j terms) in
    let rest = factors-sum extent change terms none others once.1 in
    let empty = factor-elsewhere extent i terms (apart-numbers extent term terms there others once.0) in
    let parts = total_below-difference n f g in
    let one = total_below-single n i (λ j. f j -ℤ g j) (number-below extent term.column there)
    (λ j below (elsewhere : j ≡ i → ⊥). let same = ap (change j) (factor-other extent j term terms (λ (e : i ≡ j). elsewhere (sym e))) in
    omega (arith, ints, same)) in
    let first = ap (change i) (factor-first extent term terms empty) in
    let nothing = ap (change i) empty ∙ none i in
    omega (arith, ints, rest, parts, one, first, nothing)

-- ---- multipliers of which at most one is not 0

pub pairs-zeros : {Y : Type 0} (f : ℕ → Y → ℤ) (n : ℕ) (ys : List Y) → ((y : Y) → f 0 y ≡ pos 0) → total_by_pairs f (replicate n 0) ys ≡ pos 0
pairs-zeros f zero ys none = refl
pairs-zeros f (suc n) [] none = refl
pairs-zeros f (suc n) (y ∷ ys) none = let first = none y in let rest = pairs-zeros f n ys none in omega (arith, ints, first, rest)

pub pairs-single : {Y : Type 0} (f : ℕ → Y → ℤ) (n r x : ℕ) (ys : List Y) (d : Y) → ((y : Y) → f 0 y ≡ pos 0) → r < n → r < length ys →
    total_by_pairs f (slice_set (replicate n 0) r x) ys ≡ f x (get_or ys r d)
pairs-single f zero r x ys d none first second = absurd (omega arith)
pairs-single f (suc n) r x [] d none first second = absurd (omega arith)
pairs-single f (suc n) zero x (y ∷ ys) d none first second = let rest = pairs-zeros f n ys none in omega (arith, ints, rest)
pairs-single f (suc n) (suc r) x (y ∷ ys) d none first second =
    let here = none y in
    let rest = pairs-single f n r x ys d none (omega arith) (omega arith) in
    omega (arith, ints, here, rest)

-- ---- the sum of one multiplier

pub change-none : (range : Interval) (weight : ℤ) (y : ℕ) → change_of range weight y (pos 0) ≡ pos 0
change-none range weight y =
    let times : pos y *ℤ pos 0 ≡ pos 0 = *ℤ_comm (pos y) (pos 0) ∙ zero-*ℤ (pos y) in
    let same : weight -ℤ (pos y *ℤ pos 0) ≡ weight = omega (arith, ints, times) in
    let equal = ap (most_in range) same in
    omega (arith, ints, equal)

weight-single : (extent : Extent) (rows : List RowForm) (objective : List RowTerm) (n r y : ℕ) (row : RowForm) → r < n → r < length rows →
    row ≡ get_or rows r row → (j : ℕ) →
    weight_of extent rows objective (single n r y) 1 j ≡ weight_of extent rows objective (replicate n 0) 1 j -ℤ (pos y *ℤ factor_of extent j row.terms)
weight-single extent rows objective n r y row first second is j =
    let f = λ (x : ℕ) (form : RowForm). pos x *ℤ factor_of extent j form.terms in
    let one = pairs-single f n r y rows row (λ form. zero-*ℤ (factor_of extent j form.terms)) first second in
    let none = pairs-zeros f n rows (λ form. zero-*ℤ (factor_of extent j form.terms)) in
    let last : f y (get_or rows r row) ≡ f y row = ap (f y) (sym is) in
    omega (arith, ints, one, none, last)

pub single-sum : (rows : List RowForm) (bounds : Bounds) (objective : List RowTerm) (n r y : ℕ) (row : RowForm) → r < n → r < length rows →
    row ≡ get_or rows r row →
    AreColumns bounds.extent row.terms → HasEachOnce row.terms →
    dual_sum rows bounds objective (single n r y) 1
    ≡ (dual_sum rows bounds objective (replicate n 0) 1 +ℤ (pos y *ℤ row.right))
    +ℤ total_by (λ term. change_of (range_at bounds (number_of bounds.extent term.column))
    (weight_of bounds.extent rows objective (replicate n 0) 1 (number_of bounds.extent term.column)) y term.factor) row.terms
single-sum rows bounds objective n r y row first second is columns once =
    let count = count_of bounds.extent in
    let z = λ (j : ℕ). weight_of bounds.extent rows objective (replicate n 0) 1 j in
    let w = λ (j : ℕ). weight_of bounds.extent rows objective (single n r y) 1 j in
    let change = λ (j : ℕ) (factor : ℤ). change_of (range_at bounds j) (z j) y factor in
    let rights = λ (x : ℕ) (form : RowForm). pos x *ℤ form.right in
    let one = pairs-single rights n r y rows row (λ form. zero-*ℤ form.right) first second in
    let none = pairs-zeros rights n rows (λ form. zero-*ℤ form.right) in
    let last : rights y (get_or rows r row) ≡ rights y row = ap (rights y) (sym is) in
    let each = total_below-same count (λ j. most_in (range_at bounds j) (w j))
    (λ j. most_in (range_at bounds j) (z j) +ℤ change j (factor_of bounds.extent j row.terms))
    (λ j below. let equal = ap (most_in (range_at bounds j)) (weight-single bounds.extent rows objective n r y row first second is j) in
    omega (arith, ints, equal)) in
    let parts = total_below-sum count (λ j. most_in (range_at bounds j) (z j)) (λ j. change j (factor_of bounds.extent j row.terms)) in
    let terms = factors-sum bounds.extent change row.terms (λ j. change-none (range_at bounds j) (z j) y) columns once in
    omega (arith, ints, one, none, last, each, parts, terms)
