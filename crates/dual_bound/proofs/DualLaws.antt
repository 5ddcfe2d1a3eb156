-- Weak duality.
use Rattle.std.proofs.Common.{◌≡◌, ℕ, ◌<◌, ◌≤◌, List, [], ◌∷◌, All, ℤ, pos, ◌+ℤ◌, ◌-ℤ◌, ◌*ℤ◌, ◌≤ℤ◌, ◌<ℤ◌, ap, sym, ◌∙◌, refl, arith}
use Rattle.std.proofs.Math.IntN.{zero-*ℤ}
use Rattle.std.proofs.lemmas.Int.{ints}
use Rattle.std.proofs.lemmas.List.Elements.{All-head, All-tail}
use Rattle.linear_form.specs.declared.row.RowTerm.{RowTerm}
use Rattle.linear_form.specs.Bounds.{Bounds, range_of}
use Rattle.linear_form.specs.Columns.{Extent, IsColumn, count_of, number_of, column_at}
use Rattle.linear_form.specs.Points.{Point, term_at, value_at, IsMet, MeetsRows, LiesIn}
use Rattle.linear_form.specs.Rows.{RowForm}
use Rattle.linear_form.proofs.ColumnLaws.{number-below, number-back, column-there, column-again}
use Rattle.number_laws.specs.Floors.{floor_of}
use Rattle.number_laws.specs.SignedSums.{total_below, total_by_pairs}
use Rattle.number_laws.proofs.FloorLaws.{floors_are_greatest}
use Rattle.number_laws.proofs.ProductLaws.{sum-product, difference-product, product-assoc, product-monotone}
use Rattle.number_laws.proofs.SignedSumLaws.{total_below-same, total_below-le, total_below-sum, total_below-difference, total_below-scaled, total_below-zeros, total_below-single}
use Rattle.dual_bound.specs.Conditions.{AreColumns, BoundsPoints, HasNoPoint, IsWithin, BoundsNarrower}
use Rattle.dual_bound.specs.Dual.{factor_in, factor_of, weighed_factor, weighed_right, weight_of, most_in, range_at, dual_sum, dual_value, emptiness_sum}
use Rattle.dual_bound.proofs.CellLaws.{factor_in-here, factor_in-elsewhere}
use Rattle.dual_bound.proofs.EarnedLaws.{most_in-above, most_in-narrower}

-- ---- a sum over the columns is the sum over the terms

term-sum : (extent : Extent) (point : Point) (term : RowTerm) → IsColumn extent term.column →
    total_below (count_of extent) (λ j. factor_in extent j term *ℤ point (column_at extent j)) ≡ term_at point term
term-sum extent point term there =
    let f = λ (j : ℕ). factor_in extent j term *ℤ point (column_at extent j) in
    let single = total_below-single (count_of extent) (number_of extent term.column) f (number-below extent term.column there)
    (λ k below (elsewhere : k ≡ number_of extent term.column → ⊥).
    ap (λ (z : ℤ). z *ℤ point (column_at extent k)) (factor_in-elsewhere extent k term (λ (same : number_of extent term.column ≡ k). elsewhere (sym same)))
    ∙ zero-*ℤ (point (column_at extent k))) in
    let factor = ap (λ (z : ℤ). z *ℤ point (column_at extent (number_of extent term.column)))
    (factor_in-here extent (number_of extent term.column) term refl) in
    let column = ap (λ c. term.factor *ℤ point c) (number-back extent term.column there) in
    single ∙ (factor ∙ column)

pub terms-sum : (extent : Extent) (point : Point) (terms : List RowTerm) → AreColumns extent terms →
    total_below (count_of extent) (λ j. factor_of extent j terms *ℤ point (column_at extent j)) ≡ value_at terms point
terms-sum extent point [] columns =
    total_below-zeros (count_of extent) (λ j. pos 0 *ℤ point (column_at extent j)) (λ j below. zero-*ℤ (point (column_at extent j)))
terms-sum extent point (term ∷ terms) columns =
    let n = count_of extent in
    let x = λ (j : ℕ). point (column_at extent j) in
    let split = total_below-same n (λ j. (factor_in extent j term +ℤ factor_of extent j terms) *ℤ x j)
    (λ j. (factor_in extent j term *ℤ x j) +ℤ (factor_of extent j terms *ℤ x j))
    (λ j below. sum-product (factor_in extent j term) (factor_of extent j terms) (x j)) in
    let parts = total_below-sum n (λ j. factor_in extent j term *ℤ x j) (λ j. factor_of extent j terms *ℤ x j) in
    let first = term-sum extent point term (All-head (λ (t : RowTerm). IsColumn extent t.column) term terms columns) in
    let rest = terms-sum extent point terms (All-tail (λ (t : RowTerm). IsColumn extent t.column) term terms columns) in
    omega (arith, ints, split, parts, first, rest)

-- the rows' values at a point, each by its multiplier
abbrev rows_at : Point → List ℕ → List RowForm → ℤ
rows_at point ys rows = total_by_pairs (λ y row. pos y *ℤ value_at row.terms point) ys rows

pub rows-sum : (extent : Extent) (point : Point) (ys : List ℕ) (rows : List RowForm) → All (λ row. AreColumns extent row.terms) rows →
    total_below (count_of extent) (λ j. weighed_factor extent ys rows j *ℤ point (column_at extent j)) ≡ rows_at point ys rows
rows-sum extent point [] rows columns =
    total_below-zeros (count_of extent) (λ j. pos 0 *ℤ point (column_at extent j)) (λ j below. zero-*ℤ (point (column_at extent j)))
rows-sum extent point (y ∷ ys) [] columns =
    total_below-zeros (count_of extent) (λ j. pos 0 *ℤ point (column_at extent j)) (λ j below. zero-*ℤ (point (column_at extent j)))
rows-sum extent point (y ∷ ys) (row ∷ rows) columns =
    let n = count_of extent in
    let x = λ (j : ℕ). point (column_at extent j) in
    let f = λ (j : ℕ). factor_of extent j row.terms in
    let w = λ (j : ℕ). weighed_factor extent ys rows j in
    let split = total_below-same n (λ j. ((pos y *ℤ f j) +ℤ w j) *ℤ x j) (λ j. (pos y *ℤ (f j *ℤ x j)) +ℤ (w j *ℤ x j))
    (λ j below. sum-product (pos y *ℤ f j) (w j) (x j) ∙ ap (λ (z : ℤ). z +ℤ (w j *ℤ x j)) (product-assoc (pos y) (f j) (x j))) in
    let parts = total_below-sum n (λ j. pos y *ℤ (f j *ℤ x j)) (λ j. w j *ℤ x j) in
    let scaled = total_below-scaled n (pos y) (λ j. f j *ℤ x j) in
    let first = ap (λ (z : ℤ). pos y *ℤ z) (terms-sum extent point row.terms (All-head (λ (r : RowForm). AreColumns extent r.terms) row rows columns)) in
    let rest = rows-sum extent point ys rows (All-tail (λ (r : RowForm). AreColumns extent r.terms) row rows columns) in
    omega (arith, ints, split, parts, scaled, first, rest)

rows-below : (point : Point) (ys : List ℕ) (rows : List RowForm) → MeetsRows rows point → rows_at point ys rows ≤ℤ weighed_right ys rows
rows-below point [] rows met = omega (arith, ints)
rows-below point (y ∷ ys) [] met = omega (arith, ints)
rows-below point (y ∷ ys) (row ∷ rows) met =
    let first = product-monotone y (value_at row.terms point) row.right (All-head (IsMet point) row rows met) in
    let rest = rows-below point ys rows (All-tail (IsMet point) row rows met) in
    omega (arith, ints, first, rest)

-- ---- the weights at a point

weights-sum : (extent : Extent) (rows : List RowForm) (objective : List RowTerm) (ys : List ℕ) (q : ℕ) (point : Point) →
    All (λ row. AreColumns extent row.terms) rows → AreColumns extent objective →
    total_below (count_of extent) (λ j. weight_of extent rows objective ys q j *ℤ point (column_at extent j))
    ≡ (pos q *ℤ value_at objective point) -ℤ rows_at point ys rows
weights-sum extent rows objective ys q point columns goals =
    let n = count_of extent in
    let x = λ (j : ℕ). point (column_at extent j) in
    let g = λ (j : ℕ). factor_of extent j objective in
    let w = λ (j : ℕ). weighed_factor extent ys rows j in
    let split = total_below-same n (λ j. ((pos q *ℤ g j) -ℤ w j) *ℤ x j) (λ j. (pos q *ℤ (g j *ℤ x j)) -ℤ (w j *ℤ x j))
    (λ j below. difference-product (pos q *ℤ g j) (w j) (x j) ∙ ap (λ (z : ℤ). z -ℤ (w j *ℤ x j)) (product-assoc (pos q) (g j) (x j))) in
    let parts = total_below-difference n (λ j. pos q *ℤ (g j *ℤ x j)) (λ j. w j *ℤ x j) in
    let scaled = total_below-scaled n (pos q) (λ j. g j *ℤ x j) in
    let first = ap (λ (z : ℤ). pos q *ℤ z) (terms-sum extent point objective goals) in
    let second = rows-sum extent point ys rows columns in
    omega (arith, ints, split, parts, scaled, first, second)

weights-below : (bounds : Bounds) (rows : List RowForm) (objective : List RowTerm) (ys : List ℕ) (q : ℕ) (point : Point) → bounds.extent.ops ≤ 255 →
    LiesIn bounds point →
    total_below (count_of bounds.extent) (λ j. weight_of bounds.extent rows objective ys q j *ℤ point (column_at bounds.extent j))
    ≤ℤ total_below (count_of bounds.extent) (λ j. most_in (range_at bounds j) (weight_of bounds.extent rows objective ys q j))
weights-below bounds rows objective ys q point few inside =
    total_below-le (count_of bounds.extent) (λ j. weight_of bounds.extent rows objective ys q j *ℤ point (column_at bounds.extent j))
    (λ j. most_in (range_at bounds j) (weight_of bounds.extent rows objective ys q j))
    (λ j below. let column = column_at bounds.extent j in
    let ends = inside column (column-there bounds.extent j below) in
    let same : range_of bounds column ≡ range_at bounds j = ap (range_at bounds) (column-again bounds.extent j few below) in
    most_in-above (weight_of bounds.extent rows objective ys q j) (range_at bounds j).lo (range_at bounds j).hi (point column) (rw same at ends.0)
    (rw same at ends.1))

-- the objective of a point, q times, is at most the sum
pub sum-above : (rows : List RowForm) (bounds : Bounds) (objective : List RowTerm) (ys : List ℕ) (q : ℕ) (point : Point) → bounds.extent.ops ≤ 255 →
    All (λ row. AreColumns bounds.extent row.terms) rows → AreColumns bounds.extent objective → MeetsRows rows point → LiesIn bounds point →
    (pos q *ℤ value_at objective point) ≤ℤ dual_sum rows bounds objective ys q
sum-above rows bounds objective ys q point few columns goals met inside =
    let whole = weights-sum bounds.extent rows objective ys q point columns goals in
    let most = weights-below bounds rows objective ys q point few inside in
    let rights = rows-below point ys rows met in
    omega (arith, ints, whole, most, rights)

pub value-bounds_points : (rows : List RowForm) (bounds : Bounds) (objective : List RowTerm) (ys : List ℕ) (q : ℕ) → bounds.extent.ops ≤ 255 → 0 < q →
    All (λ row. AreColumns bounds.extent row.terms) rows → AreColumns bounds.extent objective →
    BoundsPoints rows bounds objective (dual_value rows bounds objective ys q)
value-bounds_points rows bounds objective ys q few some columns goals = λ point met inside.
    (floors_are_greatest (dual_sum rows bounds objective ys q) q some).greatest (value_at objective point)
    (sum-above rows bounds objective ys q point few columns goals met inside)

pub negative-has_no_point : (rows : List RowForm) (bounds : Bounds) (ys : List ℕ) → bounds.extent.ops ≤ 255 →
    All (λ row. AreColumns bounds.extent row.terms) rows → emptiness_sum rows bounds ys <ℤ pos 0 → HasNoPoint rows bounds
negative-has_no_point rows bounds ys few columns negative = λ point met inside.
    let above = sum-above rows bounds [] ys 1 point few columns (λ k d below. absurd (omega arith)) met inside in
    omega (arith, ints, above, negative)

-- ---- narrower ranges

floor-le : (a b : ℤ) (q : ℕ) → 0 < q → a ≤ℤ b → floor_of a q ≤ℤ floor_of b q
floor-le a b q some less =
    let below = (floors_are_greatest a q some).below in
    (floors_are_greatest b q some).greatest (floor_of a q) (omega (arith, ints, below, less))

narrower-same : (rows : List RowForm) (inner outer : Bounds) (objective : List RowTerm) (ys : List ℕ) (q : ℕ) → outer.extent.ops ≤ 255 → IsWithin inner outer →
    total_below (count_of outer.extent) (λ j. most_in (range_at inner j) (weight_of outer.extent rows objective ys q j))
    ≤ℤ total_below (count_of outer.extent) (λ j. most_in (range_at outer j) (weight_of outer.extent rows objective ys q j))
narrower-same rows inner outer objective ys q few within =
    total_below-le (count_of outer.extent) (λ j. most_in (range_at inner j) (weight_of outer.extent rows objective ys q j))
    (λ j. most_in (range_at outer j) (weight_of outer.extent rows objective ys q j))
    (λ j below. let column = column_at outer.extent j in
    let ends = within.inside column (column-there outer.extent j below) in
    let number = column-again outer.extent j few below in
    let outside : range_of outer column ≡ range_at outer j = ap (range_at outer) number in
    let inside : range_of inner column ≡ range_at inner j = ap (λ extent. range_at inner (number_of extent column)) within.same_columns
    ∙ ap (range_at inner) number in
    most_in-narrower (weight_of outer.extent rows objective ys q j) (range_at inner j) (range_at outer j) (rw (outside, inside) at ends.0)
    (rw inside at ends.1) (rw (outside, inside) at ends.2))

pub value-bounds_narrower : (rows : List RowForm) (bounds : Bounds) (objective : List RowTerm) (ys : List ℕ) (q : ℕ) → bounds.extent.ops ≤ 255 → 0 < q →
    BoundsNarrower rows bounds objective ys q (dual_value rows bounds objective ys q)
value-bounds_narrower rows bounds objective ys q few some = λ inner within.
    let parts = narrower-same rows inner bounds objective ys q few within in
    let same : dual_sum rows inner objective ys q ≡ weighed_right ys rows
    +ℤ total_below (count_of bounds.extent) (λ j. most_in (range_at inner j) (weight_of bounds.extent rows objective ys q j)) =
    ap (λ extent. weighed_right ys rows +ℤ total_below (count_of extent) (λ j. most_in (range_at inner j) (weight_of extent rows objective ys q j)))
    within.same_columns in
    floor-le (dual_sum rows inner objective ys q) (dual_sum rows bounds objective ys q) q some (omega (arith, ints, parts, same))
