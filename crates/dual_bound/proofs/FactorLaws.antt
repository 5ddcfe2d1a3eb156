-- How large the factor of a column can be.
use Rattle.std.proofs.Common.{◌≡◌, ◌≢◌, ℕ, suc, zero, ◌+◌, ◌*◌, ◌^◌, ◌≤◌, List, [], ◌∷◌, length, take, get_or, ℤ, pos, neg_ℤ, ◌+ℤ◌, ◌*ℤ◌, inl, inr, refl, arith, unsigned_abs, All}
use Rattle.std.proofs.lemmas.Bool.{cases_eq}
use Rattle.std.proofs.lemmas.Int.{ints, unsigned_abs-mul}
use Rattle.std.proofs.lemmas.List.{length-take-le}
use Rattle.std.proofs.lemmas.Nat.{mul-le}
use Rattle.std.proofs.lemmas.List.Elements.{All-head, All-tail, All-take}
use Rattle.linear_form.specs.declared.row.RowTerm.{RowTerm}
use Rattle.linear_form.specs.Columns.{Extent, IsColumn, number_of}
use Rattle.linear_form.specs.Rows.{RowForm, HasEachOnce}
use Rattle.linear_form.specs.declared.column.Part.TheVariants.{Z}
use Rattle.linear_form.proofs.ColumnLaws.{number-same}
use Rattle.number_laws.proofs.SignedSumLaws.{abs-sum, abs-negative}
use Rattle.dual_bound.specs.inside.Cells.{Adds, AreWithin, HasSmallFactors}
use Rattle.dual_bound.specs.Conditions.{AreColumns}
use Rattle.dual_bound.specs.Dual.{factor_of, weighed_factor}
use Rattle.dual_bound.proofs.CellLaws.{factor_in-here, factor_in-elsewhere, adds-within}
use Rattle.dual_bound.proofs.StoredNumbers.{abs-product}

-- no term: what is read past the last one
abbrev pub no_term : RowTerm
no_term = record { column = record { slot = 0; entry = 0; part = Z }; factor = pos 0 }

-- no term has the number
pub factor-elsewhere : (extent : Extent) (j : ℕ) (terms : List RowTerm) → All (λ term. number_of extent term.column ≢ j) terms →
    factor_of extent j terms ≡ pos 0
factor-elsewhere extent j [] elsewhere = refl
factor-elsewhere extent j (term ∷ terms) elsewhere =
    let first = factor_in-elsewhere extent j term (All-head (λ (t : RowTerm). number_of extent t.column ≢ j) term terms elsewhere) in
    let rest = factor-elsewhere extent j terms (All-tail (λ (t : RowTerm). number_of extent t.column ≢ j) term terms elsewhere) in
    omega (arith, ints, first, rest)

-- terms of other columns have other numbers
pub apart-numbers : (extent : Extent) (term : RowTerm) (terms : List RowTerm) → IsColumn extent term.column → AreColumns extent terms →
    All (λ other. other.column ≢ term.column) terms → All (λ other. number_of extent other.column ≢ number_of extent term.column) terms
apart-numbers extent term terms there columns apart = λ k d below same.
    apart k d below (number-same extent (get_or terms k d).column term.column (columns k d below) there same)

pub once-take : (n : ℕ) (terms : List RowTerm) → HasEachOnce terms → HasEachOnce (take n terms)
once-take zero terms once = tt
once-take (suc n) [] once = tt
once-take (suc n) (term ∷ terms) once = (All-take (λ (other : RowTerm). other.column ≢ term.column) n terms once.0, once-take n terms once.1)

-- where each column stands once, its factor is that of one term, or 0
pub factor-limit : (extent : Extent) (scale : ℕ → ℕ) (limit : ℕ) (terms : List RowTerm) → AreColumns extent terms → HasEachOnce terms →
    All (λ term. unsigned_abs term.factor * scale (number_of extent term.column) ≤ limit) terms → (j : ℕ) →
    unsigned_abs (factor_of extent j terms) * scale j ≤ limit
factor-limit extent scale limit [] columns once small j = omega arith
factor-limit extent scale limit (term ∷ terms) columns once small j =
    let P = λ (t : RowTerm). unsigned_abs t.factor * scale (number_of extent t.column) ≤ limit in
    let there = All-head (λ (t : RowTerm). IsColumn extent t.column) term terms columns in
    let others = All-tail (λ (t : RowTerm). IsColumn extent t.column) term terms columns in
    let rest = factor-limit extent scale limit terms others once.1 (All-tail P term terms small) j in
    elim (cases_eq (number_of extent term.column) j) [
      | inl here ↦ let numbers = apart-numbers extent term terms there others once.0 in
          let none : factor_of extent j terms ≡ pos 0 = factor-elsewhere extent j terms (rw here at numbers) in
          let whole : factor_of extent j (term ∷ terms) ≡ term.factor = let first = factor_in-here extent j term here in omega (arith, ints, first, none) in
          rw whole (rw here at (All-head P term terms small))
      | inr elsewhere ↦ let whole : factor_of extent j (term ∷ terms) ≡ factor_of extent j terms = let first = factor_in-elsewhere extent j term elsewhere in
          omega (arith, ints, first) in
          rw whole rest
    ]

-- ---- factors of many rows

scaled-le : (a m s : ℕ) → a ≤ m → a * s ≤ m * s
scaled-le a m s less = grind arith

times-le : (y m x n : ℕ) → y ≤ m → x ≤ n → y * x ≤ m * n
times-le y m x n first second = mul-le y x m n first second

weighed-step : (y : ℕ) (factor rest : ℤ) (s limit n : ℕ) → y ≤ 2 ^ 32 → unsigned_abs factor * s ≤ limit → unsigned_abs rest * s ≤ n * (2 ^ 32 * limit) →
    unsigned_abs ((pos y *ℤ factor) +ℤ rest) * s ≤ suc n * (2 ^ 32 * limit)
weighed-step y factor rest s limit n most small others =
    let size : unsigned_abs (pos y *ℤ factor) ≡ y * unsigned_abs factor = unsigned_abs-mul (pos y) factor in
    let sum = scaled-le (unsigned_abs ((pos y *ℤ factor) +ℤ rest)) (y * unsigned_abs factor + unsigned_abs rest) s
    (omega (arith, size, abs-sum (pos y *ℤ factor) rest)) in
    let first = times-le y (2 ^ 32) (unsigned_abs factor * s) limit most small in
    omega (arith, sum, first, others)

pub weighed-limit : (extent : Extent) (scale : ℕ → ℕ) (limit : ℕ) (ys : List ℕ) (rows : List RowForm) → All (λ y. y ≤ 2 ^ 32) ys →
    All (λ row. (j : ℕ) → unsigned_abs (factor_of extent j row.terms) * scale j ≤ limit) rows → (j : ℕ) →
    unsigned_abs (weighed_factor extent ys rows j) * scale j ≤ length rows * (2 ^ 32 * limit)
weighed-limit extent scale limit [] rows within small j = omega arith
weighed-limit extent scale limit (y ∷ ys) [] within small j = omega arith
weighed-limit extent scale limit (y ∷ ys) (row ∷ rows) within small j =
    let P = λ (form : RowForm). (k : ℕ) → unsigned_abs (factor_of extent k form.terms) * scale k ≤ limit in
    let rest = weighed-limit extent scale limit ys rows (All-tail (λ (n : ℕ). n ≤ 2 ^ 32) y ys within) (All-tail P row rows small) j in
    let first : unsigned_abs (factor_of extent j row.terms) * scale j ≤ limit = All-head P row rows small j in
    let most : y ≤ 2 ^ 32 = All-head (λ (n : ℕ). n ≤ 2 ^ 32) y ys within in
    weighed-step y (factor_of extent j row.terms) (weighed_factor extent ys rows j) (scale j) limit (length rows) most first rest

-- ---- the first terms, and the first rows

unscaled : (terms : List RowTerm) → All (λ term. unsigned_abs term.factor ≤ 2 ^ 63) terms → All (λ term. unsigned_abs term.factor * 1 ≤ 2 ^ 63) terms
unscaled terms small = λ k d below. let here = small k d below in omega (arith, here)

pub prefix-small : (extent : Extent) (i : ℕ) (terms : List RowTerm) → AreColumns extent terms → HasEachOnce terms →
    All (λ term. unsigned_abs term.factor ≤ 2 ^ 63) (take i terms) → (j : ℕ) → unsigned_abs (factor_of extent j (take i terms)) ≤ 2 ^ 63
prefix-small extent i terms columns once small j =
    let limit = factor-limit extent (λ (n : ℕ). 1) (2 ^ 63) (take i terms) (All-take (λ (t : RowTerm). IsColumn extent t.column) i terms columns)
    (once-take i terms once)
    (unscaled (take i terms) small) j in
    omega (arith, limit)

pub prefix-within : (extent : Extent) (times : ℤ) (from i : ℕ) (terms : List RowTerm) (old new : List ℤ) → AreColumns extent terms → HasEachOnce terms →
    All (λ term. unsigned_abs term.factor ≤ 2 ^ 63) (take i terms) → unsigned_abs times ≤ 2 ^ 32 → AreWithin (2 ^ 125) old →
    Adds (λ k. times *ℤ factor_of extent (from + k) (take i terms)) old new → AreWithin (2 ^ 126) new
prefix-within extent times from i terms old new columns once small few room added =
    adds-within (λ k. times *ℤ factor_of extent (from + k) (take i terms)) old new (2 ^ 125) (2 ^ 32 * 2 ^ 63) (2 ^ 126) added room
    (λ k. abs-product times (factor_of extent (from + k) (take i terms)) (2 ^ 32) (2 ^ 63) few (prefix-small extent i terms columns once small (from + k)))
    (omega arith)

each-small : (extent : Extent) (rows : List RowForm) → All (λ row. HasSmallFactors extent row.terms) rows →
    All (λ row. (j : ℕ) → unsigned_abs (factor_of extent j row.terms) * 1 ≤ 2 ^ 63) rows
each-small extent rows small = λ k d below j. let here = small k d below j in omega (arith, here)

pub rows-within : (extent : Extent) (from r : ℕ) (ys : List ℕ) (rows : List RowForm) (old new : List ℤ) → All (λ y. y ≤ 2 ^ 32) ys → r ≤ 512 → r ≤ length rows →
    All (λ row. HasSmallFactors extent row.terms) (take r rows) → AreWithin (2 ^ 95) old →
    Adds (λ k. neg_ℤ (weighed_factor extent (take r ys) (take r rows) (from + k))) old new → AreWithin (2 ^ 125) new
rows-within extent from r ys rows old new within few there small room added =
    adds-within (λ k. neg_ℤ (weighed_factor extent (take r ys) (take r rows) (from + k))) old new (2 ^ 95) (512 * (2 ^ 32 * 2 ^ 63)) (2 ^ 125) added room
    (λ k. let limit = weighed-limit extent (λ (n : ℕ). 1) (2 ^ 63) (take r ys) (take r rows) (All-take (λ (n : ℕ). n ≤ 2 ^ 32) r ys within)
    (each-small extent (take r rows) small) (from + k) in
    let size = abs-negative (weighed_factor extent (take r ys) (take r rows) (from + k)) in
    let count = length-take-le r rows there in
    omega (arith, limit, size, count))
    (omega arith)
