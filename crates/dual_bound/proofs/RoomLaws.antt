-- The weights of a system have room in the ranges of their columns.
use Rattle.std.proofs.Common.{◌≡◌, ℕ, ◌+◌, ◌-◌, ◌*◌, ◌^◌, ◌<◌, ◌≤◌, List, length, get_or, All, ℤ, pos, ◌+ℤ◌, ◌-ℤ◌, ◌*ℤ◌, ap, ◌∙◌, arith, unsigned_abs, slice_index_or, take, drop}
use Rattle.std.proofs.lemmas.Int.{unsigned_abs-mul}
use Rattle.std.proofs.lemmas.List.{get_or-take, get_or-drop, length-take-le, length-drop}
use Rattle.std.proofs.lemmas.Nat.{mul-le}
use Rattle.linear_form.specs.declared.ranges.Interval.{Interval}
use Rattle.linear_form.specs.declared.row.RowTerm.{RowTerm}
use Rattle.linear_form.specs.Bounds.{Bounds, zero_alone}
use Rattle.linear_form.specs.Columns.{count_of, number_of}
use Rattle.linear_form.specs.Rows.{RowForm, HasEachOnce}
use Rattle.number_laws.specs.SignedSums.{total_below}
use Rattle.number_laws.proofs.SignedSumLaws.{abs-difference, total_below-abs, total_below-same, total_below-split}
use Rattle.dual_bound.specs.inside.Cells.{HaveRoom, Hold}
use Rattle.dual_bound.specs.Conditions.{reach_of, AreColumns, AreSmall, IsSystem, IsObjective, IsGuess}
use Rattle.dual_bound.specs.Dual.{factor_of, weighed_factor, weight_of, most_in, range_at}
use Rattle.dual_bound.specs.inside.Steps.{HaveMoreRoom}
use Rattle.dual_bound.proofs.EarnedLaws.{most_in-size}
use Rattle.dual_bound.proofs.FactorLaws.{factor-limit, weighed-limit}

abbrev reach_at : Bounds → ℕ → ℕ
reach_at bounds j = reach_of (range_at bounds j)

pub at-most : (bounds : Bounds) (terms : List RowTerm) → AreSmall bounds terms →
    All (λ term. unsigned_abs term.factor * reach_at bounds (number_of bounds.extent term.column) ≤ 2 ^ 60) terms
at-most bounds terms small = λ k d below. let here = small k d below in omega (arith, here)

rows-limit : (bounds : Bounds) (rows : List RowForm) → All (λ row. AreColumns bounds.extent row.terms) rows → All (λ row. AreSmall bounds row.terms) rows →
    All (λ row. HasEachOnce row.terms) rows →
    All (λ row. (j : ℕ) → unsigned_abs (factor_of bounds.extent j row.terms) * reach_at bounds j ≤ 2 ^ 60) rows
rows-limit bounds rows columns small once = λ k d below.
    let row = get_or rows k d in
    factor-limit bounds.extent (reach_at bounds) (2 ^ 60) row.terms (columns k d below) (once k d below) (at-most bounds row.terms (small k d below))

pub times-limit : (q : ℕ) (factor : ℤ) (s : ℕ) → q ≤ 2 ^ 32 → unsigned_abs factor * s ≤ 2 ^ 60 → unsigned_abs (pos q *ℤ factor) * s ≤ 2 ^ 32 * 2 ^ 60
times-limit q factor s few small =
    let size : unsigned_abs (pos q *ℤ factor) ≡ q * unsigned_abs factor = unsigned_abs-mul (pos q) factor in
    let product = mul-le q (unsigned_abs factor * s) (2 ^ 32) (2 ^ 60) few small in
    rw size (omega (arith, product))

pub difference-limit : (a b : ℤ) (s m n : ℕ) → unsigned_abs a * s ≤ m → unsigned_abs b * s ≤ n → unsigned_abs (a -ℤ b) * s ≤ m + n
difference-limit a b s m n first second =
    let size = abs-difference a b in
    let product : unsigned_abs (a -ℤ b) * s ≤ (unsigned_abs a + unsigned_abs b) * s =
    mul-le (unsigned_abs (a -ℤ b)) s (unsigned_abs a + unsigned_abs b) s size (omega arith) in
    omega (arith, product, first, second)

pub weight-room : (rows : List RowForm) (bounds : Bounds) (objective : List RowTerm) (ys : List ℕ) (q : ℕ) → IsSystem rows bounds →
    IsObjective bounds objective → IsGuess rows ys q →
    All (λ row. HasEachOnce row.terms) rows → (j : ℕ) → unsigned_abs (weight_of bounds.extent rows objective ys q j) * reach_at bounds j ≤ 2 ^ 103
weight-room rows bounds objective ys q system goals guess once j =
    let goal = times-limit q (factor_of bounds.extent j objective) (reach_at bounds j) guess.most
    (factor-limit bounds.extent (reach_at bounds) (2 ^ 60) objective goals.columns goals.once (at-most bounds objective goals.small) j) in
    let taken = weighed-limit bounds.extent (reach_at bounds) (2 ^ 60) ys rows guess.within
    (rows-limit bounds rows system.columns system.small_factors once) j in
    let both = difference-limit (pos q *ℤ factor_of bounds.extent j objective) (weighed_factor bounds.extent ys rows j) (reach_at bounds j) (2 ^ 32 * 2 ^ 60)
    (length rows * (2 ^ 32 * 2 ^ 60)) goal taken in
    omega (arith, both, system.few_rows)

pub columns-size : (rows : List RowForm) (bounds : Bounds) (objective : List RowTerm) (ys : List ℕ) (q n : ℕ) → IsSystem rows bounds →
    IsObjective bounds objective → IsGuess rows ys q →
    All (λ row. HasEachOnce row.terms) rows → unsigned_abs (total_below n (λ j. most_in (range_at bounds j) (weight_of bounds.extent rows objective ys q j)))
    ≤ n * 2 ^ 104
columns-size rows bounds objective ys q n system goals guess once =
    total_below-abs n (2 ^ 104) (λ j. most_in (range_at bounds j) (weight_of bounds.extent rows objective ys q j))
    (λ j below. most_in-size (range_at bounds j) (weight_of bounds.extent rows objective ys q j) (2 ^ 104)
    (let room = weight-room rows bounds objective ys q system goals guess once j in omega (arith, room)))

-- ---- the columns from one number up to another

part-at : {X : Type 0} (xs : List X) (from n k : ℕ) (d : X) → k < n → slice_index_or (take n (drop from xs)) k d ≡ slice_index_or xs (from + k) d
part-at xs from n k d below = get_or-take n (drop from xs) k d below ∙ get_or-drop from xs k d

part-length : {X : Type 0} (xs : List X) (from n : ℕ) → from + n ≤ length xs → length (take n (drop from xs)) ≡ n
part-length xs from n there = length-take-le n (drop from xs) (omega (arith, length-drop from xs))

pub block-room : (rows : List RowForm) (bounds : Bounds) (objective : List RowTerm) (ys : List ℕ) (q from n : ℕ) (weights : List ℤ) → IsSystem rows bounds →
    IsObjective bounds objective → IsGuess rows ys q →
    All (λ row. HasEachOnce row.terms) rows → from + n ≤ length bounds.ends → length weights ≡ n →
    Hold (λ k. weight_of bounds.extent rows objective ys q (from + k)) weights →
    HaveRoom (take n (drop from bounds.ends)) weights
block-room rows bounds objective ys q from n weights system goals guess once there as_many held = λ k below.
    let count = part-length bounds.ends from n there in
    let within : k < n = omega (arith, count) in
    let range = part-at bounds.ends from n k zero_alone within in
    let weight = held k (omega (arith, as_many)) in
    let room = weight-room rows bounds objective ys q system goals guess once (from + k) in
    rw (range, weight) (omega (arith, room))

pub block-value : (rows : List RowForm) (bounds : Bounds) (objective : List RowTerm) (ys : List ℕ) (q from n : ℕ) (weights : List ℤ) →
    from + n ≤ length bounds.ends → length weights ≡ n →
    Hold (λ k. weight_of bounds.extent rows objective ys q (from + k)) weights →
    total_below (length (take n (drop from bounds.ends)))
    (λ k. most_in (slice_index_or (take n (drop from bounds.ends)) k zero_alone) (slice_index_or weights k (pos 0)))
    ≡ total_below n (λ k. most_in (range_at bounds (from + k)) (weight_of bounds.extent rows objective ys q (from + k)))
block-value rows bounds objective ys q from n weights there as_many held =
    let part = take n (drop from bounds.ends) in
    ap (λ m. total_below m (λ k. most_in (slice_index_or part k zero_alone) (slice_index_or weights k (pos 0)))) (part-length bounds.ends from n there)
    ∙ total_below-same n (λ k. most_in (slice_index_or part k zero_alone) (slice_index_or weights k (pos 0)))
    (λ k. most_in (range_at bounds (from + k)) (weight_of bounds.extent rows objective ys q (from + k)))
    (λ k below. let range = part-at bounds.ends from n k zero_alone below in
    let weight = held k (omega (arith, as_many)) in
    ap (λ r. most_in r (slice_index_or weights k (pos 0))) range ∙ ap (most_in (range_at bounds (from + k))) weight)

pub blocks-more : (f : ℕ → ℤ) (from to : ℕ) → from ≤ to → total_below to f ≡ total_below from f +ℤ total_below (to - from) (λ k. f (from + k))
blocks-more f from to order = let e : from + (to - from) ≡ to = omega arith in let split = total_below-split from (to - from) f in rw e at split

-- ---- all columns at once

pub hold-from_zero : (f : ℕ → ℤ) (cells : List ℤ) → Hold (λ k. f (0 + k)) cells → Hold f cells
hold-from_zero f cells held = λ k within. let e : 0 + k ≡ k = omega arith in rw e at (held k within)

pub whole-room : (rows : List RowForm) (bounds : Bounds) (objective : List RowTerm) (ys : List ℕ) (q : ℕ) (weights : List ℤ) → IsSystem rows bounds →
    IsObjective bounds objective → IsGuess rows ys q →
    All (λ row. HasEachOnce row.terms) rows → length weights ≡ length bounds.ends → Hold (weight_of bounds.extent rows objective ys q) weights →
    HaveMoreRoom bounds.ends weights
whole-room rows bounds objective ys q weights system goals guess once as_many held = λ k below.
    rw (held k (omega (arith, as_many))) (weight-room rows bounds objective ys q system goals guess once k)

pub whole-value : (rows : List RowForm) (bounds : Bounds) (objective : List RowTerm) (ys : List ℕ) (q : ℕ) (weights : List ℤ) →
    length bounds.ends ≡ count_of bounds.extent → length weights ≡ length bounds.ends →
    Hold (weight_of bounds.extent rows objective ys q) weights →
    total_below (length bounds.ends) (λ k. most_in (slice_index_or bounds.ends k zero_alone) (slice_index_or weights k (pos 0)))
    ≡ total_below (count_of bounds.extent) (λ j. most_in (range_at bounds j) (weight_of bounds.extent rows objective ys q j))
whole-value rows bounds objective ys q weights count as_many held =
    ap (λ m. total_below m (λ k. most_in (slice_index_or bounds.ends k zero_alone) (slice_index_or weights k (pos 0)))) count
    ∙ total_below-same (count_of bounds.extent) (λ k. most_in (slice_index_or bounds.ends k zero_alone) (slice_index_or weights k (pos 0)))
    (λ j. most_in (range_at bounds j) (weight_of bounds.extent rows objective ys q j))
    (λ k below. ap (most_in (range_at bounds k)) (held k (omega (arith, as_many, count))))

pub less-room : (ranges : List Interval) (weights : List ℤ) → HaveMoreRoom ranges weights → HaveRoom ranges weights
less-room ranges weights more = λ k below. let room = more k below in omega (arith, room)
