-- Laws of the cells in which amounts lie.
use Rattle.std.proofs.Common.{◌≡◌, ℕ, zero, suc, ◌+◌, ◌-◌, ◌^◌, ◌<◌, ◌≤◌, List, [], ◌∷◌, ◌++◌, length, take, drop, set, sum, replicate, sym, ap, ◌∙◌, refl, arith}
use Rattle.std.proofs.lemmas.List.{take_at, drop_at, drop-set-lt, length-set, length-append, length-drop, length-replicate, replicate-append-replicate}
use Rattle.std.proofs.lemmas.List.Folds.{sum_by-replicate}
use Rattle.crude_amounts.specs.Cells.{cells_with, amounts_in, AreCells}

-- twelve empty cells
abbrev pub zeros : List ℕ
zeros = 0 ∷ 0 ∷ 0 ∷ 0 ∷ 0 ∷ 0 ∷ 0 ∷ 0 ∷ 0 ∷ 0 ∷ 0 ∷ 0 ∷ []

zeros_split : (count : ℕ) → count ≤ 12 → zeros ≡ replicate count 0 ++ replicate (12 - count) 0
zeros_split count most =
    let whole : replicate 12 0 ≡ zeros = refl in
    let back : 12 ≡ count + (12 - count) = omega arith in
    sym whole ∙ ap (λ n. replicate n 0) back ∙ sym (replicate-append-replicate count (12 - count) 0)

pub amounts_in-zeros : (count : ℕ) → count ≤ 12 → take count zeros ≡ replicate count 0
amounts_in-zeros count most =
    ap (take count) (zeros_split count most) ∙ take_at (replicate count 0) (replicate (12 - count) 0) count (length-replicate count 0)

pub zeros_are_cells : (count : ℕ) → 1 ≤ count → count ≤ 12 → AreCells (cells_with count zeros)
zeros_are_cells count some most = record {
  cells = refl;
  some = some;
  most = most;
  unused = ap (drop count) (zeros_split count most) ∙ drop_at (replicate count 0) (replicate (12 - count) 0) count (length-replicate count 0);
  total = (let none = ap sum (amounts_in-zeros count most) ∙ sum_by-replicate (λ (x : ℕ). x) count 0 in omega arith);
}

-- a write among the first n is one to the first n
take-set_within : {X : Type 0} (n : ℕ) (xs : List X) (i : ℕ) (x : X) → i < n → take n (set xs i x) ≡ set (take n xs) i x
take-set_within zero xs i x within = absurd (omega arith)
take-set_within (suc n) [] i x within = refl
take-set_within (suc n) (y ∷ xs) zero x within = refl
take-set_within (suc n) (y ∷ xs) (suc i) x within = ap (λ rest. y ∷ rest) (take-set_within n xs i x (omega arith))

-- one amount is written
pub amounts_in-set : (count : ℕ) (cells : List ℕ) (c amount : ℕ) → c < count → amounts_in (cells_with count (set cells c amount))
    ≡ set (amounts_in (cells_with count cells)) c amount
amounts_in-set count cells c amount within = take-set_within count cells c amount within

pub set_are_cells : (count : ℕ) (cells : List ℕ) (c amount : ℕ) → AreCells (cells_with count cells) → c < count →
    sum (set (amounts_in (cells_with count cells)) c amount) ≤ 2 ^ 40 → AreCells (cells_with count (set cells c amount))
set_are_cells count cells c amount are within few = record {
  cells = length-set cells c amount ∙ are.cells;
  some = are.some;
  most = are.most;
  unused = drop-set-lt count cells c amount within ∙ are.unused;
  total = (let same = ap sum (amounts_in-set count cells c amount within) in omega arith);
}

-- all amounts are written
pub amounts_in-front : (count : ℕ) (cells front : List ℕ) → length front ≡ count → amounts_in (cells_with count (front ++ drop count cells)) ≡ front
amounts_in-front count cells front whole = take_at front (drop count cells) count whole

pub front_are_cells : (count : ℕ) (cells front : List ℕ) → AreCells (cells_with count cells) → length front ≡ count → sum front ≤ 2 ^ 40 →
    AreCells (cells_with count (front ++ drop count cells))
front_are_cells count cells front are whole few = record {
  cells = (let cells_count : length cells ≡ 12 = are.cells in let most : count ≤ 12 = are.most in
      omega (arith, length-append front (drop count cells), length-drop count cells));
  some = are.some;
  most = are.most;
  unused = drop_at front (drop count cells) count whole ∙ are.unused;
  total = (let same = ap sum (amounts_in-front count cells front whole) in omega arith);
}
