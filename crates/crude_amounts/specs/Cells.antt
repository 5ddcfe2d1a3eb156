-- How amounts lie in their cells, as many as a plant has crudes at most.
use Rattle.std.specs.Prelude.{◌≡◌, ℕ, ◌-◌, ◌≤◌, ◌^◌, List, ◌++◌, length, take, drop, sum, replicate}
use Rattle.std.proofs.Common.{sym, ap, ◌∙◌, arith}
use Rattle.std.proofs.lemmas.List.{length-take-le, take-append-drop}
use Rattle.limits.specs.declared.TheConstants.{MOST_AMOUNT, MOST_CRUDES}
use Rattle.crude_amounts.specs.declared.amounts.Amounts.TheInside.{Inside}

-- the amounts stand in the first cells
abbrev pub amounts_in : Inside → List ℕ
amounts_in inside = take inside.count inside.cells

-- no cell past the amounts is used
pub record AreCells (inside : Inside) : Type 0 where
  pub cells : length inside.cells ≡ MOST_CRUDES
  pub some : 1 ≤ inside.count
  pub most : inside.count ≤ MOST_CRUDES
  pub unused : drop inside.count inside.cells ≡ replicate (MOST_CRUDES - inside.count) 0
  pub total : sum (amounts_in inside) ≤ MOST_AMOUNT

-- the amounts, with nothing in the cells past them
abbrev pub cells_of : List ℕ → Inside
cells_of amounts = record { count = length amounts; cells = amounts ++ replicate (MOST_CRUDES - length amounts) 0 }

-- so many amounts in these cells
abbrev pub cells_with : ℕ → List ℕ → Inside
cells_with count cells = record { count = count; cells = cells }

-- the cells come back
pub cells_of-amounts_in : (inside : Inside) → AreCells inside → cells_of (amounts_in inside) ≡ inside
cells_of-amounts_in inside are =
    let count : length (amounts_in inside) ≡ inside.count = length-take-le inside.count inside.cells (omega arith) in
    let cells : amounts_in inside ++ replicate (MOST_CRUDES - length (amounts_in inside)) 0 ≡ inside.cells =
    ap (λ (n : ℕ). amounts_in inside ++ replicate (MOST_CRUDES - n) 0) count
    ∙ ap (λ (rest : List ℕ). amounts_in inside ++ rest) (sym are.unused)
    ∙ take-append-drop inside.count inside.cells in
    ap (λ (n : ℕ). cells_with n (amounts_in inside ++ replicate (MOST_CRUDES - length (amounts_in inside)) 0)) count
    ∙ ap (cells_with inside.count) cells
