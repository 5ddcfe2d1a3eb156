-- What a number chooses: the ranges that it lies in, and the cases that its counts are.
use Rattle.std.proofs.Common.{◌≡◌, ℕ, zero, suc, ◌<◌, ◌≤◌, true, arith}
use Rattle.std.specs.Prelude.{pos}
use Rattle.std.proofs.lemmas.Int.{ints}
use Rattle.plant_model.specs.Faults.{is_within}
use Rattle.plant_maker.specs.Choices.{Choices, choices_of}

-- what is chosen lies in these ranges
pub record IsInRange (choices : Choices) : Type 0 where
  pub least_horizon : 7200 ≤ choices.horizon
  pub most_horizon : choices.horizon ≤ 14400
  pub least_crudes : 2 ≤ choices.crudes
  pub most_crudes : choices.crudes ≤ 4
  pub least_vessels : 1 ≤ choices.vessels
  pub most_vessels : choices.vessels ≤ 3
  pub least_storage : 2 ≤ choices.storage
  pub most_storage : choices.storage ≤ 3
  pub margin : (crude : ℕ) → choices.margin crude ≤ 20
  pub sulphur : (crude : ℕ) → choices.sulphur crude ≤ 59
  pub cargo : (vessel : ℕ) → choices.cargo vessel ≤ 500000
  pub stock : (tank : ℕ) → choices.stock tank ≤ 200000

pub choices_in_range : (number : ℕ) → IsInRange (choices_of number)
unfolding choices_of
choices_in_range number = record {
  least_horizon = omega arith;
  most_horizon = omega arith;
  least_crudes = omega arith;
  most_crudes = omega arith;
  least_vessels = omega arith;
  most_vessels = omega arith;
  least_storage = omega arith;
  most_storage = omega arith;
  margin = λ crude. omega arith;
  sulphur = λ crude. omega arith;
  cargo = λ vessel. omega arith;
  stock = λ tank. omega arith;
}

pub within : (low n high : ℕ) → low ≤ n → n ≤ high → is_within (pos low) (pos high) (pos n) ≡ true
within low n high from_low to_high = grind (arith, ints)

-- so many crudes, vessels and storage tanks
abbrev pub with_counts : Choices → ℕ → ℕ → ℕ → Choices
with_counts choices m v s = record choices { crudes = m; vessels = v; storage = s }

-- each number of vessels with each number of storage tanks
pub place_cases : (P : ℕ → ℕ → Type 0) → P 1 2 → P 2 2 → P 3 2 → P 1 3 → P 2 3 → P 3 3
    → (v s : ℕ) → 1 ≤ v → v ≤ 3 → 2 ≤ s → s ≤ 3 → P v s
place_cases P p12 p22 p32 p13 p23 p33 (suc zero) (suc (suc zero)) lv hv ls hs = p12
place_cases P p12 p22 p32 p13 p23 p33 (suc (suc zero)) (suc (suc zero)) lv hv ls hs = p22
place_cases P p12 p22 p32 p13 p23 p33 (suc (suc (suc zero))) (suc (suc zero)) lv hv ls hs = p32
place_cases P p12 p22 p32 p13 p23 p33 (suc zero) (suc (suc (suc zero))) lv hv ls hs = p13
place_cases P p12 p22 p32 p13 p23 p33 (suc (suc zero)) (suc (suc (suc zero))) lv hv ls hs = p23
place_cases P p12 p22 p32 p13 p23 p33 (suc (suc (suc zero))) (suc (suc (suc zero))) lv hv ls hs = p33
place_cases P p12 p22 p32 p13 p23 p33 v s lv hv ls hs = absurd (omega arith)

-- each number of crudes
pub crude_cases : (P : ℕ → Type 0) → P 2 → P 3 → P 4 → (m : ℕ) → 2 ≤ m → m ≤ 4 → P m
crude_cases P p2 p3 p4 (suc (suc zero)) low high = p2
crude_cases P p2 p3 p4 (suc (suc (suc zero))) low high = p3
crude_cases P p2 p3 p4 (suc (suc (suc (suc zero)))) low high = p4
crude_cases P p2 p3 p4 m low high = absurd (omega arith)

-- each crude of each number of crudes
pub one_of_crudes : (P : ℕ → ℕ → Type 0) → P 2 0 → P 2 1 → P 3 0 → P 3 1 → P 3 2 → P 4 0 → P 4 1 → P 4 2 → P 4 3 → (m c : ℕ) → 2 ≤ m → m ≤ 4 → c < m → P m c
one_of_crudes P p20 p21 p30 p31 p32 p40 p41 p42 p43 (suc (suc zero)) zero low high small = p20
one_of_crudes P p20 p21 p30 p31 p32 p40 p41 p42 p43 (suc (suc zero)) (suc zero) low high small = p21
one_of_crudes P p20 p21 p30 p31 p32 p40 p41 p42 p43 (suc (suc (suc zero))) zero low high small = p30
one_of_crudes P p20 p21 p30 p31 p32 p40 p41 p42 p43 (suc (suc (suc zero))) (suc zero) low high small = p31
one_of_crudes P p20 p21 p30 p31 p32 p40 p41 p42 p43 (suc (suc (suc zero))) (suc (suc zero)) low high small = p32
one_of_crudes P p20 p21 p30 p31 p32 p40 p41 p42 p43 (suc (suc (suc (suc zero)))) zero low high small = p40
one_of_crudes P p20 p21 p30 p31 p32 p40 p41 p42 p43 (suc (suc (suc (suc zero)))) (suc zero) low high small = p41
one_of_crudes P p20 p21 p30 p31 p32 p40 p41 p42 p43 (suc (suc (suc (suc zero)))) (suc (suc zero)) low high small = p42
one_of_crudes P p20 p21 p30 p31 p32 p40 p41 p42 p43 (suc (suc (suc (suc zero)))) (suc (suc (suc zero))) low high small = p43
one_of_crudes P p20 p21 p30 p31 p32 p40 p41 p42 p43 m c low high small = absurd (omega arith)
