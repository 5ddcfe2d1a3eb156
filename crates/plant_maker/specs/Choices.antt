-- What the picks of a number decide of the plant that is made of it. The picks stand in this order: the horizon; how
-- many crudes, vessels and storage tanks there are; of each crude its margin and its sulphur; of each vessel its cargo;
-- of each storage tank its stock.
use Rattle.std.specs.Prelude.{ℕ, ◌+◌, ◌*◌}
use Rattle.plant_maker.specs.Picks.{pick}

-- what is decided: minutes, counts of entries, margins, values of sulphur and volume units, each by number from 0 on
pub record Choices : Type 0 where
  pub horizon : ℕ
  pub crudes : ℕ
  pub vessels : ℕ
  pub storage : ℕ
  pub margin : ℕ → ℕ
  pub sulphur : ℕ → ℕ
  pub cargo : ℕ → ℕ
  pub stock : ℕ → ℕ

-- 2 to 4 crudes
abbrev pub crudes_of : ℕ → ℕ
crudes_of number = 2 + pick number 1 3

-- 1 to 3 vessels
abbrev pub vessels_of : ℕ → ℕ
vessels_of number = 1 + pick number 2 3

-- 5 to 10 days of 1440 minutes; 2 or 3 storage tanks; a margin of 1 to 20 and a sulphur of 10 to 59; a cargo of 100,000
-- to 500,000, a stock of 50,000 to 200,000
unfoldable pub choices_of : ℕ → Choices
choices_of number = record {
  horizon = 1440 * (5 + pick number 0 6);
  crudes = crudes_of number;
  vessels = vessels_of number;
  storage = 2 + pick number 3 2;
  margin = λ crude. 1 + pick number (4 + 2 * crude) 20;
  sulphur = λ crude. 10 + pick number (5 + 2 * crude) 50;
  cargo = λ vessel. 100000 * (1 + pick number (4 + 2 * crudes_of number + vessel) 5);
  stock = λ tank. 50000 * (1 + pick number (4 + 2 * crudes_of number + vessels_of number + tank) 4);
}
