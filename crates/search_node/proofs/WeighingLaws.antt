-- Blocks of rows, weighed over a box.
use Rattle.std.proofs.Common.{◌≡◌, ℕ, List, length, ℤ, pos, ◌<ℤ◌, ap₂, sym, ◌∙◌, subst, arith}
use Rattle.std.specs.Prelude.{◌↔◌, All, IsTrue}
use Rattle.dual_bound.specs.Conditions.{IsGuess, IsSystem}
use Rattle.dual_bound.specs.Dual.{dual_value, emptiness_sum}
use Rattle.linear_form.specs.declared.row.RowTerm.{RowTerm}
use Rattle.linear_form.specs.Bounds.{Bounds}
use Rattle.slot_box.specs.Ranges.{IsTerm}
use Rattle.leaf_value.specs.LeafValue.{dual_value_of}
use Rattle.search_node.specs.declared.block.RowBlock.{RowBlock}
use Rattle.search_node.specs.declared.guesses.Candidate.{Candidate}
use Rattle.search_node.specs.declared.weighing.Weighing.{Weighing}
use Rattle.search_node.specs.inside.Candidates.{IsCandidate, entries_by, taken_by}
use Rattle.search_node.specs.inside.Weighings.{IsWhole, setting_of}
use Rattle.search_node.specs.Tables.{IsBlockOf}
use Rattle.search_node.proofs.EntryLaws.{as-many, block-candidate, block-value}

module _ (weighing : Weighing) (whole : IsWhole weighing) (block : RowBlock) (is : IsBlockOf weighing.plant.now (length weighing.bx.now) block) where
  abbrev n : ℕ
  n = length weighing.bx.now

  pub block-system : IsSystem block.rows weighing.ranges.now
  block-system = let count = as-many weighing.plant.now n block is in whole.fit_rows block.rows (omega (arith, is.few, count)) is.fit

  -- the value over the weighing's ranges
  abbrev weighed : List ℕ → ℕ → ℤ
  weighed multipliers q = dual_value block.rows weighing.ranges.now weighing.table.now.objective multipliers q

  pub weighed-value : (multipliers : List ℕ) (q : ℕ) → length multipliers ≡ length block.rows →
      weighed multipliers q ≡ dual_value_of (setting_of weighing) weighing.bx.now q (entries_by block.names multipliers)
  weighed-value multipliers q same =
      ap₂ (λ (ranges : Bounds) (objective : List RowTerm). dual_value block.rows ranges objective multipliers q) whole.ranges whole.table.objective
      ∙ sym (block-value weighing.plant.now n block is weighing.bx.now multipliers q same)

  pub weighed-candidate : (multipliers : List ℕ) (q : ℕ) (candidate : Candidate) → IsGuess block.rows multipliers q → candidate.q ≡ q →
      candidate.terms ≡ taken_by block.names multipliers → All IsTerm candidate.terms →
      candidate.value ≡ dual_value_of (setting_of weighing) weighing.bx.now q (entries_by block.names multipliers) →
      (IsTrue candidate.is_empty ↔ (emptiness_sum block.rows weighing.ranges.now multipliers <ℤ pos 0)) →
      IsCandidate (setting_of weighing) weighing.bx.now candidate
  weighed-candidate multipliers q candidate guess over taken fit value empty =
      block-candidate weighing.plant.now n block is weighing.bx.now multipliers q candidate guess over taken fit value
      (subst (λ (ranges : Bounds). IsTrue candidate.is_empty ↔ (emptiness_sum block.rows ranges multipliers <ℤ pos 0)) whole.ranges empty)
