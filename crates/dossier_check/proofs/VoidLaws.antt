-- The test of a leaf whose entries are to show that its box has no form.
use Rattle.std.proofs.Common.{◌≡◌, ℕ, Bool, ℤ, pos, ◌<ℤ◌, int_lt, None, List, ◌++◌, arith, sym, ap, ◌∙◌}
use Rattle.std.specs.Prelude.{◌↔◌, IsTrue}
use Rattle.std.proofs.lemmas.Int.{ints}
use Rattle.std.proofs.lemmas.Bool.Decides.{same_from_decides}
use Rattle.dual_bound.specs.Dual.{emptiness_sum}
use Rattle.item_lists.specs.Faults.{first_of, unless}
use Rattle.item_lists.proofs.FaultLaws.{first_of-back}
use Rattle.slot_box.specs.declared.slot.Slot.{Slot}
use Rattle.slot_box.specs.declared.term.Term.{Term}
use Rattle.slot_rows.specs.Ranges.{ranges_of}
use Rattle.leaf_value.specs.LeafValue.{rows_of, are_contradictory}
use Rattle.leaf_value.specs.Settings.{Setting}
use Rattle.dossier_check.specs.declared.entries.Entries.{Entries}
use Rattle.dossier_check.specs.NodeReasons.{reason, terms_reasons}
use Rattle.dossier_check.specs.inside.Entering.{AreEntriesOf}

below_nought : (z : ℤ) → IsTrue (int_lt z (pos 0)) ↔ (z <ℤ pos 0)
below_nought z = ((λ is. grind (arith, ints)), (λ less. grind (arith, ints)))

module _ (setting : Setting) (box : List Slot) (terms : List Term) (entries : Entries) (empty : Bool) (line : ℕ)
    (are : AreEntriesOf setting.case.parts setting terms entries)
    (tells : IsTrue empty ↔ (emptiness_sum entries.rows (ranges_of setting.case.parts box) entries.multipliers <ℤ pos 0))
    (clean : first_of (terms_reasons setting line terms) ≡ None) where
  -- the sum of the rows that were made is that of the entries
  abbrev sum : ℤ
  sum = emptiness_sum entries.rows (ranges_of setting.case.parts box) entries.multipliers

  is_test : empty ≡ are_contradictory setting box terms
  unfolding are_contradictory
  is_test =
      same_from_decides empty (int_lt sum (pos 0)) tells (below_nought sum)
      ∙ ap (λ rows. int_lt (emptiness_sum rows (ranges_of setting.case.parts box) entries.multipliers) (pos 0)) are.rows
      ∙ ap (λ y. int_lt (emptiness_sum (rows_of setting terms) (ranges_of setting.case.parts box) y) (pos 0)) are.multipliers

  pub void_reasons : first_of (terms_reasons setting line terms ++ unless (are_contradictory setting box terms) (reason 14 line)) ≡
      first_of (unless empty (reason 14 line))
  void_reasons =
      first_of-back (terms_reasons setting line terms) (unless (are_contradictory setting box terms) (reason 14 line)) clean
      ∙ ap (λ test. first_of (unless test (reason 14 line))) (sym is_test)
