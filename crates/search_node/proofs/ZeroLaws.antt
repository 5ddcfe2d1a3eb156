-- Entries with the multiplier 0 change no value.
use Rattle.std.proofs.Common.{◌≡◌, ℕ, List, [], ◌∷◌, map, ℤ, pos, ◌-ℤ◌, ◌*ℤ◌, int_lt, ap, ◌∙◌, refl, inl, inr, arith}
use Rattle.std.specs.Prelude.{filter, nat_lt}
use Rattle.std.proofs.Math.IntN.{zero-*ℤ}
use Rattle.std.proofs.lemmas.Bool.{cases_eq, lt-ltb, le-ltb}
use Rattle.std.proofs.lemmas.Int.{ints}
use Rattle.dual_bound.specs.Dual.{dual_sum, factor_of, most_in, range_at, weight_of}
use Rattle.linear_form.specs.declared.row.RowTerm.{RowTerm}
use Rattle.linear_form.specs.Bounds.{Bounds}
use Rattle.linear_form.specs.Columns.{count_of}
use Rattle.linear_form.specs.Rows.{RowForm}
use Rattle.number_laws.specs.Floors.{floor_of}
use Rattle.number_laws.specs.SignedSums.{total_by_pairs}
use Rattle.number_laws.proofs.SignedSumLaws.{total_below-same}
use Rattle.slot_box.specs.declared.term.Term.{Term}
use Rattle.slot_rows.specs.Objective.{objective_of}
use Rattle.slot_rows.specs.Ranges.{ranges_of}
use Rattle.leaf_value.specs.LeafValue.{are_contradictory, dual_value_of, multiplier_of, multipliers_of, row_of_term, rows_of}
use Rattle.leaf_value.specs.Settings.{Setting}
use Rattle.search_node.specs.Laws.{is_taken, ZerosChangeNothing}

-- a sum in which nothing counts by the multiplier 0 is that of the items with others
pairs-taken : {X Y : Type 0} (times : X → ℕ) (row : X → Y) (f : ℕ → Y → ℤ) → ((y : Y) → f 0 y ≡ pos 0) → (xs : List X) →
    total_by_pairs f (map times (filter (λ x. nat_lt 0 (times x)) xs)) (map row (filter (λ x. nat_lt 0 (times x)) xs))
    ≡ total_by_pairs f (map times xs) (map row xs)
pairs-taken times row f none [] = refl
pairs-taken times row f none (x ∷ xs) =
    let rest = pairs-taken times row f none xs in
    elim (cases_eq (times x) 0) [
      | inl zero_times ↦
          let first : f (times x) (row x) ≡ pos 0 = ap (λ (n : ℕ). f n (row x)) zero_times ∙ none (row x) in
          rw (le-ltb 0 (times x) (omega arith)) (omega (arith, ints, rest, first))
      | inr some ↦ rw (lt-ltb 0 (times x) (omega arith)) (omega (arith, ints, rest))
    ]

-- rows by multipliers that come to the same sums have the same dual sum
dual_sum-same : (rows others : List RowForm) (multipliers times : List ℕ) →
    ((f : ℕ → RowForm → ℤ) → ((row : RowForm) → f 0 row ≡ pos 0) → total_by_pairs f multipliers rows ≡ total_by_pairs f times others) →
    (bounds : Bounds) (objective : List RowTerm) (q : ℕ) → dual_sum rows bounds objective multipliers q ≡ dual_sum others bounds objective times q
dual_sum-same rows others multipliers times same bounds objective q =
    let rights = same (λ (y : ℕ) (row : RowForm). pos y *ℤ row.right) (λ row. zero-*ℤ row.right) in
    let earned = total_below-same (count_of bounds.extent)
    (λ j. most_in (range_at bounds j) (weight_of bounds.extent rows objective multipliers q j))
    (λ j. most_in (range_at bounds j) (weight_of bounds.extent others objective times q j))
    (λ j below. ap (λ (z : ℤ). most_in (range_at bounds j) ((pos q *ℤ factor_of bounds.extent j objective) -ℤ z))
    (same (λ (y : ℕ) (row : RowForm). pos y *ℤ factor_of bounds.extent j row.terms) (λ row. zero-*ℤ (factor_of bounds.extent j row.terms)))) in
    omega (arith, ints, rights, earned)

taken-sum : (setting : Setting) (terms : List Term) (bounds : Bounds) (objective : List RowTerm) (q : ℕ) →
    dual_sum (rows_of setting (filter is_taken terms)) bounds objective (multipliers_of (filter is_taken terms)) q
    ≡ dual_sum (rows_of setting terms) bounds objective (multipliers_of terms) q
taken-sum setting terms bounds objective q =
    dual_sum-same (rows_of setting (filter is_taken terms)) (rows_of setting terms) (multipliers_of (filter is_taken terms)) (multipliers_of terms)
    (λ f none. pairs-taken multiplier_of (row_of_term setting) f none terms) bounds objective q

pub zeros_change_nothing : (setting : Setting) → ZerosChangeNothing setting
unfolding dual_value_of are_contradictory
zeros_change_nothing setting box q terms = record {
  value = ap (λ (z : ℤ). floor_of z q)
      (taken-sum setting terms (ranges_of setting.case.parts box) (objective_of setting.case.parts setting.case.slots) q);
  empty = ap (λ (z : ℤ). int_lt z (pos 0)) (taken-sum setting terms (ranges_of setting.case.parts box) [] 1);
}
