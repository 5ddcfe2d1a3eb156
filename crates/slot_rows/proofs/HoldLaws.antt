-- Each row of a name holds, family by family.
use Rattle.std.proofs.Common.{◌≡◌, ℕ, zero, suc, ◌-◌, ◌<◌, ◌≤◌, Bool, true, false, List, drop, length, get_or, subst, refl, arith}
use Rattle.std.specs.Prelude.{◌==◌, nat_lt, if◌then◌else◌, Option, None, Some, All}
use Rattle.std.specs.Option.{option_map}
use Rattle.std.proofs.lemmas.Bool.{and_parts, eqb-true}
use Rattle.std.proofs.lemmas.Bool.Decides.{nat_tests}
use Rattle.linear_form.specs.Points.{IsMet}
use Rattle.linear_form.specs.Rows.{RowForm}
use Rattle.normal_order.specs.NormalWords.{IsNormalWord}
use Rattle.overlap_graph.specs.Cliques.{IsClique}
use Rattle.plant_model.specs.declared.parts.Parts.{Parts}
use Rattle.plant_model.specs.Parts.{op_count_of}
use Rattle.plant_model.specs.Relations.{independent_of}
use Rattle.plant_model.specs.Sound.{SoundPlant}
use Rattle.replay_core.specs.declared.timed.Timed.{Timed}
use Rattle.replay_core.specs.Rules.{unloads_later_vessel}
use Rattle.replay_core.proofs.StepLaws.{CanRun-legal}
use Rattle.row_forms.specs.declared.piece.Inequality.{Inequality}
use Rattle.row_forms.specs.Numbers.{numbers_of}
use Rattle.row_forms.specs.Terms.{row_of}
use Rattle.row_forms.proofs.ValueLaws.{rows_hold_by_pieces}
use Rattle.slot_box.specs.declared.term.RowName.{RowName}
use Rattle.word_flows.specs.Runs.{IsRun}
use Rattle.word_flows.proofs.RunLaws.{can_run_is_run}
use Rattle.slot_rows.specs.Families.{choice_row, volume_row, rate_row, window_row, clique_row, normal_row, idle_row, berth_row}
use Rattle.slot_rows.specs.Laws.{IsNormalWhereAsked, SlotRowsHold}
use Rattle.slot_rows.specs.Names.{is_slot, has_next, are_slots, is_operation, is_choice_name, is_sided_name, is_clique_name, is_normal_name, is_idle_name, is_berth_name}
use Rattle.slot_rows.specs.SlotRows.{slot_inequality, slot_row_of}
use Rattle.slot_rows.proofs.StandLaws.{Holds}
use Rattle.slot_rows.proofs.OneSlotLaws.{choice-first, choice-second, volume-first, volume-second, rate-first, rate-second, window-first, window-second, window-third, idle-holds}
use Rattle.slot_rows.proofs.PairLaws.{clique-holds, normal-holds, berth-holds}

-- ---- names

slot-inside : (n slot : ℕ) → is_slot n slot ≡ true → (1 ≤ slot) × (slot ≤ n)
slot-inside n slot is = (grind (arith, nat_tests), grind (arith, nat_tests))

next-inside : (n slot : ℕ) → has_next n slot ≡ true → (1 ≤ slot) × (slot < n)
next-inside n slot is = (grind (arith, nat_tests), grind (arith, nat_tests))

slots-inside : (n i j : ℕ) → are_slots n i j ≡ true → (1 ≤ i) × (i < j) × (j ≤ n)
slots-inside n i j is = (grind (arith, nat_tests), grind (arith, nat_tests), grind (arith, nat_tests))

below : (a b : ℕ) → nat_lt a b ≡ true → a < b
below a b is = grind (arith, nat_tests)

by_side : (side : ℕ) → side < 2 → (P : ℕ → Type 0) → P 0 → P 1 → P side
by_side zero two P first second = first
by_side (suc zero) two P first second = second
by_side (suc (suc side)) two P first second = absurd (omega arith)

by_third : (side : ℕ) → side < 3 → (P : ℕ → Type 0) → P 0 → P 1 → P 2 → P side
by_third zero three P first second third = first
by_third (suc zero) three P first second third = second
by_third (suc (suc zero)) three P first second third = third
by_third (suc (suc (suc side))) three P first second third = absurd (omega arith)

-- a slot, an operation and a side
sided : (sides : ℕ) (parts : Parts) (n : ℕ) (name : RowName) → is_sided_name sides parts n name ≡ true →
    (1 ≤ name.a) × (name.a ≤ n) × (name.b < op_count_of parts) × (name.c < sides)
sided sides parts n name is =
    let unused = and_parts _ (name.d == 0) is in
    let side = and_parts _ (nat_lt name.c sides) unused.0 in
    let both = and_parts (is_slot n name.a) (is_operation parts name.b) side.0 in
    let slot = slot-inside n name.a both.0 in
    (slot.0, slot.1, below name.b (op_count_of parts) both.1, below name.c sides side.1)

-- one of two, by a test
choose : (P : Option Inequality → Type 0) (b : Bool) (x y : Option Inequality) → (b ≡ true → P x) → (b ≡ false → P y) → P (if b then x else y)
choose P true x y first second = first refl
choose P false x y first second = second refl

-- ---- the row of each family

module _ (parts : Parts) (n : ℕ) (word : List Timed) (name : RowName) (sound : SoundPlant parts) (run : IsRun parts word) where
  choice-holds : is_choice_name n name ≡ true → Holds parts n word (choice_row name.a name.b)
  choice-holds is =
      let unused = and_parts _ (name.d == 0) is in
      let third = and_parts _ (name.c == 0) unused.0 in
      let both = and_parts (is_slot n name.a) (nat_lt name.b 2) third.0 in
      let slot = slot-inside n name.a both.0 in
      by_side name.b (below name.b 2 both.1) (λ side. Holds parts n word (choice_row name.a side))
      (choice-first parts n word name.a sound run slot.0 slot.1) (choice-second parts n word name.a sound run slot.0 slot.1)

  volume-holds : is_sided_name 2 parts n name ≡ true → Holds parts n word (volume_row parts name.a name.b name.c)
  volume-holds is =
      let has = sided 2 parts n name is in
      by_side name.c has.3 (λ side. Holds parts n word (volume_row parts name.a name.b side))
      (volume-first parts n word name.a sound run has.0 has.1 name.b has.2) (volume-second parts n word name.a sound run has.0 has.1 name.b has.2)

  rate-holds : is_sided_name 2 parts n name ≡ true → Holds parts n word (rate_row parts name.a name.b name.c)
  rate-holds is =
      let has = sided 2 parts n name is in
      by_side name.c has.3 (λ side. Holds parts n word (rate_row parts name.a name.b side))
      (rate-first parts n word name.a sound run has.0 has.1 name.b has.2) (rate-second parts n word name.a sound run has.0 has.1 name.b has.2)

  window-holds : is_sided_name 3 parts n name ≡ true → Holds parts n word (window_row parts name.a name.b name.c)
  window-holds is =
      let has = sided 3 parts n name is in
      by_third name.c has.3 (λ side. Holds parts n word (window_row parts name.a name.b side))
      (window-first parts n word name.a sound run has.0 has.1 name.b has.2) (window-second parts n word name.a sound run has.0 has.1 name.b has.2)
      (window-third parts n word name.a sound run has.0 has.1 name.b has.2)

  clique_name-holds : (cliques : List ℕ) → All (IsClique parts) cliques → is_clique_name cliques n name ≡ true →
      Holds parts n word (clique_row parts (get_or cliques name.a 0) name.b name.c)
  clique_name-holds cliques are is =
      let unused = and_parts _ (name.d == 0) is in
      let both = and_parts (nat_lt name.a (length cliques)) (are_slots n name.b name.c) unused.0 in
      let slots = slots-inside n name.b name.c both.1 in
      clique-holds parts n word (get_or cliques name.a 0) name.b name.c sound run (are name.a 0 (below name.a (length cliques) both.0)) slots.0 slots.1 slots.2

  normal_name-holds : IsNormalWord parts (drop (name.a - 1) word) → is_normal_name parts n name ≡ true → Holds parts n word (normal_row name.a name.b name.c)
  normal_name-holds normal is =
      let free = and_parts _ (independent_of parts name.b name.c) is in
      let unused = and_parts _ (name.d == 0) free.0 in
      let less = and_parts _ (nat_lt name.c name.b) unused.0 in
      let both = and_parts (has_next n name.a) (is_operation parts name.b) less.0 in
      let slot = next-inside n name.a both.0 in
      normal-holds parts n word name.a name.b name.c sound run normal slot.0 slot.1 (below name.b (op_count_of parts) both.1) (below name.c name.b less.1) free.1

  idle_name-holds : is_idle_name n name ≡ true → Holds parts n word (idle_row name.a)
  idle_name-holds is =
      let last = and_parts _ (name.d == 0) is in
      let third = and_parts _ (name.c == 0) last.0 in
      let both = and_parts (has_next n name.a) (name.b == 0) third.0 in
      let slot = next-inside n name.a both.0 in
      idle-holds parts n word name.a sound run slot.0 slot.1

  berth_name-holds : is_berth_name parts n name ≡ true → Holds parts n word (berth_row name.a name.b name.c name.d)
  berth_name-holds is =
      let later = and_parts _ (unloads_later_vessel parts name.c name.d) is in
      let second = and_parts _ (is_operation parts name.d) later.0 in
      let both = and_parts (are_slots n name.a name.b) (is_operation parts name.c) second.0 in
      let slots = slots-inside n name.a name.b both.0 in
      berth-holds parts n word name.a name.b name.c name.d sound run slots.0 slots.1 slots.2 (below name.c (op_count_of parts) both.1)
      (below name.d (op_count_of parts) second.1) later.1

-- ---- the row of a name

-- what may be a row holds where it is one
abbrev HoldsIfSome : Parts → ℕ → List Timed → Option Inequality → Type 0
HoldsIfSome parts n word given = (row : Inequality) → given ≡ Some row → Holds parts n word row

some-same : (x y : Inequality) → Some x ≡ Some y → x ≡ y
some-same x y is = cc

given-holds : (parts : Parts) (n : ℕ) (word : List Timed) (is : Bool) (row : Inequality) → (is ≡ true → Holds parts n word row) →
    HoldsIfSome parts n word (if is then Some row else None)
given-holds parts n word true row holds other same = subst (Holds parts n word) (some-same row other same) (holds refl)
given-holds parts n word false row holds other same = cc

inequality-holds : (parts : Parts) (n : ℕ) (word : List Timed) (cliques : List ℕ) (name : RowName) → SoundPlant parts → IsRun parts word →
    All (IsClique parts) cliques → IsNormalWhereAsked parts word name → HoldsIfSome parts n word (slot_inequality parts cliques n name)
unfolding slot_inequality
inequality-holds parts n word cliques name sound run are normal =
    let P = HoldsIfSome parts n word in
    choose P (name.family == 1) _ _ (λ _. given-holds parts n word (is_choice_name n name) _ (choice-holds parts n word name sound run))
    (λ _. choose P (name.family == 2) _ _ (λ _. given-holds parts n word (is_sided_name 2 parts n name) _ (volume-holds parts n word name sound run))
    (λ _. choose P (name.family == 3) _ _ (λ _. given-holds parts n word (is_sided_name 2 parts n name) _ (rate-holds parts n word name sound run))
    (λ _. choose P (name.family == 4) _ _ (λ _. given-holds parts n word (is_sided_name 3 parts n name) _ (window-holds parts n word name sound run))
    (λ _. choose P (name.family == 8) _ _
    (λ _. given-holds parts n word (is_clique_name cliques n name) _ (clique_name-holds parts n word name sound run cliques are))
    (λ _. choose P (name.family == 13) _ _
    (λ is. given-holds parts n word (is_normal_name parts n name) _
    (normal_name-holds parts n word name sound run (normal (eqb-true name.family 13 is))))
    (λ _. choose P (name.family == 14) _ _ (λ _. given-holds parts n word (is_idle_name n name) _ (idle_name-holds parts n word name sound run))
    (λ _. choose P (name.family == 15) _ _ (λ _. given-holds parts n word (is_berth_name parts n name) _ (berth_name-holds parts n word name sound run))
    (λ _ row same. cc))))))))

-- ---- all of them

-- a row that is given is that of an inequality
row-given : (parts : Parts) (n : ℕ) (given : Option Inequality) (row : RowForm) → option_map (row_of parts n) given ≡ Some row →
    (inequality : Inequality) × (given ≡ Some inequality) × (row_of parts n inequality ≡ row)
row-given parts n None row same = cc
row-given parts n (Some inequality) row same = (inequality, refl, cc)

pub slot_rows_hold : (parts : Parts) → SoundPlant parts → SlotRowsHold parts
unfolding slot_row_of
slot_rows_hold parts sound order word cliques n name row legal are normal same =
    let found = row-given parts n (slot_inequality parts cliques n name) row same in
    let runs = CanRun-legal parts order word legal in
    let holds = inequality-holds parts n word cliques name sound (can_run_is_run parts order word runs) are normal found.0 found.1 in
    let met = (rows_hold_by_pieces parts sound order word n found.0 runs).1 holds in
    subst (IsMet (numbers_of parts word)) found.2 met
