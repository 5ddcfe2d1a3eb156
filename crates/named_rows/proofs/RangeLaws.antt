-- The numbers of a form lie in the ranges of its box.
use Rattle.std.proofs.Common.{◌≡◌, ◌≢◌, ℕ, zero, suc, ◌-◌, ◌^◌, ◌<◌, ◌≤◌, ◌⊎◌, inl, inr, Bool, true, false, List, [], ◌∷◌, length, get_or, sum, max, fold, pos, ◌≤ℤ◌, if◌then◌else◌, ap, sym, ◌∙◌, refl, subst, arith}
use Rattle.std.specs.Prelude.{◌==◌}
use Rattle.std.specs.Int.{bit_at}
use Rattle.std.proofs.lemmas.Bool.{cases_lt, cases_eq, eq-eqb, ne_eqb, lt-ltb, le-ltb}
use Rattle.std.proofs.lemmas.Int.{ints}
use Rattle.std.proofs.lemmas.List.{get_or_past}
use Rattle.std.proofs.lemmas.List.Sums.{get_or-le-sum_by}
use Rattle.std.proofs.lemmas.Nat.Bits.{bit_at-pow_other}
use Rattle.limits.specs.declared.TheConstants.{MOST_OPERATIONS}
use Rattle.linear_form.specs.declared.column.Column.{Column}
use Rattle.linear_form.specs.declared.column.Part.{Part}
use Rattle.linear_form.specs.declared.column.Part.TheVariants.{Z, A, S, E, W}
use Rattle.linear_form.specs.declared.ranges.Interval.{Interval}
use Rattle.linear_form.specs.Columns.{Extent, HasPart, HasSlot, IsColumn}
use Rattle.linear_form.specs.Points.{LiesIn as LiesInRanges}
use Rattle.plant_model.specs.declared.parts.Parts.{Parts}
use Rattle.plant_model.specs.Parts.{op_count_of, horizon_of}
use Rattle.plant_model.specs.Sound.{SoundPlant}
use Rattle.replay_core.specs.declared.timed.Timed.{Timed}
use Rattle.replay_core.specs.Counts.{unloads_from, last_end_of}
use Rattle.replay_core.specs.Margin.{wait_of}
use Rattle.replay_core.specs.Steps.{no_step, step_at, draw_in}
use Rattle.row_forms.specs.Columns.{extent_of}
use Rattle.row_forms.specs.Numbers.{part_of, entry_number, number_in, numbers_of}
use Rattle.slot_box.specs.declared.slot.Slot.{Slot}
use Rattle.slot_box.specs.declared.slot.Span.{Span}
use Rattle.slot_box.specs.Boxes.{IsPoint, no_slot, slot_at}
use Rattle.slot_box.specs.Entries.{Entry, idle, runs, bit_of, LiesIn}
use Rattle.slot_box.specs.Laws.{EntriesAreLive}
use Rattle.slot_box.specs.Slots.{span, live_of}
use Rattle.slot_forms.specs.Forms.{word_of, is_form, is_all_idle, entry_of}
use Rattle.slot_rows.specs.Ranges.{live_span, bit_of_entry, entry_span, column_span, ranges_of}
use Rattle.slot_rows.proofs.FitLaws.{range-at}
use Rattle.slot_rows.proofs.SpanLaws.{of-slot, bit-operation, bit-idle}
use Rattle.word_flows.specs.Runs.{IsRun}
use Rattle.word_flows.proofs.RunLaws.{runs_are_in_range}
use Rattle.word_flows.proofs.StepLaws.{runs_draw_volumes}

-- ---- the entries of a form by its word

idle-word : (point : List Entry) → is_all_idle point ≡ true → (word_of point ≡ []) × ((k : ℕ) → get_or point k idle ≡ idle)
idle-word [] all = (refl, λ k. refl)
idle-word (idle ∷ point) all = (let rest = idle-word point all in (rest.0, each rest.1))
  where
    each : ((k : ℕ) → get_or point k idle ≡ idle) → (k : ℕ) → get_or (idle ∷ point) k idle ≡ idle
    each rest zero = refl
    each rest (suc k) = rest k
idle-word (runs op start end volume ∷ point) all = cc

-- slot k, from 0, has operation k of the word
entry-runs : (point : List Entry) → is_form point ≡ true → (k : ℕ) → k < length (word_of point) → get_or point k idle ≡ entry_of (step_at (word_of point) k)
entry-runs [] form k within = absurd (omega arith)
entry-runs (idle ∷ point) form k within = let none = ap length (idle-word point form).0 in absurd (omega arith)
entry-runs (runs op start end volume ∷ point) form zero within = refl
entry-runs (runs op start end volume ∷ point) form (suc k) within = entry-runs point form k (omega arith)

-- and past it is idle
entry-idle : (point : List Entry) → is_form point ≡ true → (k : ℕ) → length (word_of point) ≤ k → get_or point k idle ≡ idle
entry-idle [] form k past = refl
entry-idle (idle ∷ point) form zero past = refl
entry-idle (idle ∷ point) form (suc k) past = (idle-word point form).1 k
entry-idle (runs op start end volume ∷ point) form zero past = absurd (omega arith)
entry-idle (runs op start end volume ∷ point) form (suc k) past = entry-idle point form k (omega arith)

lies-at : (box : List Slot) (point : List Entry) → IsPoint box point → (k : ℕ) → k < length box → LiesIn (get_or box k no_slot) (get_or point k idle)
lies-at [] point is k within = absurd (omega arith)
lies-at (s ∷ box) [] is k within = absurd is
lies-at (s ∷ box) (e ∷ point) is zero within = is.0
lies-at (s ∷ box) (e ∷ point) is (suc k) within = lies-at box point is.1 k (omega arith)

-- ---- one column

-- the number of a part of an entry that lies in the slot
abbrev Fills : Slot → Part → ℕ → Type 0
Fills s Z x = x ≡ 1
Fills s (A crude) x = x ≤ s.volume.hi
Fills s S x = (s.start.lo ≤ x) × (x ≤ s.start.hi)
Fills s E x = (s.end.lo ≤ x) × (x ≤ s.end.hi)
Fills s W x = x ≡ 0

abbrev Within : Span → ℕ → Type 0
Within s x = (s.lo ≤ x) × (x ≤ s.hi)

fills-live : (alone : Bool) (s : Slot) (part : Part) (x : ℕ) → Fills s part x → Within (live_span alone s part) x
fills-live true s Z x fills = (omega arith, omega arith)
fills-live false s Z x fills = (omega arith, omega arith)
fills-live alone s (A crude) x fills = (omega arith, omega arith)
fills-live true s S x fills = (omega (arith, fills.0), omega (arith, fills.1))
fills-live false s S x fills = (omega arith, omega (arith, fills.1))
fills-live true s E x fills = (omega (arith, fills.0), omega (arith, fills.1))
fills-live false s E x fills = (omega arith, omega (arith, fills.1))
fills-live alone s W x fills = (omega arith, omega arith)

none-live : (s : Slot) (part : Part) → Within (live_span false s part) 0
none-live s Z = (omega arith, omega arith)
none-live s (A crude) = (omega arith, omega arith)
none-live s S = (omega arith, omega arith)
none-live s E = (omega arith, omega arith)
none-live s W = (omega arith, omega arith)

own-within : (s : Slot) (bit : ℕ) (part : Part) (x : ℕ) → bit_at (live_of s) bit ≡ 1 → Fills s part x → Within (entry_span s bit part) x
own-within s bit part x live fills =
    let is : entry_span s bit part ≡ live_span (live_of s == 2 ^ bit) s part = rw (eq-eqb (bit_at (live_of s) bit) 1 live) refl in
    subst (λ (range : Span). Within range x) (sym is) (fills-live (live_of s == 2 ^ bit) s part x fills)

other-within : (s : Slot) (bit own : ℕ) (part : Part) → bit_at (live_of s) own ≡ 1 → own ≢ bit → Within (entry_span s bit part) 0
other-within s bit own part live apart =
    elim (cases_eq (bit_at (live_of s) bit) 1) [
      | inr dead ↦
          let is : entry_span s bit part ≡ span 0 0 = rw (ne_eqb (bit_at (live_of s) bit) 1 dead) refl in
          subst (λ (range : Span). Within range 0) (sym is) (omega arith, omega arith)
      | inl there ↦
          let not_alone : live_of s ≡ 2 ^ bit → ⊥ = λ (same : live_of s ≡ 2 ^ bit).
          (let none = bit_at-pow_other bit own apart in let e = ap (λ (n : ℕ). bit_at n own) same in omega arith) in
          let is : entry_span s bit part ≡ live_span false s part =
          rw (eq-eqb (bit_at (live_of s) bit) 1 there, ne_eqb (live_of s) (2 ^ bit) not_alone) refl in
          subst (λ (range : Span). Within range 0) (sym is) (none-live s part)
    ]

-- ---- a column of slot k

one-of_sum : (xs : List ℕ) (c : ℕ) → get_or xs c 0 ≤ sum xs
one-of_sum xs c =
    elim (cases_lt c (length xs)) [
      | inl there ↦ get_or-le-sum_by (λ x. x) xs c 0 there
      | inr past ↦ (let none = get_or_past xs c 0 past in omega arith)
    ]

operation-fills : (parts : Parts) (word : List Timed) (k : ℕ) (s : Slot) (part : Part) → sum (draw_in parts word k) ≡ (step_at word k).volume →
    LiesIn s (entry_of (step_at word k)) → Fills s part (part_of parts word k part)
operation-fills parts word k s Z drawn lies = refl
operation-fills parts word k s (A crude) drawn lies =
    let one = one-of_sum (draw_in parts word k) crude in let most = lies.volume.1 in omega arith
operation-fills parts word k s S drawn lies = lies.start
operation-fills parts word k s E drawn lies = lies.end
operation-fills parts word k s W drawn lies = refl

-- idle has Z alone
idle-fills : (s : Slot) (extent : Extent) (slot : ℕ) (part : Part) → extent.ops ≤ MOST_OPERATIONS → part ≢ W → HasPart extent 255 part → Fills s part 1
idle-fills s extent slot Z few own has = refl
idle-fills s extent slot (A crude) few own has = absurd (omega (arith, has.0))
idle-fills s extent slot S few own has = absurd (omega arith)
idle-fills s extent slot E few own has = absurd (omega arith)
idle-fills s extent slot W few own has = absurd (own refl)

apart-bit : (op entry ops : ℕ) → op < ops → ops ≤ MOST_OPERATIONS → (entry < ops) ⊎ (entry ≡ 255) → op ≢ entry → op ≢ bit_of_entry entry
apart-bit op entry ops known few (inl operation) other same = other (same ∙ bit-operation entry ops operation few)
apart-bit op entry ops known few (inr idle_one) other same = let bit = bit-idle entry idle_one in omega arith

module _ (parts : Parts) (point : List Entry) (lives : EntriesAreLive) (sound : SoundPlant parts) (run : IsRun parts (word_of point)) (form : is_form point ≡ true)
  where
    abbrev word : List Timed
    word = word_of point

    -- where operation k of the word fills the slot
    filled : (s : Slot) (extent : Extent) (k entry : ℕ) (part : Part) → extent.ops ≡ op_count_of parts → LiesIn s (get_or point k idle) →
        (entry < extent.ops) ⊎ (entry ≡ 255) → k < length word → Within (entry_span s (bit_of_entry entry) part) (entry_number parts word k entry part)
    filled s extent k entry part ops lies known there =
        let few : op_count_of parts ≤ MOST_OPERATIONS = sound.ops in
        let op = (step_at word k).op in
        let in_plant = (runs_are_in_range parts word k run there).known in
        let e = entry-runs point form k there in
        let live : bit_at (live_of s) op ≡ 1 = ap (λ (x : Entry). bit_at (live_of s) (bit_of x)) (sym e) ∙ lives s (get_or point k idle) lies in
        let Goal = λ (x : ℕ). Within (entry_span s (bit_of_entry entry) part) x in
        elim (cases_eq op entry) [
          | inl same ↦
              let here : entry_number parts word k entry part ≡ part_of parts word k part = rw (lt-ltb k (length word) there, eq-eqb op entry same) refl in
              let bit : bit_of_entry entry ≡ op = ap bit_of_entry (sym same) ∙ bit-operation op (op_count_of parts) in_plant few in
              let own = own-within s op part (part_of parts word k part) live
              (operation-fills parts word k s part (runs_draw_volumes parts sound word k run there) (subst (LiesIn s) e lies)) in
              subst Goal (sym here) (subst (λ (b : ℕ). Within (entry_span s b part) (part_of parts word k part)) (sym bit) own)
          | inr other ↦
              let here : entry_number parts word k entry part ≡ 0 = rw (lt-ltb k (length word) there, ne_eqb op entry other) refl in
              let apart = apart-bit op entry extent.ops (omega arith) (omega arith) known other in
              subst Goal (sym here) (other-within s (bit_of_entry entry) op part live apart)
        ]

    -- where the slot is idle
    unfilled : (s : Slot) (extent : Extent) (k entry : ℕ) (part : Part) → extent.ops ≡ op_count_of parts → LiesIn s (get_or point k idle) → part ≢ W →
        HasPart extent entry part → (entry < extent.ops) ⊎ (entry ≡ 255) → length word ≤ k →
        Within (entry_span s (bit_of_entry entry) part) (entry_number parts word k entry part)
    unfilled s extent k entry part ops lies own has known past =
        let few : op_count_of parts ≤ MOST_OPERATIONS = sound.ops in
        let e = entry-idle point form k past in
        let live : bit_at (live_of s) 63 ≡ 1 = ap (λ (x : Entry). bit_at (live_of s) (bit_of x)) (sym e) ∙ lives s (get_or point k idle) lies in
        let Goal = λ (x : ℕ). Within (entry_span s (bit_of_entry entry) part) x in
        elim (cases_eq entry 255) [
          | inl same ↦
              let here : entry_number parts word k entry part ≡ 1 = rw (le-ltb k (length word) past, eq-eqb entry 255 same) refl in
              let bit = bit-idle entry same in
              let fills = idle-fills s extent k part (omega arith) own (subst (λ (v : ℕ). HasPart extent v part) same has) in
              subst Goal (sym here) (subst (λ (b : ℕ). Within (entry_span s b part) 1) (sym bit) (own-within s 63 part 1 live fills))
          | inr other ↦
              let here : entry_number parts word k entry part ≡ 0 = rw (le-ltb k (length word) past, ne_eqb entry 255 other) refl in
              let apart : 63 ≢ bit_of_entry entry = elim known [
                | inl operation ↦ (let bit = bit-operation entry extent.ops operation (omega arith) in λ (same : 63 ≡ bit_of_entry entry). omega arith)
                | inr idle_one ↦ absurd (other idle_one)
              ] in
              subst Goal (sym here) (other-within s (bit_of_entry entry) 63 part live apart)
        ]

    slot-within : (s : Slot) (extent : Extent) (k entry : ℕ) (part : Part) → extent.ops ≡ op_count_of parts → LiesIn s (get_or point k idle) → part ≢ W →
        HasPart extent entry part → (entry < extent.ops) ⊎ (entry ≡ 255) →
        Within (entry_span s (bit_of_entry entry) part) (entry_number parts word k entry part)
    slot-within s extent k entry part ops lies own has known =
        elim (cases_lt k (length word)) [
          | inl there ↦ filled s extent k entry part ops lies known there
          | inr past ↦ unfilled s extent k entry part ops lies own has known past
        ]

-- ---- a vessel

latest-within : (chosen : Timed → Bool) (f : Timed → ℕ) (last most : ℕ) (steps : List Timed) → last ≤ most →
    ((k : ℕ) → k < length steps → f (get_or steps k no_step) ≤ most) →
    fold (λ (x : ℕ) (t : Timed). if chosen t then max x (f t) else x) last steps ≤ most
latest-within chosen f last most [] low each = low
latest-within chosen f last most (t ∷ steps) low each =
    latest-within chosen f (if chosen t then max last (f t) else last) most steps (next (chosen t)) (λ k within. each (suc k) (omega arith))
  where
    next : (b : Bool) → (if b then max last (f t) else last) ≤ most
    next true = let first = each 0 (omega arith) in omega arith
    next false = low

wait-within : (parts : Parts) (word : List Timed) (p : ℕ) → SoundPlant parts → IsRun parts word → wait_of parts word p ≤ horizon_of parts
unfolding last_end_of
wait-within parts word p sound run =
    let last = latest-within (unloads_from parts p) (λ (t : Timed). t.end) 0 (horizon_of parts) word (omega arith)
    (λ k within. let range = runs_are_in_range parts word k run within in
    let window = range.to_window in
    let horizon = (sound.each_op (step_at word k).op range.known).within_horizon in
    omega arith) in
    omega arith

-- ---- all columns

not_wait : (extent : Extent) (column : Column) → IsColumn extent column → column.slot ≢ 0 → column.part ≢ W
not_wait extent column is some same = some (by_part column.part column.slot same is.slot_there)
  where
    by_part : (part : Part) (slot : ℕ) → part ≡ W → HasSlot extent slot part → slot ≡ 0
    by_part Z slot same has = absurd cc
    by_part (A c) slot same has = absurd cc
    by_part S slot same has = absurd cc
    by_part E slot same has = absurd cc
    by_part W slot same has = has

column-within : (parts : Parts) (box : List Slot) (point : List Entry) → EntriesAreLive → SoundPlant parts → IsPoint box point → is_form point ≡ true →
    IsRun parts (word_of point) → (column : Column) → IsColumn (extent_of parts (length box)) column →
    Within (column_span parts box column) (number_in parts (word_of point) column)
column-within parts box point lives sound is form run column there =
    let extent = extent_of parts (length box) in
    elim (cases_eq column.slot 0) [
      | inl none ↦ (let wait = wait-within parts (word_of point) column.entry sound run in rw (eq-eqb column.slot 0 none) (omega arith, wait))
      | inr some ↦
          let of = of-slot extent column there some in
          rw (ne_eqb column.slot 0 some)
          (slot-within parts point lives sound run form (slot_at box column.slot) extent (column.slot - 1) column.entry column.part refl
          (lies-at box point is (column.slot - 1) (omega (arith, of.some, of.there))) (not_wait extent column there some) there.part_there of.known)
    ]

pub ranges_hold_at : (parts : Parts) (box : List Slot) (point : List Entry) → EntriesAreLive → SoundPlant parts → IsPoint box point → is_form point ≡ true →
    IsRun parts (word_of point) → LiesInRanges (ranges_of parts box) (numbers_of parts (word_of point))
unfolding ranges_of
ranges_hold_at parts box point lives sound is form run column there =
    let within = column-within parts box point lives sound is form run column there in
    let number = number_in parts (word_of point) column in
    subst (λ (r : Interval). (r.lo ≤ℤ pos number) × (pos number ≤ℤ r.hi)) (sym (range-at parts box column there))
    (omega (arith, ints, within.0), omega (arith, ints, within.1))
