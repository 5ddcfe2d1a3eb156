-- The parts of a split have ranges within those of the box.
use Rattle.std.proofs.Common.{◌≡◌, ℕ, ◌-◌, ◌^◌, ◌<◌, ◌≤◌, inl, inr, Bool, true, false, List, length, set, pos, ◌≤ℤ◌, ap, sym, ◌∙◌, refl, subst, arith}
use Rattle.std.specs.Prelude.{◌==◌, ◌&&◌, nat_lt, IsBitSet}
use Rattle.std.specs.Int.{bit_at}
use Rattle.std.proofs.lemmas.Bool.{cases_eq, eq-eqb, ne_eqb, eqb-true}
use Rattle.std.proofs.lemmas.Bool.Decides.{nat_tests}
use Rattle.std.proofs.lemmas.Int.{ints}
use Rattle.std.proofs.lemmas.List.{length-set, get_or-set_same, get_or-set_other}
use Rattle.std.proofs.lemmas.List.Elements.{All-get_or}
use Rattle.std.proofs.lemmas.Nat.Bits.{same_from_bits, bit_at-pow_same, bit_at-zero}
use Rattle.dual_bound.specs.Conditions.{IsWithin as IsWithinRanges}
use Rattle.linear_form.specs.declared.column.Column.{Column}
use Rattle.linear_form.specs.declared.column.Part.{Part}
use Rattle.linear_form.specs.declared.column.Part.TheVariants.{Z, A, S, E, W}
use Rattle.linear_form.specs.declared.ranges.Interval.{Interval}
use Rattle.linear_form.specs.Bounds.{range_of}
use Rattle.linear_form.specs.Columns.{Extent, IsColumn}
use Rattle.number_laws.proofs.BitLaws.{one_from_set, set_from_one, set_and, in_or_out, rest_from}
use Rattle.plant_model.specs.declared.parts.Parts.{Parts}
use Rattle.row_forms.specs.Columns.{extent_of}
use Rattle.slot_box.specs.declared.slot.Slot.{Slot}
use Rattle.slot_box.specs.declared.slot.Span.{Span}
use Rattle.slot_box.specs.declared.split.SplitKind.{SplitKind}
use Rattle.slot_box.specs.declared.split.SplitKind.TheVariants.{Ops, Volume, Start, End}
use Rattle.slot_box.specs.Boxes.{IsBox, no_slot, slot_at}
use Rattle.slot_box.specs.Slots.{IsSlot, span, has_zeros, live_of, operations_of}
use Rattle.slot_box.specs.Splits.{left_half, right_half, divides, is_cut_by}
use Rattle.slot_box.proofs.EntryLaws.{zeros_within}
use Rattle.slot_box.proofs.HalfLaws.{live-left, live-right, IsSlot-left, IsSlot-right}
use Rattle.slot_box.proofs.LiveLaws.{alone, pow_only, IsLive-from_live_of, live_of-from_IsLive}
use Rattle.slot_box.proofs.SplitLaws.{divided_from_lawful}
use Rattle.slot_rows.specs.Ranges.{live_span, bit_of_entry, entry_span, column_span, ranges_of}
use Rattle.slot_rows.proofs.FitLaws.{range-at}
use Rattle.slot_rows.proofs.SpanLaws.{of-slot}
use Rattle.named_rows.specs.Laws.{PartsHaveNarrowerRanges}

-- ---- one slot within another

-- what may fill the inner slot may fill the outer one
record Narrows (inner outer : Slot) : Type 0 where
  small : IsSlot inner
  live : (bit : ℕ) → IsBitSet (live_of inner) bit → IsBitSet (live_of outer) bit
  volume : inner.volume.hi ≤ outer.volume.hi
  start : (outer.start.lo ≤ inner.start.lo) × (inner.start.hi ≤ outer.start.hi)
  end : (outer.end.lo ≤ inner.end.lo) × (inner.end.hi ≤ outer.end.hi)

narrows-refl : (s : Slot) → IsSlot s → Narrows s s
narrows-refl s is = record { small = is; live = λ bit there. there; volume = omega arith; start = (omega arith, omega arith); end = (omega arith, omega arith) }

-- where one entry alone may fill the outer slot, it alone may fill the inner one
alone-inner : (inner outer : Slot) (bit : ℕ) → Narrows inner outer → live_of outer ≡ 2 ^ bit → live_of inner ≡ 2 ^ bit
alone-inner inner outer bit is whole =
    elim (in_or_out (live_of inner) bit) [
      | inl there ↦ alone (live_of inner) bit (one_from_set (live_of inner) bit there) (λ i digit. only i (set_from_one (live_of inner) i digit))
      | inr none ↦
          let nothing = same_from_bits (live_of inner) 0 (λ i. elim (in_or_out (live_of inner) i) [
            | inl there ↦ absurd (let same = only i there in let one = one_from_set (live_of inner) i there in
                let zero_too = subst (λ (j : ℕ). bit_at (live_of inner) j ≡ 0) (sym same) none in omega arith)
            | inr none_here ↦ none_here ∙ sym (bit_at-zero i)
          ]) in
          absurd (let some = is.small.live in omega arith)
    ]
  where
    only : (i : ℕ) → IsBitSet (live_of inner) i → i ≡ bit
    only i there = pow_only bit i (subst (λ (n : ℕ). bit_at n i ≡ 1) whole (one_from_set (live_of outer) i (is.live i there)))

-- the span lies within the other
abbrev LiesWithin : Span → Span → Type 0
LiesWithin inner outer = (outer.lo ≤ inner.lo) × (inner.lo ≤ inner.hi) × (inner.hi ≤ outer.hi)

live-within : (inner outer : Slot) → Narrows inner outer → (one other : Bool) → (other ≡ true → one ≡ true) → (part : Part) →
    LiesWithin (live_span one inner part) (live_span other outer part)
live-within inner outer is false true alike part = absurd (let never : false ≡ true = alike refl in cc)
live-within inner outer is one other alike (A crude) = (omega arith, omega arith, is.volume)
live-within inner outer is one other alike W = (omega arith, omega arith, omega arith)
live-within inner outer is true true alike Z = (omega arith, omega arith, omega arith)
live-within inner outer is true false alike Z = (omega arith, omega arith, omega arith)
live-within inner outer is false false alike Z = (omega arith, omega arith, omega arith)
live-within inner outer is true true alike S = (is.start.0, is.small.start.0, is.start.1)
live-within inner outer is true false alike S = (omega arith, is.small.start.0, is.start.1)
live-within inner outer is false false alike S = (omega arith, omega arith, is.start.1)
live-within inner outer is true true alike E = (is.end.0, is.small.end.0, is.end.1)
live-within inner outer is true false alike E = (omega arith, is.small.end.0, is.end.1)
live-within inner outer is false false alike E = (omega arith, omega arith, is.end.1)

none-within : (outer : Slot) (part : Part) → LiesWithin (span 0 0) (live_span false outer part)
none-within outer Z = (omega arith, omega arith, omega arith)
none-within outer (A crude) = (omega arith, omega arith, omega arith)
none-within outer S = (omega arith, omega arith, omega arith)
none-within outer E = (omega arith, omega arith, omega arith)
none-within outer W = (omega arith, omega arith, omega arith)

live-span : (s : Slot) (bit : ℕ) (part : Part) → IsBitSet (live_of s) bit → entry_span s bit part ≡ live_span (live_of s == 2 ^ bit) s part
live-span s bit part there = rw (eq-eqb (bit_at (live_of s) bit) 1 (one_from_set (live_of s) bit there)) refl

dead-span : (s : Slot) (bit : ℕ) (part : Part) → bit_at (live_of s) bit ≡ 0 → entry_span s bit part ≡ span 0 0
dead-span s bit part none =
    let apart : bit_at (live_of s) bit ≡ 1 → ⊥ = λ (one : bit_at (live_of s) bit ≡ 1). omega arith in
    rw (ne_eqb (bit_at (live_of s) bit) 1 apart) refl

-- where the entry is not live in the inner slot, it is not the only one in the outer one
not-alone : (inner outer : Slot) (bit : ℕ) → Narrows inner outer → bit_at (live_of inner) bit ≡ 0 → (live_of outer == 2 ^ bit) ≡ false
not-alone inner outer bit is none =
    elim (cases_eq (live_of outer) (2 ^ bit)) [
      | inr other ↦ ne_eqb (live_of outer) (2 ^ bit) other
      | inl whole ↦
          (let one = ap (λ (n : ℕ). bit_at n bit) (alone-inner inner outer bit is whole) ∙ bit_at-pow_same bit in absurd (omega arith))
    ]

dead-within : (inner outer : Slot) (bit : ℕ) (part : Part) → Narrows inner outer → bit_at (live_of inner) bit ≡ 0 →
    LiesWithin (span 0 0) (entry_span outer bit part)
dead-within inner outer bit part is none =
    elim (in_or_out (live_of outer) bit) [
      | inr nothing ↦ subst (LiesWithin (span 0 0)) (sym (dead-span outer bit part nothing)) (omega arith, omega arith, omega arith)
      | inl there ↦
          subst (LiesWithin (span 0 0))
          (sym (live-span outer bit part there ∙ ap (λ (b : Bool). live_span b outer part) (not-alone inner outer bit is none)))
          (none-within outer part)
    ]

entry-within : (inner outer : Slot) (bit : ℕ) (part : Part) → Narrows inner outer → LiesWithin (entry_span inner bit part) (entry_span outer bit part)
entry-within inner outer bit part is =
    elim (in_or_out (live_of inner) bit) [
      | inl there ↦
          subst (λ (s : Span). LiesWithin s (entry_span outer bit part)) (sym (live-span inner bit part there))
          (subst (LiesWithin (live_span (live_of inner == 2 ^ bit) inner part)) (sym (live-span outer bit part (is.live bit there)))
          (live-within inner outer is (live_of inner == 2 ^ bit) (live_of outer == 2 ^ bit)
          (λ same. eq-eqb (live_of inner) (2 ^ bit) (alone-inner inner outer bit is (eqb-true (live_of outer) (2 ^ bit) same))) part))
      | inr none ↦
          subst (λ (s : Span). LiesWithin s (entry_span outer bit part)) (sym (dead-span inner bit part none)) (dead-within inner outer bit part is none)
    ]

-- ---- halves

-- a live entry of a slot with as many zeros and entries
kept-live : (inner outer : Slot) (bit : ℕ) → IsSlot outer → (IsBitSet inner.ops bit → IsBitSet outer.ops bit) →
    (has_zeros inner ≡ true → has_zeros outer ≡ true) → IsBitSet (live_of inner) bit → IsBitSet (live_of outer) bit
kept-live inner outer bit is ops zeros there =
    let live = IsLive-from_live_of inner bit there in
    live_of-from_IsLive outer bit is (record { there = ops live.there; zeros = λ idle_one. zeros (live.zeros idle_one) })

cut-parts : (s : Span) (x n : ℕ) → (is_cut_by s x && nat_lt 0 n) ≡ true → (s.lo < x) × (x ≤ s.hi)
cut-parts s x n is = (grind (arith, nat_tests), grind (arith, nat_tests))

-- a slot whose numbers begin above 0 has no zeros
no-zeros : (s : Slot) (P : Type 0) → ((s.volume.lo ≡ 0) × (s.start.lo ≡ 0) × (s.end.lo ≡ 0) → ⊥) → has_zeros s ≡ true → P
no-zeros s P none zeros = absurd (none (zeros_within s zeros))

narrows-left : (s : Slot) (kind : SplitKind) → IsSlot s → divides s kind ≡ true → Narrows (left_half s kind) s
narrows-left s (Ops m) is cut = record {
  small = IsSlot-left s (Ops m) is cut;
  live = λ bit there. ((set_and (live_of s) m bit).0 (subst (λ (n : ℕ). IsBitSet n bit) (live-left s m) there)).0;
  volume = omega arith;
  start = (omega arith, omega arith);
  end = (omega arith, omega arith);
}
narrows-left s (Volume x) is cut =
    let within = cut-parts s.volume x (operations_of s) cut in
    record {
      small = IsSlot-left s (Volume x) is cut;
      live = λ bit there. kept-live (left_half s (Volume x)) s bit is (λ set. set) (λ zeros. zeros) there;
      volume = omega (arith, within.0, within.1);
      start = (omega arith, omega arith);
      end = (omega arith, omega arith);
    }
narrows-left s (Start x) is cut =
    let within = cut-parts s.start x (operations_of s) cut in
    record {
      small = IsSlot-left s (Start x) is cut;
      live = λ bit there. kept-live (left_half s (Start x)) s bit is (λ set. set) (λ zeros. zeros) there;
      volume = omega arith;
      start = (omega arith, omega (arith, within.0, within.1));
      end = (omega arith, omega arith);
    }
narrows-left s (End x) is cut =
    let within = cut-parts s.end x (operations_of s) cut in
    record {
      small = IsSlot-left s (End x) is cut;
      live = λ bit there. kept-live (left_half s (End x)) s bit is (λ set. set) (λ zeros. zeros) there;
      volume = omega arith;
      start = (omega arith, omega arith);
      end = (omega arith, omega (arith, within.0, within.1));
    }

narrows-right : (s : Slot) (kind : SplitKind) → IsSlot s → divides s kind ≡ true → Narrows (right_half s kind) s
narrows-right s (Ops m) is cut = record {
  small = IsSlot-right s (Ops m) is cut;
  live = λ bit there. (rest_from (live_of s) m bit (subst (λ (n : ℕ). IsBitSet n bit) (live-right s m) there)).0;
  volume = omega arith;
  start = (omega arith, omega arith);
  end = (omega arith, omega arith);
}
narrows-right s (Volume x) is cut =
    let within = cut-parts s.volume x (operations_of s) cut in
    record {
      small = IsSlot-right s (Volume x) is cut;
      live = λ bit there. kept-live (right_half s (Volume x)) s bit is (λ set. set)
          (no-zeros (right_half s (Volume x)) (has_zeros s ≡ true) (λ zeros. (let none = zeros.0 in omega (arith, within.0)))) there;
      volume = omega arith;
      start = (omega arith, omega arith);
      end = (omega arith, omega arith);
    }
narrows-right s (Start x) is cut =
    let within = cut-parts s.start x (operations_of s) cut in
    record {
      small = IsSlot-right s (Start x) is cut;
      live = λ bit there. kept-live (right_half s (Start x)) s bit is (λ set. set)
          (no-zeros (right_half s (Start x)) (has_zeros s ≡ true) (λ zeros. (let none = zeros.1 in omega (arith, within.0)))) there;
      volume = omega arith;
      start = (omega (arith, within.0), omega arith);
      end = (omega arith, omega arith);
    }
narrows-right s (End x) is cut =
    let within = cut-parts s.end x (operations_of s) cut in
    record {
      small = IsSlot-right s (End x) is cut;
      live = λ bit there. kept-live (right_half s (End x)) s bit is (λ set. set)
          (no-zeros (right_half s (End x)) (has_zeros s ≡ true) (λ zeros. (let none = zeros.2 in omega (arith, within.0)))) there;
      volume = omega arith;
      start = (omega arith, omega arith);
      end = (omega (arith, within.0), omega arith);
    }

-- ---- boxes

slot-there : (box : List Slot) (slot : ℕ) → IsBox box → 1 ≤ slot → slot ≤ length box → IsSlot (slot_at box slot)
slot-there box slot is some there = All-get_or IsSlot box (slot - 1) no_slot (omega arith) is.each

-- a slot of the box with the half in place of the one that is divided
slot-narrows : (box : List Slot) (i slot : ℕ) (half : Slot) → IsBox box → 1 ≤ i → i ≤ length box → 1 ≤ slot → slot ≤ length box →
    Narrows half (slot_at box i) → Narrows (slot_at (set box (i - 1) half) slot) (slot_at box slot)
slot-narrows box i slot half is some there from to narrows =
    elim (cases_eq slot i) [
      | inl same ↦
          let found = get_or-set_same box (i - 1) half no_slot (omega arith) in
          subst (λ (k : ℕ). Narrows (slot_at (set box (i - 1) half) k) (slot_at box k)) (sym same)
          (subst (λ (s : Slot). Narrows s (slot_at box i)) (sym found) narrows)
      | inr other ↦
          let apart : slot - 1 ≡ i - 1 → ⊥ = λ (same : slot - 1 ≡ i - 1). other (omega arith) in
          let found = get_or-set_other box (i - 1) (slot - 1) half no_slot apart in
          subst (λ (s : Slot). Narrows s (slot_at box slot)) (sym found) (narrows-refl (slot_at box slot) (slot-there box slot is from to))
    ]

column-narrows : (parts : Parts) (box : List Slot) (i : ℕ) (half : Slot) → IsBox box → 1 ≤ i → i ≤ length box → Narrows half (slot_at box i) →
    (column : Column) → IsColumn (extent_of parts (length box)) column →
    LiesWithin (column_span parts (set box (i - 1) half) column) (column_span parts box column)
column-narrows parts box i half is some there narrows column known =
    elim (cases_eq column.slot 0) [
      | inl none ↦ rw (eq-eqb column.slot 0 none) (omega arith, omega arith, omega arith)
      | inr slot ↦
          let of = of-slot (extent_of parts (length box)) column known slot in
          rw (ne_eqb column.slot 0 slot)
          (entry-within (slot_at (set box (i - 1) half) column.slot) (slot_at box column.slot) (bit_of_entry column.entry) column.part
          (slot-narrows box i column.slot half is some there of.some of.there narrows))
    ]

extent-same : (parts : Parts) (box other : List Slot) → length other ≡ length box → (ranges_of parts other).extent ≡ (ranges_of parts box).extent
unfolding ranges_of
extent-same parts box other same = ap (extent_of parts) same

extent-is : (parts : Parts) (box : List Slot) → (ranges_of parts box).extent ≡ extent_of parts (length box)
unfolding ranges_of
extent-is parts box = refl

half-within : (parts : Parts) (box : List Slot) (i : ℕ) (half : Slot) → IsBox box → 1 ≤ i → i ≤ length box → Narrows half (slot_at box i) →
    IsWithinRanges (ranges_of parts (set box (i - 1) half)) (ranges_of parts box)
half-within parts box i half is some there narrows =
    let inner = set box (i - 1) half in
    let count : length inner ≡ length box = length-set box (i - 1) half in
    record {
      same_columns = extent-same parts box inner count;
      inside = λ column known.
          let own = subst (λ (extent : Extent). IsColumn extent column) (extent-is parts box) known in
          let its = subst (λ (n : ℕ). IsColumn (extent_of parts n) column) (sym count) own in
          let spans = column-narrows parts box i half is some there narrows column own in
          subst (λ (r : Interval). ((range_of (ranges_of parts box) column).lo ≤ℤ r.lo) × (r.lo ≤ℤ r.hi) × (r.hi ≤ℤ (range_of (ranges_of parts box) column).hi))
          (sym (range-at parts inner column its))
          (subst (λ (r : Interval). (r.lo ≤ℤ pos (column_span parts inner column).lo)
          × (pos (column_span parts inner column).lo ≤ℤ pos (column_span parts inner column).hi) × (pos (column_span parts inner column).hi ≤ℤ r.hi))
          (sym (range-at parts box column own)) (omega (arith, ints, spans.0), omega (arith, ints, spans.1), omega (arith, ints, spans.2)));
    }

pub parts_have_narrower_ranges : (parts : Parts) → PartsHaveNarrowerRanges parts
parts_have_narrower_ranges parts box split is lawful =
    let s = slot_at box split.slot in
    let slot = slot-there box split.slot is lawful.from_one lawful.there in
    let cut = (divided_from_lawful box split lawful).divided in (
      half-within parts box split.slot (left_half s split.kind) is lawful.from_one lawful.there (narrows-left s split.kind slot cut),
      half-within parts box split.slot (right_half s split.kind) is lawful.from_one lawful.there (narrows-right s split.kind slot cut),
    )
