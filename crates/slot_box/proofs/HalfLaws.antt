-- The two halves of a slot.
use Rattle.std.proofs.Common.{◌≡◌, ℕ, zero, suc, inl, inr, ◌+◌, ◌-◌, ◌*◌, ◌/◌, ◌%◌, ◌^◌, ◌<◌, ◌≤◌, true, false, refl, sym, ap, ap₂, ◌∙◌, subst, arith}
use Rattle.std.specs.Prelude.{IsBitSet, ◌⊎◌, bit_and, nat_le, nat_lt, if◌then◌else◌, ◌&&◌}
use Rattle.std.proofs.lemmas.Nat.{and_mod, and_shr, and_le_l, mod_below, pow_pos}
use Rattle.std.proofs.Math.Nat.{mod-mod, mod-eq_of_lt}
use Rattle.std.proofs.lemmas.Bool.{cases_Bool, cases_lt, and_parts, and_from, ltb-true, leb-true, leb-false, lt-ltb, le-leb, false≢true, cond-true, cond-false, false_from_ne_true}
use Rattle.std.specs.Int.Count.{ones}
use Rattle.number_laws.proofs.BitLaws.{set_from_one, rest, rest_from, in_or_out, out_from_digit, ones_parts, set_and}
use Rattle.slot_box.specs.declared.slot.Slot.{Slot}
use Rattle.slot_box.specs.declared.split.SplitKind.{SplitKind}
use Rattle.slot_box.specs.declared.split.SplitKind.TheVariants.{Ops, Volume, Start, End}
use Rattle.slot_box.specs.Boxes.{IsSlotOfRoot}
use Rattle.slot_box.specs.Entries.{Entry, idle, runs, bit_of, volume_of, start_of, end_of, LiesIn}
use Rattle.slot_box.specs.Slots.{IsSlot, size_of, operations_of, has_zeros, live_of, ways_of}
use Rattle.slot_box.specs.Splits.{GoesLeft, left_half, right_half, divides}
use Rattle.slot_box.proofs.EntryLaws.{live_with_zeros, live_without, zeros_of_idle, zeros_within, operation_digit}

-- ---- which entries lie in a half

pub goes_left_or_not : (kind : SplitKind) (e : Entry) → GoesLeft kind e ⊎ (¬ (GoesLeft kind e))
goes_left_or_not (Ops set) e = elim (in_or_out set (bit_of e)) [ inl there ↦ inl there | inr none ↦ inr (out_from_digit _ _ none) ]
goes_left_or_not (Volume x) e = elim (cases_lt _ x) [ inl less ↦ inl less | inr more ↦ inr (λ less. absurd (omega arith)) ]
goes_left_or_not (Start x) e = elim (cases_lt _ x) [ inl less ↦ inl less | inr more ↦ inr (λ less. absurd (omega arith)) ]
goes_left_or_not (End x) e = elim (cases_lt _ x) [ inl less ↦ inl less | inr more ↦ inr (λ less. absurd (omega arith)) ]

pub LiesIn-left : (s : Slot) (kind : SplitKind) (e : Entry) → LiesIn s e → GoesLeft kind e → LiesIn (left_half s kind) e
LiesIn-left s (Ops set) e lies left =
    record {
      known = lies.known;
      there = (set_and s.ops set (bit_of e)).1 (lies.there, left);
      volume = lies.volume;
      start = lies.start;
      end = lies.end;
    }
LiesIn-left s (Volume x) e lies left =
    record { known = lies.known; there = lies.there; volume = (lies.volume.0, omega arith); start = lies.start; end = lies.end }
LiesIn-left s (Start x) e lies left =
    record { known = lies.known; there = lies.there; volume = lies.volume; start = (lies.start.0, omega arith); end = lies.end }
LiesIn-left s (End x) e lies left =
    record { known = lies.known; there = lies.there; volume = lies.volume; start = lies.start; end = (lies.end.0, omega arith) }

not_below : (n x : ℕ) → (¬ (n < x)) → x ≤ n
not_below n x out = elim (cases_lt n x) [ inl less ↦ absurd (out less) | inr more ↦ more ]

pub LiesIn-right : (s : Slot) (kind : SplitKind) (e : Entry) → LiesIn s e → (¬ (GoesLeft kind e)) → LiesIn (right_half s kind) e
LiesIn-right s (Ops set) e lies out =
    record {
      known = lies.known;
      there = rest s.ops set (bit_of e) lies.there out;
      volume = lies.volume;
      start = lies.start;
      end = lies.end;
    }
LiesIn-right s (Volume x) e lies out =
    record { known = lies.known; there = lies.there; volume = (not_below _ x out, lies.volume.1); start = lies.start; end = lies.end }
LiesIn-right s (Start x) e lies out =
    record { known = lies.known; there = lies.there; volume = lies.volume; start = (not_below _ x out, lies.start.1); end = lies.end }
LiesIn-right s (End x) e lies out =
    record { known = lies.known; there = lies.there; volume = lies.volume; start = lies.start; end = (not_below _ x out, lies.end.1) }

-- what a kind that divides a slot by a number says of it
cut_at : (lo hi x n : ℕ) → (nat_lt lo x && nat_le x hi && nat_lt 0 n) ≡ true → (lo < x) × (x ≤ hi) × (0 < n)
cut_at lo hi x n is =
    let parts = and_parts (nat_lt lo x && nat_le x hi) (nat_lt 0 n) is in
    let cut = and_parts (nat_lt lo x) (nat_le x hi) parts.0 in
    (ltb-true _ _ cut.0, leb-true _ _ cut.1, ltb-true _ _ parts.1)

cut_from : (lo hi x n : ℕ) → lo < x → x ≤ hi → 0 < n → (nat_lt lo x && nat_le x hi && nat_lt 0 n) ≡ true
cut_from lo hi x n below upto some =
    and_from (nat_lt lo x && nat_le x hi) (nat_lt 0 n) (and_from (nat_lt lo x) (nat_le x hi) (lt-ltb _ _ below) (le-leb _ _ upto)) (lt-ltb _ _ some)

pub LiesIn-from_left : (s : Slot) (kind : SplitKind) (e : Entry) → divides s kind ≡ true → LiesIn (left_half s kind) e → LiesIn s e × GoesLeft kind e
LiesIn-from_left s (Ops set) e is lies =
    let there = (set_and s.ops set (bit_of e)).0 lies.there in
    (record { known = lies.known; there = there.0; volume = lies.volume; start = lies.start; end = lies.end }, there.1)
LiesIn-from_left s (Volume x) e is lies =
    let cut = cut_at s.volume.lo s.volume.hi x (operations_of s) is in (
      record {
        known = lies.known;
        there = lies.there;
        volume = (lies.volume.0, omega (arith, lies.volume.1, cut));
        start = lies.start;
        end = lies.end;
      },
      omega (arith, lies.volume.1, cut),
    )
LiesIn-from_left s (Start x) e is lies =
    let cut = cut_at s.start.lo s.start.hi x (operations_of s) is in (
      record {
        known = lies.known;
        there = lies.there;
        volume = lies.volume;
        start = (lies.start.0, omega (arith, lies.start.1, cut));
        end = lies.end;
      },
      omega (arith, lies.start.1, cut),
    )
LiesIn-from_left s (End x) e is lies =
    let cut = cut_at s.end.lo s.end.hi x (operations_of s) is in (
      record {
        known = lies.known;
        there = lies.there;
        volume = lies.volume;
        start = lies.start;
        end = (lies.end.0, omega (arith, lies.end.1, cut));
      },
      omega (arith, lies.end.1, cut),
    )

pub LiesIn-from_right : (s : Slot) (kind : SplitKind) (e : Entry) → divides s kind ≡ true → LiesIn (right_half s kind) e → LiesIn s e × (¬ (GoesLeft kind e))
LiesIn-from_right s (Ops set) e is lies =
    let there = rest_from s.ops set (bit_of e) lies.there in
    (record { known = lies.known; there = there.0; volume = lies.volume; start = lies.start; end = lies.end }, there.1)
LiesIn-from_right s (Volume x) e is lies =
    let cut = cut_at s.volume.lo s.volume.hi x (operations_of s) is in
    let from = lies.volume.0 in (
      record {
        known = lies.known;
        there = lies.there;
        volume = (omega (arith, cut), lies.volume.1);
        start = lies.start;
        end = lies.end;
      },
      λ left. absurd (omega arith),
    )
LiesIn-from_right s (Start x) e is lies =
    let cut = cut_at s.start.lo s.start.hi x (operations_of s) is in
    let from = lies.start.0 in (
      record {
        known = lies.known;
        there = lies.there;
        volume = lies.volume;
        start = (omega (arith, cut), lies.start.1);
        end = lies.end;
      },
      λ left. absurd (omega arith),
    )
LiesIn-from_right s (End x) e is lies =
    let cut = cut_at s.end.lo s.end.hi x (operations_of s) is in
    let from = lies.end.0 in (
      record {
        known = lies.known;
        there = lies.there;
        volume = lies.volume;
        start = lies.start;
        end = (omega (arith, cut), lies.end.1);
      },
      λ left. absurd (omega arith),
    )

-- ---- the live entries of the halves by a set

-- what the one part of a set leaves of it, digit for digit
mod_and : (w a b : ℕ) → bit_and a b % 2 ^ w ≡ bit_and (a % 2 ^ w) b
mod_and w a b =
    let small : bit_and (a % 2 ^ w) b < 2 ^ w = let less = and_le_l (a % 2 ^ w) b in let part = mod_below a (2 ^ w) (pow_pos w) in omega arith in
    and_mod a b w ∙ ap (λ x. bit_and x (b % 2 ^ w)) (sym (mod-mod a (2 ^ w))) ∙ sym (and_mod (a % 2 ^ w) b w) ∙ mod-eq_of_lt small

mod_rest : (a b : ℕ) → (a - bit_and a b) % 2 ^ 63 ≡ a % 2 ^ 63 - bit_and (a % 2 ^ 63) b
mod_rest a b =
    let low = mod_and 63 a b in
    let low_less = and_le_l (a % 2 ^ 63) b in
    let high = and_shr a b 63 in
    let high_less = and_le_l (a / 2 ^ 63) (b / 2 ^ 63) in
    omega arith

pub live-left : (s : Slot) (m : ℕ) → live_of (left_half s (Ops m)) ≡ bit_and (live_of s) m
live-left s m =
    elim (cases_Bool (has_zeros s)) [
      | inl zeros ↦ live_with_zeros (left_half s (Ops m)) zeros ∙ ap (λ x. bit_and x m) (sym (live_with_zeros s zeros))
      | inr none ↦ live_without (left_half s (Ops m)) none ∙ mod_and 63 s.ops m ∙ ap (λ x. bit_and x m) (sym (live_without s none))
    ]

pub live-right : (s : Slot) (m : ℕ) → live_of (right_half s (Ops m)) ≡ live_of s - bit_and (live_of s) m
live-right s m =
    elim (cases_Bool (has_zeros s)) [
      | inl zeros ↦ live_with_zeros (right_half s (Ops m)) zeros ∙ ap (λ x. x - bit_and x m) (sym (live_with_zeros s zeros))
      | inr none ↦ live_without (right_half s (Ops m)) none ∙ mod_rest s.ops m ∙ ap (λ x. x - bit_and x m) (sym (live_without s none))
    ]

-- ---- the halves keep the limits

-- an operation of the set is live
live_from_operations : (s : Slot) → 0 < operations_of s → 0 < live_of s
live_from_operations s some =
    elim (cases_Bool (has_zeros s)) [
      | inl zeros ↦ let live = live_with_zeros s zeros in omega arith
      | inr none ↦ let live = live_without s none in omega arith
    ]

divides_set : (live m : ℕ) → (nat_lt 0 (bit_and live m) && nat_lt (bit_and live m) live) ≡ true → (0 < bit_and live m) × (bit_and live m < live)
divides_set live m is =
    let parts = and_parts (nat_lt 0 (bit_and live m)) (nat_lt (bit_and live m) live) is in
    (ltb-true _ _ parts.0, ltb-true _ _ parts.1)

pub IsSlot-left : (s : Slot) (kind : SplitKind) → IsSlot s → divides s kind ≡ true → IsSlot (left_half s kind)
IsSlot-left s (Ops m) slot is =
    let parts = divides_set (live_of s) m is in
    let less = and_le_l s.ops m in
    let low_less = and_le_l (s.ops % 2 ^ 63) m in
    let low = mod_and 63 s.ops m in
    let live = live-left s m in
    record { volume = slot.volume; start = slot.start; end = slot.end; set = omega (arith, slot.set); known = omega (arith, slot.known); live = omega arith }
IsSlot-left s (Volume x) slot is =
    let cut = cut_at s.volume.lo s.volume.hi x (operations_of s) is in
    record {
      volume = (omega (arith, cut), omega (arith, cut, slot.volume));
      start = slot.start;
      end = slot.end;
      set = slot.set;
      known = slot.known;
      live = live_from_operations (left_half s (Volume x)) cut.2;
    }
IsSlot-left s (Start x) slot is =
    let cut = cut_at s.start.lo s.start.hi x (operations_of s) is in
    record {
      volume = slot.volume;
      start = (omega (arith, cut), omega (arith, cut, slot.start));
      end = slot.end;
      set = slot.set;
      known = slot.known;
      live = live_from_operations (left_half s (Start x)) cut.2;
    }
IsSlot-left s (End x) slot is =
    let cut = cut_at s.end.lo s.end.hi x (operations_of s) is in
    record {
      volume = slot.volume;
      start = slot.start;
      end = (omega (arith, cut), omega (arith, cut, slot.end));
      set = slot.set;
      known = slot.known;
      live = live_from_operations (left_half s (End x)) cut.2;
    }

pub IsSlot-right : (s : Slot) (kind : SplitKind) → IsSlot s → divides s kind ≡ true → IsSlot (right_half s kind)
IsSlot-right s (Ops m) slot is =
    let parts = divides_set (live_of s) m is in
    let low = mod_rest s.ops m in
    let live = live-right s m in
    record { volume = slot.volume; start = slot.start; end = slot.end; set = omega (arith, slot.set); known = omega (arith, slot.known); live = omega arith }
IsSlot-right s (Volume x) slot is =
    let cut = cut_at s.volume.lo s.volume.hi x (operations_of s) is in
    record {
      volume = (cut.1, slot.volume.1);
      start = slot.start;
      end = slot.end;
      set = slot.set;
      known = slot.known;
      live = live_from_operations (right_half s (Volume x)) cut.2;
    }
IsSlot-right s (Start x) slot is =
    let cut = cut_at s.start.lo s.start.hi x (operations_of s) is in
    record {
      volume = slot.volume;
      start = (cut.1, slot.start.1);
      end = slot.end;
      set = slot.set;
      known = slot.known;
      live = live_from_operations (right_half s (Start x)) cut.2;
    }
IsSlot-right s (End x) slot is =
    let cut = cut_at s.end.lo s.end.hi x (operations_of s) is in
    record {
      volume = slot.volume;
      start = slot.start;
      end = (cut.1, slot.end.1);
      set = slot.set;
      known = slot.known;
      live = live_from_operations (right_half s (End x)) cut.2;
    }

-- ---- the halves lie within what the slot lies within

pub IsSlotOfRoot-left : (ops volume horizon : ℕ) (s : Slot) (kind : SplitKind) → divides s kind ≡ true → IsSlotOfRoot ops volume horizon s
    → IsSlotOfRoot ops volume horizon (left_half s kind)
IsSlotOfRoot-left ops volume horizon s (Ops m) is within =
    let low_less = and_le_l (s.ops % 2 ^ 63) m in
    let low = mod_and 63 s.ops m in
    record { set = omega (arith, within.set); volume_end = within.volume_end; start_end = within.start_end; end_end = within.end_end }
IsSlotOfRoot-left ops volume horizon s (Volume x) is within =
    let cut = cut_at s.volume.lo s.volume.hi x (operations_of s) is in
    record {
      set = within.set;
      volume_end = omega (arith, cut, within.volume_end);
      start_end = within.start_end;
      end_end = within.end_end;
    }
IsSlotOfRoot-left ops volume horizon s (Start x) is within =
    let cut = cut_at s.start.lo s.start.hi x (operations_of s) is in
    record {
      set = within.set;
      volume_end = within.volume_end;
      start_end = omega (arith, cut, within.start_end);
      end_end = within.end_end;
    }
IsSlotOfRoot-left ops volume horizon s (End x) is within =
    let cut = cut_at s.end.lo s.end.hi x (operations_of s) is in
    record {
      set = within.set;
      volume_end = within.volume_end;
      start_end = within.start_end;
      end_end = omega (arith, cut, within.end_end);
    }

pub IsSlotOfRoot-right : (ops volume horizon : ℕ) (s : Slot) (kind : SplitKind) → IsSlotOfRoot ops volume horizon s
    → IsSlotOfRoot ops volume horizon (right_half s kind)
IsSlotOfRoot-right ops volume horizon s (Ops m) within =
    let low = mod_rest s.ops m in
    record { set = omega (arith, within.set); volume_end = within.volume_end; start_end = within.start_end; end_end = within.end_end }
IsSlotOfRoot-right ops volume horizon s (Volume x) within =
    record { set = within.set; volume_end = within.volume_end; start_end = within.start_end; end_end = within.end_end }
IsSlotOfRoot-right ops volume horizon s (Start x) within =
    record { set = within.set; volume_end = within.volume_end; start_end = within.start_end; end_end = within.end_end }
IsSlotOfRoot-right ops volume horizon s (End x) within =
    record { set = within.set; volume_end = within.volume_end; start_end = within.start_end; end_end = within.end_end }

-- ---- a kind divides a slot where it has an entry on each side

some_from_bit : (set k : ℕ) → IsBitSet set k → 0 < set
some_from_bit zero k there = absurd (there refl)
some_from_bit (suc set) k there = omega arith

pub live_entry : (s : Slot) (e : Entry) → LiesIn s e → IsBitSet (live_of s) (bit_of e)
live_entry s e lies =
    elim (cases_Bool (has_zeros s)) [
      | inl zeros ↦ subst (λ set. IsBitSet set (bit_of e)) (sym (live_with_zeros s zeros)) lies.there
      | inr none ↦ subst (λ set. IsBitSet set (bit_of e)) (sym (live_without s none)) (operation e lies none)
    ]
  where
    operation : (e : Entry) → LiesIn s e → has_zeros s ≡ false → IsBitSet (operations_of s) (bit_of e)
    operation idle lies none = absurd (false≢true (sym none ∙ zeros_of_idle s lies))
    operation (runs op start end volume) lies none =
        set_from_one _ op (operation_digit s op lies.known lies.there)

some_operation : (s : Slot) (e : Entry) → LiesIn s e → (0 < volume_of e) ⊎ (0 < start_of e) ⊎ (0 < end_of e) → 0 < operations_of s
some_operation s idle lies more = absurd (elim more [ inl v ↦ omega arith | inr b ↦ elim b [ inl s ↦ omega arith | inr e ↦ omega arith ] ])
some_operation s (runs op start end volume) lies more =
    some_from_bit _ op (set_from_one _ op (operation_digit s op lies.known lies.there))

pub divides_from : (s : Slot) (kind : SplitKind) (e f : Entry) → LiesIn s e → GoesLeft kind e → LiesIn s f → (¬ (GoesLeft kind f)) → divides s kind ≡ true
divides_from s (Ops m) e f lies_e left lies_f right =
    let here = some_from_bit _ (bit_of e) ((set_and (live_of s) m (bit_of e)).1 (live_entry s e lies_e, left)) in
    let there = some_from_bit _ (bit_of f) (rest (live_of s) m (bit_of f) (live_entry s f lies_f) right) in
    let less : bit_and (live_of s) m < live_of s = omega arith in
    and_from _ _ (lt-ltb _ _ here) (lt-ltb _ _ less)
divides_from s (Volume x) e f lies_e left lies_f right =
    let above = not_below _ x right in
    let from = lies_e.volume.0 in
    let upto = lies_f.volume.1 in
    let some = some_operation s f lies_f (inl (omega arith)) in
    cut_from s.volume.lo s.volume.hi x (operations_of s) (omega arith) (omega arith) some
divides_from s (Start x) e f lies_e left lies_f right =
    let above = not_below _ x right in
    let from = lies_e.start.0 in
    let upto = lies_f.start.1 in
    let some = some_operation s f lies_f (inr (inl (omega arith))) in
    cut_from s.start.lo s.start.hi x (operations_of s) (omega arith) (omega arith) some
divides_from s (End x) e f lies_e left lies_f right =
    let above = not_below _ x right in
    let from = lies_e.end.0 in
    let upto = lies_f.end.1 in
    let some = some_operation s f lies_f (inr (inr (omega arith))) in
    cut_from s.end.lo s.end.hi x (operations_of s) (omega arith) (omega arith) some

-- ---- the halves share the ways

-- idle is the top digit of the live entries
top : (n : ℕ) → n < 2 ^ 64 → (if nat_le (2 ^ 63) n then 1 else 0) ≡ n / 2 ^ 63
top n small =
    elim (cases_Bool (nat_le (2 ^ 63) n)) [
      | inl is ↦ let more = leb-true (2 ^ 63) n is in cond-true _ 1 0 is ∙ omega arith
      | inr is ↦ let less = leb-false (2 ^ 63) n is in cond-false _ 1 0 is ∙ omega arith
    ]

pub live_small : (s : Slot) → IsSlot s → live_of s < 2 ^ 64
live_small s slot =
    let set = slot.set in
    elim (cases_Bool (has_zeros s)) [
      | inl zeros ↦ let live = live_with_zeros s zeros in omega arith
      | inr none ↦ let live = live_without s none in omega arith
    ]

-- the number of ways, from the number of operations, the sizes and the live entries
abbrev ways : ℕ → ℕ → ℕ → ℕ → ℕ → ℕ
ways count volumes starts ends live = count * volumes * starts * ends + live / 2 ^ 63

ways_of-ways : (s : Slot) → IsSlot s → ways_of s ≡ ways (ones (operations_of s)) (size_of s.volume) (size_of s.start) (size_of s.end) (live_of s)
ways_of-ways s slot =
    ap (λ i. ones (operations_of s) * size_of s.volume * size_of s.start * size_of s.end + i) (top (live_of s) (live_small s slot))

shared_count : (a b v s e i j : ℕ) → (a * v * s * e + i) + (b * v * s * e + j) ≡ (a + b) * v * s * e + (i + j)
shared_count a b v s e i j = omega arith

shared_volume : (n a b s e i j : ℕ) → (n * a * s * e + i) + (n * b * s * e + j) ≡ n * (a + b) * s * e + (i + j)
shared_volume n a b s e i j = omega arith

shared_start : (n v a b e i j : ℕ) → (n * v * a * e + i) + (n * v * b * e + j) ≡ n * v * (a + b) * e + (i + j)
shared_start n v a b e i j = omega arith

shared_end : (n v s a b i j : ℕ) → (n * v * s * a + i) + (n * v * s * b + j) ≡ n * v * s * (a + b) + (i + j)
shared_end n v s a b i j = omega arith

-- the top digits of the parts of a set
top_parts : (n m : ℕ) → bit_and n m / 2 ^ 63 + (n - bit_and n m) / 2 ^ 63 ≡ n / 2 ^ 63
top_parts n m =
    let low = mod_and 63 n m in
    let low_less = and_le_l (n % 2 ^ 63) m in
    let high = and_shr n m 63 in
    let high_less = and_le_l (n / 2 ^ 63) (m / 2 ^ 63) in
    omega arith

-- a slot that begins above 0 has no live idle
live_above : (s : Slot) → (0 < s.volume.lo) ⊎ (0 < s.start.lo) ⊎ (0 < s.end.lo) → live_of s ≡ operations_of s
live_above s above =
    live_without s (false_from_ne_true _ (λ zeros. let each = zeros_within s zeros in
    elim above [ inl v ↦ absurd (omega arith) | inr b ↦ elim b [ inl t ↦ absurd (omega arith) | inr e ↦ absurd (omega arith) ] ]))

pub ways_of-halves : (s : Slot) (kind : SplitKind) → IsSlot s → divides s kind ≡ true → ways_of (left_half s kind) + ways_of (right_half s kind) ≡ ways_of s
ways_of-halves s (Ops m) slot is =
    let set = operations_of s in
    let v = size_of s.volume in
    let t = size_of s.start in
    let e = size_of s.end in
    let live = live_of s in
    let left : ways_of (left_half s (Ops m)) ≡ ways (ones (bit_and set m)) v t e (bit_and live m) =
    ways_of-ways _ (IsSlot-left s (Ops m) slot is) ∙ ap₂ (λ o l. ways (ones o) v t e l) (mod_and 63 s.ops m) (live-left s m) in
    let right : ways_of (right_half s (Ops m)) ≡ ways (ones (set - bit_and set m)) v t e (live - bit_and live m) =
    ways_of-ways _ (IsSlot-right s (Ops m) slot is) ∙ ap₂ (λ o l. ways (ones o) v t e l) (mod_rest s.ops m) (live-right s m) in
    ap₂ (λ a b. a + b) left right
    ∙ shared_count (ones (bit_and set m)) (ones (set - bit_and set m)) v t e (bit_and live m / 2 ^ 63) ((live - bit_and live m) / 2 ^ 63)
    ∙ ap₂ (λ c i. c * v * t * e + i) (ones_parts 63 set m (omega arith)) (top_parts live m)
    ∙ sym (ways_of-ways s slot)
ways_of-halves s (Volume x) slot is =
    let cut = cut_at s.volume.lo s.volume.hi x (operations_of s) is in
    let n = ones (operations_of s) in
    let t = size_of s.start in
    let e = size_of s.end in
    let left = ways_of-ways _ (IsSlot-left s (Volume x) slot is) in
    let dead = live_above (right_half s (Volume x)) (inl (omega (arith, cut))) in
    let right = ways_of-ways _ (IsSlot-right s (Volume x) slot is) ∙ ap (λ l. ways n (size_of (right_half s (Volume x)).volume) t e l) dead in
    ap₂ (λ a b. a + b) left right
    ∙ shared_volume n (size_of (left_half s (Volume x)).volume) (size_of (right_half s (Volume x)).volume) t e (live_of s / 2 ^ 63) (operations_of s / 2 ^ 63)
    ∙ ap₂ (λ c i. n * c * t * e + i) (omega (arith, cut)) (omega arith)
    ∙ sym (ways_of-ways s slot)
ways_of-halves s (Start x) slot is =
    let cut = cut_at s.start.lo s.start.hi x (operations_of s) is in
    let n = ones (operations_of s) in
    let v = size_of s.volume in
    let e = size_of s.end in
    let left = ways_of-ways _ (IsSlot-left s (Start x) slot is) in
    let dead = live_above (right_half s (Start x)) (inr (inl (omega (arith, cut)))) in
    let right = ways_of-ways _ (IsSlot-right s (Start x) slot is) ∙ ap (λ l. ways n v (size_of (right_half s (Start x)).start) e l) dead in
    ap₂ (λ a b. a + b) left right
    ∙ shared_start n v (size_of (left_half s (Start x)).start) (size_of (right_half s (Start x)).start) e (live_of s / 2 ^ 63) (operations_of s / 2 ^ 63)
    ∙ ap₂ (λ c i. n * v * c * e + i) (omega (arith, cut)) (omega arith)
    ∙ sym (ways_of-ways s slot)
ways_of-halves s (End x) slot is =
    let cut = cut_at s.end.lo s.end.hi x (operations_of s) is in
    let n = ones (operations_of s) in
    let v = size_of s.volume in
    let t = size_of s.start in
    let left = ways_of-ways _ (IsSlot-left s (End x) slot is) in
    let dead = live_above (right_half s (End x)) (inr (inr (omega (arith, cut)))) in
    let right = ways_of-ways _ (IsSlot-right s (End x) slot is) ∙ ap (λ l. ways n v t (size_of (right_half s (End x)).end) l) dead in
    ap₂ (λ a b. a + b) left right
    ∙ shared_end n v t (size_of (left_half s (End x)).end) (size_of (right_half s (End x)).end) (live_of s / 2 ^ 63) (operations_of s / 2 ^ 63)
    ∙ ap₂ (λ c i. n * v * t * c + i) (omega (arith, cut)) (omega arith)
    ∙ sym (ways_of-ways s slot)
