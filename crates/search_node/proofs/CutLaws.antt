-- How a box is divided, and which boxes have one point.
use Rattle.std.proofs.Common.{◌≡◌, ◌⊎◌, ℕ, inl, inr, ◌+◌, ◌-◌, ◌*◌, ◌%◌, ◌^◌, ◌<◌, ◌≤◌, true, false, List, [], ◌∷◌, length, take, get_or, All, Option, Some, None, refl, sym, ap, ap₂, subst, ◌∙◌, arith}
use Rattle.std.specs.Prelude.{◌↔◌, ◌&&◌, nat_le, nat_lt, bit_and, IfSome, MatchOption}
use Rattle.std.specs.Int.{w64, trailing_zeros}
use Rattle.std.specs.Option.{is_some}
use Rattle.std.specs.Int.Count.{ones}
use Rattle.std.proofs.Math.Nat.{eq-zero-or-pos, pow-le-pow_right, zero-mul}
use Rattle.std.proofs.lemmas.Bool.{and_from, cases_Bool, cases_eq, cases_lt, cond-false, cond-true, false≢true, le-leb, leb-true, lt-ltb}
use Rattle.std.proofs.lemmas.List.Elements.{All-head, All-more, All-tail}
use Rattle.std.proofs.lemmas.Nat.{ones-le, pow_below, pow_pos, zero_from_ones}
use Rattle.slot_box.specs.declared.slot.Slot.{Slot}
use Rattle.slot_box.specs.declared.slot.Span.{Span}
use Rattle.slot_box.specs.declared.split.Split.{Split}
use Rattle.slot_box.specs.declared.split.SplitKind.{SplitKind}
use Rattle.slot_box.specs.declared.split.SplitKind.TheVariants.{Ops, Volume, Start, End}
use Rattle.slot_box.specs.Boxes.{IsBox, no_slot, points_of, slot_at}
use Rattle.slot_box.specs.Slots.{IsFixedTo, IsSlot, has_zeros, live_of, operations_of, size_of, ways_of}
use Rattle.slot_box.specs.Even.{IsMiddle}
use Rattle.slot_box.specs.Splits.{divides, is_cut_by}
use Rattle.slot_box.proofs.EntryLaws.{live_with_zeros, live_without, operations_alone}
use Rattle.slot_box.proofs.HalfLaws.{live_small}
use Rattle.slot_box.proofs.LiveLaws.{live_below, power_from_ones}
use Rattle.slot_box.proofs.SplitLaws.{IsLawfulSplit-from_test}
use Rattle.search_node.specs.declared.splits.Cut.{Cut}
use Rattle.slot_box.specs.Even.{DividesEvenly, HalvesEntries}
use Rattle.search_node.specs.inside.Splitting.{Follows, HasOneEntry, HasOneTime, HasOneVolume, IsGood, IsPartOf, Runs}

-- ---- one slot more

pub each_more : (P : Slot → Type 0) (box : List Slot) (i : ℕ) → i < length box → All P (take i box) → P (slot_at box (i + 1)) → All P (take (i + 1) box)
each_more P box i inside before here =
    let back : i + 1 - 1 ≡ i = omega arith in
    All-more P box i no_slot inside before (subst (λ (k : ℕ). P (get_or box k no_slot)) back here)

pub slot_of_box : (box : List Slot) (i : ℕ) → IsBox box → 1 ≤ i → i ≤ length box → IsSlot (slot_at box i)
slot_of_box box i is from there = is.each (i - 1) no_slot (omega arith)

-- ---- one slot

-- some entry is live
pub some_live : (s : Slot) → IsSlot s → 1 ≤ ones (live_of s)
some_live s slot =
    elim (eq-zero-or-pos (ones (live_of s))) [
      | inl none ↦ absurd (let live = slot.live in let nothing = zero_from_ones (live_of s) none in omega arith)
      | inr more ↦ more
    ]

-- a slot that has one live entry, and is fixed to no operation, is idle
pub free_is_idle : (s : Slot) → IsSlot s → HasOneEntry s → ((op : ℕ) → IsFixedTo s op → ⊥) → Runs s → ⊥
free_is_idle s slot one free runs =
    let power = power_from_ones (live_of s) (live_small s slot) one in
    elim (cases_lt (trailing_zeros w64 (live_of s)) 63) [
      | inl small ↦ free (trailing_zeros w64 (live_of s)) (record { operation = small; alone = power })
      | inr large ↦ absurd (let more = pow-le-pow_right {n = 2} (omega arith) large in omega arith)
    ]

-- a fixed slot has an operation
pub runs_some : (s : Slot) (op : ℕ) → IsFixedTo s op → 0 < operations_of s
runs_some s op fixed =
    let less = pow_below op 63 fixed.operation in
    let some = pow_pos op in
    let alone = fixed.alone in
    elim (cases_Bool (nat_le (2 ^ 63) (live_of s))) [
      | inl large ↦ absurd (let more = leb-true (2 ^ 63) (live_of s) large in omega arith)
      | inr small ↦ let same = operations_alone s small in omega arith
    ]

-- where nothing is found to which it is fixed
pub idle_unless_found : (s : Slot) (found : Option ℕ) → IsSlot s → HasOneEntry s → is_some found ≡ false → ((op : ℕ) → (found ≡ Some op) ↔ IsFixedTo s op) → Runs s → ⊥
idle_unless_found s found slot one none fixed =
    free_is_idle s slot one (λ op is. false≢true (sym none ∙ ap is_some ((fixed op).1 is)))

pub runs_where_found : (s : Slot) (found : Option ℕ) → is_some found ≡ true → ((op : ℕ) → (found ≡ Some op) ↔ IsFixedTo s op) → 0 < operations_of s
runs_where_found s None some fixed = absurd (false≢true some)
runs_where_found s (Some op) some fixed = runs_some s op ((fixed op).0 refl)

-- one live entry and one number in each interval make one way
pub one_way : (s : Slot) → IsSlot s → HasOneEntry s → HasOneVolume s → HasOneTime s → ways_of s ≡ 1
one_way s slot one volume time = elim (cases_Bool (nat_le (2 ^ 63) (live_of s))) [ inl large ↦ idle large | inr small ↦ running small ]
  where
    ones_none : ones 0 ≡ 0
    ones_none = let few = ones-le 0 0 (omega arith) in omega arith

    top : nat_le (2 ^ 63) (live_of s) ≡ true → live_of s ≡ 2 ^ 63
    top large =
        let more = leb-true (2 ^ 63) (live_of s) large in
        elim (cases_eq (live_of s) (2 ^ 63)) [
          | inl same ↦ same
          | inr other ↦ absurd (let less = live_below s slot one other in omega arith)
        ]

    running : nat_le (2 ^ 63) (live_of s) ≡ false → ways_of s ≡ 1
    running small =
        let same = operations_alone s small in
        let its_volume = volume same in
        let its_start = time.start same in
        let its_end = time.end same in
        let count = ap ones same in
        let a : ones (operations_of s) ≡ 1 = omega arith in
        let b : size_of s.volume ≡ 1 = omega arith in
        let c : size_of s.start ≡ 1 = omega arith in
        let d : size_of s.end ≡ 1 = omega arith in
        let runs : ones (operations_of s) * size_of s.volume * size_of s.start * size_of s.end ≡ 1 = rw (a, b, c, d) refl in
        ap₂ (λ (n m : ℕ). n + m) {v = 0} runs (cond-false _ 1 0 small)

    idle : nat_le (2 ^ 63) (live_of s) ≡ true → ways_of s ≡ 1
    idle large =
        let only : live_of s ≡ 2 ^ 63 = top large in
        elim (cases_Bool (has_zeros s)) [
          | inl zeros ↦
              let set : s.ops ≡ 2 ^ 63 = sym (live_with_zeros s zeros) ∙ only in
              let none : ones (operations_of s) ≡ 0 = ap (λ (n : ℕ). ones (n % 2 ^ 63)) set ∙ ones_none in
              let runs : ones (operations_of s) * size_of s.volume * size_of s.start * size_of s.end ≡ 0 = rw (none, zero-mul, zero-mul, zero-mul) refl in
              ap₂ (λ (n m : ℕ). n + m) runs (cond-true _ 1 0 large)
          | inr none ↦ absurd (let same = live_without s none in omega arith)
        ]

-- so does each such slot of a box
pub one_point : (box : List Slot) → All IsSlot box → All HasOneEntry box → All HasOneVolume box → All HasOneTime box → points_of box ≡ 1
one_point [] each one volume time = refl
one_point (s ∷ box) each one volume time =
    let here = one_way s (All-head IsSlot s box each) (All-head HasOneEntry s box one) (All-head HasOneVolume s box volume) (All-head HasOneTime s box time) in
    let rest = one_point box (All-tail IsSlot s box each) (All-tail HasOneEntry s box one) (All-tail HasOneVolume s box volume) (All-tail HasOneTime s box time) in
    ap₂ (λ (n m : ℕ). n * m) here rest

-- ---- what divides a slot

-- an interval with two numbers or more is cut by its middle
cut_by_middle : (span : Span) (x n : ℕ) → span.lo < span.hi → IsMiddle span x → 0 < n → (is_cut_by span x && nat_lt 0 n) ≡ true
cut_by_middle span x n wide middle some =
    and_from (is_cut_by span x) (nat_lt 0 n)
    (and_from (nat_lt span.lo x) (nat_le x span.hi) (lt-ltb span.lo x (omega arith)) (le-leb x span.hi (omega arith))) (lt-ltb 0 n some)

module _ (box : List Slot) (i : ℕ) (is : IsBox box) (from : 1 ≤ i) (there : i ≤ length box) where
  good_by : (kind : SplitKind) → divides (slot_at box i) kind ≡ true → DividesEvenly (slot_at box i) kind → IsGood box (record { slot = i; kind = kind })
  good_by kind divided even =
      record {
        lawful = IsLawfulSplit-from_test box (record { slot = i; kind = kind }) is (record { from_one = from; there = there; divided = divided });
        even = even;
      }

  module _ (some : 0 < operations_of (slot_at box i)) (x : ℕ) where
    pub good_volume : IsMiddle (slot_at box i).volume x → (slot_at box i).volume.lo < (slot_at box i).volume.hi → IsGood box (record { slot = i; kind = Volume x })
    good_volume middle wide = good_by (Volume x) (cut_by_middle (slot_at box i).volume x _ wide middle some) middle

    pub good_start : IsMiddle (slot_at box i).start x → (slot_at box i).start.lo < (slot_at box i).start.hi → IsGood box (record { slot = i; kind = Start x })
    good_start middle wide = good_by (Start x) (cut_by_middle (slot_at box i).start x _ wide middle some) middle

    pub good_end : IsMiddle (slot_at box i).end x → (slot_at box i).end.lo < (slot_at box i).end.hi → IsGood box (record { slot = i; kind = End x })
    good_end middle wide = good_by (End x) (cut_by_middle (slot_at box i).end x _ wide middle some) middle

  -- half of the live entries of a slot
  pub good_half : (set : ℕ) → IsPartOf set (live_of (slot_at box i)) → 0 < set → set < live_of (slot_at box i) → HalvesEntries (live_of (slot_at box i)) set
      → IsGood box (record { slot = i; kind = Ops set })
  good_half set part some less half =
      let there : 0 < bit_and (live_of (slot_at box i)) set = rw part some in
      let other : bit_and (live_of (slot_at box i)) set < live_of (slot_at box i) = rw part less in
      good_by (Ops set) (and_from _ _ (lt-ltb _ _ there) (lt-ltb _ _ other)) half

-- ---- the wider of two

-- nothing more was looked at
pub follows_free : (P : Type 0) (box : List Slot) (best : Option Cut) → P → Follows P box best best
follows_free P box best is = record { none = λ none. (none, is); some = same best }
  where
    same : (found : Option Cut) → IfSome found (λ cut. (found ≡ Some cut) ⊎ IsGood box cut.split)
    same None = tt
    same (Some cut) = inl refl

-- an interval was looked at
pub follows_wider : (P : Type 0) (box : List Slot) (best found : Option Cut) (lo hi : ℕ) (split : Split) →
    ((found ≡ None) ↔ ((best ≡ None) × (lo ≡ hi))) → IfSome found (λ cut. (best ≡ Some cut) ⊎ ((lo < hi) × (cut.split ≡ split))) →
    (lo < hi → IsGood box split) → (lo ≡ hi → P) → Follows P box best found
follows_wider P box best found lo hi split none some good one =
    record { none = λ is. let both = none.0 is in (both.0, one both.1); some = by found some }
  where
    by : (now : Option Cut) → IfSome now (λ cut. (best ≡ Some cut) ⊎ ((lo < hi) × (cut.split ≡ split))) →
        IfSome now (λ cut. (best ≡ Some cut) ⊎ IsGood box cut.split)
    by None is = tt
    by (Some cut) is = elim is [ inl same ↦ inl same | inr wide ↦ inr (subst (IsGood box) (sym wide.1) (good wide.0)) ]

-- and then another one
pub follows_then : (P Q R : Type 0) (box : List Slot) (best first second : Option Cut) → Follows P box best first → Follows Q box first second → (P → Q → R) →
    Follows R box best second
follows_then P Q R box best first second one other both =
    record {
      none = λ is. let last = other.none is in let start = one.none last.0 in (start.0, both start.1 last.1);
      some = by second other.some;
    }
  where
    by : (now : Option Cut) → IfSome now (λ cut. (first ≡ Some cut) ⊎ IsGood box cut.split) → IfSome now (λ cut. (best ≡ Some cut) ⊎ IsGood box cut.split)
    by None is = tt
    by (Some cut) is =
        elim is [
          | inl same ↦ subst (λ (o : Option Cut). IfSome o (λ c. (best ≡ Some c) ⊎ IsGood box c.split)) same one.some
          | inr good ↦ inr good
        ]

-- so all slots are looked at
pub found_next : (P Before After : Type 0) (box : List Slot) (best found : Option Cut) → Follows P box best found → (Before → P → After) →
    MatchOption best Before (λ cut. IsGood box cut.split) → MatchOption found After (λ cut. IsGood box cut.split)
found_next P Before After box best None follows more before =
    let both = follows.none refl in
    more (subst (λ (o : Option Cut). MatchOption o Before (λ cut. IsGood box cut.split)) both.0 before) both.1
found_next P Before After box best (Some cut) follows more before =
    elim follows.some [
      | inl same ↦ subst (λ (o : Option Cut). MatchOption o Before (λ c. IsGood box c.split)) same before
      | inr good ↦ good
    ]

-- ---- the slot that is chosen

pub found_still : (Before After : Type 0) (P : ℕ → Type 0) (found : Option ℕ) → (Before → After) → MatchOption found Before P → MatchOption found After P
found_still Before After P None more before = more before
found_still Before After P (Some i) more before = before
