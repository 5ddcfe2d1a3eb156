-- The points of a box, and how many they are.
use Rattle.std.proofs.Common.{◌≡◌, ℕ, zero, suc, inl, inr, ◌+◌, ◌*◌, ◌<◌, ◌≤◌, List, [], ◌∷◌, ◌++◌, length, get_or, set, take, min, refl, sym, ap, ◌∙◌, arith}
use Rattle.std.specs.List.{AllByRecursion}
use Rattle.std.proofs.Math.Nat.{mul-pos, add-mul, mul-add, mul-one, one-mul, mul-zero, mul_assoc, mul-le-mul_right, le-mul_of_pos_right, eq-zero-or-pos}
use Rattle.std.proofs.lemmas.List.{take_more}
use Rattle.std.proofs.lemmas.Bool.{cases_lt}
use Rattle.slot_box.specs.declared.slot.Slot.{Slot}
use Rattle.slot_box.specs.Boxes.{IsPoint, HasPoint, points_of, no_slot}
use Rattle.slot_box.specs.Counting.{IsCountOf}
use Rattle.slot_box.specs.Entries.{Entry, idle, LiesIn}
use Rattle.slot_box.specs.Slots.{IsSlot, ways_of}
use Rattle.slot_box.proofs.CountLaws.{pairs, renamed}
use Rattle.slot_box.proofs.EntryLaws.{IsCountOf-ways_of, ways_of-pos}

-- the box of no slots has the one point of no entries
no_slots : IsCountOf (IsPoint []) 1
no_slots =
    record {
      number_of = λ point. 0;
      thing_of = λ k. [];
      below = λ point is. omega arith;
      there = λ k small. tt;
      thing_of-number_of = back;
      number_of-thing_of = λ k small. omega arith;
    }
  where
    back : (point : List Entry) → IsPoint [] point → [] ≡ point
    back [] is = refl
    back (e ∷ point) is = absurd is

-- a box has as many points as the product of its slots' ways says
pub IsCountOf-points_of : (slots : List Slot) → AllByRecursion IsSlot slots → IsCountOf (IsPoint slots) (points_of slots)
IsCountOf-points_of [] each = no_slots
IsCountOf-points_of (s ∷ slots) each =
    renamed (λ p. LiesIn s p.0 × IsPoint slots p.1) (IsPoint (s ∷ slots)) (ways_of s * points_of slots) joined apart
    (pairs _ _ _ _ (IsCountOf-ways_of s each.0) (IsCountOf-points_of slots each.1)) (λ p is. (is, refl)) from
  where
    joined : Entry × List Entry → List Entry
    joined p = p.0 ∷ p.1

    apart : List Entry → Entry × List Entry
    apart [] = (idle, [])
    apart (e ∷ point) = (e, point)

    from : (point : List Entry) → IsPoint (s ∷ slots) point → (LiesIn s (apart point).0 × IsPoint slots (apart point).1) × (joined (apart point) ≡ point)
    from [] is = absurd is
    from (e ∷ point) is = (is, refl)

-- it has one at least
pub points_of-pos : (slots : List Slot) → AllByRecursion IsSlot slots → 0 < points_of slots
points_of-pos [] each = omega arith
points_of-pos (s ∷ slots) each = mul-pos (ways_of-pos s each.0) (points_of-pos slots each.1)

pub HasPoint-from_box : (slots : List Slot) → AllByRecursion IsSlot slots → HasPoint slots
HasPoint-from_box slots each =
    let counted = IsCountOf-points_of slots each in (counted.thing_of 0, counted.there 0 (points_of-pos slots each))

-- a count of one says that there is just one thing
pub one_from_count : {X : Type 0} (P : X → Type 0) → IsCountOf P 1 → (x : X) × P x × ((y : X) → P y → y ≡ x)
one_from_count {X} P counted =
    (counted.thing_of 0, counted.there 0 (omega arith), only)
  where
    only : (y : X) → P y → y ≡ counted.thing_of 0
    only y is = let small = counted.below y is in sym (counted.thing_of-number_of y is) ∙ ap counted.thing_of (omega arith)

pub count_from_one : {X : Type 0} (P : X → Type 0) (n : ℕ) → IsCountOf P n → (x : X) × P x × ((y : X) → P y → y ≡ x) → n ≡ 1
count_from_one P n counted one =
    let some : 0 < n = let less = counted.below one.0 one.1 in omega arith in
    elim (cases_lt 1 n) [
      | inl more ↦
          let first = one.2 _ (counted.there 0 some) in
          let second = one.2 _ (counted.there 1 more) in
          let numbers = sym (counted.number_of-thing_of 0 some) ∙ ap counted.number_of (first ∙ sym second) ∙ counted.number_of-thing_of 1 more in
          absurd (omega arith)
      | inr few ↦ omega arith
    ]

-- ---- a slot that is changed

-- the changed box has the points whose entry there lies in the new slot
pub IsPoint-set : (slots : List Slot) (j : ℕ) (s : Slot) (point : List Entry) → IsPoint slots point → LiesIn s (get_or point j idle)
    → IsPoint (set slots j s) point
IsPoint-set [] j s point is lies = is
IsPoint-set (x ∷ slots) j s [] is lies = absurd is
IsPoint-set (x ∷ slots) zero s (e ∷ point) is lies = (lies, is.1)
IsPoint-set (x ∷ slots) (suc j) s (e ∷ point) is lies = (is.0, IsPoint-set slots j s point is.1 lies)

pub LiesIn-set : (slots : List Slot) (j : ℕ) (s : Slot) (point : List Entry) → j < length slots → IsPoint (set slots j s) point
    → LiesIn s (get_or point j idle)
LiesIn-set [] j s point inside is = absurd (omega arith)
LiesIn-set (x ∷ slots) zero s [] inside is = absurd is
LiesIn-set (x ∷ slots) (suc j) s [] inside is = absurd is
LiesIn-set (x ∷ slots) zero s (e ∷ point) inside is = is.0
LiesIn-set (x ∷ slots) (suc j) s (e ∷ point) inside is = LiesIn-set slots j s point (omega arith) is.1

pub LiesIn-at : (slots : List Slot) (j : ℕ) (point : List Entry) → j < length slots → IsPoint slots point
    → LiesIn (get_or slots j no_slot) (get_or point j idle)
LiesIn-at [] j point inside is = absurd (omega arith)
LiesIn-at (x ∷ slots) j [] inside is = absurd is
LiesIn-at (x ∷ slots) zero (e ∷ point) inside is = is.0
LiesIn-at (x ∷ slots) (suc j) (e ∷ point) inside is = LiesIn-at slots j point (omega arith) is.1

pub IsPoint-from_set : (slots : List Slot) (j : ℕ) (s : Slot) (point : List Entry) → j < length slots → IsPoint (set slots j s) point
    → LiesIn (get_or slots j no_slot) (get_or point j idle) → IsPoint slots point
IsPoint-from_set [] j s point inside is lies = absurd (omega arith)
IsPoint-from_set (x ∷ slots) zero s [] inside is lies = absurd is
IsPoint-from_set (x ∷ slots) (suc j) s [] inside is lies = absurd is
IsPoint-from_set (x ∷ slots) zero s (e ∷ point) inside is lies = (lies, is.1)
IsPoint-from_set (x ∷ slots) (suc j) s (e ∷ point) inside is lies =
    (is.0, IsPoint-from_set slots j s point (omega arith) is.1 lies)

-- where two slots share the ways of one, so do the boxes share its points
pub points_of-set : (slots : List Slot) (j : ℕ) (a b : Slot) → j < length slots → ways_of a + ways_of b ≡ ways_of (get_or slots j no_slot)
    → points_of (set slots j a) + points_of (set slots j b) ≡ points_of slots
points_of-set [] j a b inside sum = absurd (omega arith)
points_of-set (x ∷ slots) zero a b inside sum = sym (add-mul (ways_of a) (ways_of b) (points_of slots)) ∙ ap (λ w. w * points_of slots) sum
points_of-set (x ∷ slots) (suc j) a b inside sum =
    sym (mul-add (ways_of x) (points_of (set slots j a)) (points_of (set slots j b))) ∙ ap (λ p. ways_of x * p) (points_of-set slots j a b (omega arith) sum)

-- ---- the points of a list of slots, slot by slot

points_of-push : (slots : List Slot) (s : Slot) → points_of (slots ++ s ∷ []) ≡ points_of slots * ways_of s
points_of-push [] s = mul-one (ways_of s) ∙ sym (one-mul (ways_of s))
points_of-push (x ∷ slots) s = ap (λ n. ways_of x * n) (points_of-push slots s) ∙ sym (mul_assoc (ways_of x) (points_of slots) (ways_of s))

pub points_of-more : (slots : List Slot) (i : ℕ) (d : Slot) → i < length slots
    → points_of (take (i + 1) slots) ≡ points_of (take i slots) * ways_of (get_or slots i d)
points_of-more slots i d inside = ap points_of (take_more slots i d inside) ∙ points_of-push (take i slots) _

-- a product that stops at a greatest number
pub min-mul-min : (a b most : ℕ) → min (min a most * b) most ≡ min (a * b) most
min-mul-min a b most =
    elim (cases_lt most a) [
      | inl more ↦
          elim (eq-zero-or-pos b) [
            | inl none ↦ ap (λ n. min n most) (ap (λ n. min a most * n) none ∙ mul-zero (min a most) ∙ sym (ap (λ n. a * n) none ∙ mul-zero a))
            | inr some ↦
                let least : min a most ≡ most = omega arith in
                let up : most ≤ most * b = le-mul_of_pos_right most some in
                let upper : most * b ≤ a * b = mul-le-mul_right b (omega arith) in
                ap (λ n. min (n * b) most) least ∙ omega arith
          ]
      | inr few ↦ let least : min a most ≡ a = omega arith in ap (λ n. min (n * b) most) least
    ]
