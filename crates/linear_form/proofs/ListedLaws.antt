-- No column stands twice in the list of columns, and all are columns of the extent.
use Rattle.std.proofs.Common.{◌≡◌, ◌≢◌, ℕ, zero, suc, ◌+◌, ◌<◌, ◌≤◌, inl, inr, List, [], ◌∷◌, ◌++◌, All, ap, refl, arith}
use Rattle.std.proofs.lemmas.List.Elements.{All-head, All-tail, All-nil, All-cons, All-append}
use Rattle.item_lists.specs.Joined.{joined_below}
use Rattle.item_lists.proofs.ListLaws.{All-joined_below}
use Rattle.linear_form.specs.declared.column.TheConstants.{IDLE_ENTRY}
use Rattle.linear_form.specs.declared.column.Column.{Column}
use Rattle.linear_form.specs.declared.column.Part.TheVariants.{Z, A, S, E}
use Rattle.linear_form.specs.Columns.{Extent, IsColumn, part_number}
use Rattle.linear_form.specs.Listed.{column_of, idle_column, vessel_column, operation_columns, columns_of_slot, columns_of}

-- ---- columns that are apart

-- no column stands twice
abbrev pub AreApart : List Column → Type 0
AreApart [] = Unit {0}
AreApart (column ∷ columns) = All (λ other. other ≢ column) columns × AreApart columns

-- those of the one list have what those of the other have not
apart_append : (P Q : Column → Type 0) → ((x y : Column) → P x → Q y → y ≢ x) → (xs ys : List Column) → AreApart xs → AreApart ys → All P xs → All Q ys →
    AreApart (xs ++ ys)
apart_append P Q differ [] ys first second ps qs = second
apart_append P Q differ (x ∷ xs) ys first second ps qs = (
  All-append (λ (other : Column). other ≢ x) xs ys first.0 (λ k d there. differ x _ (All-head P x xs ps) (qs k d there)),
  apart_append P Q differ xs ys first.1 second (All-tail P x xs ps) qs,
)

-- a column with a key of its own
apart_cons : (key : Column → ℕ) (x : Column) (xs : List Column) → All (λ y. key y ≢ key x) xs → AreApart xs → AreApart (x ∷ xs)
apart_cons key x xs differ apart = ((λ k d there same. differ k d there (ap key same)), apart)

-- columns that have one key
record AreLevel (key : Column → ℕ) (level : ℕ) (xs : List Column) : Type 0 where
  apart : AreApart xs
  same : All (λ x. key x ≡ level) xs

-- columns whose keys lie between two numbers
record AreBetween (key : Column → ℕ) (low high : ℕ) (xs : List Column) : Type 0 where
  apart : AreApart xs
  above : All (λ x. low ≤ key x) xs
  below : All (λ x. key x < high) xs

-- one level above the other
joined_apart : (key : Column → ℕ) (low n : ℕ) (f : ℕ → List Column) → ((k : ℕ) → k < n → AreLevel key (low + k) (f k)) →
    AreBetween key low (low + n) (joined_below n f)
joined_apart key low zero f each = record {
  apart = tt;
  above = All-nil (λ (x : Column). low ≤ key x);
  below = All-nil (λ (x : Column). key x < low + 0);
}
joined_apart key low (suc n) f each =
    let first = joined_apart key low n f (λ k under. each k (omega arith)) in
    let last = each n (omega arith) in
    record {
      apart = apart_append (λ (x : Column). key x < low + n) (λ (y : Column). key y ≡ low + n)
          (λ x y less same equal. (let keys = ap key equal in omega arith))
          (joined_below n f) (f n) first.apart last.apart first.below last.same;
      above = All-append (λ (x : Column). low ≤ key x) (joined_below n f) (f n) first.above
          (λ k d there. (let same = last.same k d there in omega arith));
      below = All-append (λ (x : Column). key x < low + suc n) (joined_below n f) (f n)
          (λ k d there. (let less = first.below k d there in omega arith)) (λ k d there. (let same = last.same k d there in omega arith));
    }

single_level : (key : Column → ℕ) (level : ℕ) (x : Column) → key x ≡ level → AreLevel key level (x ∷ [])
single_level key level x is = record {
  apart = (All-nil (λ (other : Column). other ≢ x), tt);
  same = All-cons (λ (y : Column). key y ≡ level) x [] is (All-nil (λ (y : Column). key y ≡ level));
}

-- ---- the columns of an extent

abbrev part_key : Column → ℕ
part_key column = part_number column.part

abbrev entry_key : Column → ℕ
entry_key column = column.entry

abbrev pub slot_key : Column → ℕ
slot_key column = column.slot

-- what holds of each part of an operation holds of all
pub all_operation : (P : Column → Type 0) (crudes slot v : ℕ) → P (column_of slot v Z) → P (column_of slot v S) → P (column_of slot v E) →
    ((c : ℕ) → c < crudes → P (column_of slot v (A c))) → All P (operation_columns crudes slot v)
all_operation P crudes slot v z s e each =
    let amounts = joined_below crudes (λ c. column_of slot v (A c) ∷ []) in
    All-cons P (column_of slot v Z) (column_of slot v S ∷ column_of slot v E ∷ amounts) z
    (All-cons P (column_of slot v S) (column_of slot v E ∷ amounts) s
    (All-cons P (column_of slot v E) amounts e
    (All-joined_below P crudes (λ c. column_of slot v (A c) ∷ []) (λ c under. All-cons P (column_of slot v (A c)) [] (each c under) (All-nil P)))))

operation-apart : (crudes slot v : ℕ) → AreApart (operation_columns crudes slot v)
operation-apart crudes slot v =
    let amounts = joined_below crudes (λ c. column_of slot v (A c) ∷ []) in
    let joined = joined_apart part_key 3 crudes (λ c. column_of slot v (A c) ∷ []) (λ c under. single_level part_key (3 + c) (column_of slot v (A c)) refl) in
    let past_end : All (λ (y : Column). 2 < part_key y) amounts = λ k d there. (let above = joined.above k d there in omega arith) in
    let past_start : All (λ (y : Column). 1 < part_key y) (column_of slot v E ∷ amounts) =
    All-cons (λ (y : Column). 1 < part_key y) (column_of slot v E) amounts (omega arith) (λ k d there. (let above = past_end k d there in omega arith)) in
    let past_choice : All (λ (y : Column). 0 < part_key y) (column_of slot v S ∷ column_of slot v E ∷ amounts) =
    All-cons (λ (y : Column). 0 < part_key y) (column_of slot v S) (column_of slot v E ∷ amounts) (omega arith)
    (λ k d there. (let above = past_start k d there in omega arith)) in
    apart_cons part_key (column_of slot v Z) (column_of slot v S ∷ column_of slot v E ∷ amounts)
    (λ k d there same. (let above = past_choice k d there in omega arith))
    (apart_cons part_key (column_of slot v S) (column_of slot v E ∷ amounts) (λ k d there same. (let above = past_start k d there in omega arith))
    (apart_cons part_key (column_of slot v E) amounts (λ k d there same. (let above = past_end k d there in omega arith)) joined.apart))

operations-apart : (ops crudes slot : ℕ) → AreBetween entry_key 0 (0 + ops) (joined_below ops (operation_columns crudes slot))
operations-apart ops crudes slot =
    joined_apart entry_key 0 ops (operation_columns crudes slot) (λ v under. record {
      apart = operation-apart crudes slot v;
      same = all_operation (λ (x : Column). entry_key x ≡ 0 + v) crudes slot v (omega arith) (omega arith) (omega arith) (λ c within. omega arith);
    })

slot-apart : (ops crudes slot : ℕ) → ops ≤ IDLE_ENTRY → AreApart (columns_of_slot ops crudes slot)
slot-apart ops crudes slot few =
    let operations = joined_below ops (operation_columns crudes slot) in
    let apart = operations-apart ops crudes slot in
    apart_cons entry_key (idle_column slot) operations (λ k d there same. (let below = apart.below k d there in omega arith)) apart.apart

-- what holds of idle and of each part of each operation holds of the slot
pub all_slot : (P : Column → Type 0) (ops crudes slot : ℕ) → P (idle_column slot) →
    ((v : ℕ) → v < ops → All P (operation_columns crudes slot v)) → All P (columns_of_slot ops crudes slot)
all_slot P ops crudes slot idle each =
    All-cons P (idle_column slot) (joined_below ops (operation_columns crudes slot)) idle (All-joined_below P ops (operation_columns crudes slot) each)

pub slot-level : (ops crudes slot : ℕ) → All (λ x. slot_key x ≡ slot) (columns_of_slot ops crudes slot)
slot-level ops crudes slot =
    all_slot (λ (x : Column). slot_key x ≡ slot) ops crudes slot refl
    (λ v under. all_operation (λ (x : Column). slot_key x ≡ slot) crudes slot v refl refl refl (λ c within. refl))

slots-apart : (extent : Extent) → extent.ops ≤ IDLE_ENTRY →
    AreBetween slot_key 1 (1 + extent.slots) (joined_below extent.slots (λ k. columns_of_slot extent.ops extent.crudes (k + 1)))
slots-apart extent few =
    joined_apart slot_key 1 extent.slots (λ k. columns_of_slot extent.ops extent.crudes (k + 1)) (λ k under. record {
      apart = slot-apart extent.ops extent.crudes (k + 1) few;
      same = (λ i d there. (let same = slot-level extent.ops extent.crudes (k + 1) i d there in omega arith));
    })

vessels-apart : (vessels : ℕ) → AreBetween entry_key 0 (0 + vessels) (joined_below vessels (λ p. vessel_column p ∷ []))
vessels-apart vessels = joined_apart entry_key 0 vessels (λ p. vessel_column p ∷ []) (λ p under. single_level entry_key (0 + p) (vessel_column p) (omega arith))

vessels-level : (vessels : ℕ) → All (λ x. slot_key x ≡ 0) (joined_below vessels (λ p. vessel_column p ∷ []))
vessels-level vessels =
    All-joined_below (λ (x : Column). slot_key x ≡ 0) vessels (λ p. vessel_column p ∷ [])
    (λ p under. All-cons (λ (x : Column). slot_key x ≡ 0) (vessel_column p) [] refl (All-nil (λ (x : Column). slot_key x ≡ 0)))

pub columns-apart : (extent : Extent) → extent.ops ≤ IDLE_ENTRY → AreApart (columns_of extent)
columns-apart extent few =
    let slots = slots-apart extent few in
    apart_append (λ (x : Column). 1 ≤ slot_key x) (λ (y : Column). slot_key y ≡ 0) (λ x y some none equal. (let keys = ap slot_key equal in omega arith))
    (joined_below extent.slots (λ k. columns_of_slot extent.ops extent.crudes (k + 1))) (joined_below extent.vessels (λ p. vessel_column p ∷ []))
    slots.apart (vessels-apart extent.vessels).apart slots.above (vessels-level extent.vessels)

-- ---- of the extent

slot-there : (extent : Extent) (k : ℕ) → k < extent.slots → All (IsColumn extent) (columns_of_slot extent.ops extent.crudes (k + 1))
slot-there extent k under =
    let one : 1 ≤ k + 1 = omega arith in
    let most : k + 1 ≤ extent.slots = omega arith in
    all_slot (IsColumn extent) extent.ops extent.crudes (k + 1) (record { slot_there = (one, most); part_there = inr refl })
    (λ v known. all_operation (IsColumn extent) extent.crudes (k + 1) v
    (record { slot_there = (one, most); part_there = inl known }) (record { slot_there = (one, most); part_there = known })
    (record { slot_there = (one, most); part_there = known }) (λ c within. record { slot_there = (one, most); part_there = (known, within) }))

pub columns-there : (extent : Extent) → All (IsColumn extent) (columns_of extent)
columns-there extent =
    All-append (IsColumn extent)
    (joined_below extent.slots (λ k. columns_of_slot extent.ops extent.crudes (k + 1))) (joined_below extent.vessels (λ p. vessel_column p ∷ []))
    (All-joined_below (IsColumn extent) extent.slots (λ k. columns_of_slot extent.ops extent.crudes (k + 1)) (slot-there extent))
    (All-joined_below (IsColumn extent) extent.vessels (λ p. vessel_column p ∷ [])
    (λ p under. All-cons (IsColumn extent) (vessel_column p) [] (record { slot_there = refl; part_there = under }) (All-nil (IsColumn extent))))
