-- What a piece takes of the columns of a slot, and of the vessels.
use Rattle.std.proofs.Common.{◌≡◌, ℕ, ◌+◌, ◌-◌, ◌<◌, ◌≤◌, inl, inr, Bool, true, false, List, [], ◌∷◌, length, get_or, ap, sym, ◌∙◌, refl, arith}
use Rattle.std.specs.Prelude.{◌&&◌, nat_lt}
use Rattle.std.specs.List.{sum_by}
use Rattle.std.proofs.lemmas.Bool.{cases_lt, eq-eqb, ne_eqb, lt-ltb, le-ltb}
use Rattle.std.proofs.lemmas.List.{get_or_past}
use Rattle.std.proofs.lemmas.List.Sums.{sum_by-append, sum_by-cons}
use Rattle.item_lists.specs.Joined.{joined_below}
use Rattle.linear_form.specs.declared.column.Column.{Column}
use Rattle.linear_form.specs.declared.column.Part.{Part}
use Rattle.linear_form.specs.declared.column.Part.TheVariants.{Z, A, S, E}
use Rattle.linear_form.specs.Listed.{column_of, idle_column, vessel_column, operation_columns, columns_of, columns_of_slot}
use Rattle.number_laws.specs.Sums.{sum_below, when}
use Rattle.number_laws.proofs.SumLaws.{when-zero, when-and, sum_below-same, sum_below-zeros, sum_below-single, sum_below-at, sum_below-list, sum_by-joined_below, sum_by-singles}
use Rattle.plant_model.specs.declared.parts.Parts.{Parts}
use Rattle.plant_model.specs.Parts.{op_count_of, crude_count_of}
use Rattle.replay_core.specs.declared.timed.Timed.{Timed}
use Rattle.replay_core.specs.Steps.{step_at, draw_in}
use Rattle.row_forms.specs.declared.piece.Which.{Which}
use Rattle.row_forms.specs.declared.piece.Figure.{Figure}
use Rattle.row_forms.specs.declared.piece.Figure.TheVariants.{Choice, Volume, Amount, Start, End, Wait}
use Rattle.row_forms.specs.declared.piece.Piece.{Piece}
use Rattle.row_forms.specs.Columns.{extent_of}
use Rattle.row_forms.specs.Numbers.{part_of, entry_number, number_in}
use Rattle.row_forms.specs.Pieces.{takes, is_of, is_slot, covers}
use Rattle.row_forms.specs.Sums.{figure_of, figure_at, piece_sum}
use Rattle.row_forms.proofs.RunLaws.{Fits}

-- ---- the parts of an operation

-- the sum over the parts of an operation
abbrev sum_of_parts : ℕ → (Part → ℕ) → ℕ
sum_of_parts crudes g = g Z + (g S + (g E + sum_below crudes (λ c. g (A c))))

operation-sum : (g : Column → ℕ) (crudes slot v : ℕ) → sum_by g (operation_columns crudes slot v) ≡ sum_of_parts crudes (λ part. g (column_of slot v part))
operation-sum g crudes slot v =
    let amounts = joined_below crudes (λ c. column_of slot v (A c) ∷ []) in
    let end = column_of slot v E ∷ amounts in
    let start = column_of slot v S ∷ end in
    let first = sum_by-cons g (column_of slot v Z) start in
    let second = sum_by-cons g (column_of slot v S) end in
    let third = sum_by-cons g (column_of slot v E) amounts in
    let rest = sum_by-singles g crudes (λ c. column_of slot v (A c)) in
    omega arith

parts-same : (crudes : ℕ) (f g : Part → ℕ) → ((part : Part) → f part ≡ g part) → sum_of_parts crudes f ≡ sum_of_parts crudes g
parts-same crudes f g same =
    let z = same Z in let s = same S in let e = same E in
    let a = sum_below-same crudes (λ c. f (A c)) (λ c. g (A c)) (λ c under. same (A c)) in
    omega arith

none-below : (n : ℕ) → sum_below n (λ c. 0) ≡ 0
none-below n = sum_below-zeros n (λ c. 0) (λ k under. refl)

parts-none : (crudes : ℕ) (f : Part → ℕ) → ((part : Part) → f part ≡ 0) → sum_of_parts crudes f ≡ 0
parts-none crudes f none = let same = parts-same crudes f (λ part. 0) none in let zeros = none-below crudes in omega arith

-- the figure by the numbers of the parts
abbrev figure_by : ℕ → (Part → ℕ) → Figure → ℕ
figure_by crudes h Choice = h Z
figure_by crudes h Volume = sum_below crudes (λ c. h (A c))
figure_by crudes h (Amount d) = when (nat_lt d crudes) (h (A d))
figure_by crudes h Start = h S
figure_by crudes h End = h E
figure_by crudes h Wait = 0

figure-sum : (crudes : ℕ) (h : Part → ℕ) (figure : Figure) (b : Bool) → sum_of_parts crudes (λ part. when (b && is_of figure part) (h part)) ≡
    when b (figure_by crudes h figure)
figure-sum crudes h figure false = let none = none-below crudes in omega arith
figure-sum crudes h Choice true = let none = none-below crudes in omega arith
figure-sum crudes h Volume true = omega arith
figure-sum crudes h (Amount d) true = let at = sum_below-at crudes d (λ c. h (A c)) in omega arith
figure-sum crudes h Start true = let none = none-below crudes in omega arith
figure-sum crudes h End true = let none = none-below crudes in omega arith
figure-sum crudes h Wait true = let none = none-below crudes in omega arith

amount-of : (draw : List ℕ) (d : ℕ) → when (nat_lt d (length draw)) (get_or draw d 0) ≡ get_or draw d 0
amount-of draw d =
    elim (cases_lt d (length draw)) [
      | inl there ↦ rw (lt-ltb d (length draw) there) refl
      | inr past ↦ rw (le-ltb d (length draw) past) (sym (get_or_past draw d 0 past))
    ]

figure-of : (parts : Parts) (word : List Timed) (k : ℕ) (figure : Figure) → length (draw_in parts word k) ≡ crude_count_of parts →
    figure_by (crude_count_of parts) (part_of parts word k) figure ≡ figure_of parts word k figure
figure-of parts word k Choice draws = refl
figure-of parts word k Volume draws =
    ap (λ (n : ℕ). sum_below n (λ c. get_or (draw_in parts word k) c 0)) (sym draws) ∙ sum_below-list (draw_in parts word k)
figure-of parts word k (Amount d) draws =
    ap (λ (n : ℕ). when (nat_lt d n) (get_or (draw_in parts word k) d 0)) (sym draws) ∙ amount-of (draw_in parts word k) d
figure-of parts word k Start draws = refl
figure-of parts word k End draws = refl
figure-of parts word k Wait draws = refl

-- ---- a slot

when-three : (a b c : Bool) (n : ℕ) → when (a && b && c) n ≡ when a (when (c && b) n)
when-three true true true n = refl
when-three true true false n = refl
when-three true false true n = refl
when-three true false false n = refl
when-three false b c n = refl

-- the numbers of an entry's parts, as a figure takes them
abbrev entry_sum : Parts → List Timed → Figure → ℕ → Bool → ℕ → ℕ
entry_sum parts word figure k b v = sum_of_parts (crude_count_of parts) (λ part. when (b && is_of figure part) (entry_number parts word k v part))

entry_sum-none : (parts : Parts) (word : List Timed) (figure : Figure) (k v : ℕ) (b : Bool) → ((part : Part) → entry_number parts word k v part ≡ 0) →
    entry_sum parts word figure k b v ≡ 0
entry_sum-none parts word figure k v b none =
    parts-none (crude_count_of parts) (λ part. when (b && is_of figure part) (entry_number parts word k v part))
    (λ (part : Part). ap (when (b && is_of figure part)) (none part) ∙ when-zero (b && is_of figure part))

-- idle and all operations, where the slot is one of the piece's or not
abbrev whole_sum : Parts → List Timed → Which → Figure → ℕ → Bool → ℕ
whole_sum parts word which figure k s =
    when (s && takes parts which 255 && is_of figure Z) (entry_number parts word k 255 Z)
    + sum_below (op_count_of parts) (λ v. entry_sum parts word figure k (s && takes parts which v) v)

-- where an operation fills the slot
filled : (parts : Parts) (word : List Timed) (which : Which) (figure : Figure) (k : ℕ) (s : Bool) → Fits parts word → k < length word →
    whole_sum parts word which figure k s ≡ when s (figure_at parts word which figure k)
filled parts word which figure k s fits there =
    let few = fits.few in
    let ops = op_count_of parts in
    let op = (step_at word k).op in
    let known = fits.known k there in
    let here = lt-ltb k (length word) there in
    let not_idle : op ≡ 255 → ⊥ = λ (same : op ≡ 255). omega arith in
    let idle : entry_number parts word k 255 Z ≡ 0 = rw (here, ne_eqb op 255 not_idle) refl in
    let first = ap (when (s && takes parts which 255 && is_of figure Z)) idle ∙ when-zero (s && takes parts which 255 && is_of figure Z) in
    let other = λ (v : ℕ) (under : v < ops) (apart : v ≡ op → ⊥).
    let ne : op ≡ v → ⊥ = λ (same : op ≡ v). apart (sym same) in
    entry_sum-none parts word figure k v (s && takes parts which v) (λ (part : Part). rw (here, ne_eqb op v ne) refl) in
    let single = sum_below-single ops op (λ v. entry_sum parts word figure k (s && takes parts which v) v) known other in
    let own = parts-same (crude_count_of parts) (λ part. when (s && takes parts which op && is_of figure part) (entry_number parts word k op part))
    (λ part. when (s && takes parts which op && is_of figure part) (part_of parts word k part))
    (λ (part : Part). let is : entry_number parts word k op part ≡ part_of parts word k part = rw (here, eq-eqb op op refl) refl in
    ap (when (s && takes parts which op && is_of figure part)) is) in
    let sum = figure-sum (crude_count_of parts) (part_of parts word k) figure (s && takes parts which op) in
    let figures = ap (when (s && takes parts which op)) (figure-of parts word k figure (fits.draws k there)) in
    let and = when-and s (takes parts which op) (figure_of parts word k figure) in
    let is : figure_at parts word which figure k ≡ when (takes parts which op) (figure_of parts word k figure) = rw here refl in
    let right = ap (when s) is in
    omega arith

-- where it is idle
idle : (parts : Parts) (word : List Timed) (which : Which) (figure : Figure) (k : ℕ) (s : Bool) → Fits parts word → length word ≤ k →
    whole_sum parts word which figure k s ≡ when s (figure_at parts word which figure k)
idle parts word which figure k s fits past =
    let few = fits.few in
    let here = le-ltb k (length word) past in
    let is_idle : entry_number parts word k 255 Z ≡ 1 = rw here refl in
    let first = ap (when (s && takes parts which 255 && is_of figure Z)) is_idle in
    let three = when-three s (takes parts which 255) (is_of figure Z) 1 in
    let zeros = sum_below-zeros (op_count_of parts) (λ v. entry_sum parts word figure k (s && takes parts which v) v) (λ v under.
    let ne : v ≡ 255 → ⊥ = λ (same : v ≡ 255). omega arith in
    entry_sum-none parts word figure k v (s && takes parts which v) (λ (part : Part). rw (here, ne_eqb v 255 ne) refl)) in
    let is : figure_at parts word which figure k ≡ when (is_of figure Z && takes parts which 255) 1 = rw here refl in
    let right = ap (when s) is in
    omega arith

slot-whole : (parts : Parts) (word : List Timed) (which : Which) (figure : Figure) (k : ℕ) (s : Bool) → Fits parts word →
    whole_sum parts word which figure k s ≡ when s (figure_at parts word which figure k)
slot-whole parts word which figure k s fits =
    elim (cases_lt k (length word)) [
      | inl there ↦ filled parts word which figure k s fits there
      | inr past ↦ idle parts word which figure k s fits past
    ]

-- ---- all columns

-- what a piece takes of a column
abbrev pub taken_of : Parts → List Timed → Piece → Column → ℕ
taken_of parts word piece column = when (covers parts piece column) (number_in parts word column)

number-slot : (parts : Parts) (word : List Timed) (k v : ℕ) (part : Part) → number_in parts word (column_of (k + 1) v part) ≡ entry_number parts word k v part
number-slot parts word k v part =
    let some : k + 1 ≡ 0 → ⊥ = λ (none : k + 1 ≡ 0). omega arith in
    let back : k + 1 - 1 ≡ k = omega arith in
    rw (ne_eqb (k + 1) 0 some, back) refl

slot-sum : (parts : Parts) (n : ℕ) (word : List Timed) (piece : Piece) (k : ℕ) → Fits parts word →
    sum_by (taken_of parts word piece) (columns_of_slot (op_count_of parts) (crude_count_of parts) (k + 1)) ≡
    when (is_slot piece (k + 1)) (figure_at parts word piece.which piece.figure k)
slot-sum parts n word piece k fits =
    let ops = op_count_of parts in
    let crudes = crude_count_of parts in
    let s = is_slot piece (k + 1) in
    let g = taken_of parts word piece in
    let columns = λ (v : ℕ). operation_columns crudes (k + 1) v in
    let first = sum_by-cons g (idle_column (k + 1)) (joined_below ops columns) in
    let idle = ap (when (s && takes parts piece.which 255 && is_of piece.figure Z)) (number-slot parts word k 255 Z) in
    let rest = sum_by-joined_below g ops columns in
    let each = sum_below-same ops (λ v. sum_by g (columns v)) (λ v. entry_sum parts word piece.figure k (s && takes parts piece.which v) v)
    (λ v under. operation-sum g crudes (k + 1) v
    ∙ parts-same crudes (λ part. g (column_of (k + 1) v part))
    (λ part. when (s && takes parts piece.which v && is_of piece.figure part) (entry_number parts word k v part))
    (λ (part : Part). ap (when (s && takes parts piece.which v && is_of piece.figure part)) (number-slot parts word k v part))) in
    let whole = slot-whole parts word piece.which piece.figure k s fits in
    omega arith

-- what a piece takes of all columns
pub columns-sum : (parts : Parts) (n : ℕ) (word : List Timed) (piece : Piece) → Fits parts word →
    sum_by (taken_of parts word piece) (columns_of (extent_of parts n)) ≡ piece_sum parts n word piece
columns-sum parts n word piece fits =
    let extent = extent_of parts n in
    let g = taken_of parts word piece in
    let slots = λ (k : ℕ). columns_of_slot extent.ops extent.crudes (k + 1) in
    let vessels = joined_below (length parts.vessels) (λ p. vessel_column p ∷ []) in
    let parted = sum_by-append g (joined_below n slots) vessels in
    let first = sum_by-joined_below g n slots in
    let each = sum_below-same n (λ k. sum_by g (slots k)) (λ k. when (is_slot piece (k + 1)) (figure_at parts word piece.which piece.figure k))
    (λ k under. slot-sum parts n word piece k fits) in
    let waits = sum_by-singles g (length parts.vessels) vessel_column in
    omega arith
