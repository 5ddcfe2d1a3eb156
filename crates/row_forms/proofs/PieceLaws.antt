-- Figures of operations; pieces of one slot, of the first slots, and of a vessel.
use Rattle.std.proofs.Common.{◌≡◌, ℕ, ◌+◌, ◌-◌, ◌<◌, ◌≤◌, inl, inr, Bool, true, false, List, length, ℤ, ◌∙◌, refl, arith}
use Rattle.std.specs.Prelude.{◌&&◌, nat_lt, nat_le}
use Rattle.std.proofs.lemmas.Bool.{lt-ltb, le-ltb, cases_lt, cases_Bool, eq-eqb, ne_eqb, le-leb, lt-leb}
use Rattle.linear_form.specs.declared.column.TheConstants.{IDLE_ENTRY}
use Rattle.linear_form.specs.declared.column.Part.TheVariants.{Z}
use Rattle.linear_form.specs.Listed.{vessel_column}
use Rattle.number_laws.specs.Sums.{sum_below, when}
use Rattle.number_laws.proofs.SumLaws.{sum_below-same, sum_below-zeros, sum_below-cut, sum_below-single}
use Rattle.plant_model.specs.declared.parts.Parts.{Parts}
use Rattle.plant_model.specs.Parts.{op_count_of}
use Rattle.plant_model.specs.Sound.{SoundPlant}
use Rattle.replay_core.specs.declared.timed.Timed.{Timed}
use Rattle.replay_core.specs.Margin.{wait_of}
use Rattle.row_forms.specs.declared.piece.Figure.{Figure}
use Rattle.row_forms.specs.declared.piece.Figure.TheVariants.{Wait}
use Rattle.row_forms.specs.declared.piece.Piece.{Piece}
use Rattle.row_forms.specs.declared.piece.Which.{Which}
use Rattle.row_forms.specs.declared.piece.Which.TheVariants.{Any, Idle, One, From, Into, Among, Charges}
use Rattle.row_forms.specs.Laws.{FiguresAreOfOperations, OneSlotIsItsFigure, FirstSlotsAreTheirFigures, WaitIsTheVessels}
use Rattle.row_forms.specs.Pieces.{takes, is_of, covers, piece_of, wait_piece}
use Rattle.row_forms.specs.Sums.{TakesOperations, figure_at, sum_of_slots, sum_of_waits}

-- ---- figures of operations

none_past : (parts : Parts) → SoundPlant parts → nat_lt IDLE_ENTRY (op_count_of parts) ≡ false
none_past parts sound = (let few = sound.ops in le-ltb IDLE_ENTRY (op_count_of parts) (omega arith))

idle-none : (parts : Parts) (which : Which) → SoundPlant parts → TakesOperations parts which → takes parts which IDLE_ENTRY ≡ false
idle-none parts Any sound own = absurd own
idle-none parts Idle sound own = absurd own
idle-none parts (One v) sound own =
    let few = sound.ops in
    let apart : IDLE_ENTRY ≡ v → ⊥ = λ (same : IDLE_ENTRY ≡ v). omega arith in
    ne_eqb IDLE_ENTRY v apart
idle-none parts (From p) sound own = rw (none_past parts sound) refl
idle-none parts (Into p) sound own = rw (none_past parts sound) refl
idle-none parts (Among mask) sound own = rw (none_past parts sound) refl
idle-none parts Charges sound own = rw (none_past parts sound) refl

when-none : (b : Bool) → when (b && false) 1 ≡ 0
when-none true = refl
when-none false = refl

pub figures_are_of_operations : (parts : Parts) → SoundPlant parts → FiguresAreOfOperations parts
figures_are_of_operations parts sound word which figure k own =
    elim (cases_lt k (length word)) [
      | inl there ↦ rw (lt-ltb k (length word) there) refl
      | inr past ↦ rw (le-ltb k (length word) past, idle-none parts which sound own) (when-none (is_of figure Z))
    ]

-- ---- slots and vessels

inside : (a b x : ℕ) → a ≤ x → x ≤ b → (nat_le a x && nat_le x b) ≡ true
inside a b x above below = rw (le-leb a x above, le-leb x b below) refl

before : (a b x : ℕ) → x < a → (nat_le a x && nat_le x b) ≡ false
before a b x less = rw (lt-leb a x less) refl

after : (a b x : ℕ) → b < x → (nat_le a x && nat_le x b) ≡ false
after a b x more = elim (cases_Bool (nat_le a x)) [ inl is ↦ rw (is, lt-leb x b more) refl | inr not ↦ rw not refl ]

-- a piece that begins past slot 0 takes nothing of the vessels
no_waits : (parts : Parts) (word : List Timed) (piece : Piece) → 1 ≤ piece.first → sum_of_waits parts word piece ≡ 0
no_waits parts word piece some =
    sum_below-zeros (length parts.vessels) (λ p. when (covers parts piece (vessel_column p)) (wait_of parts word p))
    (λ p under. rw (before piece.first piece.last 0 (omega arith)) refl)

one_slot : (parts : Parts) (n : ℕ) (word : List Timed) (factor : ℤ) (slot : ℕ) (which : Which) (figure : Figure) → 1 ≤ slot → slot ≤ n →
    sum_of_slots parts n word (piece_of factor slot slot which figure) ≡ figure_at parts word which figure (slot - 1)
one_slot parts n word factor slot which figure some there =
    let f = λ (k : ℕ). when (nat_le slot (k + 1) && nat_le (k + 1) slot) (figure_at parts word which figure k) in
    sum_below-single n (slot - 1) f (omega arith)
    (λ k under other. elim (cases_lt (k + 1) slot) [
      | inl less ↦ rw (before slot slot (k + 1) less) refl
      | inr more ↦ rw (after slot slot (k + 1) (omega arith)) refl
    ])
    ∙ rw (inside slot slot (slot - 1 + 1) (omega arith) (omega arith)) refl

first_slots : (parts : Parts) (n : ℕ) (word : List Timed) (factor : ℤ) (slot : ℕ) (which : Which) (figure : Figure) → slot ≤ n →
    sum_of_slots parts n word (piece_of factor 1 slot which figure) ≡ sum_below slot (figure_at parts word which figure)
first_slots parts n word factor slot which figure there =
    let f = λ (k : ℕ). when (nat_le 1 (k + 1) && nat_le (k + 1) slot) (figure_at parts word which figure k) in
    sum_below-cut slot n f there (λ k under past. rw (after 1 slot (k + 1) (omega arith)) refl)
    ∙ sum_below-same slot f (figure_at parts word which figure) (λ k under. rw (inside 1 slot (k + 1) (omega arith) (omega arith)) refl)

pub one_slot_is_its_figure : (parts : Parts) → OneSlotIsItsFigure parts
one_slot_is_its_figure parts word n slot factor which figure some there =
    let slots = one_slot parts n word factor slot which figure some there in
    let waits = no_waits parts word (piece_of factor slot slot which figure) some in
    omega arith

pub first_slots_are_their_figures : (parts : Parts) → FirstSlotsAreTheirFigures parts
first_slots_are_their_figures parts word n slot factor which figure there =
    let slots = first_slots parts n word factor slot which figure there in
    let waits = no_waits parts word (piece_of factor 1 slot which figure) (omega arith) in
    omega arith

no_slots : (parts : Parts) (n : ℕ) (word : List Timed) (factor : ℤ) (p : ℕ) → sum_of_slots parts n word (wait_piece factor p) ≡ 0
no_slots parts n word factor p =
    sum_below-zeros n (λ k. when (nat_le 0 (k + 1) && nat_le (k + 1) 0) (figure_at parts word (One p) Wait k))
    (λ k under. rw (after 0 0 (k + 1) (omega arith)) refl)

one_wait : (parts : Parts) (word : List Timed) (factor : ℤ) (p : ℕ) → p < length parts.vessels →
    sum_of_waits parts word (wait_piece factor p) ≡ wait_of parts word p
one_wait parts word factor p there =
    sum_below-single (length parts.vessels) p (λ q. when (covers parts (wait_piece factor p) (vessel_column q)) (wait_of parts word q)) there
    (λ q under other. rw (ne_eqb q p other) refl)
    ∙ rw (eq-eqb p p refl) refl

pub wait_is_the_vessels : (parts : Parts) → WaitIsTheVessels parts
wait_is_the_vessels parts word n p factor there =
    let slots = no_slots parts n word factor p in
    let waits = one_wait parts word factor p there in
    omega arith
