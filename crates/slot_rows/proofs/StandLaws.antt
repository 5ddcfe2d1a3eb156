-- An operation stands in a slot, or its figures there are 0.
use Rattle.std.proofs.Common.{◌≡◌, ℕ, ◌<◌, ◌≤◌, ◌⊎◌, inl, inr, List, length, ◌≤ℤ◌, ◌∙◌, refl, arith}
use Rattle.std.specs.Int.{bit_at}
use Rattle.std.proofs.lemmas.Bool.{cases_lt, cases_eq, eq-eqb, ne_eqb, lt-ltb, le-ltb}
use Rattle.plant_model.specs.declared.parts.Parts.{Parts}
use Rattle.plant_model.specs.Parts.{op_count_of}
use Rattle.plant_model.specs.Sound.{SoundPlant}
use Rattle.replay_core.specs.declared.timed.Timed.{Timed}
use Rattle.replay_core.specs.Steps.{step_at}
use Rattle.row_forms.specs.declared.piece.Figure.{Figure}
use Rattle.row_forms.specs.declared.piece.Figure.TheVariants.{Choice, Volume}
use Rattle.row_forms.specs.declared.piece.Inequality.{Inequality}
use Rattle.row_forms.specs.declared.piece.Which.TheVariants.{Any, Idle, One, Among}
use Rattle.row_forms.specs.Sums.{figure_of, figure_at, sum_of_pieces}
use Rattle.row_forms.proofs.PieceLaws.{figures_are_of_operations}
use Rattle.word_flows.specs.Runs.{IsRun}
use Rattle.word_flows.proofs.RunLaws.{runs_are_in_range}
use Rattle.word_flows.proofs.StepLaws.{runs_draw_volumes}

-- the row of pieces holds at the form of a word
abbrev pub Holds : Parts → ℕ → List Timed → Inequality → Type 0
Holds parts n word row = sum_of_pieces parts n word row.pieces ≤ℤ row.right

-- ---- one operation

-- operation v fills slot k + 1
abbrev pub Stands : List Timed → ℕ → ℕ → Type 0
Stands word v k = (k < length word) × ((step_at word k).op ≡ v)

pub stands-figure : (parts : Parts) (word : List Timed) (v k : ℕ) (figure : Figure) → SoundPlant parts → v < op_count_of parts → Stands word v k →
    figure_at parts word (One v) figure k ≡ figure_of parts word k figure
stands-figure parts word v k figure sound known here =
    figures_are_of_operations parts sound word (One v) figure k known
    ∙ rw (lt-ltb k (length word) here.0, eq-eqb (step_at word k).op v here.1) refl

pub stands-or : (parts : Parts) (word : List Timed) (v k : ℕ) → SoundPlant parts → v < op_count_of parts →
    Stands word v k ⊎ ((figure : Figure) → figure_at parts word (One v) figure k ≡ 0)
stands-or parts word v k sound known =
    elim (cases_lt k (length word)) [
      | inr past ↦ inr (λ figure. figures_are_of_operations parts sound word (One v) figure k known ∙ rw (le-ltb k (length word) past) refl)
      | inl there ↦ elim (cases_eq (step_at word k).op v) [
        | inl same ↦ inl (there, same)
        | inr other ↦ inr (λ figure. figures_are_of_operations parts sound word (One v) figure k known
            ∙ rw (lt-ltb k (length word) there, ne_eqb (step_at word k).op v other) refl)
      ]
    ]

-- what it draws there is its volume
pub stands-volume : (parts : Parts) (word : List Timed) (v k : ℕ) → SoundPlant parts → IsRun parts word → v < op_count_of parts → Stands word v k →
    figure_at parts word (One v) Volume k ≡ (step_at word k).volume
stands-volume parts word v k sound run known here =
    stands-figure parts word v k Volume sound known here ∙ runs_draw_volumes parts sound word k run here.0

pub choice-one : (parts : Parts) (word : List Timed) (v k : ℕ) → SoundPlant parts → v < op_count_of parts → figure_at parts word (One v) Choice k ≤ 1
choice-one parts word v k sound known =
    elim (stands-or parts word v k sound known) [
      | inl here ↦ (let one = stands-figure parts word v k Choice sound known here in omega arith)
      | inr none ↦ (let nothing = none Choice in omega arith)
    ]

-- ---- any entry, and idle

pub any-one : (parts : Parts) (word : List Timed) (k : ℕ) → figure_at parts word Any Choice k ≡ 1
any-one parts word k =
    elim (cases_lt k (length word)) [ inl there ↦ rw (lt-ltb k (length word) there) refl | inr past ↦ rw (le-ltb k (length word) past) refl ]

pub idle-none : (parts : Parts) (word : List Timed) (k : ℕ) → SoundPlant parts → IsRun parts word → k < length word → figure_at parts word Idle Choice k ≡ 0
idle-none parts word k sound run there =
    let few = sound.ops in
    let known = (runs_are_in_range parts word k run there).known in
    let apart : (step_at word k).op ≡ 255 → ⊥ = λ (same : (step_at word k).op ≡ 255). omega arith in
    rw (lt-ltb k (length word) there, ne_eqb (step_at word k).op 255 apart) refl

pub idle-one : (parts : Parts) (word : List Timed) (k : ℕ) → length word ≤ k → figure_at parts word Idle Choice k ≡ 1
idle-one parts word k past = rw (le-ltb k (length word) past) refl

-- ---- a member of a set

-- a member fills slot k + 1
abbrev pub StandsAmong : List Timed → ℕ → ℕ → Type 0
StandsAmong word mask k = (k < length word) × (bit_at mask (step_at word k).op ≡ 1)

pub among-figure : (parts : Parts) (word : List Timed) (mask k : ℕ) (figure : Figure) → SoundPlant parts → IsRun parts word → StandsAmong word mask k →
    figure_at parts word (Among mask) figure k ≡ figure_of parts word k figure
among-figure parts word mask k figure sound run here =
    let known = (runs_are_in_range parts word k run here.0).known in
    figures_are_of_operations parts sound word (Among mask) figure k tt
    ∙ rw (lt-ltb k (length word) here.0, lt-ltb (step_at word k).op (op_count_of parts) known, eq-eqb (bit_at mask (step_at word k).op) 1 here.1) refl

pub among-or : (parts : Parts) (word : List Timed) (mask k : ℕ) → SoundPlant parts → IsRun parts word →
    StandsAmong word mask k ⊎ ((figure : Figure) → figure_at parts word (Among mask) figure k ≡ 0)
among-or parts word mask k sound run =
    elim (cases_lt k (length word)) [
      | inr past ↦ inr (λ figure. figures_are_of_operations parts sound word (Among mask) figure k tt ∙ rw (le-ltb k (length word) past) refl)
      | inl there ↦ elim (cases_eq (bit_at mask (step_at word k).op) 1) [
        | inl member ↦ inl (there, member)
        | inr other ↦ inr (λ figure.
            let known = (runs_are_in_range parts word k run there).known in
            figures_are_of_operations parts sound word (Among mask) figure k tt
            ∙ rw (lt-ltb k (length word) there, lt-ltb (step_at word k).op (op_count_of parts) known, ne_eqb (bit_at mask (step_at word k).op) 1 other) refl)
      ]
    ]
