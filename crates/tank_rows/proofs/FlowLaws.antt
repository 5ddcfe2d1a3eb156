-- What pieces over the slots come to: what flows out of a place and into it.
use Rattle.std.proofs.Common.{◌≡◌, ℕ, ◌<◌, ◌≤◌, inl, inr, List, length, sum, ℤ, ◌≤ℤ◌, if◌then◌else◌, ◌∙◌, refl}
use Rattle.std.specs.Prelude.{◌==◌}
use Rattle.std.proofs.lemmas.Bool.{cases_lt, lt-ltb, le-ltb}
use Rattle.number_laws.specs.Sums.{sum_below}
use Rattle.number_laws.proofs.SumLaws.{sum_below-same, when-if}
use Rattle.plant_model.specs.declared.parts.Parts.{Parts}
use Rattle.plant_model.specs.Parts.{op_of, op_count_of, crude_count_of}
use Rattle.plant_model.specs.Sound.{SoundPlant}
use Rattle.replay_core.specs.declared.timed.Timed.{Timed}
use Rattle.replay_core.specs.Steps.{step_at, draw_in}
use Rattle.row_forms.specs.declared.piece.Figure.{Figure}
use Rattle.row_forms.specs.declared.piece.Figure.TheVariants.{Volume, Amount}
use Rattle.row_forms.specs.declared.piece.Inequality.{Inequality}
use Rattle.row_forms.specs.declared.piece.Which.TheVariants.{From, Into}
use Rattle.row_forms.specs.Sums.{figure_of, figure_at, piece_sum, sum_of_pieces}
use Rattle.row_forms.proofs.PieceLaws.{figures_are_of_operations, first_slots_are_their_figures}
use Rattle.word_flows.specs.Ends.{EndsWell}
use Rattle.word_flows.specs.Flows.{draws_from, fills, out_of, into, amount_of}
use Rattle.word_flows.specs.Runs.{IsRun}
use Rattle.word_flows.proofs.RunLaws.{runs_are_in_range}
use Rattle.tank_rows.specs.Families.{from_place, into_place}

-- the row of pieces holds at the form of a word
abbrev pub Holds : Parts → ℕ → List Timed → Inequality → Type 0
Holds parts n word row = sum_of_pieces parts n word row.pieces ≤ℤ row.right

-- what is so of a word that breaks no rule, and of its plant
pub record IsWord (parts : Parts) (n : ℕ) (word : List Timed) : Type 0 where
  pub sound : SoundPlant parts
  pub run : IsRun parts word
  pub ends : EndsWell parts word
  pub short : length word ≤ n
  pub draws : (k : ℕ) → k < length word → length (draw_in parts word k) ≡ crude_count_of parts

-- ---- figures of the operations from a place, and to it

pub from-figure : (parts : Parts) (word : List Timed) (p k : ℕ) (figure : Figure) → SoundPlant parts → IsRun parts word →
    figure_at parts word (From p) figure k ≡ (if draws_from parts word p k then figure_of parts word k figure else 0)
from-figure parts word p k figure sound run =
    let op = (step_at word k).op in
    figures_are_of_operations parts sound word (From p) figure k tt
    ∙ elim (cases_lt k (length word)) [
      | inl there ↦
          let known = (runs_are_in_range parts word k run there).known in
          rw (lt-ltb k (length word) there, lt-ltb op (op_count_of parts) known) (when-if ((op_of parts op).from == p) (figure_of parts word k figure))
      | inr past ↦ rw (le-ltb k (length word) past) refl
    ]

pub into-figure : (parts : Parts) (word : List Timed) (p k : ℕ) (figure : Figure) → SoundPlant parts → IsRun parts word →
    figure_at parts word (Into p) figure k ≡ (if fills parts word p k then figure_of parts word k figure else 0)
into-figure parts word p k figure sound run =
    let op = (step_at word k).op in
    figures_are_of_operations parts sound word (Into p) figure k tt
    ∙ elim (cases_lt k (length word)) [
      | inl there ↦
          let known = (runs_are_in_range parts word k run there).known in
          rw (lt-ltb k (length word) there, lt-ltb op (op_count_of parts) known) (when-if ((op_of parts op).to == p) (figure_of parts word k figure))
      | inr past ↦ rw (le-ltb k (length word) past) refl
    ]

-- ---- over the first slots

pub from-sum : (parts : Parts) (n : ℕ) (word : List Timed) (factor : ℤ) (p slot : ℕ) (figure : Figure) → SoundPlant parts → IsRun parts word → slot ≤ n →
    piece_sum parts n word (from_place factor p slot figure) ≡ sum_below slot (λ k. if draws_from parts word p k then figure_of parts word k figure else 0)
from-sum parts n word factor p slot figure sound run within =
    first_slots_are_their_figures parts word n slot factor (From p) figure within
    ∙ sum_below-same slot (figure_at parts word (From p) figure) (λ k. if draws_from parts word p k then figure_of parts word k figure else 0)
    (λ k under. from-figure parts word p k figure sound run)

pub into-sum : (parts : Parts) (n : ℕ) (word : List Timed) (factor : ℤ) (p slot : ℕ) (figure : Figure) → SoundPlant parts → IsRun parts word → slot ≤ n →
    piece_sum parts n word (into_place factor p slot figure) ≡ sum_below slot (λ k. if fills parts word p k then figure_of parts word k figure else 0)
into-sum parts n word factor p slot figure sound run within =
    first_slots_are_their_figures parts word n slot factor (Into p) figure within
    ∙ sum_below-same slot (figure_at parts word (Into p) figure) (λ k. if fills parts word p k then figure_of parts word k figure else 0)
    (λ k under. into-figure parts word p k figure sound run)

-- volumes and crudes flow
pub volume-out : (parts : Parts) (n : ℕ) (word : List Timed) (factor : ℤ) (p slot : ℕ) → SoundPlant parts → IsRun parts word → slot ≤ n →
    piece_sum parts n word (from_place factor p slot Volume) ≡ out_of sum parts word p slot
volume-out parts n word factor p slot sound run within = from-sum parts n word factor p slot Volume sound run within

pub volume-in : (parts : Parts) (n : ℕ) (word : List Timed) (factor : ℤ) (p slot : ℕ) → SoundPlant parts → IsRun parts word → slot ≤ n →
    piece_sum parts n word (into_place factor p slot Volume) ≡ into sum parts word p slot
volume-in parts n word factor p slot sound run within = into-sum parts n word factor p slot Volume sound run within

pub crude-out : (parts : Parts) (n : ℕ) (word : List Timed) (factor : ℤ) (p slot c : ℕ) → SoundPlant parts → IsRun parts word → slot ≤ n →
    piece_sum parts n word (from_place factor p slot (Amount c)) ≡ out_of (amount_of c) parts word p slot
crude-out parts n word factor p slot c sound run within = from-sum parts n word factor p slot (Amount c) sound run within

pub crude-in : (parts : Parts) (n : ℕ) (word : List Timed) (factor : ℤ) (p slot c : ℕ) → SoundPlant parts → IsRun parts word → slot ≤ n →
    piece_sum parts n word (into_place factor p slot (Amount c)) ≡ into (amount_of c) parts word p slot
crude-in parts n word factor p slot c sound run within = into-sum parts n word factor p slot (Amount c) sound run within
