-- Rows on one slot: choices, volumes, rates and windows.
use Rattle.std.proofs.Common.{◌≡◌, ℕ, ◌+◌, ◌-◌, ◌*◌, ◌<◌, ◌≤◌, inl, inr, List, length, ℤ, pos, neg_ℤ, ◌*ℤ◌, ap, ◌∙◌, subst, arith}
use Rattle.std.proofs.lemmas.Bool.{cases_lt}
use Rattle.std.proofs.lemmas.Int.{ints}
use Rattle.number_laws.proofs.ProductLaws.{negative-product}
use Rattle.plant_model.specs.declared.parts.Parts.{Parts}
use Rattle.plant_model.specs.Parts.{op_count_of, op_of}
use Rattle.plant_model.specs.Sound.{SoundPlant}
use Rattle.replay_core.specs.declared.timed.Timed.{Timed}
use Rattle.replay_core.specs.Steps.{step_at}
use Rattle.row_forms.specs.declared.piece.Figure.{Figure}
use Rattle.row_forms.specs.declared.piece.Figure.TheVariants.{Choice, Volume, Start, End}
use Rattle.row_forms.specs.declared.piece.Which.TheVariants.{Any, Idle, One}
use Rattle.row_forms.specs.Sums.{figure_at, piece_sum}
use Rattle.row_forms.proofs.PieceLaws.{one_slot_is_its_figure}
use Rattle.word_flows.specs.Runs.{IsRun}
use Rattle.word_flows.proofs.RunLaws.{runs_are_in_range}
use Rattle.word_flows.proofs.StepLaws.{runs_meet_rates}
use Rattle.slot_rows.specs.Families.{plus, minus, less, in_slot, choice_row, volume_row, rate_row, window_row, idle_row}
use Rattle.slot_rows.proofs.StandLaws.{Holds, stands-figure, stands-or, stands-volume, any-one, idle-none, idle-one}

-- a factor below 0 times what a piece comes to
less-times : (a s : ℕ) → less a *ℤ pos s ≡ neg_ℤ (pos (a * s))
less-times a s = negative-product (pos a) (pos s)

module _ (parts : Parts) (n : ℕ) (word : List Timed) (slot : ℕ) (sound : SoundPlant parts) (run : IsRun parts word) (some : 1 ≤ slot) (within : slot ≤ n) where
  abbrev k : ℕ
  k = slot - 1

  -- ---- choices

  pub choice-first : Holds parts n word (choice_row slot 0)
  choice-first =
      let one = one_slot_is_its_figure parts word n slot plus Any Choice some within ∙ any-one parts word k in
      omega (arith, ints)

  pub choice-second : Holds parts n word (choice_row slot 1)
  choice-second =
      let one = one_slot_is_its_figure parts word n slot minus Any Choice some within ∙ any-one parts word k in
      omega (arith, ints)

  module _ (v : ℕ) (known : v < op_count_of parts) where
    -- a figure of the operation in the slot
    abbrev figure : Figure → ℕ
    figure f = figure_at parts word (One v) f k

    here : (factor : ℤ) (f : Figure) → piece_sum parts n word (in_slot factor slot (One v) f) ≡ figure f
    here factor f = one_slot_is_its_figure parts word n slot factor (One v) f some within

    -- a multiple of it
    times : (a : ℕ) (factor : ℤ) (f : Figure) → a * piece_sum parts n word (in_slot factor slot (One v) f) ≡ a * figure f
    times a factor f = ap (λ (s : ℕ). a * s) (here factor f)

    -- ---- volumes

    volume-figures : (figure Volume ≤ (op_of parts v).volume.1 * figure Choice) × ((op_of parts v).volume.0 * figure Choice ≤ figure Volume)
    volume-figures =
        elim (stands-or parts word v k sound known) [
          | inr none ↦ rw (none Choice, none Volume) (omega arith, omega arith)
          | inl there ↦
              let range = runs_are_in_range parts word k run there.0 in
              let least = subst (λ (w : ℕ). (op_of parts w).volume.0 ≤ (step_at word k).volume) there.1 range.least in
              let most = subst (λ (w : ℕ). (step_at word k).volume ≤ (op_of parts w).volume.1) there.1 range.most in
              rw (stands-figure parts word v k Choice sound known there, stands-volume parts word v k sound run known there)
              (omega (arith, most), omega (arith, least))
        ]

    pub volume-first : Holds parts n word (volume_row parts slot v 0)
    volume-first =
        let hi = (op_of parts v).volume.1 in
        let volume = here plus Volume in
        let choice = times hi (less hi) Choice in
        let product = less-times hi (piece_sum parts n word (in_slot (less hi) slot (One v) Choice)) in
        omega (arith, ints, product, volume-figures.0)

    pub volume-second : Holds parts n word (volume_row parts slot v 1)
    volume-second =
        let lo = (op_of parts v).volume.0 in
        let choice = times lo (pos lo) Choice in
        let volume = here minus Volume in
        omega (arith, ints, volume-figures.1)

    -- ---- rates

    minutes-product : (a s e : ℕ) → s ≤ e → a * (e - s) + a * s ≡ a * e
    minutes-product a s e order =
        let split : s + (e - s) ≡ e = omega arith in
        let whole = ap (λ (x : ℕ). a * x) split in
        omega arith

    rate-figures : ((op_of parts v).rate.0 * figure End ≤ (op_of parts v).rate.0 * figure Start + 1440 * figure Volume)
        × (1440 * figure Volume + (op_of parts v).rate.1 * figure Start ≤ (op_of parts v).rate.1 * figure End)
    rate-figures =
        elim (stands-or parts word v k sound known) [
          | inr none ↦ rw (none End, none Start, none Volume) (omega arith, omega arith)
          | inl there ↦
              let t = step_at word k in
              let met = runs_meet_rates parts word k run there.0 in
              let low = subst (λ (w : ℕ). (op_of parts w).rate.0 * (t.end - t.start) ≤ 1440 * t.volume) there.1 met.from_low in
              let high = subst (λ (w : ℕ). 1440 * t.volume ≤ (op_of parts w).rate.1 * (t.end - t.start)) there.1 met.to_high in
              let lasts = (runs_are_in_range parts word k run there.0).lasts in
              let slow = minutes-product (op_of parts v).rate.0 t.start t.end (omega arith) in
              let fast = minutes-product (op_of parts v).rate.1 t.start t.end (omega arith) in
              rw (
                stands-figure parts word v k End sound known there,
                stands-figure parts word v k Start sound known there,
                stands-volume parts word v k sound run known there,
              )
              (omega (arith, low), omega (arith, high))
        ]

    pub rate-first : Holds parts n word (rate_row parts slot v 0)
    rate-first =
        let lo = (op_of parts v).rate.0 in
        let ends = times lo (pos lo) End in
        let starts = times lo (less lo) Start in
        let volumes = here (less 1440) Volume in
        let product = less-times lo (piece_sum parts n word (in_slot (less lo) slot (One v) Start)) in
        omega (arith, ints, product, rate-figures.0)

    pub rate-second : Holds parts n word (rate_row parts slot v 1)
    rate-second =
        let hi = (op_of parts v).rate.1 in
        let ends = times hi (less hi) End in
        let starts = times hi (pos hi) Start in
        let volumes = here (pos 1440) Volume in
        let product = less-times hi (piece_sum parts n word (in_slot (less hi) slot (One v) End)) in
        omega (arith, ints, product, rate-figures.1)

    -- ---- windows

    window-figures : ((op_of parts v).window.0 * figure Choice ≤ figure Start) × (figure End ≤ (op_of parts v).window.1 * figure Choice)
        × (figure Start + figure Choice ≤ figure End)
    window-figures =
        elim (stands-or parts word v k sound known) [
          | inr none ↦ rw (none Choice, none Start, none End) (omega arith, omega arith, omega arith)
          | inl there ↦
              let t = step_at word k in
              let range = runs_are_in_range parts word k run there.0 in
              let from = subst (λ (w : ℕ). (op_of parts w).window.0 ≤ t.start) there.1 range.from_window in
              let to = subst (λ (w : ℕ). t.end ≤ (op_of parts w).window.1) there.1 range.to_window in
              let lasts = range.lasts in
              rw (
                stands-figure parts word v k Choice sound known there,
                stands-figure parts word v k Start sound known there,
                stands-figure parts word v k End sound known there,
              )
              (omega (arith, from), omega (arith, to), omega arith)
        ]

    pub window-first : Holds parts n word (window_row parts slot v 0)
    window-first =
        let lo = (op_of parts v).window.0 in
        let choices = times lo (pos lo) Choice in
        let starts = here minus Start in
        omega (arith, ints, window-figures.0)

    pub window-second : Holds parts n word (window_row parts slot v 1)
    window-second =
        let hi = (op_of parts v).window.1 in
        let ends = here plus End in
        let choices = times hi (less hi) Choice in
        let product = less-times hi (piece_sum parts n word (in_slot (less hi) slot (One v) Choice)) in
        omega (arith, ints, product, window-figures.1)

    pub window-third : Holds parts n word (window_row parts slot v 2)
    window-third =
        let starts = here plus Start in
        let ends = here minus End in
        let choices = here plus Choice in
        omega (arith, ints, window-figures.2)

-- ---- idle slots come last

pub idle-holds : (parts : Parts) (n : ℕ) (word : List Timed) (slot : ℕ) → SoundPlant parts → IsRun parts word → 1 ≤ slot → slot < n →
    Holds parts n word (idle_row slot)
idle-holds parts n word slot sound run some before =
    let this = one_slot_is_its_figure parts word n slot plus Idle Choice some (omega arith) in
    let back : slot + 1 - 1 ≡ slot - 1 + 1 = omega arith in
    let next = one_slot_is_its_figure parts word n (slot + 1) minus Idle Choice (omega arith) (omega arith) ∙ ap (figure_at parts word Idle Choice) back in
    elim (cases_lt (slot - 1) (length word)) [
      | inl there ↦ (let none = idle-none parts word (slot - 1) sound run there in omega (arith, ints))
      | inr past ↦
          (let one = idle-one parts word (slot - 1) past in let other = idle-one parts word (slot - 1 + 1) (omega arith) in omega (arith, ints))
    ]
