-- The latest minute of chosen operations.
use Rattle.std.proofs.Common.{◌≡◌, ◌⊎◌, ℕ, zero, suc, ◌<◌, ◌≤◌, max, inl, inr, Bool, true, false, if◌then◌else◌, List, [], ◌∷◌, length, refl, arith}
use Rattle.std.specs.Prelude.{fold}
use Rattle.std.proofs.lemmas.Bool.{cases_Bool, cases_lt}
use Rattle.plant_model.specs.declared.parts.Parts.{Parts}
use Rattle.replay_core.specs.declared.timed.Timed.{Timed}
use Rattle.replay_core.specs.Counts.{unloads_from, last_end_of}
use Rattle.replay_core.specs.Steps.{step_at}
use Rattle.word_flows.specs.LastEnds.{Unloads, LastEndsAreReached}

-- the latest so far, once the operation has been looked at
abbrev later : (Timed → Bool) → (Timed → ℕ) → ℕ → Timed → ℕ
later chosen minute last t = if chosen t then max last (minute t) else last

later-chosen : (chosen : Timed → Bool) (minute : Timed → ℕ) (last : ℕ) (t : Timed) → chosen t ≡ true → later chosen minute last t ≡ max last (minute t)
later-chosen chosen minute last t is = rw is refl

later-other : (chosen : Timed → Bool) (minute : Timed → ℕ) (last : ℕ) (t : Timed) → chosen t ≡ false → later chosen minute last t ≡ last
later-other chosen minute last t is = rw is refl

-- the latest of the operations, where it was so late before them
abbrev latest_from : (Timed → Bool) → (Timed → ℕ) → ℕ → List Timed → ℕ
latest_from chosen minute last steps = fold (later chosen minute) last steps

latest-least : (chosen : Timed → Bool) (minute : Timed → ℕ) (last : ℕ) (steps : List Timed) → last ≤ latest_from chosen minute last steps
latest-least chosen minute last [] = omega arith
latest-least chosen minute last (t ∷ steps) =
    let rest = latest-least chosen minute (later chosen minute last t) steps in
    elim (cases_Bool (chosen t)) [
      | inl is ↦ (let here = later-chosen chosen minute last t is in omega arith)
      | inr other ↦ (let here = later-other chosen minute last t other in omega arith)
    ]

latest-each : (chosen : Timed → Bool) (minute : Timed → ℕ) (last : ℕ) (steps : List Timed) (k : ℕ) → k < length steps → chosen (step_at steps k) ≡ true →
    minute (step_at steps k) ≤ latest_from chosen minute last steps
latest-each chosen minute last [] k there is = absurd (omega arith)
latest-each chosen minute last (t ∷ steps) zero there is =
    let rest = latest-least chosen minute (later chosen minute last t) steps in
    let here = later-chosen chosen minute last t is in
    omega arith
latest-each chosen minute last (t ∷ steps) (suc k) there is = latest-each chosen minute (later chosen minute last t) steps k (omega arith) is

-- operation k is chosen, and its minute is this one
record IsLatest (chosen : Timed → Bool) (minute : Timed → ℕ) (steps : List Timed) (k latest : ℕ) : Type 0 where
  there : k < length steps
  is_chosen : chosen (step_at steps k) ≡ true
  reached : minute (step_at steps k) ≡ latest

latest-behind : (chosen : Timed → Bool) (minute : Timed → ℕ) (t : Timed) (steps : List Timed) (k latest : ℕ) → IsLatest chosen minute steps k latest →
    IsLatest chosen minute (t ∷ steps) (suc k) latest
latest-behind chosen minute t steps k latest is =
    record { there = (let there = is.there in omega arith); is_chosen = is.is_chosen; reached = is.reached }

latest-here : (chosen : Timed → Bool) (minute : Timed → ℕ) (last : ℕ) (t : Timed) (steps : List Timed) (latest : ℕ) → latest ≡ later chosen minute last t →
    (latest ≡ last) ⊎ ((k : ℕ) × IsLatest chosen minute (t ∷ steps) k latest)
latest-here chosen minute last t steps latest is =
    elim (cases_Bool (chosen t)) [
      | inl picked ↦
          let here = later-chosen chosen minute last t picked in
          elim (cases_lt last (minute t)) [
            | inl more ↦ inr (0, record { there = omega arith; is_chosen = picked; reached = omega arith })
            | inr less ↦ inl (omega arith)
          ]
      | inr other ↦ inl (let here = later-other chosen minute last t other in omega arith)
    ]

latest-reached : (chosen : Timed → Bool) (minute : Timed → ℕ) (last : ℕ) (steps : List Timed) → (latest_from chosen minute last steps ≡ last) ⊎
    ((k : ℕ) × IsLatest chosen minute steps k (latest_from chosen minute last steps))
latest-reached chosen minute last [] = inl refl
latest-reached chosen minute last (t ∷ steps) =
    let latest = latest_from chosen minute (later chosen minute last t) steps in
    elim (latest-reached chosen minute (later chosen minute last t) steps) [
      | inl none ↦ latest-here chosen minute last t steps latest none
      | inr found ↦ inr (suc found.0, latest-behind chosen minute t steps found.0 latest found.1)
    ]

-- ---- of the unloadings of a vessel

last_end-each : (parts : Parts) (word : List Timed) (p k : ℕ) → Unloads parts word p k → (step_at word k).end ≤ last_end_of parts word p
unfolding last_end_of
last_end-each parts word p k is = latest-each (unloads_from parts p) (λ (t : Timed). t.end) 0 word k is.there is.unloads

last_end-found : (parts : Parts) (word : List Timed) (p : ℕ) → (last_end_of parts word p ≡ 0) ⊎
    ((k : ℕ) × Unloads parts word p k × ((step_at word k).end ≡ last_end_of parts word p))
unfolding last_end_of
last_end-found parts word p =
    elim (latest-reached (unloads_from parts p) (λ (t : Timed). t.end) 0 word) [
      | inl none ↦ inl none
      | inr found ↦ inr (found.0, record { there = found.1.there; unloads = found.1.is_chosen }, found.1.reached)
    ]

last_end-reached : (parts : Parts) (word : List Timed) (p k : ℕ) → Unloads parts word p k →
    (last : ℕ) × Unloads parts word p last × ((step_at word last).end ≡ last_end_of parts word p)
last_end-reached parts word p k is =
    elim (last_end-found parts word p) [
      | inl none ↦ (k, is, let least = last_end-each parts word p k is in omega arith)
      | inr found ↦ found
    ]

last_end-none : (parts : Parts) (word : List Timed) (p : ℕ) → ((k : ℕ) → Unloads parts word p k → ⊥) → last_end_of parts word p ≡ 0
last_end-none parts word p not_unloaded =
    elim (last_end-found parts word p) [
      | inl none ↦ none
      | inr found ↦ absurd (not_unloaded found.0 found.1)
    ]

pub last_ends_are_reached : (parts : Parts) → LastEndsAreReached parts
last_ends_are_reached parts word p = record {
  each = last_end-each parts word p;
  reached = last_end-reached parts word p;
  none = last_end-none parts word p;
}
