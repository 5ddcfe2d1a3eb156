-- What goes out of a place and into it while the first operations of a word run.
use Rattle.std.specs.Prelude.{◌≡◌, ℕ, ◌+◌, ◌<◌, ◌≤◌, Bool, ◌==◌, nat_lt, ◌&&◌, if◌then◌else◌, List, length, take, slice_index}
use Rattle.crude_amounts.specs.Amounts.{mix_of, rest_of}
use Rattle.number_laws.specs.Sums.{sum_below}
use Rattle.plant_model.specs.declared.parts.Parts.{Parts}
use Rattle.plant_model.specs.Parts.{op_of, place_count_of, place_of, initial_amounts_of}
use Rattle.plant_model.specs.Sound.{HoldsCrude}
use Rattle.replay_core.specs.declared.timed.Timed.{Timed}
use Rattle.replay_core.specs.State.{initial_state, held_of, state_after}
use Rattle.replay_core.specs.Steps.{step_at, draw_in}
use Rattle.word_flows.specs.Runs.{IsRun}

-- what place p holds once the first k operations have run, crude by crude
abbrev pub held_after : Parts → List Timed → ℕ → ℕ → List ℕ
held_after parts word p k = held_of (state_after parts (take k word)) p

-- the word has an operation k, and it draws from place p
abbrev pub draws_from : Parts → List Timed → ℕ → ℕ → Bool
draws_from parts word p k = nat_lt k (length word) && (op_of parts (step_at word k).op).from == p

-- the word has an operation k, and it fills place p
abbrev pub fills : Parts → List Timed → ℕ → ℕ → Bool
fills parts word p k = nat_lt k (length word) && (op_of parts (step_at word k).op).to == p

-- ---- flows, in whatever number is taken of amounts

-- what the first n operations draw from place p
abbrev pub out_of : (List ℕ → ℕ) → Parts → List Timed → ℕ → ℕ → ℕ
out_of number parts word p n =
    sum_below n (λ k. if draws_from parts word p k then number (draw_in parts word k) else 0)

-- what they fill into it
abbrev pub into : (List ℕ → ℕ) → Parts → List Timed → ℕ → ℕ → ℕ
into number parts word p n = sum_below n (λ k. if fills parts word p k then number (draw_in parts word k) else 0)

-- how much of crude c there is in amounts
abbrev pub amount_of : ℕ → List ℕ → ℕ
amount_of c amounts = slice_index amounts c

-- what is taken of amounts and what is left of them come to the whole, and what is added to amounts counts beside them,
-- as in their total and in the amount of one crude
pub record IsAdditive (number : List ℕ → ℕ) : Type 0 where
  pub taken : (held drawn : List ℕ) → length drawn ≡ length held
      → ((c : ℕ) → slice_index drawn c ≤ slice_index held c)
      → number (rest_of held drawn) + number drawn ≡ number held
  pub added : (held drawn : List ℕ) → length drawn ≡ length held
      → number (mix_of held drawn) ≡ number held + number drawn

-- at each place, after any number of operations: what is there and what went out is what was there at first and what
-- came in
abbrev pub Balances : (List ℕ → ℕ) → Parts → List Timed → Type 0
Balances number parts word =
    (p k : ℕ) → p < place_count_of parts →
    number (held_after parts word p k) + out_of number parts word p k
    ≡ number (held_of (initial_state parts) p) + into number parts word p k

-- ---- laws

-- every run balances
abbrev pub RunsBalance : Parts → Type 0
RunsBalance parts =
    (number : List ℕ → ℕ) (word : List Timed) → IsAdditive number → IsRun parts word → Balances number parts word

-- what a vessel or a tank holds at first is what the plant gives it
abbrev pub BeginsAsGiven : Parts → Type 0
BeginsAsGiven parts =
    (p : ℕ) → p < place_count_of parts → HoldsCrude (place_of parts p).kind
    → held_of (initial_state parts) p ≡ initial_amounts_of parts p
