-- The operations of a word by their numbers, from 0.
use Rattle.std.specs.Prelude.{ℕ, List, take, slice_index_or}
use Rattle.plant_model.specs.declared.parts.Parts.{Parts}
use Rattle.replay_core.specs.declared.timed.Timed.{Timed}
use Rattle.replay_core.specs.State.{draw_at}

-- no operation: what is read past the last one of a word. No plant has an operation 255
abbrev pub no_step : Timed
no_step = record { op = 255; start = 0; end = 0; volume = 0 }

-- operation k of the word
abbrev pub step_at : List Timed → ℕ → Timed
step_at word k = slice_index_or word k no_step

-- what it draws from its source, crude by crude
abbrev pub draw_in : Parts → List Timed → ℕ → List ℕ
draw_in parts word k = draw_at parts (take k word) (step_at word k)
