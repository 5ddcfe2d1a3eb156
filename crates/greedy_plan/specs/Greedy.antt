-- The greedy plan of a list of operations: each in turn starts as early as it can and moves as much as then fits, in the
-- least time for that. It is left out where it can move nothing, where what was so chosen breaks the order of vessels or
-- a limit, and where the plan is full.
use Rattle.std.specs.Prelude.{◌≡◌, ℕ, ◌+◌, ◌≤◌, max, Bool, ◌&&◌, Option, Some, None, nat_lt, List, [], ◌∷◌, ◌++◌, length, fold, if◌then◌else◌}
use Rattle.std.specs.List.{range_with_len}
use Rattle.std.specs.Option.{is_some, option_and_then, option_map}
use Rattle.plant_model.specs.declared.parts.Parts.{Parts}
use Rattle.plant_model.specs.Parts.{horizon_of, op_count_of, op_of}
use Rattle.plant_model.specs.Relations.{refused_at_once_of}
use Rattle.replay_core.specs.declared.timed.Timed.{Timed}
use Rattle.replay_core.specs.declared.planned.Planned.{Planned}
use Rattle.replay_core.specs.Legal.{IsLegal}
use Rattle.replay_core.specs.Margin.{margin_of}
use Rattle.replay_core.specs.Rules.{lasts, keeps_window, keeps_volume, meets_rate, keeps_vessel_order, leaves_minimum, keeps_maximum, meets_limits}
use Rattle.replay_core.specs.State.{state_after}
use Rattle.number_laws.specs.Passing.{greatest_up_to, least_up_to}

-- until when operation v waits for another: for its start, and for its end too where the two may not run at one moment
abbrev pub waits_until : Parts → ℕ → Timed → ℕ
waits_until parts v s = if refused_at_once_of parts s.op v then max s.start s.end else s.start

-- the earliest minute of its window at which operation v can start behind the others
unfoldable pub earliest_start : Parts → List Timed → ℕ → ℕ
earliest_start parts before v =
    fold (λ minute (s : Timed). max minute (waits_until parts v s)) (op_of parts v).window.0 before

-- operation v from its earliest start on, for so many minutes, with that volume
abbrev pub earliest : Parts → List Timed → ℕ → ℕ → ℕ → Timed
earliest parts before v volume minutes =
    let start = earliest_start parts before v in
    record { op = v; start = start; end = start + minutes; volume = volume }

-- it breaks no rule on duration, window, volume and rate, and its places hold enough and have room
unfoldable pub fits : Parts → List Timed → Timed → Bool
fits parts before t =
    lasts t && keeps_window parts t && keeps_volume parts t && meets_rate parts t
    && leaves_minimum parts (state_after parts before) t && keeps_maximum parts (state_after parts before) t

-- the least minutes in which operation v can move the volume
unfoldable pub least_minutes : Parts → List Timed → ℕ → ℕ → Option ℕ
least_minutes parts before v volume =
    least_up_to (horizon_of parts) (λ minutes. fits parts before (earliest parts before v volume minutes))

-- the greatest volume that operation v can move
unfoldable pub greatest_volume : Parts → List Timed → ℕ → Option ℕ
greatest_volume parts before v =
    greatest_up_to (op_of parts v).volume.1 (λ volume. is_some (least_minutes parts before v volume))

-- operation v with as much as it can move, in the least time for that; or none, where it can move nothing
unfoldable pub choice_of : Parts → List Timed → ℕ → Option Timed
choice_of parts before v =
    option_and_then (λ volume. option_map (earliest parts before v volume) (least_minutes parts before v volume))
    (greatest_volume parts before v)

-- it breaks neither the order of vessels nor a limit
abbrev pub may_follow : Parts → List Timed → Timed → Bool
may_follow parts before t = keeps_vessel_order parts before t && meets_limits parts (state_after parts before) t

-- the operations with this one behind them, where it may follow
abbrev pub followed_by : Parts → List Timed → Option Timed → List Timed
followed_by parts before None = before
followed_by parts before (Some t) = if may_follow parts before t then before ++ t ∷ [] else before

-- operation v is added where there are fewer than n
unfoldable pub with_next : Parts → ℕ → List Timed → ℕ → List Timed
with_next parts n before v =
    if nat_lt (length before) n then followed_by parts before (choice_of parts before v) else before

-- the greedy plan of at most n operations
unfoldable pub greedy_of : Parts → ℕ → List ℕ → List Timed
greedy_of parts n ops = fold (with_next parts n) [] ops

-- the greedy plan with its margin, which is legal and has at most n operations
pub record IsGreedyPlan (parts : Parts) (n : ℕ) (ops : List ℕ) (planned : Planned) : Type 0 where
  pub plan : planned.plan ≡ greedy_of parts n ops
  pub few : length (greedy_of parts n ops) ≤ n
  pub legal : IsLegal parts (greedy_of parts n ops)
  pub margin : planned.margin ≡ margin_of parts (greedy_of parts n ops)

-- none just where the greedy plan is not legal
abbrev pub IsGreedy : Parts → ℕ → List ℕ → Option Planned → Type 0
IsGreedy parts n ops None = IsLegal parts (greedy_of parts n ops) → ⊥
IsGreedy parts n ops (Some planned) = IsGreedyPlan parts n ops planned

-- all operations, in rising number
abbrev pub all_operations : Parts → List ℕ
all_operations parts = range_with_len 0 (op_count_of parts)
