-- The ledger of a legal plan: its replay as a text, operation by operation, and then what each unit got.
use Rattle.std.specs.Prelude.{◌≡◌, ◌≢◌, ℕ, ◌+◌, ◌*◌, ℤ, if◌then◌else◌, List, [], ◌∷◌, ◌++◌, map, length, sum, slice_index_or, All, Some, ⊤, decimal, codes}
use Rattle.std.specs.Fmt.{signed_decimal}
use Rattle.item_lists.specs.Faults.{each_from}
use Rattle.line_text.specs.Words.{text_of}
use Rattle.plant_model.specs.declared.parts.Parts.{Parts}
use Rattle.plant_model.specs.declared.details.PlaceInfo.{PlaceInfo}
use Rattle.plant_model.specs.Parts.{places_of, place_name_of, op_of}
use Rattle.replay_core.specs.declared.timed.Timed.{Timed}
use Rattle.replay_core.specs.declared.outcome.ReplayFault.{ReplayFault}
use Rattle.replay_core.specs.declared.outcome.ReplayFault.TheVariants.{Rule, Memory}
use Rattle.replay_core.specs.State.{held_of, state_after, draw_at}
use Rattle.replay_core.specs.Counts.{charges_of, minutes_of}
use Rattle.replay_core.specs.Rules.{is_unit}
use Rattle.replay_core.specs.Legal.{first_broken, IsLegal}
use Rattle.replay_core.specs.Margin.{margin_of}
use Rattle.plan_text.specs.OpLine.{op_line_words}
use Rattle.plan_text.specs.Plans.{line_for}

-- that the plan is legal, what it earns, and how many operations it has
unfoldable pub head_lines : ℤ → ℕ → List (List (List ℕ))
head_lines margin count =
    (codes "legal" ∷ []) ∷ (codes "margin" ∷ signed_decimal margin ∷ []) ∷ (codes "operations" ∷ decimal count ∷ [])
    ∷ []

-- amounts: in all, and crude by crude
abbrev pub holding_words : List ℕ → List (List ℕ)
holding_words amounts = decimal (sum amounts) ∷ map decimal amounts

-- what a place, by its name, holds in this state
abbrev pub place_words : Parts → List (List ℕ) → ℕ → List (List ℕ)
place_words parts state p = place_name_of parts p ∷ holding_words (held_of state p)

-- an operation that runs where those others have run before it: its line, what it draws of each crude, and what its
-- source and its destination hold once it has run; a unit holds what it has got so far
unfoldable pub step_lines : Parts → List Timed → Timed → List (List (List ℕ))
step_lines parts before t =
    let after = state_after parts (before ++ t ∷ []) in
    op_line_words (line_for parts (length before + 1) t)
    ∷ (codes "draw" ∷ map decimal (draw_at parts before t))
    ∷ (codes "from" ∷ place_words parts after (op_of parts t.op).from)
    ∷ (codes "to" ∷ place_words parts after (op_of parts t.op).to)
    ∷ []

-- operations that run one after the other, where those others have run before them
abbrev pub step_lines_from : Parts → List Timed → List Timed → List (List (List ℕ))
step_lines_from parts before [] = []
step_lines_from parts before (t ∷ later) = step_lines parts before t ++ step_lines_from parts (before ++ t ∷ []) later

-- what a plan has charged to unit p: how often, for how many minutes in all, and how much
unfoldable pub unit_words : Parts → List Timed → ℕ → List (List ℕ)
unit_words parts plan p =
    codes "unit" ∷ place_name_of parts p ∷ decimal (charges_of parts plan p) ∷ decimal (minutes_of parts plan p)
    ∷ holding_words (held_of (state_after parts plan) p)

-- the line of place p, where it is a unit
abbrev pub lines_at : Parts → List Timed → ℕ → PlaceInfo → List (List (List ℕ))
lines_at parts plan p place = if is_unit place.kind then unit_words parts plan p ∷ [] else []

-- a line of each unit, in the order of places
unfoldable pub unit_lines : Parts → List Timed → List (List (List ℕ))
unit_lines parts plan = each_from (lines_at parts plan) 0 (places_of parts)

-- all lines
unfoldable pub ledger_lines : Parts → List Timed → List (List (List ℕ))
ledger_lines parts plan =
    head_lines (margin_of parts plan) (length plan) ++ step_lines_from parts [] plan ++ unit_lines parts plan

-- the text
abbrev pub ledger_bytes : Parts → List Timed → List ℕ
ledger_bytes parts plan = text_of (ledger_lines parts plan)

-- the text is the ledger of the plan, which is legal
pub record IsLedger (parts : Parts) (plan : List Timed) (text : List ℕ) : Type 0 where
  pub legal : IsLegal parts plan
  pub written : text ≡ ledger_bytes parts plan

-- why a plan has no ledger: the first rule that it breaks, or the want of memory
abbrev pub HasNoLedger : Parts → List Timed → ReplayFault → Type 0
HasNoLedger parts plan (Rule broken) = first_broken parts plan ≡ Some broken
HasNoLedger parts plan Memory = ⊤

-- ---- laws

-- the second line has the plan's margin
abbrev pub TellsMargin : Parts → List Timed → Type 0
TellsMargin parts plan =
    slice_index_or (ledger_lines parts plan) 1 [] ≡ codes "margin" ∷ signed_decimal (margin_of parts plan) ∷ []

-- the lines of each operation stand behind the three of the head and the four of each operation before it
pub record TellsStep (parts : Parts) (before : List Timed) (t : Timed) (later : List Timed) : Type 0 where
  pub front : List (List (List ℕ))
  pub back : List (List (List ℕ))
  pub whole : ledger_lines parts (before ++ t ∷ later) ≡ front ++ step_lines parts before t ++ back
  pub place : length front ≡ 3 + 4 * length before

-- the operation neither draws from place p nor fills it
pub record IsElsewhere (parts : Parts) (p : ℕ) (t : Timed) : Type 0 where
  pub source : (op_of parts t.op).from ≢ p
  pub destination : (op_of parts t.op).to ≢ p

-- the line of this number, from 0, of the ledger of a plan
abbrev pub ledger_line : Parts → List Timed → ℕ → List (List ℕ)
ledger_line parts plan k = slice_index_or (ledger_lines parts plan) k []

-- where no later operation touches its source, the third line of an operation, which begins with `from`, tells what
-- that place holds once the whole plan has run; likewise its fourth line, `to`, of its destination
pub record TellsEnd (parts : Parts) (before : List Timed) (t : Timed) (later : List Timed) : Type 0 where
  pub source : All (IsElsewhere parts (op_of parts t.op).from) later →
      ledger_line parts (before ++ t ∷ later) (3 + 4 * length before + 2)
      ≡ codes "from" ∷ place_words parts (state_after parts (before ++ t ∷ later)) (op_of parts t.op).from
  pub destination : All (IsElsewhere parts (op_of parts t.op).to) later →
      ledger_line parts (before ++ t ∷ later) (3 + 4 * length before + 3)
      ≡ codes "to" ∷ place_words parts (state_after parts (before ++ t ∷ later)) (op_of parts t.op).to
