-- What the program answers: a status, and the whole text that goes with it.
use Rattle.std.specs.Prelude.{ℕ, ℤ, ◌+◌, List, [], ◌∷◌, ◌++◌, map, length, Option, codes, decimal}
use Rattle.line_text.specs.Words.{text_of}
use Rattle.plant_model.specs.declared.parts.Parts.{Parts}
use Rattle.plant_model.specs.Parts.{crude_count_of, op_count_of, horizon_of}
use Rattle.plant_model.specs.declared.place.Place.{Place}
use Rattle.plant_model.specs.declared.place.PlantFault.{PlantFault}
use Rattle.plant_text.specs.Canonical.{plant_text_of, place_text_of}
use Rattle.replay_core.specs.declared.timed.Timed.{Timed}
use Rattle.replay_core.specs.declared.broken.Broken.{Broken}
use Rattle.plan_text.specs.Ledger.{ledger_bytes}
use Rattle.slot_box.specs.Boxes.{points_of}
use Rattle.slot_forms.specs.Cases.{plain, root_box}
use Rattle.dossier_text.specs.declared.dossier.Word3.{Word3}
use Rattle.dossier_text.specs.Text.{claim_lines}
use Rattle.crude_run.specs.declared.answer.Answer.{Answer}
use Rattle.crude_run.specs.Numbers.{status_accepted, status_not_accepted, status_legal, status_illegal, status_shown, status_made, status_words_refused, status_plant_refused, status_read_failed, status_too_long, status_plan_refused, trial_slots, trial_budget}

-- a status with one line
abbrev pub one_line : ℕ → List ℕ → Answer
one_line status words = record { status = status; text = words ++ 10 ∷ [] }

-- the words are no plain line
abbrev pub words_refused : Answer
words_refused = one_line status_words_refused (codes "refused words")

-- the plant file is no JSON
abbrev pub json_refused : Answer
json_refused = one_line status_plant_refused (codes "refused plant json")

-- its value has not the form of a plant at this place, the first
abbrev pub shape_refused : Place → Answer
shape_refused place = one_line status_plant_refused (codes "refused plant shape" ++ 32 ∷ place_text_of place)

-- its parts have this fault, the first, by its number and its place
abbrev pub fault_refused : PlantFault → Answer
fault_refused fault =
    one_line status_plant_refused (codes "refused plant" ++ 32 ∷ decimal fault.number ++ 32 ∷ place_text_of fault.place)

-- this line of the plan file, counted from 1, is the first that is none of a plan
abbrev pub plan_refused : ℕ → Answer
plan_refused line = one_line status_plan_refused (codes "refused plan line" ++ 32 ∷ decimal line)

-- the command's file of this number, counted from 1, could not be read
abbrev pub read_failed : ℕ → Answer
read_failed number = one_line status_read_failed (codes "read failed" ++ 32 ∷ decimal number)

-- that file is too long
abbrev pub too_long : ℕ → Answer
too_long number = one_line status_too_long (codes "too long" ++ 32 ∷ decimal number)

-- the dossier is accepted: yes, and below it what it says of plans, its margin and its bound, as it has them
abbrev pub accepted : Word3 → Option ℤ → Option ℤ → Answer
accepted answer margin bound = record {
  status = status_accepted;
  text = codes "yes" ++ 10
      ∷ text_of (claim_lines answer margin bound);
}

-- the dossier is not accepted: no, the number of the first reason, and the line where it stands
abbrev pub not_accepted : ℕ → ℕ → Answer
not_accepted reason line = one_line status_not_accepted (codes "no" ++ 32 ∷ decimal reason ++ 32 ∷ decimal line)

-- the plan is legal: its ledger
abbrev pub legal : Parts → List Timed → Answer
legal parts plan = record { status = status_legal; text = ledger_bytes parts plan }

-- the plan is not: the rule that it breaks first, and where
abbrev pub illegal : Broken → Answer
illegal broken = one_line status_illegal (codes "illegal" ++ 32 ∷ decimal broken.rule ++ 32 ∷ decimal broken.at)

-- the one text of the plant
abbrev pub shown : Parts → Answer
shown parts = record { status = status_shown; text = plant_text_of parts }

-- how large the plant is: its crudes, vessels, tanks of both kinds, units and operations, and its horizon
abbrev pub sizes_of : Parts → List ℕ
sizes_of parts =
    crude_count_of parts ∷ length parts.vessels ∷ (length parts.storage + length parts.charging)
    ∷ length parts.units ∷ op_count_of parts ∷ horizon_of parts ∷ []

-- how many decimal digits the number has
abbrev pub digits_of : ℕ → ℕ
digits_of number = length (decimal number)

-- how many points the root box of the trial search has
abbrev pub trial_points : Parts → ℕ
trial_points parts = points_of (root_box (plain parts trial_slots))

-- the number, the size of its plant and that of its trial search, and the checker's yes
abbrev pub trial_lines : ℕ → Parts → List (List (List ℕ))
trial_lines number parts =
    (codes "made" ∷ decimal number ∷ [])
    ∷ (codes "sizes" ∷ map decimal (sizes_of parts))
    ∷ (codes "points" ∷ decimal (digits_of (trial_points parts)) ∷ [])
    ∷ (codes "budget" ∷ decimal trial_budget ∷ [])
    ∷ (codes "verdict" ∷ codes "yes" ∷ [])
    ∷ []

-- the plant of the number has been tried: these lines, and what the dossier of the trial search says of plans, its
-- margin and its bound, as it has them
abbrev pub tried : ℕ → Parts → Word3 → Option ℤ → Option ℤ → Answer
tried number parts answer margin bound = record {
  status = status_made;
  text = text_of (trial_lines number parts) ++ text_of (claim_lines answer margin bound);
}
