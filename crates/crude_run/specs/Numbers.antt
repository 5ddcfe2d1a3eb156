-- The numbers that a user sees: with which status a run ends, and how long its files may be.
use Rattle.std.specs.Prelude.{ℕ}
use Rattle.limits.specs.declared.TheConstants.{PLANT_FILE_LIMIT, PLAN_FILE_LIMIT, DOSSIER_FILE_LIMIT}

-- ---- statuses

-- `solve` found a plan
abbrev pub status_plan_found : ℕ
status_plan_found = 0

-- `check` says yes
abbrev pub status_accepted : ℕ
status_accepted = 0

-- `check` says no
abbrev pub status_not_accepted : ℕ
status_not_accepted = 1

-- `replay` finds the plan legal
abbrev pub status_legal : ℕ
status_legal = 0

-- `replay` finds a rule broken
abbrev pub status_illegal : ℕ
status_illegal = 1

-- `show` shows the plant
abbrev pub status_shown : ℕ
status_shown = 0

-- `make` shows the plant of a number, or has tried it
abbrev pub status_made : ℕ
status_made = 0

-- `solve` says that there is no plan
abbrev pub status_infeasible : ℕ
status_infeasible = 3

-- `solve` found no plan
abbrev pub status_none_found : ℕ
status_none_found = 4

-- the words are no plain line
abbrev pub status_words_refused : ℕ
status_words_refused = 64

-- the plant file is no plant
abbrev pub status_plant_refused : ℕ
status_plant_refused = 65

-- a file could not be read
abbrev pub status_read_failed : ℕ
status_read_failed = 66

-- a file is longer than its limit
abbrev pub status_too_long : ℕ
status_too_long = 67

-- the plan file has a line that is none of a plan
abbrev pub status_plan_refused : ℕ
status_plan_refused = 68

-- memory ran out
abbrev pub status_no_memory : ℕ
status_no_memory = 71

-- the text could not be written
abbrev pub status_write_failed : ℕ
status_write_failed = 74

-- ---- limits

-- the most bytes of a plant file
abbrev pub plant_limit : ℕ
plant_limit = PLANT_FILE_LIMIT

-- the most bytes of a plan file
abbrev pub plan_limit : ℕ
plan_limit = PLAN_FILE_LIMIT

-- the most bytes of a dossier
abbrev pub dossier_limit : ℕ
dossier_limit = DOSSIER_FILE_LIMIT

-- ---- the trial search of a plant that is made

-- the most operations of its plans
abbrev pub trial_slots : ℕ
trial_slots = 2

-- how many nodes it may divide
abbrev pub trial_budget : ℕ
trial_budget = 8
