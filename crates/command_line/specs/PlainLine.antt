-- The words of a command line, and the command that a plain line says. A new command, or a new option of one, is a
-- line in each of the four definitions that go by commands.
use Rattle.std.specs.Prelude.{◌≡◌, ℕ, ◌≤◌, Bool, true, false, not, nat_le, ◌&&◌, ◌==◌, IsTrue, List, [], ◌∷◌, ◌++◌, length, slice_index, All, Contains, codes, decimal}
use Rattle.std.specs.List.{flat_map}
use Rattle.limits.specs.declared.TheConstants.{MOST_HORIZON, MOST_NODES, MOST_SLOTS, MOST_WORKERS}
use Rattle.command_line.specs.declared.TheConstants.{LONGEST_FILE_WORD, MOST_NUMBER}
use Rattle.command_line.specs.declared.command.Command.{Command}
use Rattle.command_line.specs.declared.command.Command.TheVariants.{Solve, Check, Replay, Show, Make, Root, Replan, Recheck}

-- the words that come first, in this order: the verb, and then its files or its number
abbrev pub first_words : Command → List (List ℕ)
first_words (Solve plant ask) = codes "solve" ∷ plant ∷ []
first_words (Check plant dossier) = codes "check" ∷ plant ∷ dossier ∷ []
first_words (Replay plant plan) = codes "replay" ∷ plant ∷ plan ∷ []
first_words (Show plant) = codes "show" ∷ plant ∷ []
first_words (Make number false) = codes "make" ∷ decimal number ∷ []
first_words (Make number true) = codes "make" ∷ decimal number ∷ codes "--solve" ∷ []
first_words (Root plant slots) = codes "root" ∷ plant ∷ []
first_words (Replan plant plan at slots nodes) = codes "replan" ∷ plant ∷ plan ∷ []
first_words (Recheck plant plan dossier at) = codes "recheck" ∷ plant ∷ plan ∷ dossier ∷ []

-- the options that stand behind them, each with its number
abbrev pub options : Command → List (List ℕ × ℕ)
options (Solve plant ask) =
    (codes "--slots", ask.slots) ∷ (codes "--nodes", ask.nodes) ∷ (codes "--workers", ask.workers) ∷ []
options (Check plant dossier) = []
options (Replay plant plan) = []
options (Show plant) = []
options (Make number solve) = []
options (Root plant slots) = (codes "--slots", slots) ∷ []
options (Replan plant plan at slots nodes) =
    (codes "--at", at) ∷ (codes "--slots", slots) ∷ (codes "--nodes", nodes) ∷ []
options (Recheck plant plan dossier at) = (codes "--at", at) ∷ []

-- a word that names a file: some bytes and no more than there may be, of which the first is no `-` (45)
abbrev pub is_file_word : List ℕ → Bool
is_file_word word =
    nat_le 1 (length word) && nat_le (length word) LONGEST_FILE_WORD && not (slice_index word 0 == 45)

-- a search may have so many slots, and divide so many nodes
abbrev pub IsSearchInRange : (slots nodes : ℕ) → Type 0
IsSearchInRange slots nodes = (1 ≤ slots) × (slots ≤ MOST_SLOTS) × (nodes ≤ MOST_NODES)

-- what a command names is in range: its files are named by file words, and its numbers are no more than they may be
abbrev pub IsInRange : Command → Type 0
IsInRange (Solve plant ask) = IsTrue (is_file_word plant) × IsSearchInRange ask.slots ask.nodes ×
    (1 ≤ ask.workers) × (ask.workers ≤ MOST_WORKERS)
IsInRange (Check plant dossier) = IsTrue (is_file_word plant) × IsTrue (is_file_word dossier)
IsInRange (Replay plant plan) = IsTrue (is_file_word plant) × IsTrue (is_file_word plan)
IsInRange (Show plant) = IsTrue (is_file_word plant)
IsInRange (Make number solve) = number ≤ MOST_NUMBER
IsInRange (Root plant slots) = IsTrue (is_file_word plant) × (1 ≤ slots) × (slots ≤ MOST_SLOTS)
IsInRange (Replan plant plan at slots nodes) = IsTrue (is_file_word plant) × IsTrue (is_file_word plan) ×
    (at ≤ MOST_HORIZON) × IsSearchInRange slots nodes
IsInRange (Recheck plant plan dossier at) = IsTrue (is_file_word plant) × IsTrue (is_file_word plan) ×
    IsTrue (is_file_word dossier) × (at ≤ MOST_HORIZON)

-- the words of options that stand one behind the other
abbrev pub option_words : List (List ℕ × ℕ) → List (List ℕ)
option_words pairs = flat_map (λ pair. pair.0 ∷ decimal pair.1 ∷ []) pairs

-- the words are the plain line of the command
pub record IsPlainLine (words : List (List ℕ)) (command : Command) : Type 0 where
  -- its options as they stand on the line, in any order, each once: each is among them, and they are as many
  pub given : List (List ℕ × ℕ)
  pub each : All (Contains given) (options command)
  pub as_many : length given ≡ length (options command)
  -- the words that come first and then the options, and nothing else
  pub words_are : words ≡ first_words command ++ option_words given
  pub in_range : IsInRange command

-- the words are no plain line
abbrev pub AreRefused : List (List ℕ) → Type 0
AreRefused words = (command : Command) → IsPlainLine words command → ⊥

-- no words are the plain line of two commands
abbrev pub HasOneCommand : Type 0
HasOneCommand = (words : List (List ℕ)) (one other : Command) → IsPlainLine words one → IsPlainLine words other →
    one ≡ other
