-- The forms of plain lines, tested word by word.
use Rattle.std.specs.Prelude.{◌≡◌, ℕ, ◌+◌, Bool, false, nat_le, ◌&&◌, ◌||◌, ◌==◌, List, [], length, slice_index_or, Option, Some, None, if◌then◌else◌, codes}
use Rattle.std.specs.Option.{option_map_or}
use Rattle.std.specs.Str.{bytes_eq}
use Rattle.limits.specs.declared.TheConstants.{MOST_HORIZON, MOST_NODES, MOST_SLOTS, MOST_WORKERS}
use Rattle.line_text.specs.Decimal.{decimal_of}
use Rattle.command_line.specs.declared.TheConstants.{MOST_NUMBER}
use Rattle.command_line.specs.declared.command.Command.{Command}
use Rattle.command_line.specs.declared.command.Command.TheVariants.{Solve, Check, Replay, Show, Make, Root, Replan, Recheck}
use Rattle.command_line.specs.declared.form.Form.{Form}
use Rattle.command_line.specs.declared.form.Form.TheVariants as form
use Rattle.command_line.specs.PlainLine.{is_file_word, IsPlainLine}

-- the word at this place, counted from 0; past the last there is an empty one
abbrev pub word_at : ℕ → List (List ℕ) → List ℕ
word_at place words = slice_index_or words place []

-- there stands this word
unfoldable pub is_word : ℕ → List ℕ → List (List ℕ) → Bool
is_word place text words = bytes_eq (word_at place words) text

-- there stands a word that names a file
unfoldable pub is_file : ℕ → List (List ℕ) → Bool
is_file place words = is_file_word (word_at place words)

-- there stands the decimal of a number in this range
unfoldable pub is_number : ℕ → ℕ → ℕ → List (List ℕ) → Bool
is_number place least most words = option_map_or (nat_le least) (decimal_of most (word_at place words)) false

-- there stands this option, and behind it a number in its range
abbrev pub is_option : ℕ → List ℕ → ℕ → ℕ → List (List ℕ) → Bool
is_option place option least most words = is_word place option words && is_number (place + 1) least most words

-- so it is at this place, or at one of the next two that options have
abbrev pub is_among_three : ℕ → List ℕ → ℕ → ℕ → List (List ℕ) → Bool
is_among_three place option least most words =
    is_option place option least most words
    || is_option (place + 2) option least most words
    || is_option (place + 4) option least most words

-- ---- each form

abbrev pub is_solve : List (List ℕ) → Bool
is_solve words = length words == 8 && is_word 0 (codes "solve") words && is_file 1 words
    && is_among_three 2 (codes "--slots") 1 MOST_SLOTS words
    && is_among_three 2 (codes "--nodes") 0 MOST_NODES words
    && is_among_three 2 (codes "--workers") 1 MOST_WORKERS words

abbrev pub is_check : List (List ℕ) → Bool
is_check words = length words == 3 && is_word 0 (codes "check") words && is_file 1 words && is_file 2 words

abbrev pub is_replay : List (List ℕ) → Bool
is_replay words = length words == 3 && is_word 0 (codes "replay") words && is_file 1 words && is_file 2 words

abbrev pub is_show : List (List ℕ) → Bool
is_show words = length words == 2 && is_word 0 (codes "show") words && is_file 1 words

abbrev pub is_make : List (List ℕ) → Bool
is_make words = length words == 2 && is_word 0 (codes "make") words && is_number 1 0 MOST_NUMBER words

abbrev pub is_make_and_solve : List (List ℕ) → Bool
is_make_and_solve words = length words == 3 && is_word 0 (codes "make") words && is_number 1 0 MOST_NUMBER words
    && is_word 2 (codes "--solve") words

abbrev pub is_root : List (List ℕ) → Bool
is_root words = length words == 4 && is_word 0 (codes "root") words && is_file 1 words
    && is_option 2 (codes "--slots") 1 MOST_SLOTS words

abbrev pub is_replan : List (List ℕ) → Bool
is_replan words = length words == 9 && is_word 0 (codes "replan") words && is_file 1 words && is_file 2 words
    && is_among_three 3 (codes "--at") 0 MOST_HORIZON words
    && is_among_three 3 (codes "--slots") 1 MOST_SLOTS words
    && is_among_three 3 (codes "--nodes") 0 MOST_NODES words

abbrev pub is_recheck : List (List ℕ) → Bool
is_recheck words = length words == 6 && is_word 0 (codes "recheck") words && is_file 1 words && is_file 2 words
    && is_file 3 words && is_option 4 (codes "--at") 0 MOST_HORIZON words

-- the first form that the words have
abbrev pub form_among : List (List ℕ) → Option Form
form_among words =
    if is_solve words then Some form.Solve
    else if is_check words then Some form.Check
    else if is_replay words then Some form.Replay
    else if is_show words then Some form.Show
    else if is_make words || is_make_and_solve words then Some form.Make
    else if is_root words then Some form.Root
    else if is_replan words then Some form.Replan
    else if is_recheck words then Some form.Recheck
    else None

-- the form of a command's line
abbrev pub form_of : Command → Form
form_of (Solve plant ask) = form.Solve
form_of (Check plant dossier) = form.Check
form_of (Replay plant plan) = form.Replay
form_of (Show plant) = form.Show
form_of (Make number solve) = form.Make
form_of (Root plant slots) = form.Root
form_of (Replan plant plan at slots nodes) = form.Replan
form_of (Recheck plant plan dossier at) = form.Recheck

-- the words are the plain line of a command of this form
pub record HasForm (form : Form) (words : List (List ℕ)) : Type 0 where
  pub command : Command
  pub line : IsPlainLine words command
  pub form_is : form_of command ≡ form

-- the words are the plain line of some command
abbrev pub IsPlain : List (List ℕ) → Type 0
IsPlain words = (command : Command) × IsPlainLine words command
