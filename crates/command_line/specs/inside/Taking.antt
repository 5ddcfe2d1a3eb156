-- The command that takes the values out of a line, and what it is asked for.
use Rattle.std.specs.Prelude.{◌≡◌, ℕ, Bool, true, false, List, [], Some, unwrap_or, codes}
use Rattle.std.specs.Str.{bytes_eq}
use Rattle.line_text.specs.Decimal.{decimal_of}
use Rattle.clap.specs.Walk.{Row, Rule, first_of}
use Rattle.clap.specs.Simple.{App, app_of, new_app, new_rule, on_top, with_rule, with_subcommand}
use Rattle.clap.specs.declared.builder.action.ArgAction.TheVariants.{SetTrue}
use Rattle.clap.specs.declared.builder.command.Command.{Command as Parser}
use Rattle.clap.specs.declared.builder.command.Command.TheViews.{out-Command as fields_of}
use Rattle.command_line.specs.declared.TheConstants.{MOST_NUMBER}
use Rattle.command_line.specs.declared.command.Command.{Command}
use Rattle.command_line.specs.declared.command.Command.TheVariants.{Solve, Check, Replay, Show, Make, Root, Replan, Recheck}
use Rattle.command_line.specs.declared.form.Form.{Form}
use Rattle.command_line.specs.declared.form.Form.TheVariants as form

-- ---- the command

-- an option of this name, as `--name` with a value behind it
abbrev pub option_rule : List ℕ → Rule
option_rule name = record (new_rule name) { long = Some name }

-- a flag of this name, as `--name`
abbrev pub flag_rule : List ℕ → Rule
flag_rule name = record (new_rule name) { long = Some name; action = Some SetTrue }

unfoldable pub solve_verb : App
solve_verb =
    with_rule (with_rule (with_rule (with_rule (new_app (codes "solve")) (new_rule (codes "plant")))
    (option_rule (codes "slots"))) (option_rule (codes "nodes"))) (option_rule (codes "workers"))

unfoldable pub check_verb : App
check_verb = with_rule (with_rule (new_app (codes "check")) (new_rule (codes "plant"))) (new_rule (codes "dossier"))

unfoldable pub replay_verb : App
replay_verb = with_rule (with_rule (new_app (codes "replay")) (new_rule (codes "plant"))) (new_rule (codes "plan"))

unfoldable pub show_verb : App
show_verb = with_rule (new_app (codes "show")) (new_rule (codes "plant"))

unfoldable pub make_verb : App
make_verb = with_rule (with_rule (new_app (codes "make")) (new_rule (codes "number"))) (flag_rule (codes "solve"))

unfoldable pub root_verb : App
root_verb = with_rule (with_rule (new_app (codes "root")) (new_rule (codes "plant"))) (option_rule (codes "slots"))

unfoldable pub replan_verb : App
replan_verb =
    with_rule (with_rule (with_rule (with_rule (with_rule (new_app (codes "replan")) (new_rule (codes "plant")))
    (new_rule (codes "plan"))) (option_rule (codes "at"))) (option_rule (codes "slots"))) (option_rule (codes "nodes"))

unfoldable pub recheck_verb : App
recheck_verb =
    with_rule (with_rule (with_rule (with_rule (new_app (codes "recheck")) (new_rule (codes "plant")))
    (new_rule (codes "plan"))) (new_rule (codes "dossier"))) (option_rule (codes "at"))

-- the program, of which words behind its name alone are read
abbrev pub program : App
program = on_top (λ shape. record shape { no_binary_name = true }) (new_app (codes "crudeplan"))

abbrev pub with_verb : App → App → App
with_verb app verb = with_subcommand app verb.top

-- the program with the verbs of a plan of the plant, and of the plant itself
abbrev pub first_app : App
first_app = with_verb (with_verb (with_verb (with_verb program solve_verb) check_verb) replay_verb) show_verb

-- the whole command: the program with its verbs
unfoldable pub line_app : App
line_app =
    with_verb (with_verb (with_verb (with_verb first_app make_verb) root_verb) replan_verb) recheck_verb

-- the parser is of this command, and no argument of it is one of its verbs too
pub record IsParserOf (app : App) (parser : Parser) : Type 0 where
  pub app_is : app_of parser ≡ app
  pub no_globals : (fields_of parser).has_globals ≡ false

-- ---- what it finds

-- the value that was found for this name, or none at all
abbrev pub text_in : List ℕ → List Row → List ℕ
text_in name rows = unwrap_or (first_of name rows) []

-- the number of which the value is the decimal, or 0
abbrev pub number_in : List ℕ → List Row → ℕ
number_in name rows = unwrap_or (decimal_of MOST_NUMBER (text_in name rows)) 0

-- whether the flag of this name was found
abbrev pub flag_in : List ℕ → List Row → Bool
flag_in name rows = bytes_eq (text_in name rows) (codes "true")

-- the command of this form whose values were found
abbrev pub command_in : Form → List Row → Command
command_in form.Solve rows = Solve (text_in (codes "plant") rows) (record {
  slots = number_in (codes "slots") rows;
  nodes = number_in (codes "nodes") rows;
  workers = number_in (codes "workers") rows;
})
command_in form.Check rows = Check (text_in (codes "plant") rows) (text_in (codes "dossier") rows)
command_in form.Replay rows = Replay (text_in (codes "plant") rows) (text_in (codes "plan") rows)
command_in form.Show rows = Show (text_in (codes "plant") rows)
command_in form.Make rows = Make (number_in (codes "number") rows) (flag_in (codes "solve") rows)
command_in form.Root rows = Root (text_in (codes "plant") rows) (number_in (codes "slots") rows)
command_in form.Replan rows = Replan (text_in (codes "plant") rows) (text_in (codes "plan") rows)
    (number_in (codes "at") rows) (number_in (codes "slots") rows) (number_in (codes "nodes") rows)
command_in form.Recheck rows = Recheck (text_in (codes "plant") rows) (text_in (codes "plan") rows)
    (text_in (codes "dossier") rows) (number_in (codes "at") rows)
