-- What is read out of the matches, by their rows.
use Rattle.std.proofs.Common.{◌≡◌, ℕ, List, [], Some, None, true, ap, ◌∙◌, refl}
use Rattle.std.specs.Prelude.{unwrap_or, option_map}
use Rattle.std.specs.Borrow.{Bor}
use Rattle.clap.specs.Matches.{first_value}
use Rattle.clap.specs.Walk.{rows_of}
use Rattle.clap.specs.Takes.{takes}
use Rattle.clap.specs.Values.{kind_of}
use Rattle.clap.specs.declared.error.Error.{Error}
use Rattle.clap.specs.declared.error.kind.ErrorKind.TheVariants.{OutOfMemory}
use Rattle.clap.specs.declared.parser.matches.Found.{Found}
use Rattle.clap.proofs.WalkLemmas.{first_value-rows}
use Rattle.clap.proofs.OnLiterals.{clap_on_literals}
use Rattle.clap.specs.Simple.{App, HasMatchesOf, is_simple, subcommand_of, subcommand_rows_of}
use Rattle.clap.specs.declared.parser.matches.ArgMatches.{ArgMatches}
use Rattle.command_line.specs.inside.Taking.{text_in, line_app, solve_verb, check_verb, replay_verb, show_verb, make_verb, root_verb, replan_verb, recheck_verb}

pub text_found : (found : Found) (name : List ℕ) (text : Bor (List ℕ)) → option_map (λ s. s.now) (Some text) ≡ first_value found name →
    text.now ≡ text_in name (rows_of found)
text_found found name text is = ap (λ o. unwrap_or o []) (is ∙ first_value-rows found name)

pub no_text_found : (found : Found) (name : List ℕ) → None ≡ first_value found name → [] ≡ text_in name (rows_of found)
no_text_found found name is = ap (λ o. unwrap_or o []) (is ∙ first_value-rows found name)

-- ---- the whole command is simple, so its matches are those that the words say

pub line_is_simple : is_simple line_app ≡ true
unfolding clap_on_literals line_app solve_verb check_verb replay_verb show_verb make_verb root_verb replan_verb recheck_verb
line_is_simple = refl

pub found_behind_the_verb : (app : App) (words : List (List ℕ)) (found : ArgMatches) → app ≡ line_app → HasMatchesOf app words found →
    subcommand_rows_of found ≡ subcommand_of line_app words
found_behind_the_verb app words found is has = (has (ap is_simple is ∙ line_is_simple)).1 ∙ ap (λ a. subcommand_of a words) is

-- of words that it takes, the whole command refuses none but for want of memory
pub refused_for_memory : (app : App) (words : List (List ℕ)) (refused : Error) → app ≡ line_app → takes line_app words ≡ true →
    (takes app words ≡ true → kind_of refused ≡ OutOfMemory) → kind_of refused ≡ OutOfMemory
refused_for_memory app words refused is taken passes = passes (ap (λ a. takes a words) is ∙ taken)
