-- A line's first word names its verb: what is found is what the verb finds, and the line passes where the words behind the verb do.
use Rattle.std.proofs.Common.{◌≡◌, Bool, true, false, List, [], ◌∷◌, Some, refl, ap, sym, ◌∙◌}
use Rattle.std.specs.Prelude.{◌&&◌, codes, is_some}
use Rattle.std.specs.List.{fold, list_all}
use Rattle.std.proofs.lemmas.Bool.{and_from}
use Rattle.clap.specs.Takes.{built_takes, default_passes, entered_passes, is_valid, level_passes, settle_passes, takes, turn_passes, walk_passes}
use Rattle.clap.specs.Walk.{Names, Text, Walk, finished, nothing_held, rows_after, stop_after, walk, walk_from, walked}
use Rattle.clap.specs.Simple.{App, Shape, built, built_leaf, entered, inherited, is_simple, marked_built, names_of, subcommand_of, with_leaf_noted}
use Rattle.clap.proofs.OnLiterals.{clap_on_literals}
use Rattle.clap.proofs.WalkLemmas.{walk_stopped}
use Rattle.command_line.specs.inside.Taking.{line_app, solve_verb, check_verb, replay_verb, show_verb, make_verb, root_verb, replan_verb, recheck_verb}
use Rattle.command_line.proofs.TakingLaws.{line_is_simple}
use Rattle.command_line.proofs.WalkLaws.{stopped_passes}

abbrev top : Shape
top = (built line_app).top

abbrev names : Names
names = names_of (built line_app)

abbrev start : Walk
start = walk_from nothing_held

-- a verb as the program has it once it is built
abbrev leaf : App → Shape
leaf verb = built_leaf (inherited (with_leaf_noted (marked_built line_app.top)) verb.top)

-- the walk stops at the verb
abbrev Stops : Text → Type 0
Stops verb = walked top.rules names start verb ≡ record start { stopped = Some (verb, []) }

stopped : (verb : Text) → Stops verb → (words : List Text) → walk top.rules names nothing_held (verb ∷ words) ≡ record start { stopped = Some (verb, words) }
stopped verb met words = ap (λ w. fold (walked top.rules names) w words) met ∙ sym (walk_stopped top.rules names start verb [] words)

found_by : (verb : Text) → Stops verb → (words : List Text) → stop_after top.rules names (verb ∷ words) ≡ Some (verb, words)
found_by verb met words = ap (λ (w : Walk). w.stopped) (stopped verb met words)

-- the program itself takes the verb
abbrev top_ends : Bool → Walk → Bool
top_ends has w =
    settle_passes top.rules top.args_override_self w.held && (list_all default_passes top.rules && is_valid top (finished top.rules w.held) has)

top_passes : (verb : Text) → Stops verb → turn_passes top names start verb ≡ true → (words : List Text) (has : Bool) →
    level_passes top names nothing_held (verb ∷ words) has ≡ true
unfolding walk_passes line_app solve_verb check_verb replay_verb show_verb make_verb root_verb replan_verb recheck_verb
top_passes verb met turn words has =
    and_from (walk_passes top names start (verb ∷ words)) (top_ends has (walk top.rules names nothing_held (verb ∷ words)))
    (and_from (turn_passes top names start verb) (walk_passes top names (walked top.rules names start verb) words) turn
    (ap (λ w. walk_passes top names w words) met ∙ stopped_passes top names start verb [] words))
    (ap (top_ends has) (stopped verb met words))

-- so a line passes where the words behind its verb do
takes_line : (verb : Text) → Stops verb → turn_passes top names start verb ≡ true → (words : List Text) →
    entered_passes (built line_app) (Some (verb, words)) ≡ true → takes line_app (verb ∷ words) ≡ true
unfolding line_app solve_verb check_verb replay_verb show_verb make_verb root_verb replan_verb recheck_verb
takes_line verb met turn words inside =
    let stop = stop_after top.rules names (verb ∷ words) in
    and_from (is_simple line_app) (built_takes (built line_app) nothing_held (verb ∷ words)) line_is_simple
    (and_from (entered_passes (built line_app) stop) (level_passes top names nothing_held (verb ∷ words) (is_some (entered (built line_app) stop)))
    (ap (entered_passes (built line_app)) (found_by verb met words) ∙ inside)
    (top_passes verb met turn words (is_some (entered (built line_app) stop))))

-- ---- solve

unfoldable pub solve_leaf : Shape
solve_leaf = leaf solve_verb

solve_stops : Stops (codes "solve")
unfolding clap_on_literals line_app solve_verb check_verb replay_verb show_verb make_verb root_verb replan_verb recheck_verb
solve_stops = refl

solve_turn : turn_passes top names start (codes "solve") ≡ true
unfolding clap_on_literals line_app solve_verb check_verb replay_verb show_verb make_verb root_verb replan_verb recheck_verb
solve_turn = refl

pub solve_found : (words : List Text) → subcommand_of line_app (codes "solve" ∷ words) ≡ Some (codes "solve", rows_after solve_leaf.rules [] words)
unfolding solve_leaf line_app solve_verb check_verb replay_verb show_verb make_verb root_verb replan_verb recheck_verb
solve_found words = ap (entered (built line_app)) (found_by (codes "solve") solve_stops words)

pub solve_taken : (words : List Text) → level_passes solve_leaf [] nothing_held words false ≡ true → takes line_app (codes "solve" ∷ words) ≡ true
unfolding solve_leaf line_app solve_verb check_verb replay_verb show_verb make_verb root_verb replan_verb recheck_verb
solve_taken words inside = takes_line (codes "solve") solve_stops solve_turn words inside

-- ---- check

unfoldable pub check_leaf : Shape
check_leaf = leaf check_verb

check_stops : Stops (codes "check")
unfolding clap_on_literals line_app solve_verb check_verb replay_verb show_verb make_verb root_verb replan_verb recheck_verb
check_stops = refl

check_turn : turn_passes top names start (codes "check") ≡ true
unfolding clap_on_literals line_app solve_verb check_verb replay_verb show_verb make_verb root_verb replan_verb recheck_verb
check_turn = refl

pub check_found : (words : List Text) → subcommand_of line_app (codes "check" ∷ words) ≡ Some (codes "check", rows_after check_leaf.rules [] words)
unfolding check_leaf line_app solve_verb check_verb replay_verb show_verb make_verb root_verb replan_verb recheck_verb
check_found words = ap (entered (built line_app)) (found_by (codes "check") check_stops words)

pub check_taken : (words : List Text) → level_passes check_leaf [] nothing_held words false ≡ true → takes line_app (codes "check" ∷ words) ≡ true
unfolding check_leaf line_app solve_verb check_verb replay_verb show_verb make_verb root_verb replan_verb recheck_verb
check_taken words inside = takes_line (codes "check") check_stops check_turn words inside

-- ---- replay

unfoldable pub replay_leaf : Shape
replay_leaf = leaf replay_verb

replay_stops : Stops (codes "replay")
unfolding clap_on_literals line_app solve_verb check_verb replay_verb show_verb make_verb root_verb replan_verb recheck_verb
replay_stops = refl

replay_turn : turn_passes top names start (codes "replay") ≡ true
unfolding clap_on_literals line_app solve_verb check_verb replay_verb show_verb make_verb root_verb replan_verb recheck_verb
replay_turn = refl

pub replay_found : (words : List Text) → subcommand_of line_app (codes "replay" ∷ words) ≡ Some (codes "replay", rows_after replay_leaf.rules [] words)
unfolding replay_leaf line_app solve_verb check_verb replay_verb show_verb make_verb root_verb replan_verb recheck_verb
replay_found words = ap (entered (built line_app)) (found_by (codes "replay") replay_stops words)

pub replay_taken : (words : List Text) → level_passes replay_leaf [] nothing_held words false ≡ true → takes line_app (codes "replay" ∷ words) ≡ true
unfolding replay_leaf line_app solve_verb check_verb replay_verb show_verb make_verb root_verb replan_verb recheck_verb
replay_taken words inside = takes_line (codes "replay") replay_stops replay_turn words inside

-- ---- show

unfoldable pub show_leaf : Shape
show_leaf = leaf show_verb

show_stops : Stops (codes "show")
unfolding clap_on_literals line_app solve_verb check_verb replay_verb show_verb make_verb root_verb replan_verb recheck_verb
show_stops = refl

show_turn : turn_passes top names start (codes "show") ≡ true
unfolding clap_on_literals line_app solve_verb check_verb replay_verb show_verb make_verb root_verb replan_verb recheck_verb
show_turn = refl

pub show_found : (words : List Text) → subcommand_of line_app (codes "show" ∷ words) ≡ Some (codes "show", rows_after show_leaf.rules [] words)
unfolding show_leaf line_app solve_verb check_verb replay_verb show_verb make_verb root_verb replan_verb recheck_verb
show_found words = ap (entered (built line_app)) (found_by (codes "show") show_stops words)

pub show_taken : (words : List Text) → level_passes show_leaf [] nothing_held words false ≡ true → takes line_app (codes "show" ∷ words) ≡ true
unfolding show_leaf line_app solve_verb check_verb replay_verb show_verb make_verb root_verb replan_verb recheck_verb
show_taken words inside = takes_line (codes "show") show_stops show_turn words inside

-- ---- make

unfoldable pub make_leaf : Shape
make_leaf = leaf make_verb

make_stops : Stops (codes "make")
unfolding clap_on_literals line_app solve_verb check_verb replay_verb show_verb make_verb root_verb replan_verb recheck_verb
make_stops = refl

make_turn : turn_passes top names start (codes "make") ≡ true
unfolding clap_on_literals line_app solve_verb check_verb replay_verb show_verb make_verb root_verb replan_verb recheck_verb
make_turn = refl

pub make_found : (words : List Text) → subcommand_of line_app (codes "make" ∷ words) ≡ Some (codes "make", rows_after make_leaf.rules [] words)
unfolding make_leaf line_app solve_verb check_verb replay_verb show_verb make_verb root_verb replan_verb recheck_verb
make_found words = ap (entered (built line_app)) (found_by (codes "make") make_stops words)

pub make_taken : (words : List Text) → level_passes make_leaf [] nothing_held words false ≡ true → takes line_app (codes "make" ∷ words) ≡ true
unfolding make_leaf line_app solve_verb check_verb replay_verb show_verb make_verb root_verb replan_verb recheck_verb
make_taken words inside = takes_line (codes "make") make_stops make_turn words inside

-- ---- root

unfoldable pub root_leaf : Shape
root_leaf = leaf root_verb

root_stops : Stops (codes "root")
unfolding clap_on_literals line_app solve_verb check_verb replay_verb show_verb make_verb root_verb replan_verb recheck_verb
root_stops = refl

root_turn : turn_passes top names start (codes "root") ≡ true
unfolding clap_on_literals line_app solve_verb check_verb replay_verb show_verb make_verb root_verb replan_verb recheck_verb
root_turn = refl

pub root_found : (words : List Text) → subcommand_of line_app (codes "root" ∷ words) ≡ Some (codes "root", rows_after root_leaf.rules [] words)
unfolding root_leaf line_app solve_verb check_verb replay_verb show_verb make_verb root_verb replan_verb recheck_verb
root_found words = ap (entered (built line_app)) (found_by (codes "root") root_stops words)

pub root_taken : (words : List Text) → level_passes root_leaf [] nothing_held words false ≡ true → takes line_app (codes "root" ∷ words) ≡ true
unfolding root_leaf line_app solve_verb check_verb replay_verb show_verb make_verb root_verb replan_verb recheck_verb
root_taken words inside = takes_line (codes "root") root_stops root_turn words inside

-- ---- replan

unfoldable pub replan_leaf : Shape
replan_leaf = leaf replan_verb

replan_stops : Stops (codes "replan")
unfolding clap_on_literals line_app solve_verb check_verb replay_verb show_verb make_verb root_verb replan_verb recheck_verb
replan_stops = refl

replan_turn : turn_passes top names start (codes "replan") ≡ true
unfolding clap_on_literals line_app solve_verb check_verb replay_verb show_verb make_verb root_verb replan_verb recheck_verb
replan_turn = refl

pub replan_found : (words : List Text) → subcommand_of line_app (codes "replan" ∷ words) ≡ Some (codes "replan", rows_after replan_leaf.rules [] words)
unfolding replan_leaf line_app solve_verb check_verb replay_verb show_verb make_verb root_verb replan_verb recheck_verb
replan_found words = ap (entered (built line_app)) (found_by (codes "replan") replan_stops words)

pub replan_taken : (words : List Text) → level_passes replan_leaf [] nothing_held words false ≡ true → takes line_app (codes "replan" ∷ words) ≡ true
unfolding replan_leaf line_app solve_verb check_verb replay_verb show_verb make_verb root_verb replan_verb recheck_verb
replan_taken words inside = takes_line (codes "replan") replan_stops replan_turn words inside

-- ---- recheck

unfoldable pub recheck_leaf : Shape
recheck_leaf = leaf recheck_verb

recheck_stops : Stops (codes "recheck")
unfolding clap_on_literals line_app solve_verb check_verb replay_verb show_verb make_verb root_verb replan_verb recheck_verb
recheck_stops = refl

recheck_turn : turn_passes top names start (codes "recheck") ≡ true
unfolding clap_on_literals line_app solve_verb check_verb replay_verb show_verb make_verb root_verb replan_verb recheck_verb
recheck_turn = refl

pub recheck_found : (words : List Text) → subcommand_of line_app (codes "recheck" ∷ words) ≡ Some (codes "recheck", rows_after recheck_leaf.rules [] words)
unfolding recheck_leaf line_app solve_verb check_verb replay_verb show_verb make_verb root_verb replan_verb recheck_verb
recheck_found words = ap (entered (built line_app)) (found_by (codes "recheck") recheck_stops words)

pub recheck_taken : (words : List Text) → level_passes recheck_leaf [] nothing_held words false ≡ true → takes line_app (codes "recheck" ∷ words) ≡ true
unfolding recheck_leaf line_app solve_verb check_verb replay_verb show_verb make_verb root_verb replan_verb recheck_verb
recheck_taken words inside = takes_line (codes "recheck") recheck_stops recheck_turn words inside
