-- What a plain line's words are, test by test and value by value.
use Rattle.std.proofs.Common.{◌≡◌, ℕ, ◌<◌, ◌≤◌, ◌^◌, Bool, true, false, cond, leb, List, [], ◌∷◌, Option, Some, None, Result, Ok, Err, refl, ap}
use Rattle.std.proofs.Common.{sym, subst, ◌∙◌, arith, rules}
use Rattle.std.specs.Prelude.{◌||◌, codes, decimal, option_map, unwrap_or, IsSome, IfErr}
use Rattle.std.specs.Option.{option_map_or}
use Rattle.std.specs.Str.{bytes_eq}
use Rattle.std.proofs.lemmas.Bool.{le-leb, or_left, or_right}
use Rattle.std.proofs.lemmas.Option.{same_Some}
use Rattle.limits.specs.declared.TheConstants.{MOST_HORIZON, MOST_NODES, MOST_SLOTS, MOST_WORKERS}
use Rattle.line_text.specs.Decimal.{decimal_of}
use Rattle.line_text.proofs.DecimalLaws.{decimal_of-decimal}
use Rattle.clap.specs.Takes.{level_passes, settle_passes, takes}
use Rattle.clap.specs.Walk.{Row, Walk, finished, nothing_held, rows_after, settled_rows, walk_from}
use Rattle.clap.specs.Simple.{Shape, subcommand_of}
use Rattle.command_line.specs.declared.TheConstants.{MOST_NUMBER}
use Rattle.command_line.specs.declared.command.Ask.{Ask}
use Rattle.command_line.specs.declared.command.Command.{Command}
use Rattle.command_line.specs.declared.command.Command.TheVariants.{Solve, Check, Replay, Show, Make, Root, Replan, Recheck}
use Rattle.command_line.specs.declared.command.WordFault.{WordFault}
use Rattle.command_line.specs.declared.command.WordFault.TheVariants.{Memory, Words}
use Rattle.command_line.specs.declared.form.Form.{Form}
use Rattle.command_line.specs.declared.form.Form.TheVariants as form
use Rattle.command_line.specs.PlainLine.{is_file_word, option_words, AreRefused, HasOneCommand, IsPlainLine}
use Rattle.command_line.specs.inside.Forms.{word_at, is_word, is_file, is_number, is_solve, is_check, is_replay, is_show, is_make, is_make_and_solve, is_root}
use Rattle.command_line.specs.inside.Forms.{is_replan, is_recheck, form_among, form_of, HasForm}
use Rattle.command_line.specs.inside.Taking.{text_in, flag_in, command_in, line_app, solve_verb, check_verb, replay_verb, show_verb, make_verb, root_verb}
use Rattle.command_line.specs.inside.Taking.{replan_verb, recheck_verb}
use Rattle.command_line.proofs.OrderLaws.{Text, differ, in_each_order, none_given, one_given}
use Rattle.command_line.proofs.WalkLaws.{GoesOn, IsValueWord, Use, between, decimal_is_value, ends_well, file_is_value, last, level_is_passed, rows_of_three}
use Rattle.command_line.proofs.VerbLaws.{solve_found, check_found, replay_found, show_found, make_found, root_found, replan_found, recheck_found}
use Rattle.command_line.proofs.VerbLaws.{solve_taken, check_taken, replay_taken, show_taken, make_taken, root_taken, replan_taken, recheck_taken}
use Rattle.command_line.proofs.VerbLaws.{solve_leaf, check_leaf, replay_leaf, show_leaf, make_leaf, root_leaf, replan_leaf, recheck_leaf}
use Rattle.command_line.proofs.ToldLaws as told

-- ---- the words of each command's line

solve_words : (plant : Text) (ask : Ask) (words : List Text) → IsPlainLine words (Solve plant ask) → (P : List Text → Type 0) →
    P (codes "solve" ∷ plant ∷ codes "--slots" ∷ decimal ask.slots ∷ codes "--nodes" ∷ decimal ask.nodes ∷ codes "--workers" ∷ decimal ask.workers ∷ []) →
    P (codes "solve" ∷ plant ∷ codes "--slots" ∷ decimal ask.slots ∷ codes "--workers" ∷ decimal ask.workers ∷ codes "--nodes" ∷ decimal ask.nodes ∷ []) →
    P (codes "solve" ∷ plant ∷ codes "--nodes" ∷ decimal ask.nodes ∷ codes "--slots" ∷ decimal ask.slots ∷ codes "--workers" ∷ decimal ask.workers ∷ []) →
    P (codes "solve" ∷ plant ∷ codes "--nodes" ∷ decimal ask.nodes ∷ codes "--workers" ∷ decimal ask.workers ∷ codes "--slots" ∷ decimal ask.slots ∷ []) →
    P (codes "solve" ∷ plant ∷ codes "--workers" ∷ decimal ask.workers ∷ codes "--slots" ∷ decimal ask.slots ∷ codes "--nodes" ∷ decimal ask.nodes ∷ []) →
    P (codes "solve" ∷ plant ∷ codes "--workers" ∷ decimal ask.workers ∷ codes "--nodes" ∷ decimal ask.nodes ∷ codes "--slots" ∷ decimal ask.slots ∷ []) →
    P words
solve_words plant ask words line P p0 p1 p2 p3 p4 p5 = rw line.words_are
    (in_each_order (codes "--slots", ask.slots) (codes "--nodes", ask.nodes) (codes "--workers", ask.workers)
    (differ (codes "--slots") (codes "--nodes") refl) (differ (codes "--slots") (codes "--workers") refl) (differ (codes "--nodes") (codes "--workers") refl)
    (λ given. P (codes "solve" ∷ plant ∷ option_words given)) p0 p1 p2 p3 p4 p5 line.given line.each line.as_many)

check_words : (plant : Text) (dossier : Text) (words : List Text) → IsPlainLine words (Check plant dossier) → (P : List Text → Type 0) →
    P (codes "check" ∷ plant ∷ dossier ∷ []) →
    P words
check_words plant dossier words line P p0 = rw line.words_are
    (rw (none_given line.given line.as_many) p0)

replay_words : (plant : Text) (plan : Text) (words : List Text) → IsPlainLine words (Replay plant plan) → (P : List Text → Type 0) →
    P (codes "replay" ∷ plant ∷ plan ∷ []) →
    P words
replay_words plant plan words line P p0 = rw line.words_are
    (rw (none_given line.given line.as_many) p0)

show_words : (plant : Text) (words : List Text) → IsPlainLine words (Show plant) → (P : List Text → Type 0) →
    P (codes "show" ∷ plant ∷ []) →
    P words
show_words plant words line P p0 = rw line.words_are
    (rw (none_given line.given line.as_many) p0)

root_words : (plant : Text) (slots : ℕ) (words : List Text) → IsPlainLine words (Root plant slots) → (P : List Text → Type 0) →
    P (codes "root" ∷ plant ∷ codes "--slots" ∷ decimal slots ∷ []) →
    P words
root_words plant slots words line P p0 = rw line.words_are
    (rw (one_given (codes "--slots", slots) line.given line.each line.as_many) p0)

replan_words : (plant : Text) (plan : Text) (at : ℕ) (slots : ℕ) (nodes : ℕ) (words : List Text) → IsPlainLine words (Replan plant plan at slots nodes) →
    (P : List Text → Type 0) →
    P (codes "replan" ∷ plant ∷ plan ∷ codes "--at" ∷ decimal at ∷ codes "--slots" ∷ decimal slots ∷ codes "--nodes" ∷ decimal nodes ∷ []) →
    P (codes "replan" ∷ plant ∷ plan ∷ codes "--at" ∷ decimal at ∷ codes "--nodes" ∷ decimal nodes ∷ codes "--slots" ∷ decimal slots ∷ []) →
    P (codes "replan" ∷ plant ∷ plan ∷ codes "--slots" ∷ decimal slots ∷ codes "--at" ∷ decimal at ∷ codes "--nodes" ∷ decimal nodes ∷ []) →
    P (codes "replan" ∷ plant ∷ plan ∷ codes "--slots" ∷ decimal slots ∷ codes "--nodes" ∷ decimal nodes ∷ codes "--at" ∷ decimal at ∷ []) →
    P (codes "replan" ∷ plant ∷ plan ∷ codes "--nodes" ∷ decimal nodes ∷ codes "--at" ∷ decimal at ∷ codes "--slots" ∷ decimal slots ∷ []) →
    P (codes "replan" ∷ plant ∷ plan ∷ codes "--nodes" ∷ decimal nodes ∷ codes "--slots" ∷ decimal slots ∷ codes "--at" ∷ decimal at ∷ []) →
    P words
replan_words plant plan at slots nodes words line P p0 p1 p2 p3 p4 p5 = rw line.words_are
    (in_each_order (codes "--at", at) (codes "--slots", slots) (codes "--nodes", nodes)
    (differ (codes "--at") (codes "--slots") refl) (differ (codes "--at") (codes "--nodes") refl) (differ (codes "--slots") (codes "--nodes") refl)
    (λ given. P (codes "replan" ∷ plant ∷ plan ∷ option_words given)) p0 p1 p2 p3 p4 p5 line.given line.each line.as_many)

recheck_words : (plant : Text) (plan : Text) (dossier : Text) (at : ℕ) (words : List Text) → IsPlainLine words (Recheck plant plan dossier at) →
    (P : List Text → Type 0) →
    P (codes "recheck" ∷ plant ∷ plan ∷ dossier ∷ codes "--at" ∷ decimal at ∷ []) →
    P words
recheck_words plant plan dossier at words line P p0 = rw line.words_are
    (rw (one_given (codes "--at", at) line.given line.each line.as_many) p0)

make_words : (number : ℕ) (words : List Text) → IsPlainLine words (Make number false) → (P : List Text → Type 0) → P (codes "make" ∷ decimal number ∷ []) →
    P words
make_words number words line P p0 = rw line.words_are (rw (none_given line.given line.as_many) p0)

make_and_solve_words : (number : ℕ) (words : List Text) → IsPlainLine words (Make number true) → (P : List Text → Type 0) →
    P (codes "make" ∷ decimal number ∷ codes "--solve" ∷ []) → P words
make_and_solve_words number words line P p0 = rw line.words_are (rw (none_given line.given line.as_many) p0)

-- ---- each passes its test

in_range : (least most n : ℕ) → least ≤ n → n ≤ most → most < 2 ^ 64 → option_map_or (leb least) (decimal_of most (decimal n)) false ≡ true
in_range least most n low high small = rw (decimal_of-decimal most n high small, le-leb least n low) refl

solve_passes : (plant : Text) (ask : Ask) (words : List Text) → IsPlainLine words (Solve plant ask) → is_solve words ≡ true
unfolding is_word is_file is_number
solve_passes plant ask words line =
    let plant_is : is_file_word plant ≡ true = line.in_range.0 in
    let slots_is = in_range 1 MOST_SLOTS ask.slots line.in_range.1.0 line.in_range.1.1 (omega arith) in
    let nodes_is = in_range 0 MOST_NODES ask.nodes (omega arith) line.in_range.1.2 (omega arith) in
    let workers_is = in_range 1 MOST_WORKERS ask.workers line.in_range.2 line.in_range.3 (omega arith) in
    solve_words plant ask words line (λ ws. is_solve ws ≡ true)
    (rw (plant_is, slots_is, nodes_is, workers_is) refl)
    (rw (plant_is, slots_is, nodes_is, workers_is) refl)
    (rw (plant_is, slots_is, nodes_is, workers_is) refl)
    (rw (plant_is, slots_is, nodes_is, workers_is) refl)
    (rw (plant_is, slots_is, nodes_is, workers_is) refl)
    (rw (plant_is, slots_is, nodes_is, workers_is) refl)

check_passes : (plant : Text) (dossier : Text) (words : List Text) → IsPlainLine words (Check plant dossier) → is_check words ≡ true
unfolding is_word is_file is_number
check_passes plant dossier words line =
    let plant_is : is_file_word plant ≡ true = line.in_range.0 in
    let dossier_is : is_file_word dossier ≡ true = line.in_range.1 in
    check_words plant dossier words line (λ ws. is_check ws ≡ true)
    (rw (plant_is, dossier_is) refl)

replay_passes : (plant : Text) (plan : Text) (words : List Text) → IsPlainLine words (Replay plant plan) → is_replay words ≡ true
unfolding is_word is_file is_number
replay_passes plant plan words line =
    let plant_is : is_file_word plant ≡ true = line.in_range.0 in
    let plan_is : is_file_word plan ≡ true = line.in_range.1 in
    replay_words plant plan words line (λ ws. is_replay ws ≡ true)
    (rw (plant_is, plan_is) refl)

show_passes : (plant : Text) (words : List Text) → IsPlainLine words (Show plant) → is_show words ≡ true
unfolding is_word is_file is_number
show_passes plant words line =
    let plant_is : is_file_word plant ≡ true = line.in_range in
    show_words plant words line (λ ws. is_show ws ≡ true)
    (rw plant_is refl)

root_passes : (plant : Text) (slots : ℕ) (words : List Text) → IsPlainLine words (Root plant slots) → is_root words ≡ true
unfolding is_word is_file is_number
root_passes plant slots words line =
    let plant_is : is_file_word plant ≡ true = line.in_range.0 in
    let slots_is = in_range 1 MOST_SLOTS slots line.in_range.1 line.in_range.2 (omega arith) in
    root_words plant slots words line (λ ws. is_root ws ≡ true)
    (rw (plant_is, slots_is) refl)

replan_passes : (plant : Text) (plan : Text) (at : ℕ) (slots : ℕ) (nodes : ℕ) (words : List Text) → IsPlainLine words (Replan plant plan at slots nodes) →
    is_replan words ≡ true
unfolding is_word is_file is_number
replan_passes plant plan at slots nodes words line =
    let plant_is : is_file_word plant ≡ true = line.in_range.0 in
    let plan_is : is_file_word plan ≡ true = line.in_range.1 in
    let at_is = in_range 0 MOST_HORIZON at (omega arith) line.in_range.2 (omega arith) in
    let slots_is = in_range 1 MOST_SLOTS slots line.in_range.3.0 line.in_range.3.1 (omega arith) in
    let nodes_is = in_range 0 MOST_NODES nodes (omega arith) line.in_range.3.2 (omega arith) in
    replan_words plant plan at slots nodes words line (λ ws. is_replan ws ≡ true)
    (rw (plant_is, plan_is, at_is, slots_is, nodes_is) refl)
    (rw (plant_is, plan_is, at_is, slots_is, nodes_is) refl)
    (rw (plant_is, plan_is, at_is, slots_is, nodes_is) refl)
    (rw (plant_is, plan_is, at_is, slots_is, nodes_is) refl)
    (rw (plant_is, plan_is, at_is, slots_is, nodes_is) refl)
    (rw (plant_is, plan_is, at_is, slots_is, nodes_is) refl)

recheck_passes : (plant : Text) (plan : Text) (dossier : Text) (at : ℕ) (words : List Text) → IsPlainLine words (Recheck plant plan dossier at) →
    is_recheck words ≡ true
unfolding is_word is_file is_number
recheck_passes plant plan dossier at words line =
    let plant_is : is_file_word plant ≡ true = line.in_range.0 in
    let plan_is : is_file_word plan ≡ true = line.in_range.1 in
    let dossier_is : is_file_word dossier ≡ true = line.in_range.2 in
    let at_is = in_range 0 MOST_HORIZON at (omega arith) line.in_range.3 (omega arith) in
    recheck_words plant plan dossier at words line (λ ws. is_recheck ws ≡ true)
    (rw (plant_is, plan_is, dossier_is, at_is) refl)

make_passes : (number : ℕ) (words : List Text) → IsPlainLine words (Make number false) → is_make words ≡ true
unfolding is_word is_number
make_passes number words line =
    let number_is = in_range 0 MOST_NUMBER number (omega arith) line.in_range (omega arith) in
    make_words number words line (λ ws. is_make ws ≡ true) (rw number_is refl)

make_and_solve_passes : (number : ℕ) (words : List Text) → IsPlainLine words (Make number true) → is_make_and_solve words ≡ true
unfolding is_word is_number
make_and_solve_passes number words line =
    let number_is = in_range 0 MOST_NUMBER number (omega arith) line.in_range (omega arith) in
    make_and_solve_words number words line (λ ws. is_make_and_solve ws ≡ true) (rw number_is refl)

-- ---- words without a form are no plain line

cond_none : (test : Bool) (this : Form) (others : Option Form) → cond test (Some this) others ≡ None → (test ≡ false) × (others ≡ None)
cond_none true this others none = absurd cc
cond_none false this others none = (refl, none)

clash : (test : Bool) → test ≡ false → test ≡ true → ⊥
clash test fails holds = cc

pub no_form : (words : List Text) → form_among words ≡ None → AreRefused words
no_form words none command line =
    let solve = cond_none (is_solve words) form.Solve _ none in
    let check = cond_none (is_check words) form.Check _ solve.1 in
    let replay = cond_none (is_replay words) form.Replay _ check.1 in
    let show = cond_none (is_show words) form.Show _ replay.1 in
    let make = cond_none (is_make words || is_make_and_solve words) form.Make _ show.1 in
    let root = cond_none (is_root words) form.Root _ make.1 in
    let replan = cond_none (is_replan words) form.Replan _ root.1 in
    let recheck = cond_none (is_recheck words) form.Recheck _ replan.1 in
    go solve.0 check.0 replay.0 show.0 make.0 root.0 replan.0 recheck.0 command line
  where
    go : is_solve words ≡ false → is_check words ≡ false → is_replay words ≡ false → is_show words ≡ false →
        (is_make words || is_make_and_solve words) ≡ false →
        is_root words ≡ false → is_replan words ≡ false → is_recheck words ≡ false → (command : Command) → IsPlainLine words command → ⊥
    go solve check replay show make root replan recheck (Solve plant ask) line = clash _ solve (solve_passes plant ask words line)
    go solve check replay show make root replan recheck (Check plant dossier) line = clash _ check (check_passes plant dossier words line)
    go solve check replay show make root replan recheck (Replay plant plan) line = clash _ replay (replay_passes plant plan words line)
    go solve check replay show make root replan recheck (Show plant) line = clash _ show (show_passes plant words line)
    go solve check replay show make root replan recheck (Make number false) line =
        clash _ make (or_left (is_make words) (is_make_and_solve words) (make_passes number words line))
    go solve check replay show make root replan recheck (Make number true) line =
        clash _ make (or_right (is_make words) (is_make_and_solve words) (make_and_solve_passes number words line))
    go solve check replay show make root replan recheck (Root plant slots) line = clash _ root (root_passes plant slots words line)
    go solve check replay show make root replan recheck (Replan plant plan at slots nodes) line = clash _ replan
        (replan_passes plant plan at slots nodes words line)
    go solve check replay show make root replan recheck (Recheck plant plan dossier at) line = clash _ recheck
        (recheck_passes plant plan dossier at words line)

-- ---- the values of each line are its command's

number_told : (n : ℕ) → n ≤ MOST_NUMBER → unwrap_or (decimal_of MOST_NUMBER (decimal n)) 0 ≡ n
number_told n within = ap (λ read. unwrap_or read 0) (decimal_of-decimal MOST_NUMBER n within (omega arith))

abbrev number_at : List ℕ → ℕ
number_at text = unwrap_or (decimal_of MOST_NUMBER text) 0

-- the program takes the words, and finds the command in them
record Says (command : Command) (words : List Text) : Type 0 where
  found : option_map (λ found. command_in (form_of command) found.1) (subcommand_of line_app words) ≡ Some command
  taken : takes line_app words ≡ true

-- from where the words behind the verb lead
said : (command : Command) (verb : Text) (leaf : Shape) (rest : List Text) (end : Walk) →
    subcommand_of line_app (verb ∷ rest) ≡ Some (verb, rows_after leaf.rules [] rest) →
    (level_passes leaf [] nothing_held rest false ≡ true → takes line_app (verb ∷ rest) ≡ true) →
    GoesOn leaf (walk_from nothing_held) rest end → ends_well leaf end.held ≡ true →
    command_in (form_of command) (finished leaf.rules end.held) ≡ command → Says command (verb ∷ rest)
said command verb leaf rest end found taken goes well is = record {
  found = ap (option_map (λ f. command_in (form_of command) f.1)) found
      ∙ ap (λ w. Some (command_in (form_of command) (finished leaf.rules w.held))) goes.leads
      ∙ ap Some is;
  taken = taken (level_is_passed leaf rest end goes well);
}

solve_in_rows : (plant : Text) (ask : Ask) (rows : List Row) → ask.slots ≤ MOST_NUMBER → ask.nodes ≤ MOST_NUMBER → ask.workers ≤ MOST_NUMBER →
    told.SolveValues plant (decimal ask.slots) (decimal ask.nodes) (decimal ask.workers) rows → command_in form.Solve rows ≡ Solve plant ask
solve_in_rows plant ask rows slots_high nodes_high workers_high values =
    let read : command_in form.Solve rows
    ≡ Solve plant (record { slots = number_at (decimal ask.slots); nodes = number_at (decimal ask.nodes); workers = number_at (decimal ask.workers) }) =
    (λ i. Solve (values.plant_is i)
    (record { slots = number_at (values.slots_is i); nodes = number_at (values.nodes_is i); workers = number_at (values.workers_is i) })) in
    let numbers : ◌≡◌ {A = Command}
    (Solve plant (record { slots = number_at (decimal ask.slots); nodes = number_at (decimal ask.nodes); workers = number_at (decimal ask.workers) }))
    (Solve plant ask) =
    (λ i. Solve plant (record {
      slots = number_told ask.slots slots_high i;
      nodes = number_told ask.nodes nodes_high i;
      workers = number_told ask.workers workers_high i;
    })) in
    read ∙ numbers

-- three options in this order
solve_order : (plant : Text) (ask : Ask) → IsValueWord plant → ask.slots ≤ MOST_NUMBER → ask.nodes ≤ MOST_NUMBER → ask.workers ≤ MOST_NUMBER →
    (u0 u1 u2 : Use solve_leaf.rules) →
    settle_passes solve_leaf.rules solve_leaf.args_override_self
    (between (settled_rows solve_leaf.rules (told.solve_last plant) (told.solve_rows plant)) (last u0) 2).held ≡ true →
    settle_passes solve_leaf.rules solve_leaf.args_override_self
    (between (settled_rows solve_leaf.rules (last u0) (settled_rows solve_leaf.rules (told.solve_last plant) (told.solve_rows plant))) (last u1) 2).held ≡
    true →
    ends_well solve_leaf (between (rows_of_three solve_leaf.rules (told.solve_rows plant) (told.solve_last plant) u0 u1) (last u2) 2).held ≡ true →
    told.SolveValues plant (decimal ask.slots) (decimal ask.nodes) (decimal ask.workers)
    (finished solve_leaf.rules (between (rows_of_three solve_leaf.rules (told.solve_rows plant) (told.solve_last plant) u0 u1) (last u2) 2).held) →
    Says (Solve plant ask) (codes "solve" ∷ plant ∷ u0.word ∷ u0.value ∷ u1.word ∷ u1.value ∷ u2.word ∷ u2.value ∷ [])
solve_order plant ask plant_is slots_high nodes_high workers_high u0 u1 u2 fine1 fine2 well values =
    said (Solve plant ask) (codes "solve") solve_leaf (plant ∷ u0.word ∷ u0.value ∷ u1.word ∷ u1.value ∷ u2.word ∷ u2.value ∷ [])
    (between (rows_of_three solve_leaf.rules (told.solve_rows plant) (told.solve_last plant) u0 u1) (last u2) 2)
    (solve_found (plant ∷ u0.word ∷ u0.value ∷ u1.word ∷ u1.value ∷ u2.word ∷ u2.value ∷ []))
    (solve_taken (plant ∷ u0.word ∷ u0.value ∷ u1.word ∷ u1.value ∷ u2.word ∷ u2.value ∷ []))
    (told.solve_goes plant plant_is u0 u1 u2 fine1 fine2) well
    (solve_in_rows plant ask (finished solve_leaf.rules
    (between (rows_of_three solve_leaf.rules (told.solve_rows plant) (told.solve_last plant) u0 u1) (last u2) 2).held) slots_high nodes_high workers_high
    values)

solve_says : (plant : Text) (ask : Ask) (words : List Text) → IsPlainLine words (Solve plant ask) → Says (Solve plant ask) words
unfolding solve_leaf line_app solve_verb
solve_says plant ask words line =
    let plant_is = file_is_value plant line.in_range.0 in
    let slots_high : ask.slots ≤ MOST_NUMBER = omega (arith, line.in_range.1.1) in
    let slots_use = told.solve_use_slots (decimal ask.slots) (decimal_is_value ask.slots (omega (arith, slots_high))) in
    let nodes_high : ask.nodes ≤ MOST_NUMBER = omega (arith, line.in_range.1.2) in
    let nodes_use = told.solve_use_nodes (decimal ask.nodes) (decimal_is_value ask.nodes (omega (arith, nodes_high))) in
    let workers_high : ask.workers ≤ MOST_NUMBER = omega (arith, line.in_range.3) in
    let workers_use = told.solve_use_workers (decimal ask.workers) (decimal_is_value ask.workers (omega (arith, workers_high))) in
    solve_words plant ask words line (λ ws. Says (Solve plant ask) ws)
    (solve_order plant ask plant_is slots_high nodes_high workers_high slots_use nodes_use workers_use refl refl refl
    (record { plant_is = refl; slots_is = refl; nodes_is = refl; workers_is = refl }))
    (solve_order plant ask plant_is slots_high nodes_high workers_high slots_use workers_use nodes_use refl refl refl
    (record { plant_is = refl; slots_is = refl; nodes_is = refl; workers_is = refl }))
    (solve_order plant ask plant_is slots_high nodes_high workers_high nodes_use slots_use workers_use refl refl refl
    (record { plant_is = refl; slots_is = refl; nodes_is = refl; workers_is = refl }))
    (solve_order plant ask plant_is slots_high nodes_high workers_high nodes_use workers_use slots_use refl refl refl
    (record { plant_is = refl; slots_is = refl; nodes_is = refl; workers_is = refl }))
    (solve_order plant ask plant_is slots_high nodes_high workers_high workers_use slots_use nodes_use refl refl refl
    (record { plant_is = refl; slots_is = refl; nodes_is = refl; workers_is = refl }))
    (solve_order plant ask plant_is slots_high nodes_high workers_high workers_use nodes_use slots_use refl refl refl
    (record { plant_is = refl; slots_is = refl; nodes_is = refl; workers_is = refl }))

check_in_rows : (plant : Text) (dossier : Text) (rows : List Row) → told.CheckValues plant dossier rows → command_in form.Check rows ≡ Check plant dossier
check_in_rows plant dossier rows values =
    (λ i. Check (values.plant_is i) (values.dossier_is i))

check_says : (plant : Text) (dossier : Text) (words : List Text) → IsPlainLine words (Check plant dossier) → Says (Check plant dossier) words
unfolding check_leaf line_app check_verb
check_says plant dossier words line =
    let plant_is = file_is_value plant line.in_range.0 in
    let dossier_is = file_is_value dossier line.in_range.1 in
    check_words plant dossier words line (λ ws. Says (Check plant dossier) ws)
    (said (Check plant dossier) (codes "check") check_leaf (plant ∷ dossier ∷ []) (between (told.check_rows plant dossier) (told.check_last plant dossier) 3)
    (check_found (plant ∷ dossier ∷ [])) (check_taken (plant ∷ dossier ∷ []))
    (told.check_goes plant dossier plant_is dossier_is) refl
    (check_in_rows plant dossier (finished check_leaf.rules (between (told.check_rows plant dossier) (told.check_last plant dossier) 3).held)
    (record { plant_is = refl; dossier_is = refl })))

replay_in_rows : (plant : Text) (plan : Text) (rows : List Row) → told.ReplayValues plant plan rows → command_in form.Replay rows ≡ Replay plant plan
replay_in_rows plant plan rows values =
    (λ i. Replay (values.plant_is i) (values.plan_is i))

replay_says : (plant : Text) (plan : Text) (words : List Text) → IsPlainLine words (Replay plant plan) → Says (Replay plant plan) words
unfolding replay_leaf line_app replay_verb
replay_says plant plan words line =
    let plant_is = file_is_value plant line.in_range.0 in
    let plan_is = file_is_value plan line.in_range.1 in
    replay_words plant plan words line (λ ws. Says (Replay plant plan) ws)
    (said (Replay plant plan) (codes "replay") replay_leaf (plant ∷ plan ∷ []) (between (told.replay_rows plant plan) (told.replay_last plant plan) 3)
    (replay_found (plant ∷ plan ∷ [])) (replay_taken (plant ∷ plan ∷ []))
    (told.replay_goes plant plan plant_is plan_is) refl
    (replay_in_rows plant plan (finished replay_leaf.rules (between (told.replay_rows plant plan) (told.replay_last plant plan) 3).held)
    (record { plant_is = refl; plan_is = refl })))

show_in_rows : (plant : Text) (rows : List Row) → told.ShowValues plant rows → command_in form.Show rows ≡ Show plant
show_in_rows plant rows values =
    (λ i. Show (values.plant_is i))

show_says : (plant : Text) (words : List Text) → IsPlainLine words (Show plant) → Says (Show plant) words
unfolding show_leaf line_app show_verb
show_says plant words line =
    let plant_is = file_is_value plant line.in_range in
    show_words plant words line (λ ws. Says (Show plant) ws)
    (said (Show plant) (codes "show") show_leaf (plant ∷ []) (between (told.show_rows plant) (told.show_last plant) 2)
    (show_found (plant ∷ [])) (show_taken (plant ∷ []))
    (told.show_goes plant plant_is) refl
    (show_in_rows plant (finished show_leaf.rules (between (told.show_rows plant) (told.show_last plant) 2).held) (record { plant_is = refl })))

root_in_rows : (plant : Text) (slots : ℕ) (rows : List Row) → slots ≤ MOST_NUMBER → told.RootValues plant (decimal slots) rows →
    command_in form.Root rows ≡ Root plant slots
root_in_rows plant slots rows slots_high values =
    let read : command_in form.Root rows ≡ Root plant (number_at (decimal slots)) =
    (λ i. Root (values.plant_is i) (number_at (values.slots_is i))) in
    let numbers : Root plant (number_at (decimal slots)) ≡ Root plant slots =
    (λ i. Root plant (number_told slots slots_high i)) in
    read ∙ numbers

root_says : (plant : Text) (slots : ℕ) (words : List Text) → IsPlainLine words (Root plant slots) → Says (Root plant slots) words
unfolding root_leaf line_app root_verb
root_says plant slots words line =
    let plant_is = file_is_value plant line.in_range.0 in
    let slots_high : slots ≤ MOST_NUMBER = omega (arith, line.in_range.2) in
    let slots_use = told.root_use_slots (decimal slots) (decimal_is_value slots (omega (arith, slots_high))) in
    root_words plant slots words line (λ ws. Says (Root plant slots) ws)
    (said (Root plant slots) (codes "root") root_leaf (plant ∷ slots_use.word ∷ slots_use.value ∷ [])
    (between (settled_rows root_leaf.rules (told.root_last plant) (told.root_rows plant)) (last slots_use) 2)
    (root_found (plant ∷ slots_use.word ∷ slots_use.value ∷ [])) (root_taken (plant ∷ slots_use.word ∷ slots_use.value ∷ []))
    (told.root_goes plant plant_is slots_use) refl
    (root_in_rows plant slots (finished root_leaf.rules
    (between (settled_rows root_leaf.rules (told.root_last plant) (told.root_rows plant)) (last slots_use) 2).held) slots_high
    (record { plant_is = refl; slots_is = refl })))

replan_in_rows : (plant : Text) (plan : Text) (at : ℕ) (slots : ℕ) (nodes : ℕ) (rows : List Row) → at ≤ MOST_NUMBER → slots ≤ MOST_NUMBER →
    nodes ≤ MOST_NUMBER → told.ReplanValues plant plan (decimal at) (decimal slots) (decimal nodes) rows →
    command_in form.Replan rows ≡ Replan plant plan at slots nodes
replan_in_rows plant plan at slots nodes rows at_high slots_high nodes_high values =
    let read : command_in form.Replan rows ≡ Replan plant plan (number_at (decimal at)) (number_at (decimal slots)) (number_at (decimal nodes)) =
    (λ i. Replan (values.plant_is i) (values.plan_is i) (number_at (values.at_is i)) (number_at (values.slots_is i)) (number_at (values.nodes_is i))) in
    let numbers : Replan plant plan (number_at (decimal at)) (number_at (decimal slots)) (number_at (decimal nodes)) ≡ Replan plant plan at slots nodes =
    (λ i. Replan plant plan (number_told at at_high i) (number_told slots slots_high i) (number_told nodes nodes_high i)) in
    read ∙ numbers

-- three options in this order
replan_order : (plant : Text) (plan : Text) (at : ℕ) (slots : ℕ) (nodes : ℕ) → IsValueWord plant → IsValueWord plan → at ≤ MOST_NUMBER →
    slots ≤ MOST_NUMBER → nodes ≤ MOST_NUMBER → (u0 u1 u2 : Use replan_leaf.rules) →
    settle_passes replan_leaf.rules replan_leaf.args_override_self
    (between (settled_rows replan_leaf.rules (told.replan_last plant plan) (told.replan_rows plant plan)) (last u0) 3).held ≡ true →
    settle_passes replan_leaf.rules replan_leaf.args_override_self
    (between (settled_rows replan_leaf.rules (last u0) (settled_rows replan_leaf.rules (told.replan_last plant plan) (told.replan_rows plant plan)))
    (last u1) 3).held ≡ true →
    ends_well replan_leaf (between (rows_of_three replan_leaf.rules (told.replan_rows plant plan) (told.replan_last plant plan) u0 u1) (last u2) 3).held ≡
    true →
    told.ReplanValues plant plan (decimal at) (decimal slots) (decimal nodes)
    (finished replan_leaf.rules (between (rows_of_three replan_leaf.rules (told.replan_rows plant plan) (told.replan_last plant plan) u0 u1)
    (last u2) 3).held) →
    Says (Replan plant plan at slots nodes) (codes "replan" ∷ plant ∷ plan ∷ u0.word ∷ u0.value ∷ u1.word ∷ u1.value ∷ u2.word ∷ u2.value ∷ [])
replan_order plant plan at slots nodes plant_is plan_is at_high slots_high nodes_high u0 u1 u2 fine1 fine2 well values =
    said (Replan plant plan at slots nodes) (codes "replan") replan_leaf (plant ∷ plan ∷ u0.word ∷ u0.value ∷ u1.word ∷ u1.value ∷ u2.word ∷ u2.value ∷ [])
    (between (rows_of_three replan_leaf.rules (told.replan_rows plant plan) (told.replan_last plant plan) u0 u1) (last u2) 3)
    (replan_found (plant ∷ plan ∷ u0.word ∷ u0.value ∷ u1.word ∷ u1.value ∷ u2.word ∷ u2.value ∷ []))
    (replan_taken (plant ∷ plan ∷ u0.word ∷ u0.value ∷ u1.word ∷ u1.value ∷ u2.word ∷ u2.value ∷ []))
    (told.replan_goes plant plan plant_is plan_is u0 u1 u2 fine1 fine2) well
    (replan_in_rows plant plan at slots nodes
    (finished replan_leaf.rules (between (rows_of_three replan_leaf.rules (told.replan_rows plant plan) (told.replan_last plant plan) u0 u1)
    (last u2) 3).held) at_high slots_high nodes_high values)

replan_says : (plant : Text) (plan : Text) (at : ℕ) (slots : ℕ) (nodes : ℕ) (words : List Text) → IsPlainLine words (Replan plant plan at slots nodes) →
    Says (Replan plant plan at slots nodes) words
unfolding replan_leaf line_app replan_verb
replan_says plant plan at slots nodes words line =
    let plant_is = file_is_value plant line.in_range.0 in
    let plan_is = file_is_value plan line.in_range.1 in
    let at_high : at ≤ MOST_NUMBER = omega (arith, line.in_range.2) in
    let at_use = told.replan_use_at (decimal at) (decimal_is_value at (omega (arith, at_high))) in
    let slots_high : slots ≤ MOST_NUMBER = omega (arith, line.in_range.3.1) in
    let slots_use = told.replan_use_slots (decimal slots) (decimal_is_value slots (omega (arith, slots_high))) in
    let nodes_high : nodes ≤ MOST_NUMBER = omega (arith, line.in_range.3.2) in
    let nodes_use = told.replan_use_nodes (decimal nodes) (decimal_is_value nodes (omega (arith, nodes_high))) in
    replan_words plant plan at slots nodes words line (λ ws. Says (Replan plant plan at slots nodes) ws)
    (replan_order plant plan at slots nodes plant_is plan_is at_high slots_high nodes_high at_use slots_use nodes_use refl refl refl
    (record { plant_is = refl; plan_is = refl; at_is = refl; slots_is = refl; nodes_is = refl }))
    (replan_order plant plan at slots nodes plant_is plan_is at_high slots_high nodes_high at_use nodes_use slots_use refl refl refl
    (record { plant_is = refl; plan_is = refl; at_is = refl; slots_is = refl; nodes_is = refl }))
    (replan_order plant plan at slots nodes plant_is plan_is at_high slots_high nodes_high slots_use at_use nodes_use refl refl refl
    (record { plant_is = refl; plan_is = refl; at_is = refl; slots_is = refl; nodes_is = refl }))
    (replan_order plant plan at slots nodes plant_is plan_is at_high slots_high nodes_high slots_use nodes_use at_use refl refl refl
    (record { plant_is = refl; plan_is = refl; at_is = refl; slots_is = refl; nodes_is = refl }))
    (replan_order plant plan at slots nodes plant_is plan_is at_high slots_high nodes_high nodes_use at_use slots_use refl refl refl
    (record { plant_is = refl; plan_is = refl; at_is = refl; slots_is = refl; nodes_is = refl }))
    (replan_order plant plan at slots nodes plant_is plan_is at_high slots_high nodes_high nodes_use slots_use at_use refl refl refl
    (record { plant_is = refl; plan_is = refl; at_is = refl; slots_is = refl; nodes_is = refl }))

recheck_in_rows : (plant : Text) (plan : Text) (dossier : Text) (at : ℕ) (rows : List Row) → at ≤ MOST_NUMBER → told.RecheckValues plant plan dossier
    (decimal at) rows → command_in form.Recheck rows ≡ Recheck plant plan dossier at
recheck_in_rows plant plan dossier at rows at_high values =
    let read : command_in form.Recheck rows ≡ Recheck plant plan dossier (number_at (decimal at)) =
    (λ i. Recheck (values.plant_is i) (values.plan_is i) (values.dossier_is i) (number_at (values.at_is i))) in
    let numbers : Recheck plant plan dossier (number_at (decimal at)) ≡ Recheck plant plan dossier at =
    (λ i. Recheck plant plan dossier (number_told at at_high i)) in
    read ∙ numbers

recheck_says : (plant : Text) (plan : Text) (dossier : Text) (at : ℕ) (words : List Text) → IsPlainLine words (Recheck plant plan dossier at) → Says
    (Recheck plant plan dossier at) words
unfolding recheck_leaf line_app recheck_verb
recheck_says plant plan dossier at words line =
    let plant_is = file_is_value plant line.in_range.0 in
    let plan_is = file_is_value plan line.in_range.1 in
    let dossier_is = file_is_value dossier line.in_range.2 in
    let at_high : at ≤ MOST_NUMBER = omega (arith, line.in_range.3) in
    let at_use = told.recheck_use_at (decimal at) (decimal_is_value at (omega (arith, at_high))) in
    recheck_words plant plan dossier at words line (λ ws. Says (Recheck plant plan dossier at) ws)
    (said (Recheck plant plan dossier at) (codes "recheck") recheck_leaf (plant ∷ plan ∷ dossier ∷ at_use.word ∷ at_use.value ∷ [])
    (between (settled_rows recheck_leaf.rules (told.recheck_last plant plan dossier) (told.recheck_rows plant plan dossier)) (last at_use) 4)
    (recheck_found (plant ∷ plan ∷ dossier ∷ at_use.word ∷ at_use.value ∷ [])) (recheck_taken (plant ∷ plan ∷ dossier ∷ at_use.word ∷ at_use.value ∷ []))
    (told.recheck_goes plant plan dossier plant_is plan_is dossier_is at_use) refl
    (recheck_in_rows plant plan dossier at (finished recheck_leaf.rules
    (between (settled_rows recheck_leaf.rules (told.recheck_last plant plan dossier) (told.recheck_rows plant plan dossier)) (last at_use) 4).held) at_high
    (record { plant_is = refl; plan_is = refl; dossier_is = refl; at_is = refl })))

make_in_rows : (number : ℕ) (solve : Bool) (rows : List Row) → number ≤ MOST_NUMBER → text_in (codes "number") rows ≡ decimal number →
    flag_in (codes "solve") rows ≡ solve → command_in form.Make rows ≡ Make number solve
make_in_rows number solve rows high text flag =
    let read : command_in form.Make rows ≡ Make (number_at (decimal number)) solve = (λ i. Make (number_at (text i)) (flag i)) in
    let numbers : Make (number_at (decimal number)) solve ≡ Make number solve = (λ i. Make (number_told number high i) solve) in
    read ∙ numbers

make_says : (number : ℕ) (words : List Text) → IsPlainLine words (Make number false) → Says (Make number false) words
unfolding make_leaf line_app make_verb
make_says number words line =
    let high : number ≤ MOST_NUMBER = line.in_range in
    let end = between [] (told.number_last (decimal number)) 2 in
    make_words number words line (λ ws. Says (Make number false) ws)
    (said (Make number false) (codes "make") make_leaf (decimal number ∷ []) end (make_found (decimal number ∷ [])) (make_taken (decimal number ∷ []))
    (told.make_goes (decimal number) (decimal_is_value number (omega arith))) refl
    (make_in_rows number false (finished make_leaf.rules end.held) high refl refl))

make_and_solve_says : (number : ℕ) (words : List Text) → IsPlainLine words (Make number true) → Says (Make number true) words
unfolding make_leaf line_app make_verb
make_and_solve_says number words line =
    let high : number ≤ MOST_NUMBER = line.in_range in
    let rest : List Text = decimal number ∷ codes "--solve" ∷ [] in
    let end = between (told.flag_rows (decimal number)) None 2 in
    make_and_solve_words number words line (λ ws. Says (Make number true) ws)
    (said (Make number true) (codes "make") make_leaf rest end (make_found rest) (make_taken rest)
    (told.make_and_solve_goes (decimal number) (decimal_is_value number (omega arith))) refl
    (make_in_rows number true (finished make_leaf.rules end.held) high refl refl))

line_said : (command : Command) (words : List Text) → IsPlainLine words command → Says command words
line_said (Solve plant ask) words line = solve_says plant ask words line
line_said (Check plant dossier) words line = check_says plant dossier words line
line_said (Replay plant plan) words line = replay_says plant plan words line
line_said (Show plant) words line = show_says plant words line
line_said (Make number false) words line = make_says number words line
line_said (Make number true) words line = make_and_solve_says number words line
line_said (Root plant slots) words line = root_says plant slots words line
line_said (Replan plant plan at slots nodes) words line = replan_says plant plan at slots nodes words line
line_said (Recheck plant plan dossier at) words line = recheck_says plant plan dossier at words line

-- what is found in the words of a plain line is its command
pub line_says : (command : Command) (words : List Text) → IsPlainLine words command →
    option_map (λ found. command_in (form_of command) found.1) (subcommand_of line_app words) ≡ Some command
line_says command words line = (line_said command words line).found

-- and the program takes them
pub line_is_taken : (command : Command) (words : List Text) → IsPlainLine words command → takes line_app words ≡ true
line_is_taken command words line = (line_said command words line).taken

-- ---- a line has one command

-- the form that a verb stands for
form_by : Text → Form
form_by verb = cond (bytes_eq verb (codes "solve")) form.Solve
    (cond (bytes_eq verb (codes "check")) form.Check
    (cond (bytes_eq verb (codes "replay")) form.Replay
    (cond (bytes_eq verb (codes "show")) form.Show
    (cond (bytes_eq verb (codes "make")) form.Make
    (cond (bytes_eq verb (codes "root")) form.Root (cond (bytes_eq verb (codes "replan")) form.Replan form.Recheck))))))

form_told : (command : Command) (words : List Text) → IsPlainLine words command → form_by (word_at 0 words) ≡ form_of command
unfolding form_by
form_told (Solve plant ask) words line = ap (λ ws. form_by (word_at 0 ws)) line.words_are
form_told (Check plant dossier) words line = ap (λ ws. form_by (word_at 0 ws)) line.words_are
form_told (Replay plant plan) words line = ap (λ ws. form_by (word_at 0 ws)) line.words_are
form_told (Show plant) words line = ap (λ ws. form_by (word_at 0 ws)) line.words_are
form_told (Make number false) words line = ap (λ ws. form_by (word_at 0 ws)) line.words_are
form_told (Make number true) words line = ap (λ ws. form_by (word_at 0 ws)) line.words_are
form_told (Root plant slots) words line = ap (λ ws. form_by (word_at 0 ws)) line.words_are
form_told (Replan plant plan at slots nodes) words line = ap (λ ws. form_by (word_at 0 ws)) line.words_are
form_told (Recheck plant plan dossier at) words line = ap (λ ws. form_by (word_at 0 ws)) line.words_are

pub one_command : HasOneCommand
one_command words one other of_one of_other =
    let same : form_of one ≡ form_of other = sym (form_told one words of_one) ∙ form_told other words of_other in
    same_Some one other (sym (line_says one words of_one)
    ∙ ap (λ (f : Form). option_map (λ found. command_in f found.1) (subcommand_of line_app words)) same ∙ line_says other words of_other)

-- ---- reading

-- what is found in the words of a form is the command of a plain line
pub read_is_plain : (form : Form) (words : List Text) (read : Command) (rows : List Row) (found : Option (Text × List Row)) → HasForm form words →
    found ≡ subcommand_of line_app words → Some rows ≡ option_map (λ f. f.1) found → read ≡ command_in form rows → IsPlainLine words read
read_is_plain form words read rows None has is none told_ = absurd cc
read_is_plain form words read rows (Some f) has is some told_ =
    let says : Some (command_in form f.1) ≡ Some has.command =
    ap (option_map (λ g. command_in form g.1)) is ∙ ap (λ (k : Form). option_map (λ g. command_in k g.1) (subcommand_of line_app words)) (sym has.form_is)
    ∙ line_says has.command words has.line in
    let same : read ≡ has.command = told_ ∙ ap (command_in form) (same_Some rows f.1 some) ∙ same_Some (command_in form f.1) has.command says in
    subst (λ (c : Command). IsPlainLine words c) (sym same) has.line

has_value : {A B : Type 0} (f : A → B) (found : Option A) (x : B) → option_map f found ≡ Some x → IsSome found
has_value f None x is = absurd cc
has_value f (Some a) x is = search rules

pub is_found : (form : Form) (words : List Text) (found : Option (Text × List Row)) → HasForm form words → found ≡ subcommand_of line_app words → IsSome found
is_found form words found has is = has_value _ found has.command
    (ap (option_map (λ g. command_in (form_of has.command) g.1)) is ∙ line_says has.command words has.line)

-- a form is no reason to refuse the words
pub not_refused : (form : Form) (words : List Text) → HasForm form words → AreRefused words → ⊥
not_refused form words has refused = refused has.command has.line

pub no_word_fault : (read : Result Command WordFault) → IfErr read (λ fault. fault ≡ Memory) → read ≡ Err Words → ⊥
no_word_fault (Ok command) memory is = absurd cc
no_word_fault (Err fault) memory is = absurd cc
