-- What the words behind each verb lead to, and the values that are found there.
use Rattle.std.proofs.Common.{◌≡◌, true, List, [], ◌∷◌, Option, Some, None, refl}
use Rattle.std.specs.Prelude.{codes}
use Rattle.clap.specs.Takes.{settle_passes}
use Rattle.clap.specs.Walk.{Row, Text, nothing_held, settled_rows, used, walk_from}
use Rattle.clap.specs.Simple.{filled}
use Rattle.clap.proofs.OnLiterals.{clap_on_literals}
use Rattle.command_line.specs.inside.Taking.{text_in, flag_rule, option_rule, line_app, solve_verb, check_verb, replay_verb, show_verb, make_verb}
use Rattle.command_line.specs.inside.Taking.{root_verb, replan_verb, recheck_verb}
use Rattle.command_line.proofs.VerbLaws.{solve_leaf, check_leaf, replay_leaf, show_leaf, make_leaf, root_leaf, replan_leaf, recheck_leaf}
use Rattle.command_line.proofs.WalkLaws.{GoesOn, IsOption, IsValueWord, Use, between, goes_by_option, goes_by_three, goes_no_further, goes_to_place, last}
use Rattle.command_line.proofs.WalkLaws.{rows_of_three}

-- the values behind a verb, by their names

pub record SolveValues (plant slots nodes workers : Text) (rows : List Row) : Type 0 where
  pub plant_is : text_in (codes "plant") rows ≡ plant
  pub slots_is : text_in (codes "slots") rows ≡ slots
  pub nodes_is : text_in (codes "nodes") rows ≡ nodes
  pub workers_is : text_in (codes "workers") rows ≡ workers

pub record CheckValues (plant dossier : Text) (rows : List Row) : Type 0 where
  pub plant_is : text_in (codes "plant") rows ≡ plant
  pub dossier_is : text_in (codes "dossier") rows ≡ dossier

pub record ReplayValues (plant plan : Text) (rows : List Row) : Type 0 where
  pub plant_is : text_in (codes "plant") rows ≡ plant
  pub plan_is : text_in (codes "plan") rows ≡ plan

pub record ShowValues (plant : Text) (rows : List Row) : Type 0 where
  pub plant_is : text_in (codes "plant") rows ≡ plant

pub record RootValues (plant slots : Text) (rows : List Row) : Type 0 where
  pub plant_is : text_in (codes "plant") rows ≡ plant
  pub slots_is : text_in (codes "slots") rows ≡ slots

pub record ReplanValues (plant plan at slots nodes : Text) (rows : List Row) : Type 0 where
  pub plant_is : text_in (codes "plant") rows ≡ plant
  pub plan_is : text_in (codes "plan") rows ≡ plan
  pub at_is : text_in (codes "at") rows ≡ at
  pub slots_is : text_in (codes "slots") rows ≡ slots
  pub nodes_is : text_in (codes "nodes") rows ≡ nodes

pub record RecheckValues (plant plan dossier at : Text) (rows : List Row) : Type 0 where
  pub plant_is : text_in (codes "plant") rows ≡ plant
  pub plan_is : text_in (codes "plan") rows ≡ plan
  pub dossier_is : text_in (codes "dossier") rows ≡ dossier
  pub at_is : text_in (codes "at") rows ≡ at

-- ---- solve

pub solve_slots : IsOption solve_leaf.rules (codes "--slots") (codes "slots")
unfolding clap_on_literals solve_leaf line_app solve_verb
solve_slots = record {
  rule = filled (option_rule (codes "slots"));
  no_dashes = refl;
  long_is = refl;
  by_long = refl;
  by_name = refl;
  id_is = refl;
  takes = refl;
  takes_one = λ value. refl;
}

abbrev pub solve_use_slots : (value : Text) → IsValueWord value → Use solve_leaf.rules
solve_use_slots value is = record { word = codes "--slots"; name = codes "slots"; value = value; is_option = solve_slots; is_value = is }

pub solve_nodes : IsOption solve_leaf.rules (codes "--nodes") (codes "nodes")
unfolding clap_on_literals solve_leaf line_app solve_verb
solve_nodes = record {
  rule = filled (option_rule (codes "nodes"));
  no_dashes = refl;
  long_is = refl;
  by_long = refl;
  by_name = refl;
  id_is = refl;
  takes = refl;
  takes_one = λ value. refl;
}

abbrev pub solve_use_nodes : (value : Text) → IsValueWord value → Use solve_leaf.rules
solve_use_nodes value is = record { word = codes "--nodes"; name = codes "nodes"; value = value; is_option = solve_nodes; is_value = is }

pub solve_workers : IsOption solve_leaf.rules (codes "--workers") (codes "workers")
unfolding clap_on_literals solve_leaf line_app solve_verb
solve_workers = record {
  rule = filled (option_rule (codes "workers"));
  no_dashes = refl;
  long_is = refl;
  by_long = refl;
  by_name = refl;
  id_is = refl;
  takes = refl;
  takes_one = λ value. refl;
}

abbrev pub solve_use_workers : (value : Text) → IsValueWord value → Use solve_leaf.rules
solve_use_workers value is = record { word = codes "--workers"; name = codes "workers"; value = value; is_option = solve_workers; is_value = is }

abbrev pub solve_rows : (plant : Text) → List Row
solve_rows plant = []

abbrev pub solve_last : (plant : Text) → Option (Text × List Text)
solve_last plant = (Some (codes "plant", plant ∷ []))

pub solve_goes : (plant : Text) → IsValueWord plant → (u0 u1 u2 : Use solve_leaf.rules) →
    settle_passes solve_leaf.rules solve_leaf.args_override_self
    (between (settled_rows solve_leaf.rules (solve_last plant) (solve_rows plant)) (last u0) 2).held ≡ true →
    settle_passes solve_leaf.rules solve_leaf.args_override_self
    (between (settled_rows solve_leaf.rules (last u0) (settled_rows solve_leaf.rules (solve_last plant) (solve_rows plant))) (last u1) 2).held ≡ true →
    GoesOn solve_leaf (walk_from nothing_held) (plant ∷ u0.word ∷ u0.value ∷ u1.word ∷ u1.value ∷ u2.word ∷ u2.value ∷ [])
    (between (rows_of_three solve_leaf.rules (solve_rows plant) (solve_last plant) u0 u1) (last u2) 2)
unfolding solve_leaf line_app solve_verb
solve_goes plant plant_is u0 u1 u2 fine1 fine2 =
    (goes_to_place solve_leaf [] None 1 plant (between [] (Some (codes "plant", plant ∷ [])) 2)
    (u0.word ∷ u0.value ∷ u1.word ∷ u1.value ∷ u2.word ∷ u2.value ∷ [])
    (between (rows_of_three solve_leaf.rules (solve_rows plant) (solve_last plant) u0 u1) (last u2) 2) plant_is refl refl
    (goes_by_three solve_leaf (solve_rows plant) (solve_last plant) 2 u0 u1 u2 refl fine1 fine2))

-- ---- check

abbrev pub check_rows : (plant dossier : Text) → List Row
check_rows plant dossier = (settled_rows check_leaf.rules (Some (codes "plant", plant ∷ [])) [])

abbrev pub check_last : (plant dossier : Text) → Option (Text × List Text)
check_last plant dossier = (Some (codes "dossier", dossier ∷ []))

pub check_goes : (plant dossier : Text) → IsValueWord plant → IsValueWord dossier → GoesOn check_leaf (walk_from nothing_held) (plant ∷ dossier ∷ [])
    (between (check_rows plant dossier) (check_last plant dossier) 3)
unfolding check_leaf line_app check_verb
check_goes plant dossier plant_is dossier_is =
    (goes_to_place check_leaf [] None 1 plant (between [] (Some (codes "plant", plant ∷ [])) 2) (dossier ∷ [])
    (between (check_rows plant dossier) (check_last plant dossier) 3) plant_is refl refl
    (goes_to_place check_leaf [] (Some (codes "plant", plant ∷ [])) 2 dossier
    (between (settled_rows check_leaf.rules (Some (codes "plant", plant ∷ [])) []) (Some (codes "dossier", dossier ∷ [])) 3) ([])
    (between (check_rows plant dossier) (check_last plant dossier) 3) dossier_is refl refl
    (goes_no_further check_leaf (between (check_rows plant dossier) (check_last plant dossier) 3))))

-- ---- replay

abbrev pub replay_rows : (plant plan : Text) → List Row
replay_rows plant plan = (settled_rows replay_leaf.rules (Some (codes "plant", plant ∷ [])) [])

abbrev pub replay_last : (plant plan : Text) → Option (Text × List Text)
replay_last plant plan = (Some (codes "plan", plan ∷ []))

pub replay_goes : (plant plan : Text) → IsValueWord plant → IsValueWord plan → GoesOn replay_leaf (walk_from nothing_held) (plant ∷ plan ∷ [])
    (between (replay_rows plant plan) (replay_last plant plan) 3)
unfolding replay_leaf line_app replay_verb
replay_goes plant plan plant_is plan_is =
    (goes_to_place replay_leaf [] None 1 plant (between [] (Some (codes "plant", plant ∷ [])) 2) (plan ∷ [])
    (between (replay_rows plant plan) (replay_last plant plan) 3) plant_is refl refl
    (goes_to_place replay_leaf [] (Some (codes "plant", plant ∷ [])) 2 plan
    (between (settled_rows replay_leaf.rules (Some (codes "plant", plant ∷ [])) []) (Some (codes "plan", plan ∷ [])) 3) ([])
    (between (replay_rows plant plan) (replay_last plant plan) 3) plan_is refl refl
    (goes_no_further replay_leaf (between (replay_rows plant plan) (replay_last plant plan) 3))))

-- ---- show

abbrev pub show_rows : (plant : Text) → List Row
show_rows plant = []

abbrev pub show_last : (plant : Text) → Option (Text × List Text)
show_last plant = (Some (codes "plant", plant ∷ []))

pub show_goes : (plant : Text) → IsValueWord plant → GoesOn show_leaf (walk_from nothing_held) (plant ∷ [])
    (between (show_rows plant) (show_last plant) 2)
unfolding show_leaf line_app show_verb
show_goes plant plant_is =
    (goes_to_place show_leaf [] None 1 plant (between [] (Some (codes "plant", plant ∷ [])) 2) ([])
    (between (show_rows plant) (show_last plant) 2) plant_is refl refl
    (goes_no_further show_leaf (between (show_rows plant) (show_last plant) 2)))

-- ---- root

pub root_slots : IsOption root_leaf.rules (codes "--slots") (codes "slots")
unfolding clap_on_literals root_leaf line_app root_verb
root_slots = record {
  rule = filled (option_rule (codes "slots"));
  no_dashes = refl;
  long_is = refl;
  by_long = refl;
  by_name = refl;
  id_is = refl;
  takes = refl;
  takes_one = λ value. refl;
}

abbrev pub root_use_slots : (value : Text) → IsValueWord value → Use root_leaf.rules
root_use_slots value is = record { word = codes "--slots"; name = codes "slots"; value = value; is_option = root_slots; is_value = is }

abbrev pub root_rows : (plant : Text) → List Row
root_rows plant = []

abbrev pub root_last : (plant : Text) → Option (Text × List Text)
root_last plant = (Some (codes "plant", plant ∷ []))

pub root_goes : (plant : Text) → IsValueWord plant → (u : Use root_leaf.rules) →
    GoesOn root_leaf (walk_from nothing_held) (plant ∷ u.word ∷ u.value ∷ [])
    (between (settled_rows root_leaf.rules (root_last plant) (root_rows plant)) (last u) 2)
unfolding root_leaf line_app root_verb
root_goes plant plant_is u =
    (goes_to_place root_leaf [] None 1 plant (between [] (Some (codes "plant", plant ∷ [])) 2) (u.word ∷ u.value ∷ [])
    (between (settled_rows root_leaf.rules (root_last plant) (root_rows plant)) (last u) 2) plant_is refl refl
    (goes_by_option root_leaf (root_rows plant) (root_last plant) 2 u []
    (between (settled_rows root_leaf.rules (root_last plant) (root_rows plant)) (last u) 2) refl
    (goes_no_further root_leaf (between (settled_rows root_leaf.rules (root_last plant) (root_rows plant)) (last u) 2))))

-- ---- replan

pub replan_at : IsOption replan_leaf.rules (codes "--at") (codes "at")
unfolding clap_on_literals replan_leaf line_app replan_verb
replan_at = record {
  rule = filled (option_rule (codes "at"));
  no_dashes = refl;
  long_is = refl;
  by_long = refl;
  by_name = refl;
  id_is = refl;
  takes = refl;
  takes_one = λ value. refl;
}

abbrev pub replan_use_at : (value : Text) → IsValueWord value → Use replan_leaf.rules
replan_use_at value is = record { word = codes "--at"; name = codes "at"; value = value; is_option = replan_at; is_value = is }

pub replan_slots : IsOption replan_leaf.rules (codes "--slots") (codes "slots")
unfolding clap_on_literals replan_leaf line_app replan_verb
replan_slots = record {
  rule = filled (option_rule (codes "slots"));
  no_dashes = refl;
  long_is = refl;
  by_long = refl;
  by_name = refl;
  id_is = refl;
  takes = refl;
  takes_one = λ value. refl;
}

abbrev pub replan_use_slots : (value : Text) → IsValueWord value → Use replan_leaf.rules
replan_use_slots value is = record { word = codes "--slots"; name = codes "slots"; value = value; is_option = replan_slots; is_value = is }

pub replan_nodes : IsOption replan_leaf.rules (codes "--nodes") (codes "nodes")
unfolding clap_on_literals replan_leaf line_app replan_verb
replan_nodes = record {
  rule = filled (option_rule (codes "nodes"));
  no_dashes = refl;
  long_is = refl;
  by_long = refl;
  by_name = refl;
  id_is = refl;
  takes = refl;
  takes_one = λ value. refl;
}

abbrev pub replan_use_nodes : (value : Text) → IsValueWord value → Use replan_leaf.rules
replan_use_nodes value is = record { word = codes "--nodes"; name = codes "nodes"; value = value; is_option = replan_nodes; is_value = is }

abbrev pub replan_rows : (plant plan : Text) → List Row
replan_rows plant plan = (settled_rows replan_leaf.rules (Some (codes "plant", plant ∷ [])) [])

abbrev pub replan_last : (plant plan : Text) → Option (Text × List Text)
replan_last plant plan = (Some (codes "plan", plan ∷ []))

pub replan_goes : (plant plan : Text) → IsValueWord plant → IsValueWord plan → (u0 u1 u2 : Use replan_leaf.rules) →
    settle_passes replan_leaf.rules replan_leaf.args_override_self
    (between (settled_rows replan_leaf.rules (replan_last plant plan) (replan_rows plant plan)) (last u0) 3).held ≡ true →
    settle_passes replan_leaf.rules replan_leaf.args_override_self
    (between (settled_rows replan_leaf.rules (last u0) (settled_rows replan_leaf.rules (replan_last plant plan) (replan_rows plant plan)))
    (last u1) 3).held ≡ true →
    GoesOn replan_leaf (walk_from nothing_held) (plant ∷ plan ∷ u0.word ∷ u0.value ∷ u1.word ∷ u1.value ∷ u2.word ∷ u2.value ∷ [])
    (between (rows_of_three replan_leaf.rules (replan_rows plant plan) (replan_last plant plan) u0 u1) (last u2) 3)
unfolding replan_leaf line_app replan_verb
replan_goes plant plan plant_is plan_is u0 u1 u2 fine1 fine2 =
    (goes_to_place replan_leaf [] None 1 plant (between [] (Some (codes "plant", plant ∷ [])) 2)
    (plan ∷ u0.word ∷ u0.value ∷ u1.word ∷ u1.value ∷ u2.word ∷ u2.value ∷ [])
    (between (rows_of_three replan_leaf.rules (replan_rows plant plan) (replan_last plant plan) u0 u1) (last u2) 3) plant_is refl refl
    (goes_to_place replan_leaf [] (Some (codes "plant", plant ∷ [])) 2 plan
    (between (settled_rows replan_leaf.rules (Some (codes "plant", plant ∷ [])) []) (Some (codes "plan", plan ∷ [])) 3)
    (u0.word ∷ u0.value ∷ u1.word ∷ u1.value ∷ u2.word ∷ u2.value ∷ [])
    (between (rows_of_three replan_leaf.rules (replan_rows plant plan) (replan_last plant plan) u0 u1) (last u2) 3) plan_is refl refl
    (goes_by_three replan_leaf (replan_rows plant plan) (replan_last plant plan) 3 u0 u1 u2 refl fine1 fine2)))

-- ---- recheck

pub recheck_at : IsOption recheck_leaf.rules (codes "--at") (codes "at")
unfolding clap_on_literals recheck_leaf line_app recheck_verb
recheck_at = record {
  rule = filled (option_rule (codes "at"));
  no_dashes = refl;
  long_is = refl;
  by_long = refl;
  by_name = refl;
  id_is = refl;
  takes = refl;
  takes_one = λ value. refl;
}

abbrev pub recheck_use_at : (value : Text) → IsValueWord value → Use recheck_leaf.rules
recheck_use_at value is = record { word = codes "--at"; name = codes "at"; value = value; is_option = recheck_at; is_value = is }

abbrev pub recheck_rows : (plant plan dossier : Text) → List Row
recheck_rows plant plan dossier = (settled_rows recheck_leaf.rules (Some (codes "plan", plan ∷ []))
    (settled_rows recheck_leaf.rules (Some (codes "plant", plant ∷ [])) []))

abbrev pub recheck_last : (plant plan dossier : Text) → Option (Text × List Text)
recheck_last plant plan dossier = (Some (codes "dossier", dossier ∷ []))

pub recheck_goes : (plant plan dossier : Text) → IsValueWord plant → IsValueWord plan → IsValueWord dossier → (u : Use recheck_leaf.rules) →
    GoesOn recheck_leaf (walk_from nothing_held) (plant ∷ plan ∷ dossier ∷ u.word ∷ u.value ∷ [])
    (between (settled_rows recheck_leaf.rules (recheck_last plant plan dossier) (recheck_rows plant plan dossier)) (last u) 4)
unfolding recheck_leaf line_app recheck_verb
recheck_goes plant plan dossier plant_is plan_is dossier_is u =
    (goes_to_place recheck_leaf [] None 1 plant (between [] (Some (codes "plant", plant ∷ [])) 2) (plan ∷ dossier ∷ u.word ∷ u.value ∷ [])
    (between (settled_rows recheck_leaf.rules (recheck_last plant plan dossier) (recheck_rows plant plan dossier)) (last u) 4) plant_is refl refl
    (goes_to_place recheck_leaf [] (Some (codes "plant", plant ∷ [])) 2 plan
    (between (settled_rows recheck_leaf.rules (Some (codes "plant", plant ∷ [])) []) (Some (codes "plan", plan ∷ [])) 3) (dossier ∷ u.word ∷ u.value ∷ [])
    (between (settled_rows recheck_leaf.rules (recheck_last plant plan dossier) (recheck_rows plant plan dossier)) (last u) 4) plan_is refl refl
    (goes_to_place recheck_leaf (settled_rows recheck_leaf.rules (Some (codes "plant", plant ∷ [])) []) (Some (codes "plan", plan ∷ [])) 3 dossier
    (between (settled_rows recheck_leaf.rules (Some (codes "plan", plan ∷ [])) (settled_rows recheck_leaf.rules (Some (codes "plant", plant ∷ [])) []))
    (Some (codes "dossier", dossier ∷ [])) 4) (u.word ∷ u.value ∷ [])
    (between (settled_rows recheck_leaf.rules (recheck_last plant plan dossier) (recheck_rows plant plan dossier)) (last u) 4) dossier_is refl refl
    (goes_by_option recheck_leaf (recheck_rows plant plan dossier) (recheck_last plant plan dossier) 4 u []
    (between (settled_rows recheck_leaf.rules (recheck_last plant plan dossier) (recheck_rows plant plan dossier)) (last u) 4) refl
    (goes_no_further recheck_leaf (between (settled_rows recheck_leaf.rules (recheck_last plant plan dossier) (recheck_rows plant plan dossier))
    (last u) 4))))))

-- ---- make

abbrev pub number_last : Text → Option (Text × List Text)
number_last number = Some (codes "number", number ∷ [])

pub make_goes : (number : Text) → IsValueWord number → GoesOn make_leaf (walk_from nothing_held) (number ∷ []) (between [] (number_last number) 2)
unfolding make_leaf line_app make_verb
make_goes number number_is =
    goes_to_place make_leaf [] None 1 number (between [] (number_last number) 2) [] (between [] (number_last number) 2) number_is refl refl
    (goes_no_further make_leaf (between [] (number_last number) 2))

-- the flag behind the number
abbrev pub flag_rows : Text → List Row
flag_rows number = used (filled (flag_rule (codes "solve"))) [] (settled_rows make_leaf.rules (number_last number) [])

flag_goes : (number : Text) → GoesOn make_leaf (between [] (number_last number) 2) (codes "--solve" ∷ []) (between (flag_rows number) None 2)
unfolding clap_on_literals make_leaf line_app make_verb
flag_goes number = record { leads = refl; passes = refl }

pub make_and_solve_goes : (number : Text) → IsValueWord number →
    GoesOn make_leaf (walk_from nothing_held) (number ∷ codes "--solve" ∷ []) (between (flag_rows number) None 2)
unfolding make_leaf line_app make_verb
make_and_solve_goes number number_is =
    goes_to_place make_leaf [] None 1 number (between [] (number_last number) 2) (codes "--solve" ∷ [])
    (between (flag_rows number) None 2) number_is refl refl
    (flag_goes number)
