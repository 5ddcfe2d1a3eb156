-- For which reasons a dossier is not accepted: all that stand, in the order of the tests, each with its line. What is
-- answered is the first.
use Rattle.std.specs.Prelude.{ℕ, ◌+◌, ◌&&◌, nat_le, Bool, true, false, ℤ, List, [], ◌∷◌, ◌++◌, map, length, Option, Some, None, Result, Ok, Err, if◌then◌else◌}
use Rattle.std.specs.Ordering.{int_eq}
use Rattle.item_lists.specs.Faults.{unless, each_from}
use Rattle.limits.specs.declared.TheConstants.{MOST_SLOTS}
use Rattle.plant_model.specs.declared.parts.Parts.{Parts}
use Rattle.plan_text.specs.declared.op_line.OpLine.{OpLine}
use Rattle.replay_core.specs.declared.broken.Broken.{Broken}
use Rattle.replay_core.specs.declared.order.Order.TheVariants.{ByStart}
use Rattle.replay_core.specs.declared.timed.Timed.{Timed}
use Rattle.replay_core.specs.Legal.{plan_faults}
use Rattle.replay_core.specs.Margin.{margin_of}
use Rattle.slot_forms.specs.Cases.{root_box}
use Rattle.leaf_value.specs.Settings.{Setting}
use Rattle.dossier_text.specs.declared.fault.DossierFault.{DossierFault}
use Rattle.dossier_text.specs.declared.fault.DossierFault.TheVariants.{Line, TooMany, Memory}
use Rattle.dossier_text.specs.declared.dossier.CutLine.{CutLine}
use Rattle.dossier_text.specs.declared.dossier.Dossier.{Dossier}
use Rattle.dossier_text.specs.declared.dossier.Word3.{Word3}
use Rattle.dossier_text.specs.declared.dossier.Word3.TheVariants.{Plan, Infeasible, Open3}
use Rattle.dossier_text.specs.Reading.{plan_length, dossier_at}
use Rattle.dossier_check.specs.declared.verdict.Reason.{Reason}
use Rattle.plan_text.specs.Plans.{plan_of}
use Rattle.dossier_check.specs.Frames.{setting_of, is_lawful_cut}
use Rattle.dossier_check.specs.NodeReasons.{reason, nodes_reasons, greatest_value}

-- ---- the slots, the cuts and the tree

-- there are none, or too many (3)
unfoldable pub slot_reasons : Dossier → List Reason
slot_reasons dossier = unless (nat_le 1 dossier.slots && nat_le dossier.slots MOST_SLOTS) (reason 3 3)

-- the line of the first cut, below the line of their number, which stands below the plan
abbrev pub first_cut_line : Dossier → ℕ
first_cut_line dossier = 10 + plan_length dossier.plan

-- a cut has not one weight for each crude of the plant, or is not valid (12)
unfoldable pub cut_reasons : Parts → Dossier → List Reason
cut_reasons parts dossier =
    each_from (λ line (cut : CutLine). unless (is_lawful_cut parts cut) (reason 12 line)) (first_cut_line dossier)
    dossier.cuts

-- the line of node 0, below the cuts
abbrev pub first_node_line : Dossier → ℕ
first_node_line dossier = 10 + plan_length dossier.plan + length dossier.cuts

-- what stands against the nodes
unfoldable pub tree_reasons : Setting → Dossier → List Reason
tree_reasons setting dossier =
    nodes_reasons setting dossier.nodes (first_node_line dossier) (root_box setting.case) [] 0 dossier.tree

-- ---- the bound, the answer and the plan

-- the greatest value of a leaf, where one has a value
unfoldable pub greatest_of : Setting → Dossier → Option ℤ
greatest_of setting dossier = greatest_value setting (root_box setting.case) None [] 0 dossier.tree

-- whether a number, or none, is given where it should
abbrev pub is_same : Option ℤ → Option ℤ → Bool
is_same None None = true
is_same None (Some wanted) = false
is_same (Some given) None = false
is_same (Some given) (Some wanted) = int_eq given wanted

-- whether that which the answer is about is given, and nothing else: a plan comes with its margin
abbrev pub fits_answer : Word3 → Option ℤ → Option ℤ → Option (List OpLine) → Bool
fits_answer Plan (Some margin) bound (Some lines) = true
fits_answer Infeasible None None None = true
fits_answer Open3 None (Some bound) None = true
fits_answer answer margin bound plan = false

-- the bound is not the greatest value, or there is one where no leaf has a value (15); what is given does not fit the
-- answer (16)
unfoldable pub claim_reasons : Dossier → Option ℤ → List Reason
claim_reasons dossier greatest =
    unless (is_same dossier.bound greatest) (reason 15 7)
    ++ unless (fits_answer dossier.answer dossier.margin dossier.bound dossier.plan) (reason 16 5)

-- a broken rule (17): at the line of the operation that breaks it, or at that of the plan, where it is a rule on its
-- end
unfoldable pub rule_reason : Broken → Reason
rule_reason broken = reason 17 (if nat_le broken.rule 11 then 8 + broken.at else 8)

-- the plan has more operations than slots (17), at the first that is too many; or it breaks a rule
unfoldable pub plan_reasons : Parts → ℕ → List Timed → List Reason
plan_reasons parts slots plan =
    unless (nat_le (length plan) slots) (reason 17 (8 + slots + 1)) ++ map rule_reason (plan_faults parts ByStart plan)

-- the margin, where one is given, is not what the plan earns (18)
abbrev pub margin_reasons : Option ℤ → ℤ → List Reason
margin_reasons None earned = []
margin_reasons (Some margin) earned = unless (int_eq margin earned) (reason 18 6)

-- what stands against a plan that is given, and its margin
abbrev pub given_reasons : Parts → ℕ → Option ℤ → Option (List OpLine) → List Reason
given_reasons parts slots margin None = []
given_reasons parts slots margin (Some lines) =
    plan_reasons parts slots (plan_of parts lines) ++ margin_reasons margin (margin_of parts (plan_of parts lines))

-- ---- the dossier, and its bytes

-- all that stands against a dossier
unfoldable pub dossier_reasons : Parts → Dossier → List Reason
dossier_reasons parts dossier =
    slot_reasons dossier
    ++ cut_reasons parts dossier
    ++ tree_reasons (setting_of parts dossier) dossier
    ++ claim_reasons dossier (greatest_of (setting_of parts dossier) dossier)
    ++ given_reasons parts dossier.slots dossier.margin dossier.plan

-- all that stands against what was read: a line has not its form (1) or says too many (2), or what stands against the
-- dossier
abbrev pub reading_reasons : Parts → Result Dossier DossierFault → List Reason
reading_reasons parts (Ok dossier) = dossier_reasons parts dossier
reading_reasons parts (Err (Line line)) = reason 1 line ∷ []
reading_reasons parts (Err (TooMany line)) = reason 2 line ∷ []
reading_reasons parts (Err Memory) = []

-- all that stands against bytes
abbrev pub reasons_of : Parts → List ℕ → List Reason
reasons_of parts bytes = reading_reasons parts (dossier_at bytes)
