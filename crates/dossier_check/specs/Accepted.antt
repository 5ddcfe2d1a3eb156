-- When a dossier is accepted.
use Rattle.std.specs.Prelude.{◌≡◌, ◌≤◌, ℤ, IsTrue, All, List, Option, Some, None}
use Rattle.limits.specs.declared.TheConstants.{MOST_SLOTS}
use Rattle.plant_model.specs.declared.parts.Parts.{Parts}
use Rattle.plan_text.specs.declared.op_line.OpLine.{OpLine}
use Rattle.slot_box.specs.Nodes.{AreTickets, HaveParents}
use Rattle.replay_core.specs.Margin.{margin_of}
use Rattle.slot_forms.specs.Cases.{Case, IsCasePlan}
use Rattle.leaf_value.specs.Settings.{Setting}
use Rattle.leaf_value.specs.TreeValue.{AreLawful, IsBoundOf}
use Rattle.dossier_text.specs.declared.dossier.CutLine.{CutLine}
use Rattle.dossier_text.specs.declared.dossier.Dossier.{Dossier}
use Rattle.dossier_text.specs.declared.dossier.Word3.{Word3}
use Rattle.dossier_text.specs.declared.dossier.Word3.TheVariants.{Plan, Infeasible, Open3}
use Rattle.plan_text.specs.Plans.{plan_of}
use Rattle.dossier_check.specs.Frames.{setting_of, is_lawful_cut}

-- what goes with each answer: with `plan` a plan and its margin, whatever the bound, which is asked for by itself; with
-- `infeasible` none of the three; with `open` a bound alone
abbrev pub FitsAnswer : Word3 → Option ℤ → Option ℤ → Option (List OpLine) → Type 0
FitsAnswer Plan (Some margin) bound (Some lines) = Unit {0}
FitsAnswer Infeasible None None None = Unit {0}
FitsAnswer Open3 None (Some bound) None = Unit {0}
FitsAnswer answer margin bound plan = ⊥

-- a plan that is given is one of the case, and earns the margin that is given
abbrev pub IsGivenPlan : Case → Option ℤ → Option (List OpLine) → Type 0
IsGivenPlan case (Some margin) (Some lines) =
    IsCasePlan case (plan_of case.parts lines) × (margin_of case.parts (plan_of case.parts lines) ≡ margin)
IsGivenPlan case (Some margin) None = Unit {0}
IsGivenPlan case None (Some lines) = Unit {0}
IsGivenPlan case None None = Unit {0}

-- the dossier is accepted for a case, where its entries may name these cuts
pub record IsAcceptedIn (setting : Setting) (dossier : Dossier) : Type 0 where
  pub some_slots : 1 ≤ setting.case.slots
  pub most_slots : setting.case.slots ≤ MOST_SLOTS
  pub cuts : All (λ (cut : CutLine). IsTrue (is_lawful_cut setting.case.parts cut)) dossier.cuts
  pub tickets : AreTickets dossier.nodes dossier.tree
  pub parents : HaveParents dossier.tree
  pub nodes : AreLawful setting dossier.tree
  pub bound : IsBoundOf setting dossier.tree dossier.bound
  pub answer : FitsAnswer dossier.answer dossier.margin dossier.bound dossier.plan
  pub plan : IsGivenPlan setting.case dossier.margin dossier.plan

-- the dossier is accepted for a plant: for the plain case of its slots, where entries may name the cuts that it lists
abbrev pub IsAccepted : Parts → Dossier → Type 0
IsAccepted parts dossier = IsAcceptedIn (setting_of parts dossier) dossier
