-- What `solve` answers to a plant.
use Rattle.std.specs.Prelude.{◌≡◌, ◌⊎◌, ◌↔◌, ℕ, ◌+◌, ◌<◌, ◌≤◌, Some}
use Rattle.plant_model.specs.declared.parts.Parts.{Parts}
use Rattle.number_laws.specs.Missing.{IsAtMost}
use Rattle.replay_core.specs.Legal.{IsLegal}
use Rattle.replay_core.specs.Margin.{margin_of}
use Rattle.greedy_plan.specs.Greedy.{greedy_of, all_operations}
use Rattle.slot_box.specs.Boxes.{points_of}
use Rattle.slot_box.specs.Nodes.{inner_count}
use Rattle.slot_forms.specs.Cases.{plain, root_box}
use Rattle.leaf_value.specs.Settings.{plain_setting}
use Rattle.leaf_value.specs.TreeValue.{NoLeafHasValue}
use Rattle.leaf_value.specs.Budget.{KeepsBudget}
use Rattle.dossier_text.specs.declared.dossier.Dossier.{Dossier}
use Rattle.dossier_text.specs.declared.dossier.Word3.{Word3}
use Rattle.dossier_text.specs.declared.dossier.Word3.TheVariants.{Plan, Infeasible, Open3}
use Rattle.dossier_text.specs.Ranges.{IsReadable}
use Rattle.dossier_text.specs.Text.{dossier_bytes}
use Rattle.dossier_check.specs.Accepted.{IsAccepted}
use Rattle.dossier_check.specs.Claims.{claim_of, HasClaim}
use Rattle.crude_run.specs.declared.answer.Answer.{Answer}
use Rattle.crude_run.specs.Thorough.{IsThorough}
use Rattle.crude_run.specs.Worked.{IsWorkedOff}
use Rattle.crude_run.specs.Numbers.{status_plan_found, status_infeasible, status_none_found}

-- the status that goes with the answer of a dossier
abbrev pub status_of : Word3 → ℕ
status_of Plan = status_plan_found
status_of Infeasible = status_infeasible
status_of Open3 = status_none_found

-- a dossier that answers what was asked: plans of at most n operations, by a tree of at most the budget's number of
-- inner nodes, made by so many workers
pub record IsSolution (parts : Parts) (n budget workers : ℕ) (dossier : Dossier) : Type 0 where
  pub slots : dossier.slots ≡ n
  -- its text is read again as the dossier, and its plan's lines are a plan text
  pub readable : IsReadable dossier
  pub accepted : IsAccepted parts dossier
  -- what it claims is so: of the plans of at most n operations
  pub claim : HasClaim parts (claim_of parts dossier)
  -- that there is no plan is its answer exactly where no leaf has a value
  pub infeasible : (dossier.answer ≡ Infeasible) ↔ NoLeafHasValue (plain_setting parts n) dossier.tree
  -- as many nodes are inner as it says
  pub inner : inner_count dossier.tree ≡ dossier.nodes
  -- a leaf is left open only where all that the budget allows were divided, and any other has no value above the margin
  -- of the plan, or none at all where there is no plan
  pub budget_kept : KeepsBudget (plain_setting parts n) budget dossier.tree dossier.margin
  -- each node of its tree was searched thoroughly
  pub thorough : IsThorough (plain_setting parts n) dossier.tree
  -- and so many workers made the tree, who divided a box only where its value beat the best margin that they had seen
  pub worked : IsWorkedOff parts n workers dossier.nodes dossier.tree dossier.margin
  -- so its bound is the margin unless all were divided
  pub bound : dossier.answer ≡ Plan → dossier.nodes < budget → dossier.bound ≡ dossier.margin
  -- no plan was found only where all were
  pub none_found : dossier.answer ≡ Open3 → dossier.nodes ≡ budget
  -- where the greedy plan of all operations is legal, it gives a plan, which earns no less
  pub no_worse : IsLegal parts (greedy_of parts n (all_operations parts))
      → (dossier.answer ≡ Plan)
      × IsAtMost (Some (margin_of parts (greedy_of parts n (all_operations parts)))) dossier.margin
  -- a budget of all points of the root box but one decides
  pub decided : points_of (root_box (plain parts n)) ≤ budget + 1
      → (dossier.answer ≡ Infeasible) ⊎ ((dossier.answer ≡ Plan) × (dossier.bound ≡ dossier.margin))

-- what `solve` answers: the text of such a dossier, with the status of its answer
pub record Solves (parts : Parts) (n budget workers : ℕ) (answer : Answer) : Type 0 where
  pub dossier : Dossier
  pub solution : IsSolution parts n budget workers dossier
  pub status : answer.status ≡ status_of dossier.answer
  pub text : answer.text ≡ dossier_bytes dossier
