-- What an accepted dossier claims is so.
use Rattle.std.proofs.Common.{◌≡◌, ℕ, ◌≤◌, ℤ, Option, Some, None, List}
use Rattle.std.specs.Prelude.{option_map}
use Rattle.limits.specs.declared.TheConstants.{MOST_SLOTS}
use Rattle.plant_model.specs.declared.parts.Parts.{Parts}
use Rattle.plan_text.specs.declared.op_line.OpLine.{OpLine}
use Rattle.slot_box.specs.declared.cut.CutParams.{CutParams}
use Rattle.replay_core.specs.declared.timed.Timed.{Timed}
use Rattle.replay_core.specs.Claim.{IsPlanOf}
use Rattle.replay_core.specs.Margin.{margin_of}
use Rattle.slot_forms.specs.Cases.{IsCasePlan, plain, SaysTheSame, PlainCasesSayTheSame}
use Rattle.leaf_value.specs.TreeValue.{IsTrueBound, TreeBoundsAreTrue}
use Rattle.dossier_text.specs.declared.dossier.Word3.{Word3}
use Rattle.dossier_text.specs.declared.dossier.Word3.TheVariants.{Plan, Infeasible, Open3}
use Rattle.plan_text.specs.Plans.{plan_of}
use Rattle.dossier_check.specs.Frames.{setting_of}
use Rattle.dossier_check.specs.Accepted.{FitsAnswer, IsGivenPlan}
use Rattle.dossier_check.specs.Claims.{IsSo, AcceptedClaimsAreTrue}

-- the bound of the tree of an accepted dossier is true
abbrev pub PlainBoundsAreTrue : Parts → Type 0
PlainBoundsAreTrue parts = (n : ℕ) (cuts : List CutParams) → 1 ≤ n → n ≤ MOST_SLOTS → TreeBoundsAreTrue (record { case = plain parts n; cuts = cuts })

module _ (parts : Parts) (n : ℕ) (same : SaysTheSame parts n) where
  plan_is : (margin : ℤ) (plan : List Timed) → IsCasePlan (plain parts n) plan → margin_of parts plan ≡ margin → IsPlanOf parts n margin plan
  plan_is margin plan is earns = let found = (same.plan plan).0 is in record { legal = found.legal; short = found.short; earns = earns }

  -- what goes with each answer makes it so
  so : (answer : Word3) (margin bound : Option ℤ) (plan : Option (List OpLine)) → FitsAnswer answer margin bound plan →
      IsGivenPlan (plain parts n) margin plan →
      IsTrueBound (plain parts n) bound → IsSo parts n answer (option_map (plan_of parts) plan) margin bound
  so Plan (Some margin) (Some bound) (Some lines) fits given is = (plan_is margin (plan_of parts lines) given.0 given.1, (same.bound bound).0 is)
  so Plan (Some margin) None (Some lines) fits given none = absurd (none (plan_of parts lines) given.0)
  so Plan (Some margin) bound None fits given is = absurd fits
  so Plan None bound plan fits given is = absurd fits
  so Infeasible None None None fits given none = same.infeasible.0 none
  so Infeasible None None (Some lines) fits given is = absurd fits
  so Infeasible None (Some bound) plan fits given is = absurd fits
  so Infeasible (Some margin) bound plan fits given is = absurd fits
  so Open3 None (Some bound) None fits given is = (same.bound bound).0 is
  so Open3 None (Some bound) (Some lines) fits given is = absurd fits
  so Open3 None None plan fits given is = absurd fits
  so Open3 (Some margin) bound plan fits given is = absurd fits

pub accepted_claims_are_true : (parts : Parts) → PlainCasesSayTheSame parts → PlainBoundsAreTrue parts → AcceptedClaimsAreTrue parts
accepted_claims_are_true parts same bounds dossier accepted =
    so parts dossier.slots (same dossier.slots) dossier.answer dossier.margin dossier.bound dossier.plan accepted.answer accepted.plan
    (bounds dossier.slots (setting_of parts dossier).cuts accepted.some_slots accepted.most_slots dossier.tree dossier.bound accepted.nodes accepted.bound)
