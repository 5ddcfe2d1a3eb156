-- The dossier of what a search has found answers what was asked.
use Rattle.std.proofs.Common.{◌≡◌, ℕ, ℤ, inl, inr, ◌+◌, ◌<◌, ◌≤◌, ◌≤ℤ◌, Option, Some, None, List, [], ◌∷◌, ◌++◌, length, refl, sym, ap, ◌∙◌, subst, arith, FitsSigned, w64}
use Rattle.std.specs.Prelude.{◌⊎◌, IfSome, All}
use Rattle.std.proofs.lemmas.Int.{ints}
use Rattle.std.proofs.lemmas.List.{length-map}
use Rattle.limits.specs.declared.TheConstants.{MOST_NODES, MOST_SLOTS}
use Rattle.number_laws.specs.Missing.{IsAtMost}
use Rattle.plant_model.specs.declared.parts.Parts.{Parts}
use Rattle.plant_model.specs.Parts.{op_count_of}
use Rattle.slot_box.specs.declared.node.Node.{Node}
use Rattle.slot_box.specs.declared.slot.Slot.{Slot}
use Rattle.slot_box.specs.Boxes.{points_of}
use Rattle.replay_core.specs.declared.timed.Timed.{Timed}
use Rattle.replay_core.specs.Claim.{IsPlanOf}
use Rattle.replay_core.specs.Legal.{IsLegal, IsInRange}
use Rattle.replay_core.specs.declared.planned.Planned.{Planned}
use Rattle.slot_forms.specs.Cases.{IsCasePlan, plain, root_box}
use Rattle.leaf_value.specs.Settings.{Setting, plain_setting}
use Rattle.leaf_value.specs.TreeValue.{IsLeafValue, NoLeafHasValue, IsBoundOf, TreeBoundsAreTrue}
use Rattle.plan_text.specs.declared.op_line.OpLine.{OpLine}
use Rattle.dossier_text.specs.declared.dossier.Dossier.{Dossier}
use Rattle.dossier_text.specs.declared.dossier.Word3.{Word3}
use Rattle.dossier_text.specs.declared.dossier.Word3.TheVariants.{Plan, Infeasible, Open3}
use Rattle.dossier_text.specs.Ranges.{IsReadable}
use Rattle.plan_text.specs.PlanText.{AreOpLines}
use Rattle.dossier_check.specs.Accepted.{FitsAnswer, IsGivenPlan, IsAccepted}
use Rattle.dossier_check.specs.Claims.{AcceptedClaimsAreTrue}
use Rattle.plan_text.specs.Plans.{timed_of, plan_of}
use Rattle.plan_build.specs.Built.{found_margin}
use Rattle.crude_run.specs.declared.search.Found.{Found}
use Rattle.crude_run.specs.Searched.{IsFound}
use Rattle.crude_run.specs.declared.conclude.Head.{Head}
use Rattle.crude_run.specs.Concluding.{IsHeadOf}
use Rattle.crude_run.specs.Solving.{IsSolution}

-- ---- the dossiers of a search that has ended

module _ (parts : Parts) (n budget workers : ℕ) (some : 1 ≤ n) (most : n ≤ MOST_SLOTS) (nodes : budget ≤ MOST_NODES) (claims : AcceptedClaimsAreTrue parts)
    (bounds : TreeBoundsAreTrue (plain_setting parts n)) (t : ℕ) (tree : List Node) where
  abbrev setting : Setting
  setting = plain_setting parts n

  abbrev root : List Slot
  root = root_box (plain parts n)

  abbrev dossier_of : Word3 → Option ℤ → Option ℤ → Option (List OpLine) → Dossier
  dossier_of answer margin bound plan = record {
    slots = n;
    nodes = t;
    answer = answer;
    margin = margin;
    bound = bound;
    plan = plan;
    cuts = [];
    tree = tree;
  }

  abbrev found_of : Option Planned → Option ℤ → Found
  found_of best bound = record { tickets = t; tree = tree; best = best; bound = bound }

  module _ (best : Option Planned) (bound : Option ℤ) (found : IsFound parts n budget workers (found_of best bound)) where
    abbrev margin : Option ℤ
    margin = found_margin best

    -- a leaf with a value was left open, or its value does not beat the best margin
    value_cases : (value : ℤ) → IsLeafValue setting tree value → ((t ≡ budget) × (points_of root ≤ budget + 1 → ⊥)) ⊎ IsAtMost (Some value) margin
    value_cases value is =
        elim (found.budget_kept.closed is.box is.leaf is.over) [
          | inl opened ↦ inl (
            sym found.inner ∙ (found.budget_kept.spent is.box is.leaf is.over opened).0,
            λ few. found.budget_kept.decided few is.box is.leaf
                is.over opened,
          )
          | inr most_value ↦ inr (subst (λ v. IsAtMost v margin) is.valued most_value)
        ]

    within : t ≤ budget
    within = let all = found.budget_kept.within in let same = found.inner in omega arith

    accepted : (answer : Word3) (plan : Option (List OpLine)) → FitsAnswer answer margin bound plan → IsGivenPlan (plain parts n) margin plan →
        IsAccepted parts (dossier_of answer margin bound plan)
    accepted answer plan fits given = record {
      some_slots = some;
      most_slots = most;
      cuts = λ i cut inside. absurd (omega arith);
      tickets = found.tickets;
      parents = found.parents;
      nodes = found.lawful;
      bound = found.bound;
      answer = fits;
      plan = given;
    }

    readable : (answer : Word3) (plan : Option (List OpLine)) → IfSome margin (FitsSigned w64) → IfSome bound (FitsSigned w64) →
        IfSome plan (λ lines. (length lines ≤ MOST_SLOTS) × AreOpLines 1 lines) → IsReadable (dossier_of answer margin bound plan)
    readable answer plan margin_fits bound_fits lines = record {
      slots = let m = most in omega arith;
      nodes = let w = within in let n = nodes in omega arith;
      margin = margin_fits;
      bound = bound_fits;
      plan = lines;
      few_cuts = omega arith;
      cuts = tt;
      all_nodes = found.nodes;
      tree = found.numbers;
    }

  -- no leaf has a value
  pub IsSolution-infeasible : IsFound parts n budget workers (found_of None None) → IsSolution parts n budget workers (dossier_of Infeasible None None None)
  IsSolution-infeasible found = record {
    slots = refl;
    readable = readable None None found Infeasible None tt tt tt;
    accepted = accept;
    claim = claims _ accept;
    infeasible = (λ is. found.bound, λ none. refl);
    inner = found.inner;
    budget_kept = found.budget_kept;
    thorough = found.thorough;
    worked = found.worked;
    bound = λ is less. absurd (let clash : Infeasible ≡ Plan = is in cc);
    none_found = λ is. absurd (let clash : Infeasible ≡ Open3 = is in cc);
    no_worse = λ legal. absurd (found.built legal);
    decided = λ few. inl refl;
  }
    where
      accept : IsAccepted parts (dossier_of Infeasible None None None)
      accept = accepted None None found Infeasible None tt tt

  -- no plan was found
  pub IsSolution-open : (bound : ℤ) → IsFound parts n budget workers (found_of None (Some bound)) → FitsSigned w64 bound →
      IsSolution parts n budget workers (dossier_of Open3 None (Some bound) None)
  IsSolution-open bound found fits = record {
    slots = refl;
    readable = readable None (Some bound) found Open3 None tt fits tt;
    accepted = accept;
    claim = claims _ accept;
    infeasible = (λ is. absurd (let clash : Open3 ≡ Infeasible = is in cc), λ none. absurd (none bound found.bound.there));
    inner = found.inner;
    budget_kept = found.budget_kept;
    thorough = found.thorough;
    worked = found.worked;
    bound = λ is less. absurd (let clash : Open3 ≡ Plan = is in cc);
    none_found = λ is. elim (value_cases None (Some bound) found bound found.bound.there) [ inl left ↦ left.0 | inr most ↦ absurd most ];
    no_worse = λ legal. absurd (found.built legal);
    decided = λ few. absurd (elim (value_cases None (Some bound) found bound found.bound.there) [ inl left ↦ left.1 few | inr most ↦ most ]);
  }
    where
      accept : IsAccepted parts (dossier_of Open3 None (Some bound) None)
      accept = accepted None (Some bound) found Open3 None tt tt

  -- a plan was found
  module _ (planned : Planned) (bound : Option ℤ) (lines : List OpLine) (found : IsFound parts n budget workers (found_of (Some planned) bound))
      (steps : plan_of parts lines ≡ planned.plan) (numbered : AreOpLines 1 lines) (margin_fits : FitsSigned w64 planned.margin)
      (bound_fits : IfSome bound (FitsSigned w64)) where
    given : IsPlanOf parts n planned.margin (plan_of parts lines)
    given = subst (IsPlanOf parts n planned.margin) (sym steps) found.plan

    few_lines : length lines ≤ MOST_SLOTS
    few_lines = let short = given.short in let same = length-map lines (timed_of parts) in let m = most in omega arith

    accept : IsAccepted parts (dossier_of Plan (Some planned.margin) bound (Some lines))
    accept = accepted (Some planned) bound found Plan (Some lines) tt (record { legal = given.legal; short = given.short; goes_on = tt }, given.earns)

    -- the plan is one of the case, so that some leaf has a value, and none a lesser one than its margin
    case_plan : IsCasePlan (plain parts n) planned.plan
    case_plan = record { legal = found.plan.legal; short = found.plan.short; goes_on = tt }

    some_value : NoLeafHasValue setting tree → ⊥
    some_value none = bounds tree None found.lawful none planned.plan case_plan

    -- the bound is the margin, unless some leaf with the bound's value was left open
    same_bound : (b : Option ℤ) → IsBoundOf setting tree b → ((value : ℤ) → IsLeafValue setting tree value → IsAtMost (Some value) (Some planned.margin)) →
        b ≡ Some planned.margin
    same_bound None none most_values = absurd (some_value none)
    same_bound (Some b) is most_values =
        let below : b ≤ℤ planned.margin = most_values b is.there in
        let reached = bounds tree (Some b) found.lawful is planned.plan case_plan in
        let earned = found.plan.earns in
        let above : planned.margin ≤ℤ b = subst (λ m. m ≤ℤ b) earned reached in
        let same : b ≡ planned.margin = omega (arith, ints, below, above) in
        ap Some same

    unspent : t < budget → bound ≡ Some planned.margin
    unspent less =
        same_bound bound found.bound
        (λ value is. elim (value_cases (Some planned) bound found value is) [ inl left ↦ absurd (let all = left.0 in omega arith) | inr most ↦ most ])

    decided : points_of root ≤ budget + 1 → bound ≡ Some planned.margin
    decided few =
        same_bound bound found.bound (λ value is. elim (value_cases (Some planned) bound found value is) [ inl left ↦ absurd (left.1 few) | inr most ↦ most ])

    pub IsSolution-plan : IsSolution parts n budget workers (dossier_of Plan (Some planned.margin) bound (Some lines))
    IsSolution-plan = record {
      slots = refl;
      readable = readable (Some planned) bound found Plan (Some lines) margin_fits bound_fits (few_lines, numbered);
      accepted = accept;
      claim = claims _ accept;
      infeasible = (λ is. absurd (let clash : Plan ≡ Infeasible = is in cc), λ none. absurd (some_value none));
      inner = found.inner;
      budget_kept = found.budget_kept;
      thorough = found.thorough;
      worked = found.worked;
      bound = λ is less. unspent less;
      none_found = λ is. absurd (let clash : Plan ≡ Open3 = is in cc);
      no_worse = λ legal. (refl, found.built.no_worse legal);
      decided = λ few. inr (refl, decided few);
    }

  -- whichever of these is claimed
  pub IsSolution-from : (best : Option Planned) (bound : Option ℤ) (head : Head) → IsFound parts n budget workers (found_of best bound) → IsHeadOf parts best bound head
      → IfSome head.margin (FitsSigned w64) → IfSome bound (FitsSigned w64) → IsSolution parts n budget workers (dossier_of head.answer head.margin bound head.plan)
  IsSolution-from None None head found (answer, margin, plan) margin_fits bound_fits =
      rw (answer, margin, plan) (IsSolution-infeasible found)
  IsSolution-from None (Some bound) head found (answer, margin, plan) margin_fits bound_fits =
      rw (answer, margin, plan) (IsSolution-open bound found bound_fits)
  IsSolution-from (Some planned) bound head found (answer, margin, (lines, plan, are)) margin_fits bound_fits =
      rw (answer, margin, plan)
      (IsSolution-plan planned bound lines found are.steps are.numbered (subst (λ m. IfSome m (FitsSigned w64)) margin margin_fits) bound_fits)

-- ---- the lines of a plan

pub plan_of-push : (parts : Parts) (lines : List OpLine) (line : OpLine) → plan_of parts (lines ++ line ∷ []) ≡ plan_of parts lines ++ timed_of parts line ∷ []
plan_of-push parts [] line = refl
plan_of-push parts (first ∷ lines) line = ap (λ steps. timed_of parts first ∷ steps) (plan_of-push parts lines line)

-- the operations of a plan are those of the plant, and few
pub steps_known : (parts : Parts) (n : ℕ) (best : Option Planned) → ((plan : List Timed) → IsLegal parts plan → All (IsInRange parts) plan) → n ≤ MOST_SLOTS →
    IfSome best (λ planned. IsPlanOf parts n planned.margin planned.plan) →
    IfSome best (λ planned. All (λ t. t.op < op_count_of parts) planned.plan × (length planned.plan ≤ MOST_SLOTS))
steps_known parts n None ranges few plan = tt
steps_known parts n (Some planned) ranges few plan =
    ((λ i t inside. (ranges planned.plan plan.legal i t inside).known), (let short = plan.short in omega arith))
