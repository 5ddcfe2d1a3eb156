-- Nothing stands against a dossier exactly where it is accepted.
use Rattle.std.proofs.Common.{◌≡◌, ℕ, ◌+◌, ◌≤◌, Bool, ℤ, true, Option, Some, None, List, [], ◌∷◌, ◌++◌, length, map, refl, sym, ap}
use Rattle.std.specs.Prelude.{nat_le, ◌&&◌}
use Rattle.std.specs.Ordering.{int_eq}
use Rattle.std.proofs.lemmas.Bool.{and_parts, and_from, leb-true, le-leb}
use Rattle.std.proofs.lemmas.Bool.Decides.{Decides-int_eq}
use Rattle.item_lists.specs.Faults.{first_of, unless}
use Rattle.item_lists.proofs.FaultLaws.{nil_of_none, nil_of_append, holds_of_nil}
use Rattle.limits.specs.declared.TheConstants.{MOST_SLOTS}
use Rattle.plant_model.specs.declared.parts.Parts.{Parts}
use Rattle.plan_text.specs.declared.op_line.OpLine.{OpLine}
use Rattle.replay_core.specs.declared.order.Order.TheVariants.{ByStart}
use Rattle.replay_core.specs.declared.timed.Timed.{Timed}
use Rattle.replay_core.specs.Legal.{IsLegal, first_broken_in, plan_faults}
use Rattle.replay_core.specs.Margin.{margin_of}
use Rattle.slot_box.specs.Boxes.{IsBox}
use Rattle.slot_box.specs.Laws.{PartsAreBoxes, NodeBoxesStayWithin}
use Rattle.slot_forms.specs.Cases.{IsCasePlan, PlainRootsAreBoxes, plain, root_box}
use Rattle.leaf_value.specs.Settings.{Setting}
use Rattle.dossier_text.specs.declared.dossier.Dossier.{Dossier}
use Rattle.dossier_text.specs.declared.dossier.Word3.{Word3}
use Rattle.dossier_text.specs.declared.dossier.Word3.TheVariants.{Plan, Infeasible, Open3}
use Rattle.dossier_text.specs.Ranges.{IsReadable}
use Rattle.dossier_check.specs.declared.verdict.Reason.{Reason}
use Rattle.plan_text.specs.Plans.{plan_of}
use Rattle.dossier_check.specs.Frames.{setting_of}
use Rattle.dossier_check.specs.Accepted.{FitsAnswer, IsGivenPlan, IsAccepted}
use Rattle.dossier_check.specs.NodeReasons.{reason}
use Rattle.dossier_check.specs.Reasons.{slot_reasons, cut_reasons, first_node_line, tree_reasons, greatest_of, is_same, fits_answer, claim_reasons, rule_reason, plan_reasons, margin_reasons, given_reasons, dossier_reasons}
use Rattle.dossier_check.specs.Verdicts.{NothingStandsAgainstAccepted}
use Rattle.dossier_check.proofs.CutLaws.{cuts_of_none, none_of_cuts}
use Rattle.dossier_check.proofs.PassLaws.{nil_of_holds, joined_nil, pass_for, all_pass, none_stands}
use Rattle.dossier_check.proofs.StandLaws.{tickets, parents, placed, lawful, each_passes}
use Rattle.dossier_check.proofs.GreatestLaws.{bound_by_test, test_by_bound}

-- ---- the answer

fits_by_test : (answer : Word3) (margin bound : Option ℤ) (plan : Option (List OpLine)) → fits_answer answer margin bound plan ≡ true →
    FitsAnswer answer margin bound plan
fits_by_test Plan (Some margin) bound (Some lines) is = tt
fits_by_test Plan (Some margin) bound None is = cc
fits_by_test Plan None bound plan is = cc
fits_by_test Infeasible None None None is = tt
fits_by_test Infeasible None None (Some lines) is = cc
fits_by_test Infeasible None (Some bound) plan is = cc
fits_by_test Infeasible (Some margin) bound plan is = cc
fits_by_test Open3 None (Some bound) None is = tt
fits_by_test Open3 None (Some bound) (Some lines) is = cc
fits_by_test Open3 None None plan is = cc
fits_by_test Open3 (Some margin) bound plan is = cc

test_by_fits : (answer : Word3) (margin bound : Option ℤ) (plan : Option (List OpLine)) → FitsAnswer answer margin bound plan →
    fits_answer answer margin bound plan ≡ true
test_by_fits Plan (Some margin) bound (Some lines) fits = refl
test_by_fits Plan (Some margin) bound None fits = absurd fits
test_by_fits Plan None bound plan fits = absurd fits
test_by_fits Infeasible None None None fits = refl
test_by_fits Infeasible None None (Some lines) fits = absurd fits
test_by_fits Infeasible None (Some bound) plan fits = absurd fits
test_by_fits Infeasible (Some margin) bound plan fits = absurd fits
test_by_fits Open3 None (Some bound) None fits = refl
test_by_fits Open3 None (Some bound) (Some lines) fits = absurd fits
test_by_fits Open3 None None plan fits = absurd fits
test_by_fits Open3 (Some margin) bound plan fits = absurd fits

-- ---- the plan

unmapped : {X Y : Type 0} (f : X → Y) (xs : List X) → map f xs ≡ [] → xs ≡ []
unmapped f [] none = refl
unmapped f (x ∷ xs) none = absurd (cc)

legal_of_none : (parts : Parts) (plan : List Timed) → map rule_reason (plan_faults parts ByStart plan) ≡ [] → IsLegal parts plan
unfolding first_broken_in
legal_of_none parts plan none = ap first_of (unmapped rule_reason (plan_faults parts ByStart plan) none)

none_of_legal : (parts : Parts) (plan : List Timed) → IsLegal parts plan → map rule_reason (plan_faults parts ByStart plan) ≡ []
unfolding first_broken_in
none_of_legal parts plan legal = ap (map rule_reason) (nil_of_none (plan_faults parts ByStart plan) legal)

module _ (parts : Parts) (n : ℕ) (margin : ℤ) (plan : List Timed) where
  abbrev is_short : Bool
  is_short = nat_le (length plan) n

  abbrev is_earned : Bool
  is_earned = int_eq margin (margin_of parts plan)

  plan_of_none : plan_reasons parts n plan ++ margin_reasons (Some margin) (margin_of parts plan) ≡ [] →
      IsCasePlan (plain parts n) plan × (margin_of parts plan ≡ margin)
  unfolding plan_reasons
  plan_of_none none =
      let both = nil_of_append (plan_reasons parts n plan) (margin_reasons (Some margin) (margin_of parts plan)) none in
      let rules = nil_of_append (unless is_short (reason 17 (8 + n + 1))) (map rule_reason (plan_faults parts ByStart plan)) both.0 in (
        record {
          legal = legal_of_none parts plan rules.1;
          short = leb-true (length plan) n (holds_of_nil is_short (reason 17 (8 + n + 1)) rules.0);
          goes_on = tt;
        },
        sym ((Decides-int_eq margin (margin_of parts plan)).0 (holds_of_nil is_earned (reason 18 6) both.1)),
      )

  none_of_plan : IsCasePlan (plain parts n) plan → margin_of parts plan ≡ margin →
      plan_reasons parts n plan ++ margin_reasons (Some margin) (margin_of parts plan) ≡ []
  unfolding plan_reasons
  none_of_plan is earns =
      joined_nil (plan_reasons parts n plan) (margin_reasons (Some margin) (margin_of parts plan))
      (joined_nil (unless is_short (reason 17 (8 + n + 1))) (map rule_reason (plan_faults parts ByStart plan))
      (nil_of_holds is_short (reason 17 (8 + n + 1)) (le-leb (length plan) n is.short)) (none_of_legal parts plan is.legal))
      (nil_of_holds is_earned (reason 18 6) ((Decides-int_eq margin (margin_of parts plan)).1 (sym earns)))

module _ (parts : Parts) (n : ℕ) where
  given_of_none : (margin : Option ℤ) (plan : Option (List OpLine)) → given_reasons parts n margin plan ≡ [] → IsGivenPlan (plain parts n) margin plan
  given_of_none (Some margin) (Some lines) none = plan_of_none parts n margin (plan_of parts lines) none
  given_of_none (Some margin) None none = tt
  given_of_none None (Some lines) none = tt
  given_of_none None None none = tt

  none_of_given : (answer : Word3) (margin bound : Option ℤ) (plan : Option (List OpLine)) → FitsAnswer answer margin bound plan →
      IsGivenPlan (plain parts n) margin plan →
      given_reasons parts n margin plan ≡ []
  none_of_given answer (Some margin) bound (Some lines) fits given = none_of_plan parts n margin (plan_of parts lines) given.0 given.1
  none_of_given answer margin bound None fits given = refl
  none_of_given Plan None bound (Some lines) fits given = absurd fits
  none_of_given Infeasible None None (Some lines) fits given = absurd fits
  none_of_given Infeasible None (Some bound) (Some lines) fits given = absurd fits
  none_of_given Open3 None None (Some lines) fits given = absurd fits
  none_of_given Open3 None (Some bound) (Some lines) fits given = absurd fits

-- ---- slots

-- some slots, and not too many
record IsFew (n : ℕ) : Type 0 where
  some : 1 ≤ n
  most : n ≤ MOST_SLOTS

few_of_none : (dossier : Dossier) → slot_reasons dossier ≡ [] → IsFew dossier.slots
unfolding slot_reasons
few_of_none dossier none =
    let range = and_parts (nat_le 1 dossier.slots) (nat_le dossier.slots MOST_SLOTS)
    (holds_of_nil (nat_le 1 dossier.slots && nat_le dossier.slots MOST_SLOTS) (reason 3 3) none) in
    record { some = leb-true 1 dossier.slots range.0; most = leb-true dossier.slots MOST_SLOTS range.1 }

none_of_few : (dossier : Dossier) → IsFew dossier.slots → slot_reasons dossier ≡ []
unfolding slot_reasons
none_of_few dossier few =
    nil_of_holds (nat_le 1 dossier.slots && nat_le dossier.slots MOST_SLOTS) (reason 3 3)
    (and_from (nat_le 1 dossier.slots) (nat_le dossier.slots MOST_SLOTS) (le-leb 1 dossier.slots few.some) (le-leb dossier.slots MOST_SLOTS few.most))

-- ---- the dossier

module _ (parts : Parts) (halves : PartsAreBoxes) (within : NodeBoxesStayWithin) (roots : PlainRootsAreBoxes parts) (dossier : Dossier)
    (readable : IsReadable dossier) where
  abbrev setting : Setting
  setting = setting_of parts dossier

  abbrev first : ℕ
  first = first_node_line dossier

  -- what stands before the tree, and what behind it
  abbrev head_reasons : List Reason
  head_reasons = slot_reasons dossier ++ cut_reasons parts dossier

  abbrev bound_fits : Bool
  bound_fits = is_same dossier.bound (greatest_of setting dossier)

  abbrev answer_fits : Bool
  answer_fits = fits_answer dossier.answer dossier.margin dossier.bound dossier.plan

  abbrev given : List Reason
  given = given_reasons parts dossier.slots dossier.margin dossier.plan

  accepted_of_none : dossier_reasons parts dossier ≡ [] → IsAccepted parts dossier
  unfolding dossier_reasons tree_reasons claim_reasons greatest_of
  accepted_of_none none =
      let five = nil_of_append (head_reasons ++ tree_reasons setting dossier ++ claim_reasons dossier (greatest_of setting dossier)) given none in
      let four = nil_of_append (head_reasons ++ tree_reasons setting dossier) (claim_reasons dossier (greatest_of setting dossier)) five.0 in
      let three = nil_of_append head_reasons (tree_reasons setting dossier) four.0 in
      let two = nil_of_append (slot_reasons dossier) (cut_reasons parts dossier) three.0 in
      let tests = nil_of_append (unless bound_fits (reason 15 7)) (unless answer_fits (reason 16 5)) four.1 in
      let few = few_of_none dossier two.0 in
      let root_is : IsBox (root_box setting.case) = roots dossier.slots few.some few.most in
      let all = all_pass (pass_for setting dossier.nodes first) dossier.tree three.1 in
      let count = readable.all_nodes in
      record {
        some_slots = few.some;
        most_slots = few.most;
        cuts = cuts_of_none parts dossier two.1;
        tickets = tickets setting dossier.nodes first dossier.tree halves root_is count all;
        parents = parents setting dossier.nodes first dossier.tree halves root_is count all;
        nodes = lawful setting dossier.nodes first dossier.tree halves root_is count all;
        bound = bound_by_test setting dossier.tree (placed setting dossier.nodes first dossier.tree halves root_is count all) dossier.bound
            (holds_of_nil bound_fits (reason 15 7) tests.0);
        answer = fits_by_test dossier.answer dossier.margin dossier.bound dossier.plan (holds_of_nil answer_fits (reason 16 5) tests.1);
        plan = given_of_none parts dossier.slots dossier.margin dossier.plan five.1;
      }

  none_of_accepted : IsAccepted parts dossier → dossier_reasons parts dossier ≡ []
  unfolding dossier_reasons tree_reasons claim_reasons greatest_of
  none_of_accepted is =
      let root_is : IsBox (root_box setting.case) = roots dossier.slots is.some_slots is.most_slots in
      let all = each_passes setting dossier.nodes first dossier.tree within root_is is.tickets is.parents is.nodes in
      let here = placed setting dossier.nodes first dossier.tree halves root_is readable.all_nodes all in
      joined_nil (head_reasons ++ tree_reasons setting dossier ++ claim_reasons dossier (greatest_of setting dossier)) given
      (joined_nil (head_reasons ++ tree_reasons setting dossier) (claim_reasons dossier (greatest_of setting dossier))
      (joined_nil head_reasons (tree_reasons setting dossier)
      (joined_nil (slot_reasons dossier) (cut_reasons parts dossier) (none_of_few dossier (record { some = is.some_slots; most = is.most_slots }))
      (none_of_cuts parts dossier is.cuts))
      (none_stands (pass_for setting dossier.nodes first) dossier.tree all))
      (joined_nil (unless bound_fits (reason 15 7)) (unless answer_fits (reason 16 5))
      (nil_of_holds bound_fits (reason 15 7) (test_by_bound setting dossier.tree here dossier.bound is.bound))
      (nil_of_holds answer_fits (reason 16 5) (test_by_fits dossier.answer dossier.margin dossier.bound dossier.plan is.answer))))
      (none_of_given parts dossier.slots dossier.answer dossier.margin dossier.bound dossier.plan is.answer is.plan)

pub nothing_stands_against_accepted : (parts : Parts) → PartsAreBoxes → NodeBoxesStayWithin → PlainRootsAreBoxes parts → NothingStandsAgainstAccepted parts
nothing_stands_against_accepted parts halves within roots dossier readable =
    (accepted_of_none parts halves within roots dossier readable, none_of_accepted parts halves within roots dossier readable)
