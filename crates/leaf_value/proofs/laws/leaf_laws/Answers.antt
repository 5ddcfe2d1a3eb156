use Rattle.std.proofs.Common.{◌≡◌, sym, subst}
use Rattle.named_rows.specs.Laws.{DualValuesBoundMargins, EmptyBoxesHaveNoForm}
use Rattle.slot_forms.specs.Forms.{PlansHaveForms}
use Rattle.leaf_value.specs.Settings.{Setting}
use Rattle.leaf_value.proofs.LeafLaws.{leaves_reach_forms, tree_bounds_are_true}
use Rattle.leaf_value.proofs.laws.leaf_laws.Goals as goal

pub returns : goal.returns
returns c =
    let boxes = c.box_laws.ensures in
    let trees = c.tree_laws.ensures in
    let forms = c.form_laws.ensures in
    let rows = c.named_row_laws.ensures in
    let reach = λ (setting : Setting) (same : setting.case.parts ≡ c.args.plant.now).
    leaves_reach_forms setting boxes.only (subst DualValuesBoundMargins (sym same) rows.bounds)
    (subst EmptyBoxesHaveNoForm (sym same) rows.empty) in
    record {
      leaves = reach;
      bounds = λ setting same root sized.
          tree_bounds_are_true setting trees.cover trees.within root sized
          (subst (λ parts. PlansHaveForms (record { parts = parts; slots = setting.case.slots; begun = setting.case.begun })) (sym same)
          (forms.forms setting.case.slots setting.case.begun))
          (reach setting same);
    }
