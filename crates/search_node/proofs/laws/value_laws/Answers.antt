use Rattle.std.proofs.Common.{refl}
use Rattle.leaf_value.specs.Settings.{plain_setting}
use Rattle.search_node.proofs.OfferLaws.{plans_may_be_offered}
use Rattle.search_node.proofs.PartLaws.{lawful_entries_are_there, parts_are_below_the_whole}
use Rattle.search_node.proofs.ValueLaws.{low_values_contradict, points_are_below_duals, points_are_told}
use Rattle.search_node.proofs.ZeroLaws.{zeros_change_nothing}
use Rattle.search_node.proofs.laws.value_laws.Goals as goal

pub returns : goal.returns
returns c =
    let parts = c.args.plant.now in
    let only = c.box_laws.ensures.only in
    let losses = c.slot_row_laws.ensures.losses in
    record {
      zeros = λ n. zeros_change_nothing (plain_setting parts n);
      low = λ n. low_values_contradict parts n c.dual_laws.ensures.low losses;
      points = λ n. points_are_below_duals parts n only (c.leaf_laws.ensures.leaves (plain_setting parts n) refl);
      there = λ n. lawful_entries_are_there (plain_setting parts n);
      parts = λ n. parts_are_below_the_whole parts n c.sound.ensures.plant c.named_row_laws.ensures.splits;
      offers = plans_may_be_offered parts c.sound.ensures.plant (c.legal_plan_laws.ensures.ranges parts);
      told = λ n. points_are_told parts n c.sound.ensures.plant only losses c.dual_laws.ensures.points c.row_form_laws.ensures.columns
          c.named_row_laws.ensures.ranges c.named_row_laws.ensures.objective;
    }
