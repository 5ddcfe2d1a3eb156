use Rattle.std.proofs.Common.{◌≡◌, drop}
use Rattle.serde_json.specs.View.{items_view}
use Rattle.plant_text.specs.Kinds.{whole_number, each_in}
use Rattle.plant_text.proofs.Lists.{after}
use Rattle.plant_text.proofs.kinds.whole_numbers_in.Given as goal

abbrev pub invariant-loop-value : goal.invariant-loop-value
invariant-loop-value l = after l.numbers.items (each_in whole_number (items_view (drop l.value-index l.values))) ≡ each_in whole_number (items_view l.values)
