-- The public laws of words.
use Rattle.std.proofs.Common.{◌++◌}
use Rattle.plant_model.specs.declared.parts.Parts.{Parts}
use Rattle.plant_model.specs.Sound.{SoundPlant}
use Rattle.slot_words.specs.Laws.{PlansAreSlotLegal, SwapsKeepTheMeaning, SwapsKeepTheEntries, SortedWordsArePlans}
use Rattle.slot_words.proofs.ChainLaws.{behind, equivalent_mean_the_same, same_entries}
use Rattle.slot_words.proofs.StartLaws.{plan_is_slot_legal}
use Rattle.slot_words.proofs.SortLaws.{sorted_word_is_plan}

pub plans_are_slot_legal : (parts : Parts) → PlansAreSlotLegal parts
plans_are_slot_legal parts plan legal = plan_is_slot_legal parts plan legal

pub swaps_keep_the_meaning : (parts : Parts) → SoundPlant parts → SwapsKeepTheMeaning parts
swaps_keep_the_meaning parts sound held word other chain =
    equivalent_mean_the_same parts (held ++ word) (held ++ other) sound (behind parts held word other chain)

pub swaps_keep_the_entries : (parts : Parts) → SwapsKeepTheEntries parts
swaps_keep_the_entries parts word other chain = same_entries parts word other chain

pub sorted_words_are_plans : (parts : Parts) → SoundPlant parts → SortedWordsArePlans parts
sorted_words_are_plans parts sound word sorted is legal =
    let plan = sorted_word_is_plan parts word sorted sound is legal in
    record { legal = plan.0; margin = plan.1 }
