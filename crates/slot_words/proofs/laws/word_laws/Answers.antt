use Rattle.slot_words.proofs.LawsOfWords.{plans_are_slot_legal, swaps_keep_the_meaning, swaps_keep_the_entries, sorted_words_are_plans}
use Rattle.slot_words.proofs.laws.word_laws.Goals as goal

pub returns-clause-plans : goal.returns-clause-plans
returns-clause-plans c = plans_are_slot_legal c.args.plant.now

pub returns-clause-meaning : goal.returns-clause-meaning
returns-clause-meaning c = swaps_keep_the_meaning c.args.plant.now c.sound.ensures.plant

pub returns-clause-entries : goal.returns-clause-entries
returns-clause-entries c = swaps_keep_the_entries c.args.plant.now

pub returns-clause-sorted : goal.returns-clause-sorted
returns-clause-sorted c = sorted_words_are_plans c.args.plant.now c.sound.ensures.plant
