use Rattle.std.proofs.Common.{◌≡◌, ◌-◌, [], ap, ◌∙◌, sym, subst, length}
use Rattle.std.specs.List.{swap}
use Rattle.std.proofs.lemmas.List.Edits.{length-swap}
use Rattle.slot_words.specs.Swaps.{AreEquivalent}
use Rattle.slot_words.proofs.WordLaws.{swap_at_is_equivalent, given_back}
use Rattle.slot_words.proofs.words.swap.Goals as goal

pub returns-clause-equivalent : goal.returns-clause-equivalent
returns-clause-equivalent c =
    let word = c.args.word.now in
    let at = c.args.at in
    let after : c.swap.new.self ≡ swap word (at - 1) at = c.swap.ensures.after ∙ ap (λ xs. swap xs (at - 1) at) c.as_mut_slice.ensures.value in
    let back = given_back word c.swap.new.self (ap length after ∙ length-swap word (at - 1) at) in
    subst (λ other. AreEquivalent c.args.plant.now word other) (sym (back ∙ after))
    (swap_at_is_equivalent c.args.plant.now word at c.requires.from_one c.requires.there c.requires.independent)

pub returns-clause-same : goal.returns-clause-same
returns-clause-same c = c.word_laws.ensures.meaning [] _ _ (returns-clause-equivalent c)

pub returns-clause-entries : goal.returns-clause-entries
returns-clause-entries c = c.word_laws.ensures.entries _ _ (returns-clause-equivalent c)
