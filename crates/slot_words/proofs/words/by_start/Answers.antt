use Rattle.std.proofs.Common.{sym, subst, rules}
use Rattle.std.proofs.lemmas.List.Sorted.{IsNonDecreasingBy-from_sort_by_key}
use Rattle.slot_words.specs.ByStart.{IsByStart}
use Rattle.slot_words.proofs.WordLaws.{stable-from_sort_by_key}
use Rattle.slot_words.proofs.words.by_start.Goals as goal

sorted : (c : goal.After-from_vec) → IsByStart c.into_vec-steps.result.items c.sort_by_key.new.self.items
sorted c = record {
  entries = c.in_ok-sort_by_key.ensures.permutation;
  rising = IsNonDecreasingBy-from_sort_by_key (λ t. t.start) _ c.in_ok-sort_by_key.ensures.sorted (λ a r q k. search rules);
  stable = stable-from_sort_by_key c.into_vec-steps.result.items c.sort_by_key.new.self.items c.in_ok-sort_by_key.ensures.stable (λ a r q k. search rules);
}

pub returns-clause-sorted : goal.returns-clause-sorted
returns-clause-sorted c =
    subst (λ last. IsByStart c.args.word last) (sym c.from_vec.ensures)
    (subst (λ first. IsByStart first c.sort_by_key.new.self.items) c.into_vec-steps.ensures (sorted c))

pub returns-clause-plan : goal.returns-clause-plan
returns-clause-plan c legal = c.word_laws.ensures.sorted _ _ (returns-clause-sorted c) legal
