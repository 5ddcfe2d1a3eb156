use Rattle.slot_automaton.proofs.WordLemmas.{empty_is_normal, parts_are_normal, blocked_are_closing, normal_grows, blocked_grow}
use Rattle.slot_automaton.proofs.laws.normal_word_laws.Goals as goal

pub returns : goal.returns
returns c = record { empty = empty_is_normal; parts = parts_are_normal; blocked = blocked_are_closing; grows = normal_grows; steps = blocked_grow }
