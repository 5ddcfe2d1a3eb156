-- What is so of words, whatever the plant: the exchange argument.
use Rattle.std.specs.Prelude.{◌≡◌, List, ◌++◌}
use Rattle.std.specs.List.Sorted.{IsPermutation}
use Rattle.plant_model.specs.declared.parts.Parts.{Parts}
use Rattle.replay_core.specs.declared.timed.Timed.{Timed}
use Rattle.replay_core.specs.declared.order.Order.TheVariants.{BySlot}
use Rattle.replay_core.specs.Legal.{IsLegal, IsLegalIn}
use Rattle.replay_core.specs.Margin.{margin_of}
use Rattle.slot_words.specs.Swaps.{AreEquivalent, MeansTheSame}
use Rattle.slot_words.specs.ByStart.{IsByStart}

-- a legal plan, read as a word, breaks no rule either
abbrev pub PlansAreSlotLegal : Parts → Type 0
PlansAreSlotLegal parts = (plan : List Timed) → IsLegal parts plan → IsLegalIn parts BySlot plan

-- swaps of independent neighbours keep what a word means, behind whatever has been held fast before it
abbrev pub SwapsKeepTheMeaning : Parts → Type 0
SwapsKeepTheMeaning parts =
    (held word other : List Timed) → AreEquivalent parts word other → MeansTheSame parts (held ++ word) (held ++ other)

-- and its operations
abbrev pub SwapsKeepTheEntries : Parts → Type 0
SwapsKeepTheEntries parts = (word other : List Timed) → AreEquivalent parts word other → IsPermutation word other

-- the plan of a word: legal, and of the same margin
pub record IsPlanOfWord (parts : Parts) (word plan : List Timed) : Type 0 where
  pub legal : IsLegal parts plan
  pub margin : margin_of parts plan ≡ margin_of parts word

-- a word that breaks no rule is a plan once its operations are in the order of their starts
abbrev pub SortedWordsArePlans : Parts → Type 0
SortedWordsArePlans parts =
    (word sorted : List Timed) → IsByStart word sorted → IsLegalIn parts BySlot word → IsPlanOfWord parts word sorted
