-- What is so of normal words.
use Rattle.std.specs.Prelude.{IsTrue, List}
use Rattle.plant_model.specs.declared.parts.Parts.{Parts}
use Rattle.replay_core.specs.declared.timed.Timed.{Timed}
use Rattle.slot_words.specs.Swaps.{AreEquivalent}
use Rattle.normal_order.specs.NormalWords.{ops_of, AreKnown, IsNormalWord, is_no_later, IsNormalForm}

-- each word of known operations has a normal form
abbrev pub WordsHaveNormalForms : Parts → Type 0
WordsHaveNormalForms parts = (word : List Timed) → AreKnown parts word →
    (form : List Timed) × IsNormalForm parts word form

-- a normal word comes before all words that are equivalent to it
abbrev pub NormalWordsAreLeast : Parts → Type 0
NormalWordsAreLeast parts =
    (normal other : List Timed) → AreKnown parts normal → IsNormalWord parts normal → AreEquivalent parts normal other
    → IsTrue (is_no_later (ops_of normal) (ops_of other))
