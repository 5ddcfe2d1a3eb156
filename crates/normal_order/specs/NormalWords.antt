-- Normal words: of all words that are equivalent the one whose operation numbers come first.
use Rattle.std.specs.Prelude.{◌≡◌, ℕ, ◌<◌, Bool, true, false, ◌&&◌, ◌||◌, ◌==◌, nat_lt, IsTrue, List, [], ◌∷◌, map, All}
use Rattle.std.specs.List.{filter}
use Rattle.plant_model.specs.declared.parts.Parts.{Parts}
use Rattle.plant_model.specs.Parts.{op_count_of}
use Rattle.replay_core.specs.declared.timed.Timed.{Timed}
use Rattle.slot_automaton.specs.Normal.{IsNormal}
use Rattle.overlap_graph.specs.Independence.{independence_of}
use Rattle.slot_words.specs.Swaps.{AreEquivalent}

-- the operation numbers of a word
abbrev pub ops_of : List Timed → List ℕ
ops_of word = map (λ (t : Timed). t.op) word

-- the plant has each operation of the word
abbrev pub AreKnown : Parts → List Timed → Type 0
AreKnown parts word = All (λ (t : Timed). t.op < op_count_of parts) word

-- no operation comes late that could have come before a greater one
abbrev pub IsNormalWord : Parts → List Timed → Type 0
IsNormalWord parts word = IsNormal (independence_of parts) (ops_of word)

-- the first list is the other, or the first number in which they differ is the less, as of two words in a book
abbrev pub is_no_later : List ℕ → List ℕ → Bool
is_no_later [] other = true
is_no_later (a ∷ word) [] = false
is_no_later (a ∷ word) (b ∷ other) = nat_lt a b || (a == b && is_no_later word other)

-- the operation has that number
abbrev pub is_op : ℕ → Timed → Bool
is_op v t = t.op == v

-- of all words that are equivalent to the word, the normal one
pub record IsNormalForm (parts : Parts) (word form : List Timed) : Type 0 where
  pub equivalent : AreEquivalent parts word form
  pub normal : IsNormalWord parts form
  -- no other has operation numbers that come before
  pub least : (other : List Timed) → AreEquivalent parts word other → IsTrue (is_no_later (ops_of form) (ops_of other))
  -- equal operations keep their order
  pub in_turn : (v : ℕ) → filter (is_op v) form ≡ filter (is_op v) word
