-- Words that mean the same: one is reached from the other by swaps of neighbours that are independent.
use Rattle.std.specs.Prelude.{◌≡◌, ℕ, true, List, ◌∷◌, ◌++◌, map, slice_index}
use Rattle.plant_model.specs.declared.parts.Parts.{Parts}
use Rattle.plant_model.specs.Relations.{independent_of}
use Rattle.replay_core.specs.declared.timed.Timed.{Timed}
use Rattle.replay_core.specs.declared.order.Order.TheVariants.{BySlot}
use Rattle.replay_core.specs.State.{state_after}
use Rattle.replay_core.specs.Legal.{IsLegalIn, CanRun}
use Rattle.replay_core.specs.Margin.{margin_of}

-- two neighbours that are independent have changed places
abbrev pub IsSwap : Parts → List Timed → List Timed → Type 0
IsSwap parts word other =
    (front back : List Timed) × (s t : Timed) × (word ≡ front ++ s ∷ t ∷ back) × (other ≡ front ++ t ∷ s ∷ back)
    × (independent_of parts s.op t.op ≡ true)

-- a chain of such swaps leads from the word to the other
pub data AreEquivalent (parts : Parts) : List Timed → List Timed → Type 0 where
  itself : (word : List Timed) → AreEquivalent parts word word
  swapped : (word next last : List Timed) → IsSwap parts word next → AreEquivalent parts next last
      → AreEquivalent parts word last

-- the other word breaks no rule where the first breaks none; and already where the operations of the first can run,
-- those of the other can, every place holds the same in the end, and the margin is the same
pub record MeansTheSame (parts : Parts) (word other : List Timed) : Type 0 where
  pub legal : IsLegalIn parts BySlot word → IsLegalIn parts BySlot other
  pub can_run : CanRun parts BySlot word → CanRun parts BySlot other
  pub held : CanRun parts BySlot word → state_after parts other ≡ state_after parts word
  pub margin : CanRun parts BySlot word → margin_of parts other ≡ margin_of parts word

-- which operation the entry of a word is, counted from 0
abbrev pub op_at : List Timed → ℕ → ℕ
op_at word k = slice_index (map (λ (t : Timed). t.op) word) k
