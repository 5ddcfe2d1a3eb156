-- What holds of chains, whoever made them.
use Rattle.std.specs.Prelude.{ℕ, ◌+◌, ◌*◌, Some, None, List, [], ◌∷◌, ◌++◌}
use Rattle.slot_box.specs.declared.slot.Slot.{Slot}
use Rattle.slot_box.specs.declared.split.Split.{Split}
use Rattle.slot_box.specs.Splits.{left_of, right_of}
use Rattle.number_counts.specs.Counts.{HasEachBelow}
use Rattle.work_chains.specs.Chains.{inner_note, leaf_note, tickets_of, TakesAllHanded}
use Rattle.work_chains.specs.BoxChains.{BoxTask, BoxNote, DividesBox, AreBoxChains, AreSettledFrom}

-- where all chains have ended, a further task may be taken into the hand
abbrev pub ChainsTake : Type 0
ChainsTake =
    (taken handed : List BoxTask) (notes : List BoxNote) (task : BoxTask) → AreBoxChains taken notes handed None
    → AreBoxChains (taken ++ task ∷ []) notes handed (Some task)

-- the node in hand may be closed
abbrev pub ChainsClose : Type 0
ChainsClose =
    (taken handed : List BoxTask) (notes : List BoxNote) (id : ℕ) (box : List Slot)
    → AreBoxChains taken notes handed (Some (id, box))
    → AreBoxChains taken (notes ++ leaf_note id box ∷ []) handed None

-- or divided under a ticket
abbrev pub ChainsDivide : Type 0
ChainsDivide =
    (taken handed : List BoxTask) (notes : List BoxNote) (id : ℕ) (box : List Slot) (ticket : ℕ) (split : Split)
    → DividesBox box split → AreBoxChains taken notes handed (Some (id, box))
    → AreBoxChains taken (notes ++ inner_note id box ticket split ∷ [])
    (handed ++ (2 * ticket + 2, right_of box split) ∷ []) (Some (2 * ticket + 1, left_of box split))

-- notes that are the chains of all tasks, of the root's and of whatever was handed on, are those of a whole search
-- tree, if their tickets are the numbers below t, each once. No order of the tasks, the notes or the tickets matters
abbrev pub ChainsSettle : Type 0
ChainsSettle =
    (root : List Slot) (t : ℕ) (taken handed : List BoxTask) (notes : List BoxNote)
    → AreBoxChains taken notes handed None → TakesAllHanded root taken handed → HasEachBelow t (tickets_of notes)
    → AreSettledFrom root notes t
