-- What several workers do with tasks, as plain lists, whoever of them took which task, and when.
use Rattle.std.specs.Prelude.{ℕ, List, None, [], ◌∷◌, ◌++◌, All, IsPermutation}
use Rattle.slot_box.specs.declared.slot.Slot.{Slot}
use Rattle.number_counts.specs.Counts.{HasEachBelow}
use Rattle.work_chains.specs.Chains.{tickets_of}
use Rattle.work_chains.specs.BoxChains.{BoxTask, BoxNote, AreBoxChains, AreSettledFrom}

-- a worker's share of the work: the tasks that came to it, and those that it kept of what its chains handed on; the
-- others it pushed to where any worker may find them. It took what came and what it kept, and noted all chains of that
pub record Share : Type 0 where
  pub came : List BoxTask
  pub kept : List BoxTask
  pub pushed : List BoxTask
  pub taken : List BoxTask
  pub handed : List BoxTask
  pub notes : List BoxNote

-- so it is, in any order
pub record IsShare (share : Share) : Type 0 where
  pub chains : AreBoxChains share.taken share.notes share.handed None
  pub takes : IsPermutation share.taken (share.came ++ share.kept)
  pub hands : IsPermutation share.handed (share.pushed ++ share.kept)

-- the tasks that came to all workers
abbrev pub all_came : List Share → List BoxTask
all_came [] = []
all_came (share ∷ shares) = share.came ++ all_came shares

-- those that they pushed
abbrev pub all_pushed : List Share → List BoxTask
all_pushed [] = []
all_pushed (share ∷ shares) = share.pushed ++ all_pushed shares

-- the notes of all workers
abbrev pub all_notes : List Share → List BoxNote
all_notes [] = []
all_notes (share ∷ shares) = share.notes ++ all_notes shares

-- where what came to all workers is the root's task and what all pushed, each task once, the notes of all are those of
-- a whole search tree, if their tickets are the numbers below t, each once
abbrev pub SharesSettle : Type 0
SharesSettle =
    (root : List Slot) (t : ℕ) (shares : List Share) → All IsShare shares
    → IsPermutation (all_came shares) ((0, root) ∷ all_pushed shares) → HasEachBelow t (tickets_of (all_notes shares))
    → AreSettledFrom root (all_notes shares) t
