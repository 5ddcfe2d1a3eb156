-- Chains of which the boxes do not count, only the numbers of the nodes and the tickets.
use Rattle.std.specs.Prelude.{ℕ, Option, List}
use Rattle.work_chains.specs.Chains.{Noted, AreChains, AreSettled}

-- nothing, in place of a box or of a split
abbrev pub Nothing : Type 0
Nothing = Unit {0}

-- a task: the number of a node
abbrev pub NodeTask : Type 0
NodeTask = ℕ × Nothing

-- a note: the number of a node, and its ticket if it was divided
abbrev pub NodeNote : Type 0
NodeNote = Noted Nothing Nothing

-- chains of nodes, each of which may be divided
abbrev pub AreNodeChains : List NodeTask → List NodeNote → List NodeTask → Option NodeTask → Type 0
AreNodeChains taken notes handed hand = AreChains (λ _ _. Unit {0}) (λ _ _. tt) (λ _ _. tt) taken notes handed hand

-- notes of a whole search tree with t nodes divided
abbrev pub AreSettledNodes : List NodeNote → ℕ → Type 0
AreSettledNodes notes t = AreSettled {S = Nothing} (λ _ _. tt) (λ _ _. tt) tt notes t
