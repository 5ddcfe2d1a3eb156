-- What answers are not.
use Rattle.std.specs.Prelude.{◌≡◌, ℕ, ℤ, Some}
use Rattle.slot_box.specs.declared.node.Leaf.TheVariants.{Point}
use Rattle.search_node.specs.declared.looked.Examined.{Examined}
use Rattle.search_node.specs.declared.looked.Examined.TheVariants.{Closed}
use Rattle.search_node.specs.Looks.{SaysDead}

-- not that the box is dead
abbrev pub IsNotDead : Examined → Type 0
IsNotDead what = (at : ℕ) → SaysDead what at → ⊥

-- not that it is one point which has a value
abbrev pub IsNotPoint : Examined → Type 0
IsNotPoint what = (margin : ℤ) → what ≡ Closed Point (Some margin) → ⊥
