-- A deck as contracts see it: its owner, its door and its passes.
use Rattle.std.specs.Prelude.{◌≡◌, ℕ, suc, List, [], ◌∷◌}
use Rattle.std.specs.Global.{Global}
use Rattle.atomic_blocks.specs.Lent.{RowsId}
use Rattle.crossbeam_deque.specs.Handles.{view, IsPassOf, worker_deque, worker_view, stealer_deque}
use Rattle.slot_box.specs.Tasks.{TaskParts}
use Rattle.task_deck.specs.declared.ends.Door.{Door}
use Rattle.task_deck.specs.declared.ends.DoorPass.{DoorPass}
use Rattle.task_deck.specs.declared.ends.Owner.{Owner}

-- which deck it is
abbrev pub DeckId : Type 0
DeckId = RowsId × Global

-- the deck of an owner
abbrev pub deck_of : Owner → DeckId
deck_of owner = worker_deque owner.deque

-- the deck to which a door leads
abbrev pub deck_behind : Door → DeckId
deck_behind door = stealer_deque door.stealer

-- an owner: what it pushed and what it popped, in these orders, and how many passes it made
pub record OwnerView : Type 0 where
  pub pushed : List TaskParts
  pub popped : List TaskParts
  pub passes : ℕ

-- the view of an owner
abbrev pub owner_view : Owner → OwnerView
owner_view owner = record {
  pushed = (worker_view owner.deque).pushed;
  popped = (worker_view owner.deque).taken;
  passes = (worker_view owner.deque).passes;
}

-- a pass: its number, and what was stolen by it
pub record PassView : Type 0 where
  pub number : ℕ
  pub stolen : List TaskParts

-- the view of a pass
abbrev pub pass_view : DoorPass → PassView
pass_view pass = record { number = (view pass.mark).number; stolen = (view pass.mark).taken }

-- the pass is one of this deck
abbrev pub IsPassOfDeck : DeckId → DoorPass → Type 0
IsPassOfDeck deck pass = IsPassOf deck pass.mark

-- what was stolen by each of these passes
abbrev pub stolen_by : List DoorPass → List (List TaskParts)
stolen_by [] = []
stolen_by (pass ∷ passes) = (pass_view pass).stolen ∷ stolen_by passes

-- passes of this deck, by their numbers from this one on
abbrev pub ArePassesFrom : DeckId → ℕ → List DoorPass → Type 0
ArePassesFrom deck number [] = Unit {0}
ArePassesFrom deck number (pass ∷ passes) =
    IsPassOfDeck deck pass × ((pass_view pass).number ≡ number) × ArePassesFrom deck (suc number) passes
