-- What a worker finds where it works, and the seat, the deck and the passes with which it begins.
use Rattle.std.specs.Prelude.{◌≡◌, ℕ, ◌+◌, ◌<◌, ◌≤◌, All, List, None, [], length, slice_index_or}
use Rattle.limits.specs.declared.TheConstants.{MOST_NODES, MOST_SLOTS}
use Rattle.overlap_graph.specs.Cliques.{cliques_of}
use Rattle.overlap_graph.specs.Independence.{independence_of}
use Rattle.search_board.specs.Seats.{BoardView, SeatView}
use Rattle.task_deck.specs.declared.ends.Door.{Door}
use Rattle.task_deck.specs.declared.ends.DoorPass.{DoorPass}
use Rattle.task_deck.specs.Decks.{IsPassOfDeck, deck_behind, deck_of, owner_view, pass_view}
use Rattle.branch_worker.specs.declared.site.Me.{Me}
use Rattle.branch_worker.specs.declared.site.Site.{Site}

-- the cliques and the automaton are those of the plant; slots and tickets are within their limits
pub record IsSite (site : Site) : Type 0 where
  pub cliques : site.cliques.now ≡ cliques_of site.plant.now
  pub automaton : site.automaton.now ≡ independence_of site.plant.now
  pub few_slots : site.n ≤ MOST_SLOTS
  pub few_tickets : site.board.now.budget ≤ MOST_NODES

-- a seat of the board that has drawn, offered and seen nothing by itself
pub record IsFreshSeat (board : BoardView) (seat : SeatView) : Type 0 where
  pub of_board : seat.board ≡ board
  pub no_tickets : seat.tickets ≡ []
  pub no_offer : seat.offer ≡ None
  pub no_look : seat.looks ≡ 0

-- one pass for each door but that of this number, in the order of the doors
pub record ArePassesOfOthers (number : ℕ) (doors : List Door) (passes : List DoorPass) : Type 0 where
  pub each : length doors ≡ length passes + 1
  pub before : (i : ℕ) (door : Door) (pass : DoorPass) → i < length passes → i < number →
      IsPassOfDeck (deck_behind (slice_index_or doors i door)) (slice_index_or passes i pass)
  pub after : (i : ℕ) (door : Door) (pass : DoorPass) → i < length passes → number ≤ i →
      IsPassOfDeck (deck_behind (slice_index_or doors (i + 1) door)) (slice_index_or passes i pass)

-- the worker's own deck is that of the door of its number, and nothing was pushed to it or popped from it yet; it has
-- a pass for each other door, by which nothing was stolen yet
pub record IsAtDoors (doors : List Door) (me : Me) : Type 0 where
  pub door : me.number < length doors
  pub deck : (door : Door) → deck_of me.owner ≡ deck_behind (slice_index_or doors me.number door)
  pub none_pushed : (owner_view me.owner).pushed ≡ []
  pub none_popped : (owner_view me.owner).popped ≡ []
  pub passes : ArePassesOfOthers me.number doors me.passes
  pub none_stolen : All (λ pass. (pass_view pass).stolen ≡ []) me.passes
