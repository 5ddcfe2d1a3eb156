-- What each step tells whoever makes it.
use Rattle.std.specs.Prelude.{◌≡◌, ℕ, ◌<◌, ◌≤◌, length}
use Rattle.atomic_table.specs.Table.{Me, Step}
use Rattle.number_counts.specs.Counts.{times}
use Rattle.search_board.specs.declared.known.Known.{Known}
use Rattle.search_board.specs.Margins.{most_word}
use Rattle.search_board.specs.inside.Views.{with_ticket, with_spent, with_offer, with_look}

-- who makes a step: its view, and no slot
abbrev pub Sitter : Type 0
Sitter = Me (Unit {0}) Known

-- the number that the counter had is a new ticket where it is below the budget, and else no ticket is left
pub record Draws (step : Step (Unit {0})) (me : Sitter) (number : ℕ) (new : Sitter) : Type 0 where
  pub slots : new.1 ≡ me.1
  pub given : number < me.0.budget → (new.0 ≡ with_ticket me.0 number) × (length me.0.tickets < me.0.budget)
      × (times number me.0.tickets ≡ 0)
  pub refused : me.0.budget ≤ number → new.0 ≡ with_spent me.0 number

-- the word is offered
abbrev pub Offers : Step (Unit {0}) → Sitter → ℕ → Sitter → Type 0
Offers step me word new = (new.1 ≡ me.1) × (new.0 ≡ with_offer me.0 step.first)

-- the word is seen, which is at least what the seat saw and offered
pub record Looks (step : Step (Unit {0})) (me : Sitter) (word : ℕ) (new : Sitter) : Type 0 where
  pub slots : new.1 ≡ me.1
  pub view : new.0 ≡ with_look me.0 word
  pub seen : me.0.seen ≤ word
  pub offer : me.0.offer ≤ word
  pub small : word ≤ most_word

-- nothing is learned
abbrev pub Stays : Step (Unit {0}) → Sitter → ℕ → Sitter → Type 0
Stays step me word new = (new.1 ≡ me.1) × (new.0 ≡ me.0)
