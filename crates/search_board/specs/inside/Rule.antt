-- What the words of a board say of the views of all its seats.
use Rattle.std.specs.Prelude.{◌≡◌, ◌⊎◌, ℕ, zero, suc, ◌+◌, ◌<◌, ◌≤◌, ◌^◌, true, false, List, [], ◌∷◌, length, slice_index}
use mathlib.Core.Option.{some}
use lib.ListN.{get_elem?}
use Rattle.atomic_table.specs.Table.{State}
use Rattle.limits.specs.declared.TheConstants.{MOST_SEATS}
use Rattle.number_counts.specs.Counts.{one, times}
use Rattle.search_board.specs.declared.known.Known.{Known}
use Rattle.search_board.specs.Margins.{most_word}
use Rattle.search_board.specs.inside.Views.{gone_view, told_one, idle_one}

-- what all views have together
abbrev pub total : (Known → ℕ) → List Known → ℕ
total f [] = 0
total f (v ∷ views) = f v + total f views

-- how often x stands among the numbers below n
abbrev pub below : ℕ → ℕ → ℕ
below x zero = 0
below x (suc n) = below x n + one x n

-- how each view fits the words: it has the board's budget and stands for a seat, unless it was joined away and is
-- empty; it was told that no ticket is left only where the counter is above the budget; it saw and offered no more than
-- the best
pub record Fits (budget counter best : ℕ) (v : Known) : Type 0 where
  pub budgets : v.gone ≡ false → v.budget ≡ budget
  pub alive : v.gone ≡ false → 0 < v.stands
  pub left : v.gone ≡ true → v ≡ gone_view
  pub past : told_one v.told ≡ 1 → budget < counter
  pub saw : v.seen ≤ best
  pub offered : v.offer ≤ best

-- some view has offered the best
abbrev pub Reached : ℕ → List Known → Type 0
Reached best views = (id : ℕ) × (v : Known) × (get_elem? views id ≡ some v) × (v.offer ≡ best)

-- the whole rule: of the numbers below the lesser of counter and budget each is one ticket of one view. The counter
-- runs past the budget once at most for each view that was told so or joined away; the seats that views stand for, and
-- those that they may still make, are as many as there may be
pub record Holds (budget counter best : ℕ) (views : List Known) : Type 0 where
  pub small : budget < 2 ^ 32
  pub margins : best ≤ most_word
  pub drawn : ℕ
  pub under : (drawn ≤ counter) × (drawn ≤ budget)
  pub full : (drawn ≡ counter) ⊎ (drawn ≡ budget)
  pub once : (x : ℕ) → total (λ v. times x v.tickets) views ≡ below x drawn
  pub count : total (λ v. length v.tickets) views ≡ drawn
  pub bounded : counter ≤ budget + total idle_one views
  pub seats : length views + total (λ v. v.may) views ≡ MOST_SEATS
  pub standing : total (λ v. v.stands) views ≡ length views
  pub each : (id : ℕ) (v : Known) → get_elem? views id ≡ some v → Fits budget counter best v
  pub reached : (best ≡ 0) ⊎ Reached best views

-- the rule of a board of this budget: word 0 is the counter, word 1 the best, and of the two hints nothing is said
pub record IsKept (budget : ℕ) (s : State (Unit {0}) Known) : Type 0 where
  pub words : length s.words ≡ 4
  pub holds : Holds budget (slice_index s.words 0) (slice_index s.words 1) s.views
