-- Seats as contracts see them.
use Rattle.std.proofs.Common.{◌≡◌, ◌⊎◌, ℕ, ◌≤◌, min, Option, Some, ap, inl, inr, arith}
use mathlib.Core.Logic.{dite}
use native.Mathlib.Decide.{dec_le}
use Rattle.atomic_table.specs.Seated.{TableId}
use Rattle.search_board.specs.declared.known.Known.{Known}
use Rattle.search_board.specs.Margins.{margin_in}
use Rattle.search_board.specs.Seats.{seat_view, joined_seat, IsClosing}
use Rattle.search_board.specs.inside.Views.{joined, told_one}
use Rattle.search_board.proofs.BoardSteps.{IsEnd}
use Rattle.search_board.proofs.MarginLaws.{greater-word, at-most-word}

pub view-joined : (table other : TableId) (v u : Known) → seat_view table (joined v u) ≡ joined_seat (seat_view table v) (seat_view other u)
view-joined table other v u = λ i. record (joined_seat (seat_view table v) (seat_view other u)) {
  offer = greater-word v.offer u.offer i;
  seen = greater-word v.seen u.seen i;
}

told-some : (told : Option ℕ) (number : ℕ) → told ≡ Some number → told_one told ≡ 1
told-some told number is = ap told_one is

-- what the board knows in the end is what a closing tells
pub closing : (table : TableId) (v : Known) (tickets best : ℕ) → IsEnd v.budget tickets best v → IsClosing (seat_view table v) tickets (margin_in best)
closing table v tickets best end = record {
  each = end.each;
  within = end.within;
  spent = λ number told. end.told (told-some v.told number told);
  offered = ap margin_in end.offered;
  seen = at-most-word v.seen best end.saw;
}

-- the lesser of two numbers is one of them
pub min-either : (a b m : ℕ) → m ≡ min a b → (m ≤ a) × (m ≤ b) × ((m ≡ a) ⊎ (m ≡ b))
min-either a b m is = (omega arith, omega arith, dite (dec_le a b) (λ le. inl (omega arith)) (λ gt. inr (omega arith)))
