-- What a plan comes to: each charge earns by the margins of the crudes that it draws, and each vessel pays for its
-- waiting.
use Rattle.std.specs.Prelude.{ℕ, ◌-◌, ◌*◌, ◌<◌, ℤ, pos, neg_ℤ, ◌+ℤ◌, ◌-ℤ◌, ◌≤ℤ◌, if◌then◌else◌, List, [], ◌∷◌, ◌++◌, map, sum_by, length, slice_index_or}
use Rattle.crude_amounts.specs.Amounts.{weighted_of}
use Rattle.number_laws.specs.Positive.{positive_part}
use Rattle.number_laws.specs.Sums.{sum_below}
use Rattle.plant_model.specs.declared.parts.Parts.{Parts}
use Rattle.plant_model.specs.declared.parts.CrudePart.{CrudePart}
use Rattle.plant_model.specs.Parts.{crude_count_of, place_count_of, op_of, place_of, margin_of as crude_margin_of}
use Rattle.plant_model.specs.Relations.{is_charge}
use Rattle.replay_core.specs.declared.timed.Timed.{Timed}
use Rattle.replay_core.specs.State.{draw_at}
use Rattle.replay_core.specs.declared.order.Order.{Order}
use Rattle.replay_core.specs.Counts.{last_end_of}
use Rattle.replay_core.specs.Legal.{IsLegalIn}

-- what each volume unit earns, crude by crude
unfoldable pub crude_margins_of : Parts → List ℤ
crude_margins_of parts = map (λ (crude : CrudePart). crude.margin) parts.crudes

-- each weight lies from -most to most
pub record AreSmall (most : ℕ) (weights : List ℤ) : Type 0 where
  pub low : (c : ℕ) → c < length weights → neg_ℤ (pos most) ≤ℤ slice_index_or weights c (pos 0)
  pub high : (c : ℕ) → c < length weights → slice_index_or weights c (pos 0) ≤ℤ pos most

-- what the operation earns where those others have run before it
unfoldable pub earned_at : Parts → List Timed → Timed → ℤ
earned_at parts before t =
    if is_charge (op_of parts t.op).kind then weighted_of (draw_at parts before t) (crude_margins_of parts) else pos 0

-- what operations earn one after the other, where those others have run before them
abbrev pub earned_from : Parts → List Timed → List Timed → ℤ
earned_from parts before [] = pos 0
earned_from parts before (t ∷ later) = earned_at parts before t +ℤ earned_from parts (before ++ t ∷ []) later

-- what the charges of a plan earn
unfoldable pub earned_of : Parts → List Timed → ℤ
earned_of parts plan = earned_from parts [] plan

-- for how many minutes vessel p waits, from its arrival to the end of its last unloading; one that is not unloaded
-- counts none
abbrev pub wait_of : Parts → List Timed → ℕ → ℕ
wait_of parts plan p = last_end_of parts plan p - (place_of parts p).arrival

-- what the vessels that a plan unloads pay, each its rate for every minute that it waits; other places have no rate
unfoldable pub demurrage_of : Parts → List Timed → ℕ
demurrage_of parts plan = sum_below (place_count_of parts) (λ p. (place_of parts p).demurrage * wait_of parts plan p)

-- the margin of a plan: what its charges earn, less the demurrage of the vessels that it unloads
unfoldable pub margin_of : Parts → List Timed → ℤ
margin_of parts plan = earned_of parts plan -ℤ pos (demurrage_of parts plan)

-- the most that a charge of the volume could earn if it could draw what it liked of each crude: of each that earns, the
-- whole volume
abbrev pub greatest_gain_of : Parts → ℕ → ℕ
greatest_gain_of parts volume = sum_below (crude_count_of parts) (λ c. positive_part (crude_margin_of parts c) * volume)

-- the sum of these over the charges of a plan
unfoldable pub greatest_gains_of : Parts → List Timed → ℕ
greatest_gains_of parts plan =
    sum_by (λ (t : Timed). if is_charge (op_of parts t.op).kind then greatest_gain_of parts t.volume else 0) plan

-- no legal plan has a greater margin, whatever its order
abbrev pub MarginIsBounded : Parts → Type 0
MarginIsBounded parts =
    (order : Order) (plan : List Timed) → IsLegalIn parts order plan →
    margin_of parts plan ≤ℤ pos (greatest_gains_of parts plan)
