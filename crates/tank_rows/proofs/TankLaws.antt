-- Rows on what places hold and give.
use Rattle.std.proofs.Common.{◌≡◌, ℕ, ◌<◌, ◌≤◌, inl, inr, List, length, get_or, sum, if◌then◌else◌, ap, refl, arith}
use Rattle.std.specs.Prelude.{IsTrue}
use Rattle.std.proofs.lemmas.Bool.{cases_lt, le-ltb}
use Rattle.std.proofs.lemmas.Int.{ints}
use Rattle.std.proofs.lemmas.List.{take_all, get_or_past}
use Rattle.std.proofs.lemmas.List.Sums.{get_or-le-sum_by}
use Rattle.number_laws.proofs.SumLaws.{sum_below-cut}
use Rattle.plant_model.specs.declared.parts.Parts.{Parts}
use Rattle.plant_model.specs.declared.details.PlaceKind.TheVariants.{Vessel, Charging}
use Rattle.plant_model.specs.Parts.{place_count_of, place_of, initial_of}
use Rattle.plant_model.specs.Sound.{SoundPlant, HoldsCrude}
use Rattle.replay_core.specs.declared.timed.Timed.{Timed}
use Rattle.replay_core.specs.Steps.{draw_in}
use Rattle.replay_core.specs.State.{held_of, initial_state, state_after}
use Rattle.word_flows.specs.Flows.{draws_from, held_after, out_of, amount_of}
use Rattle.word_flows.specs.Levels.{is_tank}
use Rattle.word_flows.proofs.FlowLaws.{total_is_additive, crude_is_additive, runs_balance, begins_as_given}
use Rattle.word_flows.proofs.LevelLaws.{minimums_are_kept, maximums_are_kept}
use Rattle.word_flows.proofs.SumLaws.{charges_are_drawn}
use Rattle.tank_rows.specs.Families.{plus, minus, total_row, amount_row, demand_row, emptied_row}
use Rattle.tank_rows.proofs.FlowLaws.{Holds, IsWord, volume-out, volume-in, crude-out, crude-in}

-- ---- totals

pub total-first : (parts : Parts) (n : ℕ) (word : List Timed) (p slot : ℕ) → IsWord parts n word → p < place_count_of parts → HoldsCrude (place_of parts p).kind →
    slot ≤ n → Holds parts n word (total_row parts p slot 0)
total-first parts n word p slot is place holds within =
    let out = volume-out parts n word plus p slot is.sound is.run within in
    let in_ = volume-in parts n word minus p slot is.sound is.run within in
    let balance = runs_balance parts is.sound sum word total_is_additive is.run p slot place in
    let start = ap sum (begins_as_given parts is.sound p place holds) in
    let kept = minimums_are_kept parts is.sound word p slot is.run place in
    omega (arith, ints)

pub total-second : (parts : Parts) (n : ℕ) (word : List Timed) (p slot : ℕ) → IsWord parts n word → p < place_count_of parts → HoldsCrude (place_of parts p).kind →
    IsTrue (is_tank (place_of parts p).kind) → slot ≤ n → Holds parts n word (total_row parts p slot 1)
total-second parts n word p slot is place holds tank within =
    let out = volume-out parts n word minus p slot is.sound is.run within in
    let in_ = volume-in parts n word plus p slot is.sound is.run within in
    let balance = runs_balance parts is.sound sum word total_is_additive is.run p slot place in
    let start = ap sum (begins_as_given parts is.sound p place holds) in
    let kept = maximums_are_kept parts is.sound word p slot is.run place tank in
    omega (arith, ints)

-- ---- crudes

crude-first : (parts : Parts) (p c : ℕ) → SoundPlant parts → p < place_count_of parts → HoldsCrude (place_of parts p).kind →
    amount_of c (held_of (initial_state parts) p) ≡ initial_of parts p c
unfolding initial_of
crude-first parts p c sound place holds = ap (amount_of c) (begins_as_given parts sound p place holds)

pub amount-holds : (parts : Parts) (n : ℕ) (word : List Timed) (p slot c : ℕ) → IsWord parts n word → p < place_count_of parts → HoldsCrude (place_of parts p).kind →
    slot ≤ n → Holds parts n word (amount_row parts p slot c)
amount-holds parts n word p slot c is place holds within =
    let out = crude-out parts n word plus p slot c is.sound is.run within in
    let in_ = crude-in parts n word minus p slot c is.sound is.run within in
    let balance = runs_balance parts is.sound (amount_of c) word (crude_is_additive c) is.run p slot place in
    let start = crude-first parts p c is.sound place holds in
    omega (arith, ints)

one-of_sum : (xs : List ℕ) (c : ℕ) → get_or xs c 0 ≤ sum xs
one-of_sum xs c =
    elim (cases_lt c (length xs)) [
      | inl there ↦ get_or-le-sum_by (λ x. x) xs c 0 there
      | inr past ↦ (let none = get_or_past xs c 0 past in omega arith)
    ]

-- an empty vessel holds nothing of a crude
nothing-left : (parts : Parts) (n : ℕ) (word : List Timed) (p c : ℕ) → IsWord parts n word → p < place_count_of parts → (place_of parts p).kind ≡ Vessel →
    amount_of c (held_after parts word p n) ≡ 0
nothing-left parts n word p c is place vessel =
    let all = ap (λ (w : List Timed). amount_of c (held_of (state_after parts w) p)) (take_all n word is.short) in
    let empty = is.ends.vessels p place vessel in
    let least = one-of_sum (held_of (state_after parts word) p) c in
    omega arith

pub emptied-holds : (parts : Parts) (n : ℕ) (word : List Timed) (p c : ℕ) → IsWord parts n word → p < place_count_of parts → HoldsCrude (place_of parts p).kind →
    (place_of parts p).kind ≡ Vessel → Holds parts n word (emptied_row parts n p c)
emptied-holds parts n word p c is place holds vessel =
    let out = crude-out parts n word minus p n c is.sound is.run (omega arith) in
    let balance = runs_balance parts is.sound (amount_of c) word (crude_is_additive c) is.run p n place in
    let start = crude-first parts p c is.sound place holds in
    let none = nothing-left parts n word p c is place vessel in
    omega (arith, ints)

-- ---- demands

-- past the word nothing flows
all-out : (parts : Parts) (n : ℕ) (word : List Timed) (p : ℕ) → length word ≤ n → out_of sum parts word p n ≡ out_of sum parts word p (length word)
all-out parts n word p short =
    sum_below-cut (length word) n (λ k. if draws_from parts word p k then sum (draw_in parts word k) else 0) short
    (λ k under past. rw (le-ltb k (length word) past) refl)

pub demand-first : (parts : Parts) (n : ℕ) (word : List Timed) (p : ℕ) → IsWord parts n word → p < place_count_of parts → (place_of parts p).kind ≡ Charging →
    Holds parts n word (demand_row parts n p 0)
demand-first parts n word p is place charging =
    let out = volume-out parts n word plus p n is.sound is.run (omega arith) in
    let all = all-out parts n word p is.short in
    let charged = charges_are_drawn parts is.sound word p is.run charging in
    let kept = (is.ends.demands p place charging).to_high in
    omega (arith, ints)

pub demand-second : (parts : Parts) (n : ℕ) (word : List Timed) (p : ℕ) → IsWord parts n word → p < place_count_of parts → (place_of parts p).kind ≡ Charging →
    Holds parts n word (demand_row parts n p 1)
demand-second parts n word p is place charging =
    let out = volume-out parts n word minus p n is.sound is.run (omega arith) in
    let all = all-out parts n word p is.short in
    let charged = charges_are_drawn parts is.sound word p is.run charging in
    let kept = (is.ends.demands p place charging).from_low in
    omega (arith, ints)
