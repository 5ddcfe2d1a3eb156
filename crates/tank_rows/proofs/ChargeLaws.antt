-- Rows on what a charge draws, and on how long a vessel waits.
use Rattle.std.proofs.Common.{◌≡◌, ℕ, ◌+◌, ◌-◌, ◌*◌, ◌<◌, ◌≤◌, inl, inr, true, false, List, length, get_or, ℤ, pos, neg_ℤ, ◌-ℤ◌, ◌*ℤ◌, ◌⊎◌, ap, sym, subst, ◌∙◌, refl, arith}
use Rattle.std.proofs.Math.IntN.{zero-*ℤ, *ℤ_comm}
use Rattle.std.proofs.lemmas.Bool.{cases_lt, cases_eq, eq-eqb, ne_eqb, lt-ltb, le-ltb}
use Rattle.std.proofs.lemmas.Int.{ints}
use Rattle.number_laws.specs.Sums.{sum_below}
use Rattle.number_laws.proofs.SumLaws.{sum_below-list}
use Rattle.number_laws.specs.SignedSums.{total_below, total_by}
use Rattle.number_laws.proofs.ProductLaws.{negative-product, difference-product}
use Rattle.number_laws.proofs.SignedSumLaws.{total_below-same, total_below-difference, total_below-scaled, total_below-zeros, total_below-pos, total_by-range}
use Rattle.plant_model.specs.declared.parts.Parts.{Parts}
use Rattle.plant_model.specs.declared.details.OpKind.{OpKind}
use Rattle.plant_model.specs.declared.details.OpKind.TheVariants.{Unload, Transfer, Charge}
use Rattle.plant_model.specs.declared.details.PlaceKind.{PlaceKind}
use Rattle.plant_model.specs.declared.details.PlaceKind.TheVariants.{Vessel, Storage, Charging}
use Rattle.plant_model.specs.Parts.{place_of, op_of, op_count_of, crude_count_of, property_count_of, property_of, limit_of}
use Rattle.plant_model.specs.Relations.{is_unload}
use Rattle.plant_model.specs.Sound.{SoundPlant, IsRoute}
use Rattle.replay_core.specs.declared.timed.Timed.{Timed}
use Rattle.replay_core.specs.Steps.{step_at, draw_in}
use Rattle.replay_core.specs.Counts.{unloads_from}
use Rattle.replay_core.specs.Margin.{wait_of}
use Rattle.replay_core.specs.Rules.{content_of}
use Rattle.row_forms.specs.declared.piece.Figure.TheVariants.{Choice, Amount, End}
use Rattle.row_forms.specs.declared.piece.Piece.{Piece}
use Rattle.row_forms.specs.declared.piece.Which.TheVariants.{One, From}
use Rattle.row_forms.specs.Pieces.{piece_of}
use Rattle.row_forms.specs.Sums.{figure_at, piece_sum}
use Rattle.row_forms.proofs.PieceLaws.{figures_are_of_operations, one_slot_is_its_figure, wait_is_the_vessels}
use Rattle.word_flows.specs.Flows.{draws_from}
use Rattle.word_flows.specs.Runs.{IsRun}
use Rattle.word_flows.specs.Steps.{MeetsLimit}
use Rattle.word_flows.proofs.RunLaws.{soundly}
use Rattle.word_flows.proofs.StepLaws.{runs_draw_volumes, runs_meet_limits}
use Rattle.word_flows.proofs.LastEndLaws.{last_ends_are_reached}
use Rattle.tank_rows.specs.Families.{minus, excess_of, limit_piece, limit_row, wait_row}
use Rattle.tank_rows.proofs.FlowLaws.{Holds, IsWord, from-figure}

-- ---- limits

-- the total of weights, each less a limit, times amounts
weighed : (n limit : ℕ) (weight amount : ℕ → ℕ) →
    total_below n (λ c. (pos (weight c) -ℤ pos limit) *ℤ pos (amount c)) ≡ pos (sum_below n (λ c. weight c * amount c)) -ℤ pos (limit * sum_below n amount)
weighed n limit weight amount =
    total_below-same n (λ c. (pos (weight c) -ℤ pos limit) *ℤ pos (amount c)) (λ c. pos (weight c * amount c) -ℤ (pos limit *ℤ pos (amount c)))
    (λ c under. difference-product (pos (weight c)) (pos limit) (pos (amount c)))
    ∙ (total_below-difference n (λ c. pos (weight c * amount c)) (λ c. pos limit *ℤ pos (amount c))
    ∙ (let first = total_below-pos n (λ c. weight c * amount c) in
    let scaled = total_below-scaled n (pos limit) (λ c. pos (amount c)) ∙ ap (λ (z : ℤ). pos limit *ℤ z) (total_below-pos n amount) in
    omega (arith, ints, first, scaled)))

-- likewise of a limit, less weights
weighed_below : (n limit : ℕ) (weight amount : ℕ → ℕ) →
    total_below n (λ c. (pos limit -ℤ pos (weight c)) *ℤ pos (amount c)) ≡ pos (limit * sum_below n amount) -ℤ pos (sum_below n (λ c. weight c * amount c))
weighed_below n limit weight amount =
    total_below-same n (λ c. (pos limit -ℤ pos (weight c)) *ℤ pos (amount c)) (λ c. (pos limit *ℤ pos (amount c)) -ℤ pos (weight c * amount c))
    (λ c under. difference-product (pos limit) (pos (weight c)) (pos (amount c)))
    ∙ (total_below-difference n (λ c. pos limit *ℤ pos (amount c)) (λ c. pos (weight c * amount c))
    ∙ (let first = total_below-pos n (λ c. weight c * amount c) in
    let scaled = total_below-scaled n (pos limit) (λ c. pos (amount c)) ∙ ap (λ (z : ℤ). pos limit *ℤ z) (total_below-pos n amount) in
    omega (arith, ints, first, scaled)))

-- what the row comes to: the excesses times what operation v draws in the slot, where it stands there
limit-value : (parts : Parts) (n : ℕ) (word : List Timed) (slot v k side : ℕ) → 1 ≤ slot → slot ≤ n →
    total_by (λ (piece : Piece). piece.factor *ℤ pos (piece_sum parts n word piece)) (limit_row parts slot v k side).pieces
    ≡ total_below (crude_count_of parts) (λ c. excess_of parts (limit_of parts v k) k side c *ℤ pos (figure_at parts word (One v) (Amount c) (slot - 1)))
limit-value parts n word slot v k side some within =
    let value = λ (piece : Piece). piece.factor *ℤ pos (piece_sum parts n word piece) in
    let excess = λ (c : ℕ). excess_of parts (limit_of parts v k) k side c in
    total_by-range value (limit_piece parts slot v k side) (crude_count_of parts)
    ∙ total_below-same (crude_count_of parts) (λ c. value (limit_piece parts slot v k side c))
    (λ c. excess c *ℤ pos (figure_at parts word (One v) (Amount c) (slot - 1)))
    (λ c under. ap (λ (s : ℕ). excess c *ℤ pos s) (one_slot_is_its_figure parts word n slot (excess c) (One v) (Amount c) some within))

times-none : (z : ℤ) → z *ℤ pos 0 ≡ pos 0
times-none z = *ℤ_comm z (pos 0) ∙ zero-*ℤ z

-- another operation stands there, or none
limit-other : (parts : Parts) (n : ℕ) (word : List Timed) (slot v k side : ℕ) → 1 ≤ slot → slot ≤ n →
    ((c : ℕ) → figure_at parts word (One v) (Amount c) (slot - 1) ≡ 0) → Holds parts n word (limit_row parts slot v k side)
limit-other parts n word slot v k side some within none =
    let excess = λ (c : ℕ). excess_of parts (limit_of parts v k) k side c in
    let value = limit-value parts n word slot v k side some within in
    let zeros = total_below-zeros (crude_count_of parts) (λ c. excess c *ℤ pos (figure_at parts word (One v) (Amount c) (slot - 1)))
    (λ c under. ap (λ (s : ℕ). excess c *ℤ pos s) (none c) ∙ times-none (excess c)) in
    omega (arith, ints, value, zeros)

-- what is drawn there, crude by crude
pub stands-amount : (parts : Parts) (word : List Timed) (v k c : ℕ) → SoundPlant parts → v < op_count_of parts → k < length word → (step_at word k).op ≡ v →
    figure_at parts word (One v) (Amount c) k ≡ get_or (draw_in parts word k) c 0
stands-amount parts word v k c sound known there same =
    figures_are_of_operations parts sound word (One v) (Amount c) k known
    ∙ rw (lt-ltb k (length word) there, eq-eqb (step_at word k).op v same) refl

-- the row at a charge in the slot, where what it draws of all crudes is its volume
limit-here : (parts : Parts) (n : ℕ) (word : List Timed) (slot v k side : ℕ) → IsWord parts n word → 1 ≤ slot → slot ≤ n → v < op_count_of parts →
    slot - 1 < length word → (step_at word (slot - 1)).op ≡ v →
    total_by (λ (piece : Piece). piece.factor *ℤ pos (piece_sum parts n word piece)) (limit_row parts slot v k side).pieces
    ≡ total_below (crude_count_of parts) (λ c. excess_of parts (limit_of parts v k) k side c *ℤ pos (get_or (draw_in parts word (slot - 1)) c 0))
limit-here parts n word slot v k side is some within known there same =
    let excess = λ (c : ℕ). excess_of parts (limit_of parts v k) k side c in
    limit-value parts n word slot v k side some within
    ∙ total_below-same (crude_count_of parts) (λ c. excess c *ℤ pos (figure_at parts word (One v) (Amount c) (slot - 1)))
    (λ c. excess c *ℤ pos (get_or (draw_in parts word (slot - 1)) c 0))
    (λ c under. ap (λ (s : ℕ). excess c *ℤ pos s) (stands-amount parts word v (slot - 1) c is.sound known there same))

drawn-in_all : (parts : Parts) (n : ℕ) (word : List Timed) (k : ℕ) → IsWord parts n word → k < length word →
    sum_below (crude_count_of parts) (λ c. get_or (draw_in parts word k) c 0) ≡ (step_at word k).volume
drawn-in_all parts n word k is there =
    ap (λ (m : ℕ). sum_below m (λ c. get_or (draw_in parts word k) c 0)) (sym (is.draws k there))
    ∙ (sum_below-list (draw_in parts word k) ∙ runs_draw_volumes parts is.sound word k is.run there)

content-sum : (parts : Parts) (k : ℕ) (drawn : List ℕ) → content_of parts k drawn ≡ sum_below (crude_count_of parts) (λ c. property_of parts c k * get_or drawn c 0)
unfolding content_of
content-sum parts k drawn = refl

-- the charge meets its limits
limit-met : (parts : Parts) (n : ℕ) (word : List Timed) (j v k : ℕ) → IsWord parts n word → (op_of parts v).kind ≡ Charge → k < property_count_of parts →
    j < length word → (step_at word j).op ≡ v →
    ((limit_of parts v k).0 * (step_at word j).volume ≤ content_of parts k (draw_in parts word j))
    × (content_of parts k (draw_in parts word j) ≤ (limit_of parts v k).1 * (step_at word j).volume)
limit-met parts n word j v k is charge property there same =
    let kind = ap (λ (w : ℕ). (op_of parts w).kind) same ∙ charge in
    let met : MeetsLimit parts (step_at word j) (draw_in parts word j) k = runs_meet_limits parts word j k is.run there kind property in
    let limits = ap (λ (w : ℕ). limit_of parts w k) same in (
      subst (λ (limit : ℕ × ℕ). limit.0 * (step_at word j).volume ≤ content_of parts k (draw_in parts word j)) limits met.from_low,
      subst (λ (limit : ℕ × ℕ). content_of parts k (draw_in parts word j) ≤ limit.1 * (step_at word j).volume) limits met.to_high,
    )

charge-first : (parts : Parts) (n : ℕ) (word : List Timed) (slot v k : ℕ) → IsWord parts n word → 1 ≤ slot → slot ≤ n → v < op_count_of parts →
    (op_of parts v).kind ≡ Charge → k < property_count_of parts → slot - 1 < length word → (step_at word (slot - 1)).op ≡ v →
    Holds parts n word (limit_row parts slot v k 0)
charge-first parts n word slot v k is some within known charge property there same =
    let j = slot - 1 in
    let limit = limit_of parts v k in
    let value = limit-here parts n word slot v k 0 is some within known there same in
    let sums = weighed (crude_count_of parts) limit.1 (λ c. property_of parts c k) (λ c. get_or (draw_in parts word j) c 0) in
    let volume = ap (λ (m : ℕ). limit.1 * m) (drawn-in_all parts n word j is there) in
    let content = content-sum parts k (draw_in parts word j) in
    let met = (limit-met parts n word j v k is charge property there same).1 in
    omega (arith, ints, value, sums, volume, content, met)

charge-second : (parts : Parts) (n : ℕ) (word : List Timed) (slot v k : ℕ) → IsWord parts n word → 1 ≤ slot → slot ≤ n → v < op_count_of parts →
    (op_of parts v).kind ≡ Charge → k < property_count_of parts → slot - 1 < length word → (step_at word (slot - 1)).op ≡ v →
    Holds parts n word (limit_row parts slot v k 1)
charge-second parts n word slot v k is some within known charge property there same =
    let j = slot - 1 in
    let limit = limit_of parts v k in
    let value = limit-here parts n word slot v k 1 is some within known there same in
    let sums = weighed_below (crude_count_of parts) limit.0 (λ c. property_of parts c k) (λ c. get_or (draw_in parts word j) c 0) in
    let volume = ap (λ (m : ℕ). limit.0 * m) (drawn-in_all parts n word j is there) in
    let content = content-sum parts k (draw_in parts word j) in
    let met = (limit-met parts n word j v k is charge property there same).0 in
    omega (arith, ints, value, sums, volume, content, met)

-- the operation stands in the slot, or it draws nothing there
stands-or : (parts : Parts) (word : List Timed) (v j : ℕ) → SoundPlant parts → v < op_count_of parts →
    ((j < length word) × ((step_at word j).op ≡ v)) ⊎ ((c : ℕ) → figure_at parts word (One v) (Amount c) j ≡ 0)
stands-or parts word v j sound known =
    elim (cases_lt j (length word)) [
      | inr past ↦ inr (λ c. figures_are_of_operations parts sound word (One v) (Amount c) j known ∙ rw (le-ltb j (length word) past) refl)
      | inl there ↦ elim (cases_eq (step_at word j).op v) [
        | inl same ↦ inl (there, same)
        | inr other ↦ inr (λ c. figures_are_of_operations parts sound word (One v) (Amount c) j known
            ∙ rw (lt-ltb j (length word) there, ne_eqb (step_at word j).op v other) refl)
      ]
    ]

pub limit-first : (parts : Parts) (n : ℕ) (word : List Timed) (slot v k : ℕ) → IsWord parts n word → 1 ≤ slot → slot ≤ n → v < op_count_of parts →
    (op_of parts v).kind ≡ Charge → k < property_count_of parts → Holds parts n word (limit_row parts slot v k 0)
limit-first parts n word slot v k is some within known charge property =
    elim (stands-or parts word v (slot - 1) is.sound known) [
      | inl here ↦ charge-first parts n word slot v k is some within known charge property here.0 here.1
      | inr none ↦ limit-other parts n word slot v k 0 some within none
    ]

pub limit-second : (parts : Parts) (n : ℕ) (word : List Timed) (slot v k : ℕ) → IsWord parts n word → 1 ≤ slot → slot ≤ n → v < op_count_of parts →
    (op_of parts v).kind ≡ Charge → k < property_count_of parts → Holds parts n word (limit_row parts slot v k 1)
limit-second parts n word slot v k is some within known charge property =
    elim (stands-or parts word v (slot - 1) is.sound known) [
      | inl here ↦ charge-second parts n word slot v k is some within known charge property here.0 here.1
      | inr none ↦ limit-other parts n word slot v k 1 some within none
    ]

-- ---- waits

-- what leaves a vessel is unloaded
unload-from : (kind : OpKind) (from to : PlaceKind) → IsRoute kind from to → from ≡ Vessel → is_unload kind ≡ true
unload-from Unload from to route is = refl
unload-from Transfer from to route is = (let same : Storage ≡ Vessel = sym route.0 ∙ is in cc)
unload-from Charge from to route is = (let same : Charging ≡ Vessel = sym route.0 ∙ is in cc)

unloads : (parts : Parts) (word : List Timed) (p k : ℕ) → SoundPlant parts → IsRun parts word → (place_of parts p).kind ≡ Vessel → k < length word →
    (op_of parts (step_at word k).op).from ≡ p → unloads_from parts p (step_at word k) ≡ true
unloads parts word p k sound run vessel there same =
    let op = op_of parts (step_at word k).op in
    let route = (soundly parts word k sound run there).sound.route in
    let unload = unload-from op.kind (place_of parts op.from).kind (place_of parts op.to).kind route (ap (λ (q : ℕ). (place_of parts q).kind) same ∙ vessel) in
    rw (unload, eq-eqb op.from p same) refl

-- the figures of a slot: the end, less the arrival where an unloading stands there, is at most the wait
wait-figures : (parts : Parts) (n : ℕ) (word : List Timed) (p k : ℕ) → IsWord parts n word → (place_of parts p).kind ≡ Vessel →
    figure_at parts word (From p) End k ≤ (place_of parts p).arrival * figure_at parts word (From p) Choice k + wait_of parts word p
wait-figures parts n word p k is vessel =
    let end = from-figure parts word p k End is.sound is.run in
    let choice = from-figure parts word p k Choice is.sound is.run in
    elim (cases_lt k (length word)) [
      | inr past ↦
          let none : draws_from parts word p k ≡ false = rw (le-ltb k (length word) past) refl in
          let no_end : figure_at parts word (From p) End k ≡ 0 = end ∙ rw none refl in
          omega arith
      | inl there ↦ elim (cases_eq (op_of parts (step_at word k).op).from p) [
        | inr other ↦
            let none : draws_from parts word p k ≡ false = rw (lt-ltb k (length word) there, ne_eqb (op_of parts (step_at word k).op).from p other) refl in
            let no_end : figure_at parts word (From p) End k ≡ 0 = end ∙ rw none refl in
            omega arith
        | inl same ↦
            let draws : draws_from parts word p k ≡ true = rw (lt-ltb k (length word) there, eq-eqb (op_of parts (step_at word k).op).from p same) refl in
            let its_end : figure_at parts word (From p) End k ≡ (step_at word k).end = end ∙ rw draws refl in
            let one : figure_at parts word (From p) Choice k ≡ 1 = choice ∙ rw draws refl in
            let arrival = ap (λ (m : ℕ). (place_of parts p).arrival * m) one in
            let by_then = (last_ends_are_reached parts word p).each k (record { there = there; unloads = unloads parts word p k is.sound is.run vessel there same }) in
            omega arith
      ]
    ]

pub wait-holds : (parts : Parts) (n : ℕ) (word : List Timed) (p slot : ℕ) → IsWord parts n word → p < length parts.vessels → (place_of parts p).kind ≡ Vessel →
    1 ≤ slot → slot ≤ n → Holds parts n word (wait_row parts p slot)
wait-holds parts n word p slot is there vessel some within =
    let arrival = (place_of parts p).arrival in
    let end = one_slot_is_its_figure parts word n slot (pos 1) (From p) End some within in
    let choice = ap (λ (m : ℕ). arrival * m) (one_slot_is_its_figure parts word n slot (neg_ℤ (pos arrival)) (From p) Choice some within) in
    let wait = wait_is_the_vessels parts word n p minus there in
    let product = negative-product (pos arrival) (pos (piece_sum parts n word (piece_of (neg_ℤ (pos arrival)) slot slot (From p) Choice))) in
    let figures = wait-figures parts n word p (slot - 1) is vessel in
    omega (arith, ints, product)
