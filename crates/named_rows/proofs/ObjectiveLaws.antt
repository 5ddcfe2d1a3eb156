-- The objective at the numbers of a form is the margin of its word.
use Rattle.std.proofs.Common.{◌≡◌, ℕ, zero, suc, ◌+◌, ◌-◌, ◌*◌, ◌<◌, ◌≤◌, Bool, true, false, List, [], ◌∷◌, ◌++◌, map, length, take, get_or, ℤ, pos, neg_ℤ, ◌-ℤ◌, ◌*ℤ◌, if◌then◌else◌, ap, sym, ◌∙◌, refl, arith}
use Rattle.std.proofs.Math.IntN.{zero-*ℤ, *ℤ_comm}
use Rattle.std.proofs.lemmas.Bool.{lt-ltb, le-ltb}
use Rattle.std.proofs.lemmas.Int.{ints}
use Rattle.std.proofs.lemmas.List.{take_more, take_all, length-map, get_or-append-add}
use Rattle.crude_amounts.specs.Amounts.{weighted_of}
use Rattle.crude_amounts.proofs.WeightLaws.{weighted_of_more}
use Rattle.linear_form.specs.Points.{value_at}
use Rattle.number_laws.specs.Sums.{sum_below, when}
use Rattle.number_laws.specs.SignedSums.{total_below, total_by}
use Rattle.number_laws.proofs.ProductLaws.{negative-product}
use Rattle.number_laws.proofs.SumLaws.{sum_below-cut}
use Rattle.number_laws.proofs.SignedSumLaws.{total_below-same, total_below-sum, total_below-scaled, total_below-zeros, total_below-pos, total_by-append, total_by-range}
use Rattle.plant_model.specs.declared.parts.Parts.{Parts}
use Rattle.plant_model.specs.declared.parts.CrudePart.{CrudePart}
use Rattle.plant_model.specs.declared.details.PlaceInfo.{PlaceInfo}
use Rattle.plant_model.specs.Parts.{op_count_of, crude_count_of, op_of, place_of, places_of, place_count_of, no_place, vessel_info, storage_info, charging_info, unit_info, margin_of as crude_margin_of}
use Rattle.plant_model.specs.Relations.{is_charge}
use Rattle.plant_model.specs.Sound.{SoundPlant}
use Rattle.plant_model.proofs.PlaceLists.{in_a_row, vessels-few}
use Rattle.replay_core.specs.declared.order.Order.{Order}
use Rattle.replay_core.specs.declared.timed.Timed.{Timed}
use Rattle.replay_core.specs.Legal.{CanRun}
use Rattle.replay_core.specs.Margin.{crude_margins_of, earned_at, earned_of, wait_of, demurrage_of, margin_of}
use Rattle.replay_core.specs.Steps.{no_step, step_at, draw_in}
use Rattle.replay_core.proofs.MarginLaws.{earned_of_push, length-crude_margins_of}
use Rattle.row_forms.specs.declared.piece.Which.TheVariants.{Charges}
use Rattle.row_forms.specs.declared.piece.Figure.TheVariants.{Amount}
use Rattle.row_forms.specs.declared.piece.Piece.{Piece}
use Rattle.row_forms.specs.Numbers.{numbers_of}
use Rattle.row_forms.specs.Sums.{figure_at, piece_sum}
use Rattle.row_forms.proofs.PieceLaws.{first_slots_are_their_figures, wait_is_the_vessels}
use Rattle.row_forms.proofs.RunLaws.{Fits, fits-run}
use Rattle.row_forms.proofs.ValueLaws.{value-at_form}
use Rattle.slot_rows.specs.Objective.{gain_piece, demurrage_piece, gain_pieces, demurrage_pieces, objective_of}

-- ---- sums

total_below-swap : (m n : ℕ) (f : ℕ → ℕ → ℤ) → total_below m (λ c. total_below n (f c)) ≡ total_below n (λ k. total_below m (λ c. f c k))
total_below-swap zero n f = sym (total_below-zeros n (λ k. pos 0) (λ k under. refl))
total_below-swap (suc m) n f =
    let first = total_below-swap m n f in
    let both = total_below-sum n (λ k. total_below m (λ c. f c k)) (f m) in
    omega (arith, ints, first, both)

scaled-sum : (a : ℤ) (n : ℕ) (f : ℕ → ℕ) → a *ℤ pos (sum_below n f) ≡ total_below n (λ k. a *ℤ pos (f k))
scaled-sum a n f = ap (λ (z : ℤ). a *ℤ z) (sym (total_below-pos n f)) ∙ sym (total_below-scaled n a (λ k. pos (f k)))

-- ---- what one operation earns

weighted-front : (amounts : List ℕ) (weights : List ℤ) (k : ℕ) → k ≤ length amounts → k ≤ length weights →
    weighted_of (take k amounts) weights ≡ total_below k (λ c. get_or weights c (pos 0) *ℤ pos (get_or amounts c 0))
weighted-front [] weights zero within weighed = refl
weighted-front (x ∷ amounts) weights zero within weighed = refl
weighted-front amounts weights (suc k) within weighed =
    let first = weighted-front amounts weights k (omega arith) (omega arith) in
    let more = weighted_of_more amounts weights k (omega arith) (omega arith) in
    omega (arith, ints, first, more)

weighted-sum : (amounts : List ℕ) (weights : List ℤ) (n : ℕ) → length amounts ≡ n → length weights ≡ n →
    weighted_of amounts weights ≡ total_below n (λ c. get_or weights c (pos 0) *ℤ pos (get_or amounts c 0))
weighted-sum amounts weights n first second =
    ap (λ (xs : List ℕ). weighted_of xs weights) (sym (take_all n amounts (omega arith))) ∙ weighted-front amounts weights n (omega arith) (omega arith)

by_kind : (b : Bool) (draw : List ℕ) (margins : List ℤ) (n : ℕ) →
    weighted_of draw margins ≡ total_below n (λ c. get_or margins c (pos 0) *ℤ pos (get_or draw c 0)) →
    (if b then weighted_of draw margins else pos 0) ≡ total_below n (λ c. get_or margins c (pos 0) *ℤ pos (when b (get_or draw c 0)))
by_kind true draw margins n whole = whole
by_kind false draw margins n whole =
    sym (total_below-zeros n (λ c. get_or margins c (pos 0) *ℤ pos 0)
    (λ c under. *ℤ_comm (get_or margins c (pos 0)) (pos 0) ∙ zero-*ℤ (get_or margins c (pos 0))))

earned-sum : (parts : Parts) (word : List Timed) (k : ℕ) → Fits parts word → k < length word →
    earned_at parts (take k word) (step_at word k)
    ≡ total_below (crude_count_of parts) (λ c. crude_margin_of parts c *ℤ pos (figure_at parts word Charges (Amount c) k))
unfolding earned_at crude_margins_of crude_margin_of
earned-sum parts word k fits there =
    let margins = map (λ (crude : CrudePart). crude.margin) parts.crudes in
    let draw = draw_in parts word k in
    let n = crude_count_of parts in
    rw (lt-ltb k (length word) there, lt-ltb (step_at word k).op (op_count_of parts) (fits.known k there))
    (by_kind (is_charge (op_of parts (step_at word k).op).kind) draw margins n (weighted-sum draw margins n (fits.draws k there) (count parts)))
  where
    count : (parts : Parts) → length (map (λ (crude : CrudePart). crude.margin) parts.crudes) ≡ crude_count_of parts
    count parts = length-crude_margins_of parts

-- ---- what all charges earn

earned-nil : (parts : Parts) → earned_of parts [] ≡ pos 0
unfolding earned_of
earned-nil parts = refl

earned-front : (parts : Parts) (word : List Timed) (k : ℕ) → k ≤ length word →
    earned_of parts (take k word) ≡ total_below k (λ i. earned_at parts (take i word) (step_at word i))
earned-front parts word zero within = earned-nil parts
earned-front parts word (suc k) within =
    let one : k + 1 ≡ suc k = omega arith in
    let first = earned-front parts word k (omega arith) in
    let taken = ap (λ (m : ℕ). earned_of parts (take m word)) (sym one) ∙ ap (earned_of parts) (take_more word k no_step (omega arith)) in
    let more = earned_of_push parts (take k word) (step_at word k) in
    omega (arith, ints, taken, more, first)

past-none : (parts : Parts) (word : List Timed) (c k : ℕ) → length word ≤ k → figure_at parts word Charges (Amount c) k ≡ 0
past-none parts word c k past = rw (le-ltb k (length word) past) refl

-- what a piece comes to
abbrev value_of : Parts → ℕ → List Timed → Piece → ℤ
value_of parts n word piece = piece.factor *ℤ pos (piece_sum parts n word piece)

gains-sum : (parts : Parts) (n : ℕ) (word : List Timed) → Fits parts word → length word ≤ n →
    total_by (value_of parts n word) (gain_pieces parts n) ≡ earned_of parts word
gains-sum parts n word fits short =
    let l = length word in
    let crudes = crude_count_of parts in
    let m = crude_margin_of parts in
    let figure = λ (c k : ℕ). figure_at parts word Charges (Amount c) k in
    total_by-range (value_of parts n word) (gain_piece parts n) crudes
    ∙ (total_below-same crudes (λ c. value_of parts n word (gain_piece parts n c)) (λ c. total_below l (λ k. m c *ℤ pos (figure c k)))
    (λ c under. ap (λ (s : ℕ). m c *ℤ pos s) (first_slots_are_their_figures parts word n n (m c) Charges (Amount c) (omega arith)
    ∙ sum_below-cut l n (figure c) short (λ k below past. past-none parts word c k past))
    ∙ scaled-sum (m c) l (figure c))
    ∙ (total_below-swap crudes l (λ c k. m c *ℤ pos (figure c k))
    ∙ (total_below-same l (λ k. total_below crudes (λ c. m c *ℤ pos (figure c k))) (λ k. earned_at parts (take k word) (step_at word k))
    (λ k under. sym (earned-sum parts word k fits under))
    ∙ (sym (earned-front parts word l (omega arith)) ∙ ap (earned_of parts) (take_all l word (omega arith))))))

-- ---- what vessels pay

none-paid : {X : Type 0} (f : X → PlaceInfo) (xs : List X) (rest : List PlaceInfo) (p : ℕ) → ((x : X) → (f x).demurrage ≡ 0) →
    ((k : ℕ) → (get_or rest k no_place).demurrage ≡ 0) → (get_or (map f xs ++ rest) p no_place).demurrage ≡ 0
none-paid f [] rest p each others = others p
none-paid f (x ∷ xs) rest zero each others = each x
none-paid f (x ∷ xs) rest (suc p) each others = none-paid f xs rest p each others

units-free : (parts : Parts) (p : ℕ) → (get_or (map unit_info parts.units) p no_place).demurrage ≡ 0
units-free parts p = none_paid_last unit_info parts.units p (λ x. refl)
  where
    none_paid_last : {X : Type 0} (f : X → PlaceInfo) (xs : List X) (p : ℕ) → ((x : X) → (f x).demurrage ≡ 0) → (get_or (map f xs) p no_place).demurrage ≡ 0
    none_paid_last f [] p each = refl
    none_paid_last f (x ∷ xs) zero each = each x
    none_paid_last f (x ∷ xs) (suc p) each = none_paid_last f xs p each

others-free : (parts : Parts) (p : ℕ) → length parts.vessels ≤ p → (place_of parts p).demurrage ≡ 0
unfolding place_of places_of
others-free parts p past =
    let tanks = map charging_info parts.charging ++ map unit_info parts.units in
    let rest = map storage_info parts.storage ++ tanks in
    let row = in_a_row (map vessel_info parts.vessels) (map storage_info parts.storage) (map charging_info parts.charging) (map unit_info parts.units) in
    let count = length-map parts.vessels vessel_info in
    let place : length (map vessel_info parts.vessels) + (p - length parts.vessels) ≡ p = omega arith in
    let found = ap (λ (xs : List PlaceInfo). get_or xs p no_place) row
    ∙ (ap (λ (q : ℕ). get_or (map vessel_info parts.vessels ++ rest) q no_place) (sym place)
    ∙ get_or-append-add (map vessel_info parts.vessels) rest (p - length parts.vessels) no_place) in
    ap (λ (info : PlaceInfo). info.demurrage) found
    ∙ none-paid storage_info parts.storage tanks (p - length parts.vessels) (λ x. refl)
    (λ k. none-paid charging_info parts.charging (map unit_info parts.units) k (λ x. refl) (units-free parts))

paid-vessels : (parts : Parts) (word : List Timed) →
    demurrage_of parts word ≡ sum_below (length parts.vessels) (λ p. (place_of parts p).demurrage * wait_of parts word p)
unfolding demurrage_of
paid-vessels parts word =
    sum_below-cut (length parts.vessels) (place_count_of parts) (λ p. (place_of parts p).demurrage * wait_of parts word p) (vessels-few parts)
    (λ p under past. (let free = ap (λ (rate : ℕ). rate * wait_of parts word p) (others-free parts p past) in omega arith))

negative-sum : (n : ℕ) (f : ℕ → ℕ) → total_below n (λ p. neg_ℤ (pos (f p))) ≡ neg_ℤ (pos (sum_below n f))
negative-sum zero f = refl
negative-sum (suc n) f = let first = negative-sum n f in omega (arith, ints, first)

waits-sum : (parts : Parts) (n : ℕ) (word : List Timed) →
    total_by (value_of parts n word) (demurrage_pieces parts) ≡ neg_ℤ (pos (demurrage_of parts word))
waits-sum parts n word =
    let vessels = length parts.vessels in
    let paid = λ (p : ℕ). (place_of parts p).demurrage * wait_of parts word p in
    total_by-range (value_of parts n word) (demurrage_piece parts) vessels
    ∙ (total_below-same vessels (λ p. value_of parts n word (demurrage_piece parts p)) (λ p. neg_ℤ (pos (paid p)))
    (λ p under. ap (λ (s : ℕ). neg_ℤ (pos (place_of parts p).demurrage) *ℤ pos s)
    (wait_is_the_vessels parts word n p (neg_ℤ (pos (place_of parts p).demurrage)) under)
    ∙ negative-product (pos (place_of parts p).demurrage) (pos (wait_of parts word p)))
    ∙ (negative-sum vessels paid ∙ ap (λ (m : ℕ). neg_ℤ (pos m)) (sym (paid-vessels parts word))))

-- ---- the whole

margin-parts : (parts : Parts) (word : List Timed) → margin_of parts word ≡ earned_of parts word -ℤ pos (demurrage_of parts word)
unfolding margin_of
margin-parts parts word = refl

pub objective-is_margin : (parts : Parts) (order : Order) (n : ℕ) (word : List Timed) → SoundPlant parts → CanRun parts order word → length word ≤ n →
    value_at (objective_of parts n) (numbers_of parts word) ≡ margin_of parts word
unfolding objective_of
objective-is_margin parts order n word sound runs short =
    let fits = fits-run parts order word sound runs in
    let whole = value-at_form parts n word (gain_pieces parts n ++ demurrage_pieces parts) fits in
    let both = total_by-append (value_of parts n word) (gain_pieces parts n) (demurrage_pieces parts) in
    let gains = gains-sum parts n word fits short in
    let waits = waits-sum parts n word in
    let margin = margin-parts parts word in
    omega (arith, ints, whole, both, gains, waits, margin)
