-- The row of a cut, at the form of a word.
use Rattle.std.proofs.Common.{◌≡◌, ℕ, suc, ◌-◌, ◌*◌, ◌<◌, ◌≤◌, Bool, true, false, List, [], ◌∷◌, ◌++◌, length, get_or, sum, ℤ, pos, neg_ℤ, ◌+ℤ◌, ◌*ℤ◌, ◌≤ℤ◌, ◌⊎◌, inl, inr, refl, ap, subst, ◌∙◌, arith}
use Rattle.std.specs.Prelude.{◌&&◌, nat_lt, nat_le, if◌then◌else◌, None, Some}
use Rattle.std.specs.Int.{bit_at}
use Rattle.std.proofs.Math.IntN.{zero-*ℤ, *ℤ_comm}
use Rattle.std.proofs.Math.Nat.{mul-le-mul_left}
use Rattle.std.proofs.lemmas.Bool.{cases_Bool, cases_eq, cases_lt, and_parts, eq-eqb, ne_eqb, lt-ltb, le-ltb}
use Rattle.std.proofs.lemmas.Bool.Decides.{nat_tests}
use Rattle.std.proofs.lemmas.Int.{ints}
use Rattle.number_laws.specs.SignedSums.{total_below, total_by}
use Rattle.number_laws.specs.Sums.{sum_below}
use Rattle.number_laws.proofs.BitLaws.{one_from_set}
use Rattle.number_laws.proofs.PositiveLaws.{positive_part-above}
use Rattle.number_laws.proofs.ProductLaws.{negative-product}
use Rattle.number_laws.proofs.SignedSumLaws.{total_by-append, total_by-range, total_below-same, total_below-zeros}
use Rattle.number_laws.proofs.SumLaws.{sum_below-term}
use Rattle.linear_form.specs.Points.{IsMet}
use Rattle.linear_form.specs.Rows.{RowForm}
use Rattle.overlap_graph.specs.Sets.{set_of}
use Rattle.overlap_graph.proofs.SetLaws.{set_of-has}
use Rattle.plant_model.specs.declared.parts.Parts.{Parts}
use Rattle.plant_model.specs.Parts.{crude_count_of, op_count_of, op_of}
use Rattle.plant_model.specs.Sound.{SoundPlant}
use Rattle.replay_core.specs.declared.order.Order.{Order}
use Rattle.replay_core.specs.declared.timed.Timed.{Timed}
use Rattle.replay_core.specs.Legal.{IsLegalIn}
use Rattle.replay_core.specs.Steps.{step_at, draw_in}
use Rattle.replay_core.proofs.StepLaws.{CanRun-legal}
use Rattle.row_forms.specs.declared.piece.Figure.{Figure}
use Rattle.row_forms.specs.declared.piece.Figure.TheVariants.{Choice, Amount}
use Rattle.row_forms.specs.declared.piece.Piece.{Piece}
use Rattle.row_forms.specs.declared.piece.Which.TheVariants.{One, Among}
use Rattle.row_forms.specs.Numbers.{numbers_of}
use Rattle.row_forms.specs.Sums.{figure_of, figure_at, piece_sum, sum_of_pieces}
use Rattle.row_forms.specs.Terms.{row_of}
use Rattle.row_forms.proofs.PieceLaws.{figures_are_of_operations, one_slot_is_its_figure, first_slots_are_their_figures}
use Rattle.row_forms.proofs.RunLaws.{fits-run}
use Rattle.row_forms.proofs.ValueLaws.{rows_hold_by_pieces}
use Rattle.slot_box.specs.declared.cut.CutParams.{CutParams}
use Rattle.word_flows.specs.Runs.{IsRun}
use Rattle.word_flows.proofs.EndLaws.{legal_words_end_well}
use Rattle.word_flows.proofs.RunLaws.{runs_are_in_range}
use Rattle.word_flows.proofs.StepLaws.{runs_draw_volumes}
use Rattle.blend_cuts.specs.Cuts.{is_inside, is_valid}
use Rattle.blend_cuts.specs.Excess.{rise_of, excess_of, drift_of, steepest_of, most_excess_of}
use Rattle.blend_cuts.specs.CutRows.{drawn_piece, drawn_pieces, allowance_of, allowed_piece, brings, bringing_of, brought_piece, cut_inequality, has_row}
use Rattle.blend_cuts.specs.Laws.{CutRowsHold}
use Rattle.blend_cuts.proofs.ExcessLaws.{excess-most}
use Rattle.blend_cuts.proofs.ValidLaws.{IsCut, valid_cut}
use Rattle.blend_cuts.proofs.LevelLaws.{NoneBrings, drawn-within}

-- what is so of a word that breaks no rule, of its plant and of a cut
record IsWord (parts : Parts) (cut : CutParams) (word : List Timed) : Type 0 where
  sound : SoundPlant parts
  cut_is : IsCut parts cut
  run : IsRun parts word
  draws : (k : ℕ) → k < length word → length (draw_in parts word k) ≡ crude_count_of parts

-- ---- figures

-- operation v stands at place k of the word
Stands : List Timed → ℕ → ℕ → Type 0
Stands word v k = (k < length word) × ((step_at word k).op ≡ v)

stands-figure : (parts : Parts) (word : List Timed) (v k : ℕ) (figure : Figure) → SoundPlant parts → v < op_count_of parts → Stands word v k →
    figure_at parts word (One v) figure k ≡ figure_of parts word k figure
unfolding Stands
stands-figure parts word v k figure sound known here =
    figures_are_of_operations parts sound word (One v) figure k known
    ∙ rw (lt-ltb k (length word) here.0, eq-eqb (step_at word k).op v here.1) refl

stands-or : (parts : Parts) (word : List Timed) (v k : ℕ) → SoundPlant parts → v < op_count_of parts →
    Stands word v k ⊎ ((figure : Figure) → figure_at parts word (One v) figure k ≡ 0)
unfolding Stands
stands-or parts word v k sound known =
    elim (cases_lt k (length word)) [
      | inr past ↦ inr (λ figure. figures_are_of_operations parts sound word (One v) figure k known ∙ rw (le-ltb k (length word) past) refl)
      | inl there ↦ elim (cases_eq (step_at word k).op v) [
        | inl same ↦ inl (there, same)
        | inr other ↦ inr (λ figure.
            figures_are_of_operations parts sound word (One v) figure k known
            ∙ rw (lt-ltb k (length word) there, ne_eqb (step_at word k).op v other) refl)
      ]
    ]

-- ---- pieces

value : Parts → ℕ → List Timed → Piece → ℤ
value parts n word piece = piece.factor *ℤ pos (piece_sum parts n word piece)

whole-value : (parts : Parts) (n : ℕ) (word : List Timed) (pieces : List Piece) → sum_of_pieces parts n word pieces ≡ total_by (value parts n word) pieces
unfolding value
whole-value parts n word pieces = refl

-- what is drawn, where it stands in the slot
drawn-value : (parts : Parts) (n : ℕ) (word : List Timed) (cut : CutParams) (slot v : ℕ) → 1 ≤ slot → slot ≤ n →
    total_by (value parts n word) (drawn_pieces parts cut slot v)
    ≡ total_below (crude_count_of parts) (λ c. rise_of cut c *ℤ pos (figure_at parts word (One v) (Amount c) (slot - 1)))
unfolding value
drawn-value parts n word cut slot v some within =
    total_by-range (value parts n word) (drawn_piece cut slot v) (crude_count_of parts)
    ∙ total_below-same (crude_count_of parts) (λ c. value parts n word (drawn_piece cut slot v c))
    (λ c. rise_of cut c *ℤ pos (figure_at parts word (One v) (Amount c) (slot - 1)))
    (λ c under. ap (λ (s : ℕ). rise_of cut c *ℤ pos s) (one_slot_is_its_figure parts word n slot (rise_of cut c) (One v) (Amount c) some within))

allowed-value : (parts : Parts) (n : ℕ) (word : List Timed) (cut : CutParams) (slot v : ℕ) → 1 ≤ slot → slot ≤ n →
    value parts n word (allowed_piece parts cut slot v) ≡ neg_ℤ (pos (allowance_of parts cut slot * figure_at parts word (One v) Choice (slot - 1)))
unfolding value
allowed-value parts n word cut slot v some within =
    let factor = neg_ℤ (pos (allowance_of parts cut slot)) in
    let at = ap (λ (s : ℕ). factor *ℤ pos s) (one_slot_is_its_figure parts word n slot factor (One v) Choice some within) in
    at ∙ negative-product (pos (allowance_of parts cut slot)) (pos (figure_at parts word (One v) Choice (slot - 1)))

-- how many of the operations before the slot bring crude into the set
brought_of : Parts → CutParams → List Timed → ℕ → ℕ
brought_of parts cut word k = sum_below k (figure_at parts word (Among (bringing_of parts cut)) Choice)

brought-value : (parts : Parts) (n : ℕ) (word : List Timed) (cut : CutParams) (slot v : ℕ) → slot ≤ n →
    value parts n word (brought_piece parts cut slot v) ≡ neg_ℤ (pos (most_excess_of parts cut v * brought_of parts cut word (slot - 1)))
unfolding value brought_of
brought-value parts n word cut slot v within =
    let factor = neg_ℤ (pos (most_excess_of parts cut v)) in
    let among = Among (bringing_of parts cut) in
    let at = ap (λ (s : ℕ). factor *ℤ pos s) (first_slots_are_their_figures parts word n (slot - 1) factor among Choice (omega arith)) in
    at ∙ negative-product (pos (most_excess_of parts cut v)) (pos (sum_below (slot - 1) (figure_at parts word among Choice)))

-- all three
row-value : (parts : Parts) (n : ℕ) (word : List Timed) (cut : CutParams) (slot v : ℕ) → 1 ≤ slot → slot ≤ n →
    sum_of_pieces parts n word (cut_inequality parts cut slot v).pieces
    ≡ total_below (crude_count_of parts) (λ c. rise_of cut c *ℤ pos (figure_at parts word (One v) (Amount c) (slot - 1)))
    +ℤ (neg_ℤ (pos (allowance_of parts cut slot * figure_at parts word (One v) Choice (slot - 1)))
    +ℤ neg_ℤ (pos (most_excess_of parts cut v * brought_of parts cut word (slot - 1))))
row-value parts n word cut slot v some within =
    let last = allowed_piece parts cut slot v ∷ brought_piece parts cut slot v ∷ [] in
    let split : total_by (value parts n word) (drawn_pieces parts cut slot v ++ last)
    ≡ total_by (value parts n word) (drawn_pieces parts cut slot v) +ℤ total_by (value parts n word) last =
    total_by-append (value parts n word) (drawn_pieces parts cut slot v) last in
    let whole = whole-value parts n word (drawn_pieces parts cut slot v ++ last) in
    let drawn = drawn-value parts n word cut slot v some within in
    let allowed = allowed-value parts n word cut slot v some within in
    let brought = brought-value parts n word cut slot v within in
    omega (arith, ints, split, whole, drawn, allowed, brought)

-- ---- crude that is brought in

-- none of the operations before the slot brings any, or one does
none-brings : (parts : Parts) (cut : CutParams) (word : List Timed) (k : ℕ) → SoundPlant parts → IsRun parts word → brought_of parts cut word k ≡ 0 →
    NoneBrings parts cut word k
unfolding brought_of bringing_of
none-brings parts cut word k sound run none j before there =
    let op = (step_at word j).op in
    let mask = set_of (op_count_of parts) (brings parts cut) in
    let known = (runs_are_in_range parts word j run there).known in
    elim (cases_Bool (brings parts cut op)) [
      | inr not ↦ not
      | inl does ↦
          let member : bit_at mask op ≡ 1 = one_from_set mask op ((set_of-has (op_count_of parts) (brings parts cut) op).1 (known, does)) in
          let figure : figure_at parts word (Among mask) Choice j ≡ 1 =
          figures_are_of_operations parts sound word (Among mask) Choice j tt
          ∙ rw (lt-ltb j (length word) there, lt-ltb op (op_count_of parts) known, eq-eqb (bit_at mask op) 1 member) refl in
          let term = sum_below-term k (figure_at parts word (Among mask) Choice) j before in
          absurd (omega (arith, none, figure, term))
    ]

-- ---- the row

times-none : (z : ℤ) → z *ℤ pos 0 ≡ pos 0
times-none z = *ℤ_comm z (pos 0) ∙ zero-*ℤ z

-- another operation stands in the slot, or none
other-holds : (parts : Parts) (n : ℕ) (word : List Timed) (cut : CutParams) (slot v : ℕ) → 1 ≤ slot → slot ≤ n →
    ((figure : Figure) → figure_at parts word (One v) figure (slot - 1) ≡ 0) →
    sum_of_pieces parts n word (cut_inequality parts cut slot v).pieces ≤ℤ pos 0
other-holds parts n word cut slot v some within none =
    let whole = row-value parts n word cut slot v some within in
    let zeros = total_below-zeros (crude_count_of parts) (λ c. rise_of cut c *ℤ pos (figure_at parts word (One v) (Amount c) (slot - 1)))
    (λ c under. ap (λ (s : ℕ). rise_of cut c *ℤ pos s) (none (Amount c)) ∙ times-none (rise_of cut c)) in
    omega (arith, ints, whole, zeros)

-- what the operation draws
here-excess : (parts : Parts) (word : List Timed) (cut : CutParams) (v k : ℕ) → SoundPlant parts → v < op_count_of parts → Stands word v k →
    total_below (crude_count_of parts) (λ c. rise_of cut c *ℤ pos (figure_at parts word (One v) (Amount c) k)) ≡ excess_of parts cut (draw_in parts word k)
here-excess parts word cut v k sound known here =
    total_below-same (crude_count_of parts) (λ c. rise_of cut c *ℤ pos (figure_at parts word (One v) (Amount c) k))
    (λ c. rise_of cut c *ℤ pos (get_or (draw_in parts word k) c 0))
    (λ c under. ap (λ (s : ℕ). rise_of cut c *ℤ pos s) (stands-figure parts word v k (Amount c) sound known here))

-- no draw of the operation exceeds the threshold by more than its greatest volume could
draw-most : (parts : Parts) (word : List Timed) (cut : CutParams) (v k : ℕ) → IsWord parts cut word → Stands word v k →
    excess_of parts cut (draw_in parts word k) ≤ℤ pos (most_excess_of parts cut v)
unfolding Stands
draw-most parts word cut v k is here =
    let most = excess-most parts cut (draw_in parts word k) (is.draws k here.0) in
    let volume = runs_draw_volumes parts is.sound word k is.run here.0 in
    let range = (runs_are_in_range parts word k is.run here.0).most in
    let same = ap (λ (w : ℕ). (op_of parts w).volume.1) here.1 in
    let within : sum (draw_in parts word k) ≤ (op_of parts v).volume.1 = omega (arith, volume, range, same) in
    let times : steepest_of parts cut * sum (draw_in parts word k) ≤ steepest_of parts cut * (op_of parts v).volume.1 =
    mul-le-mul_left (steepest_of parts cut) within in
    omega (arith, ints, most, times)

-- the draw is one that the set allows
draw-allowed-here : (parts : Parts) (word : List Timed) (cut : CutParams) (v slot : ℕ) → IsWord parts cut word → 1 ≤ slot → Stands word v (slot - 1) →
    is_inside cut (op_of parts v).from ≡ true → brought_of parts cut word (slot - 1) ≡ 0 →
    excess_of parts cut (draw_in parts word (slot - 1)) ≤ℤ pos (allowance_of parts cut slot)
unfolding Stands
draw-allowed-here parts word cut v slot is some here from_set none =
    let k = slot - 1 in
    let brings_none = none-brings parts cut word k is.sound is.run none in
    let source = ap (λ (w : ℕ). is_inside cut (op_of parts w).from) here.1 ∙ from_set in
    let allowed = drawn-within parts cut word k is.sound is.cut_is is.run here.0 brings_none source in
    let above = positive_part-above (excess_of parts cut (draw_in parts word k)) in
    let next : suc k ≡ slot = omega (arith, some) in
    let times = ap (λ (m : ℕ). m * drift_of parts cut) next in
    omega (arith, ints, allowed, above, times)

here-holds : (parts : Parts) (n : ℕ) (word : List Timed) (cut : CutParams) (slot v : ℕ) → IsWord parts cut word → 1 ≤ slot → slot ≤ n → v < op_count_of parts →
    is_inside cut (op_of parts v).from ≡ true → Stands word v (slot - 1) →
    sum_of_pieces parts n word (cut_inequality parts cut slot v).pieces ≤ℤ pos 0
here-holds parts n word cut slot v is some within known from_set here =
    let whole = row-value parts n word cut slot v some within in
    let drawn = here-excess parts word cut v (slot - 1) is.sound known here in
    let choice = stands-figure parts word v (slot - 1) Choice is.sound known here in
    let allowance = ap (λ (m : ℕ). allowance_of parts cut slot * m) choice in
    elim (cases_eq (brought_of parts cut word (slot - 1)) 0) [
      | inl none ↦
          let allowed = draw-allowed-here parts word cut v slot is some here from_set none in
          omega (arith, ints, whole, drawn, allowance, allowed)
      | inr brought ↦
          let most = draw-most parts word cut v (slot - 1) is here in
          let once : 1 ≤ brought_of parts cut word (slot - 1) = omega (arith, brought) in
          let covers : most_excess_of parts cut v * 1 ≤ most_excess_of parts cut v * brought_of parts cut word (slot - 1) =
          mul-le-mul_left (most_excess_of parts cut v) once in
          omega (arith, ints, whole, drawn, allowance, most, covers)
    ]

row-holds : (parts : Parts) (n : ℕ) (word : List Timed) (cut : CutParams) (slot v : ℕ) → IsWord parts cut word → 1 ≤ slot → slot ≤ n → v < op_count_of parts →
    is_inside cut (op_of parts v).from ≡ true → sum_of_pieces parts n word (cut_inequality parts cut slot v).pieces ≤ℤ pos 0
row-holds parts n word cut slot v is some within known from_set =
    elim (stands-or parts word v (slot - 1) is.sound known) [
      | inl here ↦ here-holds parts n word cut slot v is some within known from_set here
      | inr none ↦ other-holds parts n word cut slot v some within none
    ]

-- ---- all of them

pub record HasRow (parts : Parts) (n : ℕ) (cut : CutParams) (slot v : ℕ) : Type 0 where
  pub valid : is_valid parts cut ≡ true
  pub some : 1 ≤ slot
  pub within : slot ≤ n
  pub known : v < op_count_of parts
  pub from_set : is_inside cut (op_of parts v).from ≡ true

pub has_its_row : (parts : Parts) (n : ℕ) (cut : CutParams) (slot v : ℕ) → has_row parts n cut slot v ≡ true → HasRow parts n cut slot v
unfolding has_row
has_its_row parts n cut slot v has =
    let all = and_parts (is_valid parts cut && (nat_lt 0 slot && nat_le slot n) && nat_lt v (op_count_of parts)) (is_inside cut (op_of parts v).from) has in
    let op = and_parts (is_valid parts cut && (nat_lt 0 slot && nat_le slot n)) (nat_lt v (op_count_of parts)) all.0 in
    let first = and_parts (is_valid parts cut) (nat_lt 0 slot && nat_le slot n) op.0 in
    let slots = and_parts (nat_lt 0 slot) (nat_le slot n) first.1 in
    record {
      valid = first.0;
      some = grind (arith, nat_tests, slots.0);
      within = grind (arith, nat_tests, slots.1);
      known = grind (arith, nat_tests, op.1);
      from_set = all.1;
    }

is_word : (parts : Parts) (order : Order) (cut : CutParams) (word : List Timed) → SoundPlant parts → is_valid parts cut ≡ true → IsLegalIn parts order word →
    IsWord parts cut word
is_word parts order cut word sound valid legal = record {
  sound = sound;
  cut_is = valid_cut parts cut sound valid;
  run = (legal_words_end_well parts order word legal).0;
  draws = (fits-run parts order word sound (CanRun-legal parts order word legal)).draws;
}

row-is : (has : Bool) (given row : RowForm) → (if has then Some given else None) ≡ Some row → (has ≡ true) × (given ≡ row)
row-is true given row same = (refl, cc)
row-is false given row same = cc

pub cut_rows_hold : (parts : Parts) → SoundPlant parts → CutRowsHold parts
cut_rows_hold parts sound order word n cut slot v row legal short same =
    let given = row-is (has_row parts n cut slot v) (row_of parts n (cut_inequality parts cut slot v)) row same in
    let has = has_its_row parts n cut slot v given.0 in
    let is = is_word parts order cut word sound has.valid legal in
    let holds = row-holds parts n word cut slot v is has.some has.within has.known has.from_set in
    let met = (rows_hold_by_pieces parts sound order word n (cut_inequality parts cut slot v) (CanRun-legal parts order word legal)).1 holds in
    subst (IsMet (numbers_of parts word)) given.1 met
