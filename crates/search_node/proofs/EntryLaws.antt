-- Entries of the rows of a block: their rows and multipliers, and what they are worth.
use Rattle.std.proofs.Common.{◌≡◌, ℕ, zero, suc, ◌+◌, ◌<◌, ◌≤◌, true, not, List, [], ◌∷◌, ◌++◌, length, take, get_or, replicate, pos, ◌<ℤ◌, int_lt, ap, ap₂, sym, ◌∙◌, refl, subst, arith}
use Rattle.std.specs.Prelude.{◌↔◌, All, filter, IsTrue}
use Rattle.std.specs.List.{AllZip}
use Rattle.std.specs.Option.{is_some}
use Rattle.std.proofs.lemmas.Bool.{lt-ltb}
use Rattle.std.proofs.lemmas.Bool.Decides.{same_from_decides}
use Rattle.std.proofs.lemmas.Int.{ints}
use Rattle.std.proofs.lemmas.List.{length-replicate, length-set, length-take-le, take_more}
use Rattle.std.proofs.lemmas.List.Elements.{All-cons, All-filter, All-head, All-nil, All-tail, filter-append, recursion_from_All}
use Rattle.std.proofs.lemmas.List.Filters.{length-filter_both}
use Rattle.std.proofs.lemmas.Slice.Zip.{AllZip-long}
use Rattle.dual_bound.specs.Conditions.{IsGuess}
use Rattle.dual_bound.specs.Dual.{dual_value, emptiness_sum}
use Rattle.dual_bound.specs.Improving.{single}
use Rattle.limits.specs.declared.TheConstants.{MOST_MULTIPLIER, MOST_ROWS}
use Rattle.linear_form.specs.Rows.{RowForm}
use Rattle.named_rows.specs.NamedRows.{IsNamed}
use Rattle.plant_model.specs.declared.parts.Parts.{Parts}
use Rattle.slot_box.specs.declared.slot.Slot.{Slot}
use Rattle.slot_box.specs.declared.term.RowName.{RowName}
use Rattle.slot_box.specs.declared.term.Term.{Term}
use Rattle.slot_box.specs.declared.term.Term.TheVariants.{Row}
use Rattle.slot_box.specs.Ranges.{IsTerm}
use Rattle.slot_rows.specs.Objective.{objective_of}
use Rattle.slot_rows.specs.Ranges.{ranges_of}
use Rattle.leaf_value.specs.LeafValue.{AreBounding, AreLawfulTerms, IsLawfulTerm, are_contradictory, dual_value_of, multipliers_of, row_of_term, row_or_none, rows_of}
use Rattle.leaf_value.specs.Settings.{Setting, has_row, plain_setting}
use Rattle.search_node.specs.declared.block.RowBlock.{RowBlock}
use Rattle.search_node.specs.declared.guesses.Candidate.{Candidate}
use Rattle.search_node.specs.inside.Candidates.{IsCandidate, entries_by, taken_by}
use Rattle.search_node.specs.Laws.{is_taken}
use Rattle.search_node.specs.Tables.{IsBlockOf}
use Rattle.search_node.proofs.ZeroLaws.{zeros_change_nothing}

-- ---- lists of entries

pub entries-push : (names : List RowName) (multipliers : List ℕ) (name : RowName) (y : ℕ) → length multipliers ≡ length names →
    entries_by (names ++ name ∷ []) (multipliers ++ y ∷ []) ≡ entries_by names multipliers ++ Row name y ∷ []
entries-push [] [] name y same = refl
entries-push [] (z ∷ multipliers) name y same = absurd (omega arith)
entries-push (first ∷ names) [] name y same = absurd (omega arith)
entries-push (first ∷ names) (z ∷ multipliers) name y same =
    ap (λ (rest : List Term). Row first z ∷ rest) (entries-push names multipliers name y (omega arith))

pub entries-count : (names : List RowName) (multipliers : List ℕ) → length multipliers ≡ length names → length (entries_by names multipliers) ≡ length names
entries-count [] multipliers same = refl
entries-count (name ∷ names) [] same = absurd (omega arith)
entries-count (name ∷ names) (y ∷ multipliers) same = let rest = entries-count names multipliers (omega arith) in omega arith

pub taken-more : (names : List RowName) (multipliers : List ℕ) (k : ℕ) (d : RowName) (terms more : List Term) → k < length names →
    length multipliers ≡ length names → terms ≡ taken_by (take k names) (take k multipliers) →
    more ≡ terms ++ filter is_taken (Row (get_or names k d) (get_or multipliers k 0) ∷ []) → more ≡ taken_by (take (k + 1) names) (take (k + 1) multipliers)
taken-more names multipliers k d terms more there same before step =
    let name = get_or names k d in
    let y = get_or multipliers k 0 in
    let counts : length (take k multipliers) ≡ length (take k names) =
    length-take-le k multipliers (omega arith) ∙ sym (length-take-le k names (omega arith)) in
    step ∙ ap (λ (front : List Term). front ++ filter is_taken (Row name y ∷ [])) before
    ∙ sym (ap₂ taken_by (take_more names k d there) (take_more multipliers k 0 (omega arith))
    ∙ ap (filter is_taken) (entries-push (take k names) (take k multipliers) name y counts)
    ∙ filter-append is_taken (entries_by (take k names) (take k multipliers)) (Row name y ∷ []))

-- ---- their rows and multipliers

named-row : (parts : Parts) (n : ℕ) (name : RowName) (row : RowForm) (y : ℕ) → IsNamed parts n name row →
    row_of_term (plain_setting parts n) (Row name y) ≡ row
named-row parts n name row y named = ap row_or_none named.is

pub named-there : (parts : Parts) (n : ℕ) (name : RowName) (row : RowForm) → IsNamed parts n name row → has_row (plain_setting parts n) name ≡ true
named-there parts n name row named = ap is_some named.is

entries-rows : (parts : Parts) (n : ℕ) (names : List RowName) (rows : List RowForm) (multipliers : List ℕ) → AllZip (IsNamed parts n) names rows →
    length multipliers ≡ length rows → rows_of (plain_setting parts n) (entries_by names multipliers) ≡ rows
entries-rows parts n [] [] multipliers named same = refl
entries-rows parts n [] (row ∷ rows) multipliers named same = absurd named
entries-rows parts n (name ∷ names) [] multipliers named same = absurd named
entries-rows parts n (name ∷ names) (row ∷ rows) [] named same = absurd (omega arith)
entries-rows parts n (name ∷ names) (row ∷ rows) (y ∷ multipliers) named same =
    ap₂ (λ (first : RowForm) (rest : List RowForm). first ∷ rest) (named-row parts n name row y named.0)
    (entries-rows parts n names rows multipliers named.1 (omega arith))

entries-multipliers : (names : List RowName) (multipliers : List ℕ) → length multipliers ≡ length names →
    multipliers_of (entries_by names multipliers) ≡ multipliers
entries-multipliers [] [] same = refl
entries-multipliers [] (y ∷ multipliers) same = absurd (omega arith)
entries-multipliers (name ∷ names) [] same = absurd (omega arith)
entries-multipliers (name ∷ names) (y ∷ multipliers) same =
    ap (λ (rest : List ℕ). y ∷ rest) (entries-multipliers names multipliers (omega arith))

entries-lawful : (parts : Parts) (n : ℕ) (names : List RowName) (rows : List RowForm) (multipliers : List ℕ) → AllZip (IsNamed parts n) names rows →
    All (λ y. y ≤ MOST_MULTIPLIER) multipliers → AreLawfulTerms (plain_setting parts n) (entries_by names multipliers)
entries-lawful parts n [] rows multipliers named within = All-nil (IsLawfulTerm (plain_setting parts n))
entries-lawful parts n (name ∷ names) rows [] named within = All-nil (IsLawfulTerm (plain_setting parts n))
entries-lawful parts n (name ∷ names) [] (y ∷ multipliers) named within = absurd named
entries-lawful parts n (name ∷ names) (row ∷ rows) (y ∷ multipliers) named within =
    All-cons (IsLawfulTerm (plain_setting parts n)) (Row name y) (entries_by names multipliers)
    (All-head (λ (z : ℕ). z ≤ MOST_MULTIPLIER) y multipliers within, named-there parts n name row named.0)
    (entries-lawful parts n names rows multipliers named.1 (All-tail (λ (z : ℕ). z ≤ MOST_MULTIPLIER) y multipliers within))

-- ---- what they are worth

module _ (parts : Parts) (n : ℕ) (block : RowBlock) (is : IsBlockOf parts n block) where
  pub as-many : length block.rows ≡ length block.names
  as-many = AllZip-long (IsNamed parts n) block.names block.rows is.named

  pub block-value : (box : List Slot) (multipliers : List ℕ) (q : ℕ) → length multipliers ≡ length block.rows →
      dual_value_of (plain_setting parts n) box q (entries_by block.names multipliers)
      ≡ dual_value block.rows (ranges_of parts box) (objective_of parts n) multipliers q
  unfolding dual_value_of
  block-value box multipliers q same =
      ap₂ (λ (rows : List RowForm) (ys : List ℕ). dual_value rows (ranges_of parts box) (objective_of parts n) ys q)
      (entries-rows parts n block.names block.rows multipliers is.named same)
      (entries-multipliers block.names multipliers (same ∙ as-many))

  block-empty : (box : List Slot) (multipliers : List ℕ) → length multipliers ≡ length block.rows →
      are_contradictory (plain_setting parts n) box (entries_by block.names multipliers)
      ≡ int_lt (emptiness_sum block.rows (ranges_of parts box) multipliers) (pos 0)
  unfolding are_contradictory
  block-empty box multipliers same =
      ap₂ (λ (rows : List RowForm) (ys : List ℕ). int_lt (emptiness_sum rows (ranges_of parts box) ys) (pos 0))
      (entries-rows parts n block.names block.rows multipliers is.named same)
      (entries-multipliers block.names multipliers (same ∙ as-many))

  -- no more than a leaf may name
  taken-few : (multipliers : List ℕ) → length multipliers ≡ length block.rows → length (taken_by block.names multipliers) ≤ MOST_ROWS
  taken-few multipliers same =
      let entries = entries_by block.names multipliers in
      let count = entries-count block.names multipliers (same ∙ as-many) in
      let both = length-filter_both is_taken (λ (term : Term). not (is_taken term)) (λ _. refl) entries in
      omega (arith, is.few, count, both)

  -- a candidate of the rows of the block
  pub block-candidate : (box : List Slot) (multipliers : List ℕ) (q : ℕ) (candidate : Candidate) → IsGuess block.rows multipliers q →
      candidate.q ≡ q → candidate.terms ≡ taken_by block.names multipliers → All IsTerm candidate.terms →
      candidate.value ≡ dual_value_of (plain_setting parts n) box q (entries_by block.names multipliers) →
      (IsTrue candidate.is_empty ↔ (emptiness_sum block.rows (ranges_of parts box) multipliers <ℤ pos 0)) →
      IsCandidate (plain_setting parts n) box candidate
  block-candidate box multipliers q candidate guess over taken fit value empty =
      let setting : Setting = plain_setting parts n in
      let entries = entries_by block.names multipliers in
      let zeros = zeros_change_nothing setting box q entries in
      let lawful = All-filter is_taken (IsLawfulTerm setting) entries (entries-lawful parts n block.names block.rows multipliers is.named guess.within) in
      record {
        bounding = subst (λ (terms : List Term). AreBounding setting candidate.q terms) (sym taken)
            (omega (arith, guess.some, over), omega (arith, guess.most, over), lawful);
        in_range = (
          subst (λ (terms : List Term). length terms ≤ MOST_ROWS) (sym taken) (taken-few multipliers guess.as_many),
          recursion_from_All IsTerm candidate.terms fit,
        );
        value = value ∙ sym zeros.value
            ∙ ap₂ (λ (p : ℕ) (terms : List Term). dual_value_of setting box p terms) (sym over) (sym taken);
        empty = same_from_decides candidate.is_empty (int_lt (emptiness_sum block.rows (ranges_of parts box) multipliers) (pos 0)) empty
            ((λ less. grind (arith, ints)), (λ less. grind (arith, ints)))
            ∙ sym (block-empty box multipliers guess.as_many) ∙ sym zeros.empty
            ∙ ap (λ (terms : List Term). are_contradictory setting box terms) (sym taken);
      }

-- ---- one row alone, and none

none-taken : (names : List RowName) (n : ℕ) → taken_by names (replicate n 0) ≡ []
none-taken [] n = refl
none-taken (name ∷ names) zero = refl
none-taken (name ∷ names) (suc n) = none-taken names n

one-taken : (names : List RowName) (r y : ℕ) (name : RowName) → 0 < y → r < length names → get_or names r name ≡ name →
    taken_by names (single (length names) r y) ≡ Row name y ∷ []
one-taken [] r y name some there here = absurd (omega arith)
one-taken (first ∷ names) zero y name some there here =
    let taken = lt-ltb 0 y some in
    let rest = none-taken names (length names) in
    rw (taken, here, rest) refl
one-taken (first ∷ names) (suc r) y name some there here = one-taken names r y name some (omega arith) here

pub one-value : (parts : Parts) (n : ℕ) (block : RowBlock) → IsBlockOf parts n block → (box : List Slot) (name : RowName) (r y : ℕ) → 0 < y →
    r < length block.names → get_or block.names r name ≡ name →
    dual_value block.rows (ranges_of parts box) (objective_of parts n) (single (length block.rows) r y) 1
    ≡ dual_value_of (plain_setting parts n) box 1 (Row name y ∷ [])
one-value parts n block is box name r y some there here =
    let setting : Setting = plain_setting parts n in
    let count = as-many parts n block is in
    let alone = single (length block.rows) r y in
    let long : length alone ≡ length block.rows = length-set (replicate (length block.rows) 0) r y ∙ length-replicate (length block.rows) 0 in
    sym (block-value parts n block is box alone 1 long) ∙ sym (zeros_change_nothing setting box 1 (entries_by block.names alone)).value
    ∙ ap (λ (terms : List Term). dual_value_of setting box 1 terms)
    (ap (λ (m : ℕ). taken_by block.names (single m r y)) count ∙ one-taken block.names r y name some there here)
