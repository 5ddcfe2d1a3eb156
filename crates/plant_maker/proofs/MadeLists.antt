-- Lists of entries as loops make them, one entry more at a time.
use Rattle.std.proofs.Common.{◌≡◌, ℕ, zero, suc, ◌+◌, List, [], ◌∷◌, ◌++◌, ap, sym, ◌∙◌, append_assoc, append-nil, add-one, arith}
use Rattle.std.specs.List.{range_with_len, flat_map}
use Rattle.std.proofs.lemmas.List.FromFn.{map-range_with_len_more}
use Rattle.plant_maker.specs.Made.{entries, entries_of_each}

pub entries_more : {X : Type 0} (made : ℕ → X) (count : ℕ) → entries made (count + 1) ≡ entries made count ++ made count ∷ []
entries_more made count = map-range_with_len_more made 0 count count (omega arith)

flat_range_more : {X : Type 0} (made : ℕ → List X) (from count : ℕ)
    → flat_map made (range_with_len from (suc count)) ≡ flat_map made (range_with_len from count) ++ made (from + count)
flat_range_more made from zero =
    let same : made (from + 0) ≡ made from = ap made (omega arith) in
    append-nil (made from) ∙ sym same
flat_range_more made from (suc count) =
    let next : from + 1 + count ≡ from + suc count = omega arith in
    ap (λ rest. made from ++ rest) (flat_range_more made (from + 1) count)
    ∙ sym (append_assoc (made from) (flat_map made (range_with_len (from + 1) count)) (made (from + 1 + count)))
    ∙ ap (λ at. made from ++ flat_map made (range_with_len (from + 1) count) ++ made at) next

pub entries_of_each_more : {X : Type 0} (made : ℕ → List X) (count : ℕ) → entries_of_each made (count + 1) ≡ entries_of_each made count ++ made count
entries_of_each_more made count =
    let first : made (0 + count) ≡ made count = ap made (omega arith) in
    rw add-one (flat_range_more made 0 count ∙ ap (λ last. entries_of_each made count ++ last) first)

-- a loop that pushes: what stood there in front, then one entry more
pub entries_pushed : {X : Type 0} (front list next : List X) (made : ℕ → X) (count : ℕ) (item : X)
    → list ≡ front ++ entries made count → next ≡ list ++ item ∷ [] → item ≡ made count → next ≡ front ++ entries made (count + 1)
entries_pushed front list next made count item so_far pushed is =
    pushed ∙ ap (λ xs. xs ++ item ∷ []) so_far ∙ append_assoc front (entries made count) (item ∷ [])
    ∙ ap (λ x. front ++ (entries made count ++ x ∷ [])) is ∙ ap (λ xs. front ++ xs) (sym (entries_more made count))

-- the same where each turn pushes several
pub entries_of_each_pushed : {X : Type 0} (front list next : List X) (made : ℕ → List X) (count : ℕ)
    → list ≡ front ++ entries_of_each made count → next ≡ list ++ made count → next ≡ front ++ entries_of_each made (count + 1)
entries_of_each_pushed front list next made count so_far pushed =
    pushed ∙ ap (λ xs. xs ++ made count) so_far ∙ append_assoc front (entries_of_each made count) (made count)
    ∙ ap (λ xs. front ++ xs) (sym (entries_of_each_more made count))
