-- Terms that are built list by list, and slots and entries that have none.
use Rattle.std.proofs.Common.{◌≡◌, ℕ, ◌+◌, Bool, false, List, [], ◌∷◌, ◌++◌, All, ℤ, pos, ap, sym, ◌∙◌, refl, arith}
use Rattle.std.specs.Prelude.{◌&&◌}
use Rattle.std.specs.List.{list_any}
use Rattle.std.proofs.lemmas.Bool.{or_parts}
use Rattle.std.proofs.lemmas.Grind.{flat_map-append}
use Rattle.std.proofs.lemmas.Int.{ints}
use Rattle.std.proofs.lemmas.List.{append_assoc}
use Rattle.std.proofs.lemmas.List.Elements.{All-head, All-tail}
use Rattle.item_lists.specs.Joined.{joined_below}
use Rattle.item_lists.proofs.ListLaws.{joined_below-more}
use Rattle.linear_form.specs.declared.column.Column.{Column}
use Rattle.linear_form.specs.declared.row.RowTerm.{RowTerm}
use Rattle.linear_form.specs.Listed.{operation_columns, columns_of_slot}
use Rattle.linear_form.proofs.ListedLaws.{all_operation, slot-level}
use Rattle.plant_model.specs.declared.parts.Parts.{Parts}
use Rattle.row_forms.specs.declared.piece.Piece.{Piece}
use Rattle.row_forms.specs.Pieces.{takes, is_slot, covers, factor_in, factor_at}
use Rattle.row_forms.specs.Terms.{term_of, terms_over, piece_terms}

-- one list more
pub terms_append : (factor : Column → ℤ) (front back : List Column) (start items new : List RowTerm) → items ≡ start ++ terms_over factor front →
    new ≡ items ++ terms_over factor back → new ≡ start ++ terms_over factor (front ++ back)
terms_append factor front back start items new before after =
    after
    ∙ (ap (λ (terms : List RowTerm). terms ++ terms_over factor back) before
    ∙ (append_assoc start (terms_over factor front) (terms_over factor back)
    ∙ ap (λ (terms : List RowTerm). start ++ terms) (sym (flat_map-append (term_of factor) front back))))

pub terms_next : (factor : Column → ℤ) (k : ℕ) (lists : ℕ → List Column) (start items new : List RowTerm) →
    items ≡ start ++ terms_over factor (joined_below k lists) → new ≡ items ++ terms_over factor (lists k) →
    new ≡ start ++ terms_over factor (joined_below (k + 1) lists)
terms_next factor k lists start items new before after =
    terms_append factor (joined_below k lists) (lists k) start items new before after
    ∙ ap (λ (columns : List Column). start ++ terms_over factor columns) (sym (joined_below-more k lists))

-- ---- where no piece reaches

terms-none : (factor : Column → ℤ) (columns : List Column) → All (λ column. factor column ≡ pos 0) columns → terms_over factor columns ≡ []
terms-none factor [] none = refl
terms-none factor (column ∷ columns) none =
    let P = λ (x : Column). factor x ≡ pos 0 in
    rw (All-head P column columns none) (terms-none factor columns (All-tail P column columns none))

-- a test that each piece that covers the column passes
factor-none : (parts : Parts) (test : Piece → Bool) (column : Column) → ((piece : Piece) → test piece ≡ false → covers parts piece column ≡ false) →
    (pieces : List Piece) → list_any test pieces ≡ false → factor_at parts pieces column ≡ pos 0
factor-none parts test column past [] none = refl
factor-none parts test column past (piece ∷ pieces) none =
    let both = or_parts (test piece) (list_any test pieces) none in
    let first : factor_in parts column piece ≡ pos 0 = rw (past piece both.0) refl in
    let rest = factor-none parts test column past pieces both.1 in
    omega (arith, ints, first, rest)

pub operation-none : (parts : Parts) (pieces : List Piece) (crudes slot v : ℕ) →
    list_any (λ piece. is_slot piece slot && takes parts piece.which v) pieces ≡ false → piece_terms parts pieces (operation_columns crudes slot v) ≡ []
operation-none parts pieces crudes slot v none =
    let test = λ (piece : Piece). is_slot piece slot && takes parts piece.which v in
    terms-none (factor_at parts pieces) (operation_columns crudes slot v)
    (all_operation (λ (column : Column). factor_at parts pieces column ≡ pos 0) crudes slot v
    (factor-none parts test _ (λ piece no. rw no refl) pieces none) (factor-none parts test _ (λ piece no. rw no refl) pieces none)
    (factor-none parts test _ (λ piece no. rw no refl) pieces none) (λ c within. factor-none parts test _ (λ piece no. rw no refl) pieces none))

pub slot-none : (parts : Parts) (pieces : List Piece) (ops crudes slot : ℕ) → list_any (λ piece. is_slot piece slot) pieces ≡ false →
    piece_terms parts pieces (columns_of_slot ops crudes slot) ≡ []
slot-none parts pieces ops crudes slot none =
    terms-none (factor_at parts pieces) (columns_of_slot ops crudes slot) (λ k d there.
    factor-none parts (λ piece. is_slot piece slot) _ (λ piece no. rw (slot-level ops crudes slot k d there, no) refl) pieces none)
