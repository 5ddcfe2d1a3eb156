-- Blocks of rows under names, and lists of blocks.
use Rattle.std.proofs.Common.{◌≡◌, ℕ, zero, suc, ◌<◌, ◌⊎◌, inl, inr, List, [], ◌∷◌, ◌++◌, length, get_or, refl, sym, subst, ◌∙◌, arith}
use Rattle.std.specs.Prelude.{All, Any, Contains}
use Rattle.std.specs.List.{AllZip, HoldsAt}
use Rattle.std.proofs.lemmas.Bool.{cases_lt}
use Rattle.std.proofs.lemmas.List.{get_or_append_left, get_or_push, length-append, length_push}
use Rattle.std.proofs.lemmas.List.Elements.{All-nil, All-push, Contains-append_left, Contains-push}
use Rattle.std.proofs.lemmas.List.Quantifiers.{Any-push}
use Rattle.limits.specs.declared.TheConstants.{MOST_ROWS}
use Rattle.linear_form.specs.Rows.{RowForm}
use Rattle.named_rows.specs.NamedRows.{IsNamed}
use Rattle.plant_model.specs.declared.parts.Parts.{Parts}
use Rattle.row_forms.specs.Fits.{IsFitRow}
use Rattle.slot_box.specs.declared.term.RowName.{RowName}
use Rattle.search_node.specs.declared.block.RowBlock.{RowBlock}
use Rattle.search_node.specs.inside.Spans.{KeepNames}
use Rattle.search_node.specs.Tables.{HaveName, IsBlockOf}

-- ---- lists

-- an item more on both sides
pub zip_more : {A B : Type 0} (R : A → B → Type 0) (xs : List A) (ys : List B) (x : A) (y : B) → AllZip R xs ys → R x y →
    AllZip R (xs ++ x ∷ []) (ys ++ y ∷ [])
zip_more R [] [] x y all one = (one, tt)
zip_more R [] (b ∷ ys) x y all one = absurd all
zip_more R (a ∷ xs) [] x y all one = absurd all
zip_more R (a ∷ xs) (b ∷ ys) x y all one = (all.0, zip_more R xs ys x y all.1 one)

-- the items of one place
pub zip_at : {A B : Type 0} (R : A → B → Type 0) (xs : List A) (ys : List B) (i : ℕ) (d : A) (e : B) → AllZip R xs ys → i < length xs →
    (i < length ys) × R (get_or xs i d) (get_or ys i e)
zip_at R [] [] i d e all inside = absurd (omega arith)
zip_at R [] (b ∷ ys) i d e all inside = absurd all
zip_at R (a ∷ xs) [] i d e all inside = absurd all
zip_at R (a ∷ xs) (b ∷ ys) zero d e all inside = (omega arith, all.0)
zip_at R (a ∷ xs) (b ∷ ys) (suc i) d e all inside =
    let rest = zip_at R xs ys i d e all.1 (omega arith) in (omega (arith, rest.0), rest.1)

-- what holds of all items holds of the last one and of those before it
pub all_before : {X : Type 0} (P : X → Type 0) (xs ys : List X) (y : X) → xs ≡ ys ++ y ∷ [] → All P xs → All P ys
all_before P xs ys y same all k d inside =
    let count = length_push ys y in
    let each = subst (All P) same all in
    subst P (get_or_append_left ys (y ∷ []) d k inside) (each k d (omega arith))

pub all_last : {X : Type 0} (P : X → Type 0) (xs ys : List X) (y : X) → xs ≡ ys ++ y ∷ [] → All P xs → P y
all_last P xs ys y same all =
    let count = length_push ys y in
    let each = subst (All P) same all in
    subst P (get_or_push ys y y (length ys) refl) (each (length ys) y (omega arith))

any_left : {X : Type 0} (P : X → Type 0) (xs ys : List X) → Any P xs → Any P (xs ++ ys)
any_left P xs ys any =
    let count = length-append xs ys in
    (any.0, any.1, omega (arith, any.2, count), get_or_append_left xs ys any.1 any.0 any.2 ∙ any.3, any.4)

any_push_cases : {X : Type 0} (P : X → Type 0) (xs : List X) (y : X) → Any P (xs ++ y ∷ []) → Any P xs ⊎ P y
any_push_cases P xs y any =
    elim (cases_lt any.0 (length xs)) [
      | inl less ↦ inl (any.0, any.1, less, sym (get_or_append_left xs (y ∷ []) any.1 any.0 less) ∙ any.3, any.4)
      | inr past ↦
          let count = length_push xs y in
          let last : length xs ≡ any.0 = omega (arith, any.2, count) in
          inr (subst P (sym any.3 ∙ get_or_push xs y any.1 any.0 last) any.4)
    ]

-- ---- blocks

pub block_none : (parts : Parts) (n : ℕ) (block : RowBlock) → block.names ≡ [] → block.rows ≡ [] → IsBlockOf parts n block
block_none parts n block names rows =
    let none : RowBlock = record { names = []; rows = [] } in
    let same : none ≡ block = (λ i. record { names = (sym names) i; rows = (sym rows) i }) in
    subst (IsBlockOf parts n) same (record { few = omega arith; named = tt; fit = All-nil (IsFitRow parts n) })

pub block_more : (parts : Parts) (n : ℕ) (old new : RowBlock) (name : RowName) (row : RowForm) → length old.names < MOST_ROWS →
    new.names ≡ old.names ++ name ∷ [] → new.rows ≡ old.rows ++ row ∷ [] → IsBlockOf parts n old → IsNamed parts n name row → IsFitRow parts n row →
    IsBlockOf parts n new
block_more parts n old new name row room names rows is named fits =
    let more : RowBlock = record { names = old.names ++ name ∷ []; rows = old.rows ++ row ∷ [] } in
    let same : more ≡ new = (λ i. record { names = (sym names) i; rows = (sym rows) i }) in
    let count = length_push old.names name in
    subst (IsBlockOf parts n) same (record {
      few = omega arith;
      named = zip_more (IsNamed parts n) old.names old.rows name row is.named named;
      fit = All-push (IsFitRow parts n) old.rows row is.fit fits;
    })

-- the row that stands where the name does
pub row_found : (parts : Parts) (n : ℕ) (block : RowBlock) (name : RowName) (place : ℕ) (row : RowForm) → IsBlockOf parts n block →
    (place < length block.names) × HoldsAt (λ (other : RowName). other ≡ name) block.names place → row ≡ get_or block.rows place row →
    IsNamed parts n name row × IsFitRow parts n row
row_found parts n block name place row is there found =
    let both = zip_at (IsNamed parts n) block.names block.rows place name row is.named there.0 in (
      subst (λ (other : RowForm). IsNamed parts n name other) (sym found)
          (subst (λ (other : RowName). IsNamed parts n other (get_or block.rows place row)) (there.1 name) both.1),
      subst (IsFitRow parts n) (sym found) (is.fit place row both.0),
    )

-- ---- names in blocks

pub names_kept : (old mid new : List RowBlock) → KeepNames old mid → KeepNames mid new → KeepNames old new
names_kept old mid new first second name had = second name (first name had)

pub names_stay : (blocks : List RowBlock) (block : RowBlock) → KeepNames blocks (blocks ++ block ∷ [])
names_stay blocks block name had = any_left (λ (b : RowBlock). Contains b.names name) blocks (block ∷ []) had

-- the last block grows by a name
pub names_grow : (blocks : List RowBlock) (old new : RowBlock) (name : RowName) → new.names ≡ old.names ++ name ∷ [] →
    KeepNames (blocks ++ old ∷ []) (blocks ++ new ∷ [])
names_grow blocks old new name names other had =
    elim (any_push_cases (λ (b : RowBlock). Contains b.names other) blocks old had) [
      | inl before ↦ any_left (λ (b : RowBlock). Contains b.names other) blocks (new ∷ []) before
      | inr here ↦ Any-push (λ (b : RowBlock). Contains b.names other) blocks new
          (subst (λ (names : List RowName). Contains names other) (sym names) (Contains-append_left old.names (name ∷ []) other here))
    ]

pub name_there : (blocks : List RowBlock) (old new : RowBlock) (name : RowName) → new.names ≡ old.names ++ name ∷ [] →
    HaveName (blocks ++ new ∷ []) name
name_there blocks old new name names =
    Any-push (λ (b : RowBlock). Contains b.names name) blocks new
    (subst (λ (names : List RowName). Contains names name) (sym names) (Contains-push old.names name))
