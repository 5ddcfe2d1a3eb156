-- The columns are those of the extent.
use Rattle.std.proofs.Common.{ℕ, ◌+◌, ◌*◌, ◌≤◌, length, arith}
use Rattle.std.proofs.Math.Nat.{mul-le-mul_left, mul-le-mul_right}
use Rattle.linear_form.specs.declared.row.RowTerm.{RowTerm}
use Rattle.linear_form.specs.Columns.{IsColumn, count_of}
use Rattle.linear_form.specs.Listed.{columns_of}
use Rattle.linear_form.proofs.ListedLaws.{columns-there}
use Rattle.limits.specs.declared.TheConstants.{MOST_SLOTS}
use Rattle.plant_model.specs.declared.parts.Parts.{Parts}
use Rattle.plant_model.specs.Parts.{op_count_of, crude_count_of}
use Rattle.plant_model.specs.Sound.{SoundPlant}
use Rattle.plant_model.proofs.PlaceLists.{vessels-few}
use Rattle.row_forms.specs.Columns.{extent_of}
use Rattle.row_forms.specs.Laws.{ColumnsAreFew, TermsAreOfColumns}
use Rattle.row_forms.specs.Pieces.{factor_at}
use Rattle.row_forms.proofs.TermLaws.{all-terms}

pub terms_are_of_columns : (parts : Parts) → TermsAreOfColumns parts
terms_are_of_columns parts n pieces =
    all-terms (λ (term : RowTerm). IsColumn (extent_of parts n) term.column) (factor_at parts pieces) (columns_of (extent_of parts n))
    (columns-there (extent_of parts n))

-- ---- how many there are

-- of the greatest plant at the most slots
abbrev pub most_columns : ℕ
most_columns = 28882

columns_below : (slots ops crudes vessels : ℕ) → slots ≤ 40 → ops ≤ 48 → crudes ≤ 12 → vessels ≤ 42 →
    slots + slots * ops * (crudes + 3) + vessels ≤ most_columns
columns_below slots ops crudes vessels few known some there =
    let pairs : slots * ops ≤ 40 * 48 = omega (arith, mul-le-mul_right ops few, mul-le-mul_left 40 known) in
    let parts : slots * ops * (crudes + 3) ≤ 1920 * (crudes + 3) = mul-le-mul_right (crudes + 3) pairs in
    omega arith

pub columns-counted : (parts : Parts) (n : ℕ) → SoundPlant parts → n ≤ MOST_SLOTS → count_of (extent_of parts n) ≤ most_columns
columns-counted parts n sound few =
    let ops = sound.ops in
    let crudes = sound.crudes.1 in
    let places = sound.places in
    let vessels = vessels-few parts in
    columns_below n (op_count_of parts) (crude_count_of parts) (length parts.vessels) few ops crudes (omega arith)

pub columns_are_few : (parts : Parts) → SoundPlant parts → ColumnsAreFew parts
columns_are_few parts sound n few = let counted = columns-counted parts n sound few in omega arith
