-- Which columns a piece of a row covers, and the factor that pieces give a column together.
use Rattle.std.specs.Prelude.{ℕ, Bool, true, false, ◌&&◌, ◌==◌, nat_lt, nat_le, if◌then◌else◌, List, ℤ, pos}
use Rattle.std.specs.Int.{bit_at}
use Rattle.number_laws.specs.SignedSums.{total_by}
use Rattle.linear_form.specs.declared.column.TheConstants.{IDLE_ENTRY}
use Rattle.linear_form.specs.declared.column.Column.{Column}
use Rattle.linear_form.specs.declared.column.Part.{Part}
use Rattle.linear_form.specs.declared.column.Part.TheVariants.{Z, A, S, E, W}
use Rattle.plant_model.specs.declared.parts.Parts.{Parts}
use Rattle.plant_model.specs.Parts.{op_count_of, op_of}
use Rattle.plant_model.specs.Relations.{is_charge}
use Rattle.row_forms.specs.declared.piece.Which.{Which}
use Rattle.row_forms.specs.declared.piece.Which.TheVariants.{Any, Idle, One, From, Into, Among, Charges}
use Rattle.row_forms.specs.declared.piece.Figure.{Figure}
use Rattle.row_forms.specs.declared.piece.Figure.TheVariants.{Choice, Volume, Amount, Start, End, Wait}
use Rattle.row_forms.specs.declared.piece.Piece.{Piece}

-- whether an entry is taken
abbrev pub takes : Parts → Which → ℕ → Bool
takes parts Any entry = true
takes parts Idle entry = entry == IDLE_ENTRY
takes parts (One v) entry = entry == v
takes parts (From p) entry = nat_lt entry (op_count_of parts) && (op_of parts entry).from == p
takes parts (Into p) entry = nat_lt entry (op_count_of parts) && (op_of parts entry).to == p
takes parts (Among mask) entry = nat_lt entry (op_count_of parts) && bit_at mask entry == 1
takes parts Charges entry = nat_lt entry (op_count_of parts) && is_charge (op_of parts entry).kind

-- whether a part belongs to the figure
abbrev pub is_of : Figure → Part → Bool
is_of Choice Z = true
is_of Volume (A crude) = true
is_of (Amount c) (A crude) = crude == c
is_of Start S = true
is_of End E = true
is_of Wait W = true
is_of figure part = false

-- whether the slot is one of the piece's
abbrev pub is_slot : Piece → ℕ → Bool
is_slot piece slot = nat_le piece.first slot && nat_le slot piece.last

-- whether the column is
abbrev pub covers : Parts → Piece → Column → Bool
covers parts piece column =
    is_slot piece column.slot && takes parts piece.which column.entry && is_of piece.figure column.part

-- the factor that the piece gives a column
abbrev pub factor_in : Parts → Column → Piece → ℤ
factor_in parts column piece = if covers parts piece column then piece.factor else pos 0

-- pieces that meet in a column add up
abbrev pub factor_at : Parts → List Piece → Column → ℤ
factor_at parts pieces column = total_by (factor_in parts column) pieces

-- a piece by what it has
abbrev pub piece_of : ℤ → ℕ → ℕ → Which → Figure → Piece
piece_of factor first last which figure =
    record { factor = factor; first = first; last = last; which = which; figure = figure }

-- how long a vessel waits, as a piece
abbrev pub wait_piece : ℤ → ℕ → Piece
wait_piece factor p = piece_of factor 0 0 (One p) Wait
