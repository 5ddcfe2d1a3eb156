use Rattle.std.proofs.Common.{◌≡◌, ◌≤◌, ◌<◌, ◌+ℤ◌, pos, get_or, length, unsigned_abs, arith, rules, to_z, FitsSigned}
use Rattle.std.specs.Int.{w64}
use Rattle.std.proofs.lemmas.Int.{ints, to_z-of_z}
use Rattle.std.proofs.lemmas.List.Sums.{sum_by_more, sum_by_more_le}
use Rattle.number_laws.proofs.SignedSumLaws.{total_by-more, abs-sum}
use Rattle.row_forms.specs.declared.piece.Which.TheVariants.{Any}
use Rattle.row_forms.specs.declared.piece.Figure.TheVariants.{Choice}
use Rattle.row_forms.specs.declared.piece.Piece.{Piece}
use Rattle.row_forms.specs.Pieces.{piece_of, factor_in}
use Rattle.row_forms.specs.Sizes.{piece_reach}
use Rattle.row_forms.proofs.TermLaws.{factor-small}
use Rattle.row_forms.proofs.factors.factor_at.Goals as goal

abbrev no_piece : Piece
no_piece = piece_of (pos 0) 0 0 Any Choice

pub loop-piece-preserved : goal.loop-piece-preserved
loop-piece-preserved c =
    let parts = c.args.plant.now in
    let pieces = c.args.pieces.now in
    let i = c.loop-piece.piece-index in
    let there : i < length pieces = search rules in
    let fits : FitsSigned w64 c.factor_in.result = record { sfits = c.factor_in.type_inv } in
    let fits' : FitsSigned w64 c.plus-factor.result = record { sfits = c.plus-factor.type_inv } in
    let part = to_z-of_z w64 c.factor_in.result fits in
    let whole = to_z-of_z w64 c.plus-factor.result fits' in
    let sum : c.plus-factor.result ≡ to_z w64 c.loop-piece.factor-bits +ℤ c.factor_in.result = rw part at c.plus-factor.ensures in
    let more = total_by-more (factor_in parts c.args.column) pieces i no_piece there in
    let small = factor-small parts c.args.column (get_or pieces i no_piece) in
    let small' : unsigned_abs c.factor_in.result ≤ piece_reach (get_or pieces i no_piece) = rw c.factor_in.ensures small in
    let reach = sum_by_more piece_reach pieces i no_piece there in
    let sizes = abs-sum (to_z w64 c.loop-piece.factor-bits) c.factor_in.result in
    record {
      value = omega (arith, ints, whole, sum, more, c.loop-piece.invariant.value, c.factor_in.ensures);
      size = rw (whole, sum) (omega (arith, sizes, small', reach, c.loop-piece.invariant.size));
    }

pub plus-factor-requires : goal.plus-factor-requires
plus-factor-requires c =
    let pieces = c.args.pieces.now in
    let i = c.loop-piece.piece-index in
    let there : i < length pieces = search rules in
    let part = to_z-of_z w64 c.factor_in.result (record { sfits = c.factor_in.type_inv }) in
    let small : unsigned_abs c.factor_in.result ≤ piece_reach (get_or pieces i no_piece) =
    rw c.factor_in.ensures (factor-small c.args.plant.now c.args.column (get_or pieces i no_piece)) in
    let more = sum_by_more_le piece_reach pieces i no_piece there in
    rw part (omega (arith, small, more, c.loop-piece.invariant.size, c.requires))
