use Rattle.std.proofs.Common.{◌≡◌, List, sym, subst, arith}
use Rattle.std.proofs.lemmas.Grind.{common_steps}
use Rattle.row_forms.specs.declared.piece.Piece.{Piece}
use Rattle.row_forms.specs.Sizes.{HasSmallReach}
use Rattle.blend_cuts.specs.CutRows.{cut_inequality}
use Rattle.blend_cuts.proofs.ValidLaws.{valid_cut}
use Rattle.blend_cuts.proofs.SizeLaws.{reaches-little}
use Rattle.blend_cuts.proofs.rows.inequality.Goals as goal

pub returns-clause-reach : goal.returns-clause-reach
returns-clause-reach c =
    let is = valid_cut c.args.plant.now c.args.cut.now c.sound.ensures.plant c.requires.valid in
    let little = reaches-little c.args.plant.now c.args.cut.now c.args.slot c.args.op c.sound.ensures.plant is c.requires.slots c.requires.op in
    let same : c.from_vec.result ≡ (cut_inequality c.args.plant.now c.args.cut.now c.args.slot c.args.op).pieces =
    grind (arith, common_steps) in
    subst (λ (pieces : List Piece). HasSmallReach pieces) (sym same) little
