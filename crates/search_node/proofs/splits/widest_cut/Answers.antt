use Rattle.search_node.proofs.CutLaws.{one_point}
use Rattle.search_node.proofs.splits.widest_cut.Goals as goal

pub returns-in_err-widest_minutes-in-None-clause-lawful :
    goal.returns-in_err-widest_minutes-in-None-clause-lawful
returns-in_err-widest_minutes-in-None-clause-lawful c =
    let volume = c.in-None.ensures in
    rw c.from_residual.ensures (one_point c.args.bx.now volume.shape.each c.requires volume.found c.in_err-widest_minutes-in-None.ensures)
