use Rattle.std.proofs.Common.{◌≡◌, length, ap, arith}
use Rattle.search_core.proofs.SizeLaws.{few-notes}
use Rattle.search_core.proofs.state.CoreState.note_count.Goals as goal

pub overflow_cast-result : goal.overflow_cast-result
overflow_cast-result c =
    let few = few-notes c.self.inside.machine c.self.invariant in
    let same : length c.notes.result.now ≡ length c.self.inside.machine.notes = ap length c.notes.ensures in omega arith
