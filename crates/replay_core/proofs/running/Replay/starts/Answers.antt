use Rattle.std.proofs.Common.{List, ℕ, sym, subst}
use Rattle.replay_core.specs.Replayed.{Replayed}
use Rattle.replay_core.specs.inside.Latest.{start_of, AreLatest}
use Rattle.replay_core.proofs.running.Replay.starts.Goals as goal

pub returns : goal.returns
returns c =
    subst (λ (r : Replayed). AreLatest start_of r.parts r.steps c.as_slice.result.now) c.self.view_is
    (subst (λ (table : List ℕ). AreLatest start_of c.self.inside.plant.now c.self.inside.steps.items table) (sym c.as_slice.ensures.value)
    c.self.invariant.starts)
