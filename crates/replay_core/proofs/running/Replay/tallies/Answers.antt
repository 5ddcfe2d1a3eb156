use Rattle.std.proofs.Common.{List, sym, subst}
use Rattle.replay_core.specs.declared.tally.Tally.{Tally}
use Rattle.replay_core.specs.Replayed.{Replayed}
use Rattle.replay_core.specs.inside.Tally.{AreTallies}
use Rattle.replay_core.proofs.running.Replay.tallies.Goals as goal

pub returns : goal.returns
returns c =
    subst (λ (r : Replayed). AreTallies r.parts r.steps c.as_slice.result.now) c.self.view_is
    (subst (λ (table : List Tally). AreTallies c.self.inside.plant.now c.self.inside.steps.items table) (sym c.as_slice.ensures.value) c.self.invariant.tallies)
