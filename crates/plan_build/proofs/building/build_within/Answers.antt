use Rattle.plan_build.proofs.building.build_within.Goals as goal

pub returns-in_ok-replayed-in-Some : goal.returns-in_ok-replayed-in-Some
returns-in_ok-replayed-in-Some c =
    c.better.ensures c.args.plant.now c.args.n c.args.hint.now.ops (rw c.as_slice-ops.ensures at c.in_ok-greedy.ensures)
    c.in_ok-replayed-in-Some.ensures
