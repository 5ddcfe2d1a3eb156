use Rattle.std.proofs.Common.{◌≡◌, take}
use Rattle.replay_core.specs.Margin.{crude_margins_of}
use Rattle.replay_core.proofs.running.crude_margins.Given as goal

abbrev pub invariant-loop-c : goal.invariant-loop-c
invariant-loop-c l = l.margins.items ≡ take l.c (crude_margins_of l.plant)
