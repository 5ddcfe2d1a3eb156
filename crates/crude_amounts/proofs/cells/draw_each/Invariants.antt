use Rattle.std.proofs.Common.{◌≡◌, sum, take}
use Rattle.crude_amounts.specs.Draw.{share_of, draw_from}
use Rattle.crude_amounts.proofs.cells.draw_each.Given as goal

abbrev pub invariant-loop-c : goal.invariant-loop-c
invariant-loop-c l = record {
  reached : l.reached ≡ sum (take l.c l.cells);
  taken : l.taken ≡ share_of l.total l.volume l.reached;
  drawn : take l.c l.drawn ≡ draw_from l.total l.volume 0 (take l.c l.cells);
}
