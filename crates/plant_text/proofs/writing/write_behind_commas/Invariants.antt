use Rattle.std.proofs.Common.{◌≡◌, ◌++◌, map, drop}
use Rattle.plant_text.specs.Canonical.{behind_commas}
use Rattle.plant_text.proofs.writing.write_behind_commas.Given as goal

-- what is written and what is left make the whole
abbrev pub invariant-loop-item : goal.invariant-loop-item
invariant-loop-item g l =
    let text = g.W.ItemWriter.text l.writer in
    l.out.items ++ behind_commas (map text (drop l.item-index l.items)) ≡ l.fn.out.items ++ behind_commas (map text l.fn.items)
