use Rattle.std.proofs.Common.{◌≡◌, ◌++◌, map, drop}
use Rattle.line_text.specs.Words.{text_of}
use Rattle.dossier_text.specs.Nodes.{cut_words}
use Rattle.dossier_text.proofs.nodes.write_cuts.Given as goal

-- what is written and what is left make the whole
abbrev pub invariant-loop-cut : goal.invariant-loop-cut
invariant-loop-cut l =
    l.out.items ++ text_of (map cut_words (drop l.cut-index l.cuts)) ≡ l.fn.out.items ++ text_of (map cut_words l.fn.cuts)
