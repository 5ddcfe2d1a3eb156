use Rattle.std.proofs.Common.{◌≡◌, ◌++◌, drop}
use Rattle.line_text.specs.Words.{text_of}
use Rattle.dossier_text.specs.Nodes.{node_lines}
use Rattle.dossier_text.proofs.nodes.write_nodes.Given as goal

-- what is written and what is left make the whole
abbrev pub invariant-loop-id : goal.invariant-loop-id
invariant-loop-id l =
    l.out.items ++ text_of (node_lines l.id (drop l.id l.nodes)) ≡ l.fn.out.items ++ text_of (node_lines 0 l.fn.nodes)
