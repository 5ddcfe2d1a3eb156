use Rattle.std.proofs.Common.{◌≡◌, ◌++◌, map, drop}
use Rattle.line_text.specs.Words.{text_of}
use Rattle.plan_text.specs.OpLine.{op_line_words}
use Rattle.dossier_text.proofs.writing.write_op_lines.Given as goal

-- what is written and what is left make the whole
abbrev pub invariant-loop-line : goal.invariant-loop-line
invariant-loop-line l =
    l.out.items ++ text_of (map op_line_words (drop l.line-index l.lines)) ≡ l.fn.out.items ++ text_of (map op_line_words l.fn.lines)
