use Rattle.std.proofs.Common.{◌≡◌, ◌++◌, map, drop}
use Rattle.std.specs.Fmt.{signed_decimal}
use Rattle.line_text.specs.Words.{spaced}
use Rattle.dossier_text.proofs.nodes.write_weights.Given as goal

-- what is written and what is left make the whole
abbrev pub invariant-loop-weight : goal.invariant-loop-weight
invariant-loop-weight l =
    l.out.items ++ spaced (map signed_decimal (drop l.weight-index l.weights)) ≡ l.fn.out.items ++ spaced (map signed_decimal l.fn.weights)
