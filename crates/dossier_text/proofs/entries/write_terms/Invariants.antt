use Rattle.std.proofs.Common.{◌≡◌, ◌++◌, map, drop}
use Rattle.line_text.specs.Words.{spaced}
use Rattle.dossier_text.specs.Entries.{term_word}
use Rattle.dossier_text.proofs.entries.write_terms.Given as goal

-- what is written and what is left make the whole
abbrev pub invariant-loop-term : goal.invariant-loop-term
invariant-loop-term l =
    l.out.items ++ spaced (map term_word (drop l.term-index l.terms)) ≡ l.fn.out.items ++ spaced (map term_word l.fn.terms)
