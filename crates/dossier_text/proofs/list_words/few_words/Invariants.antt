use Rattle.std.proofs.Common.{◌≡◌, ◌≤◌, length}
use Rattle.dossier_text.specs.inside.TermReading.{each_word, few_words}
use Rattle.dossier_text.proofs.FewLaws.{with_kept}
use Rattle.dossier_text.proofs.list_words.few_words.Given as goal

-- what is kept and what is left make what all words make
abbrev pub invariant-loop-word : goal.invariant-loop-word
invariant-loop-word g l =
    let said = g.X.WordItem.said in
    ((goal.iterator-loop-word g).can_next l.word-iterator × (goal.iterator-loop-word g).is_finite l.word-iterator)
    × (length l.items ≤ l.most)
    × (with_kept l.line l.most l.items l.too_many (each_word said l.word-iterator) ≡ few_words said l.line l.most l.fn.words)
