use Rattle.std.proofs.Common.{◌≡◌, ◌++◌, map}
use Rattle.std.specs.Vec.Iter.{into_iter_items}
use Rattle.search_gather.specs.Numbered.{note_numbered}
use Rattle.search_gather.proofs.joining.add_notes.Given as goal

-- what is there and what is left make the whole
abbrev pub invariant-loop-note : goal.invariant-loop-note
invariant-loop-note l =
    l.all ++ map (note_numbered l.from l.cuts) (into_iter_items l.note-iterator) ≡ l.fn.all ++ map (note_numbered l.from l.cuts) l.fn.notes
