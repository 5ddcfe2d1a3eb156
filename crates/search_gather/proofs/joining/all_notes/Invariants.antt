use Rattle.std.proofs.Common.{◌≡◌, ◌+◌, ◌*◌, ◌≤◌, ◌++◌, drop, length}
use Rattle.std.specs.Vec.Iter.{into_iter_items}
use Rattle.limits.specs.declared.TheConstants.{MOST_OWN_CUTS}
use Rattle.search_gather.specs.Numbered.{notes_from, notes_of}
use Rattle.search_gather.proofs.joining.all_notes.Given as goal

-- what is there and what is left make the whole, and each worker's cuts are few
abbrev pub invariant-loop-notes : goal.invariant-loop-notes
invariant-loop-notes l = record {
  whole : l.all ++ notes_from l.from (into_iter_items l.notes-iterator) (drop l.next l.cuts) ≡ notes_of l.fn.lists l.cuts;
  left : l.next + length (into_iter_items l.notes-iterator) ≡ length l.cuts;
  few : l.from ≤ MOST_OWN_CUTS * l.next;
}
