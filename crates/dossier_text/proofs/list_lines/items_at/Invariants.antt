use Rattle.std.proofs.Common.{◌≡◌, ◌+◌, ◌-◌, length}
use Rattle.dossier_text.specs.inside.ListReading.{each_line, item_at, items_at}
use Rattle.dossier_text.proofs.LineLaws.{with_front}
use Rattle.dossier_text.proofs.list_lines.items_at.Given as goal

-- what was read and what is left make what all lines make
abbrev pub invariant-loop-index : goal.invariant-loop-index
invariant-loop-index g l =
    let said = g.X.LineItem.said in
    let first = l.fn.lines.number in
    record {
      kept : length l.items ≡ l.index;
      number : l.lines.number ≡ first + l.index;
      whole : with_front l.items (each_line (λ index. item_at said (first + index) index) (l.count - l.index) l.index l.lines.rest)
          ≡ items_at said first l.count l.fn.lines.rest;
    }
