use Rattle.std.proofs.Common.{◌≡◌, ◌++◌}
use Rattle.item_lists.specs.Joined.{joined_below}
use Rattle.linear_form.specs.Listed.{operation_columns}
use Rattle.plant_model.specs.Parts.{crude_count_of}
use Rattle.row_forms.specs.Terms.{piece_terms}
use Rattle.row_forms.proofs.terms.push_operations.Given as goal

abbrev pub invariant-loop-v : goal.invariant-loop-v
invariant-loop-v l =
    l.terms.items ≡ l.initial.terms.items
    ++ piece_terms l.plant l.pieces (joined_below l.v (operation_columns (crude_count_of l.plant) l.slot))
