use Rattle.std.proofs.Common.{◌≡◌, ◌+◌, ◌++◌}
use Rattle.item_lists.specs.Joined.{joined_below}
use Rattle.linear_form.specs.Listed.{columns_of_slot}
use Rattle.plant_model.specs.Parts.{op_count_of, crude_count_of}
use Rattle.row_forms.specs.Terms.{piece_terms}
use Rattle.row_forms.proofs.terms.push_slots.Given as goal

abbrev pub invariant-loop-k : goal.invariant-loop-k
invariant-loop-k l =
    l.terms.items ≡ l.initial.terms.items
    ++ piece_terms l.plant l.pieces (joined_below l.k (λ k. columns_of_slot (op_count_of l.plant) (crude_count_of l.plant) (k + 1)))
