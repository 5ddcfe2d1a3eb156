use Rattle.std.proofs.Common.{◌≡◌, [], ◌∷◌, ◌++◌}
use Rattle.item_lists.specs.Joined.{joined_below}
use Rattle.linear_form.specs.declared.column.Part.TheVariants.{A}
use Rattle.linear_form.specs.Listed.{column_of}
use Rattle.row_forms.specs.Terms.{piece_terms}
use Rattle.row_forms.proofs.terms.push_amounts.Given as goal

abbrev pub invariant-loop-crude : goal.invariant-loop-crude
invariant-loop-crude l = l.terms.items ≡ l.initial.terms.items ++ piece_terms l.plant l.pieces (joined_below l.crude (λ c. column_of l.slot l.v (A c) ∷ []))
