use Rattle.std.proofs.Common.{◌≡◌, [], ◌∷◌, ◌++◌}
use Rattle.item_lists.specs.Joined.{joined_below}
use Rattle.linear_form.specs.Listed.{vessel_column}
use Rattle.row_forms.specs.Terms.{piece_terms}
use Rattle.row_forms.proofs.terms.push_waits.Given as goal

abbrev pub invariant-loop-p : goal.invariant-loop-p
invariant-loop-p l = l.terms.items ≡ l.initial.terms.items ++ piece_terms l.plant l.pieces (joined_below l.p (λ p. vessel_column p ∷ []))
