-- No column stands twice among the terms.
use Rattle.std.proofs.Common.{◌≢◌, inl, inr, List, [], ◌∷◌, ℤ, pos}
use Rattle.std.specs.Ordering.{int_eq}
use Rattle.std.proofs.lemmas.Bool.{cases_Bool}
use Rattle.linear_form.specs.declared.column.Column.{Column}
use Rattle.linear_form.specs.declared.row.RowTerm.{RowTerm}
use Rattle.linear_form.specs.Rows.{HasEachOnce}
use Rattle.linear_form.proofs.ListedLaws.{AreApart}
use Rattle.row_forms.specs.Terms.{terms_over}
use Rattle.row_forms.proofs.TermLaws.{all-terms}

pub terms-once : (factor : Column → ℤ) (columns : List Column) → AreApart columns → HasEachOnce (terms_over factor columns)
terms-once factor [] apart = tt
terms-once factor (column ∷ columns) apart =
    let rest = terms-once factor columns apart.1 in
    elim (cases_Bool (int_eq (factor column) (pos 0))) [
      | inl none ↦ rw none rest
      | inr some ↦ rw some (all-terms (λ (term : RowTerm). term.column ≢ column) factor columns apart.0, rest)
    ]
