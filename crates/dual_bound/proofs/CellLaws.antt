-- Cells and what is added to them.
use Rattle.std.proofs.Common.{◌≡◌, ◌≢◌, ℕ, ◌+◌, ◌-◌, ◌^◌, ◌<◌, ◌≤◌, List, [], length, take, get_or, slice_index_or, slice_set, ℤ, pos, negsuc, neg_ℤ, ◌+ℤ◌, ◌*ℤ◌, inl, inr, ap, sym, ◌∙◌, refl, arith, unsigned_abs, to_z, of_z, subst}
use Rattle.std.proofs.Math.IntN.{*ℤ_comm, zero-*ℤ}
use Rattle.std.proofs.lemmas.Bool.{cases_eq}
use Rattle.std.proofs.lemmas.Bool.Decides.{nat_tests}
use Rattle.std.proofs.lemmas.Int.{ints}
use Rattle.std.proofs.lemmas.List.{length-set, get_or-set_same, get_or-set_other}
use Rattle.linear_form.specs.declared.row.RowTerm.{RowTerm}
use Rattle.linear_form.specs.Columns.{Extent, number_of}
use Rattle.linear_form.specs.Rows.{RowForm}
use Rattle.number_laws.proofs.ProductLaws.{product-sum, negative-product}
use Rattle.number_laws.proofs.SignedSumLaws.{abs-sum, total_by-more, total_by_pairs-more}
use Rattle.dual_bound.proofs.StoredNumbers.{read-mag}
use Rattle.std.specs.Int.{w128}
use lib.Signed.{mag}
use Rattle.dual_bound.specs.inside.Cells.{Adds, AreWithin, Hold}
use Rattle.dual_bound.specs.Dual.{factor_in, factor_of, weighed_factor}

times-zero : (a : ℤ) → a *ℤ pos 0 ≡ pos 0
times-zero a = *ℤ_comm a (pos 0) ∙ zero-*ℤ a

-- one cell is written
pub cell-written : (cells : List ℤ) (amount : ℕ → ℤ) (p : ℕ) (x : ℤ) → p < length cells → x ≡ slice_index_or cells p (pos 0) +ℤ amount p →
    ((k : ℕ) → k < length cells → k ≢ p → amount k ≡ pos 0) → Adds amount cells (slice_set cells p x)
cell-written cells amount p x there written others = record {
  as_many = length-set cells p x;
  each = λ k within. elim (cases_eq k p) [
    | inl same ↦ rw same (get_or-set_same cells p x (pos 0) there ∙ written)
    | inr apart ↦ let kept = get_or-set_other cells p k x (pos 0) apart in let none = others k within apart in omega (arith, ints, kept, none)
  ];
}

pub factor_in-here : (extent : Extent) (j : ℕ) (term : RowTerm) → number_of extent term.column ≡ j → factor_in extent j term ≡ term.factor
factor_in-here extent j term here = grind (arith, nat_tests)

pub factor_in-elsewhere : (extent : Extent) (j : ℕ) (term : RowTerm) → number_of extent term.column ≢ j → factor_in extent j term ≡ pos 0
factor_in-elsewhere extent j term elsewhere = grind (arith, nat_tests)

-- the term of column number n is added to the cells from number from on
pub term-written : (extent : Extent) (term : RowTerm) (times : ℤ) (from n : ℕ) (cells : List ℤ) (x : ℤ) → number_of extent term.column ≡ n → from ≤ n →
    n - from < length cells →
    x ≡ slice_index_or cells (n - from) (pos 0) +ℤ (times *ℤ term.factor) →
    Adds (λ k. times *ℤ factor_in extent (from + k) term) cells (slice_set cells (n - from) x)
term-written extent term times from n cells x number past there written =
    let place : number_of extent term.column ≡ from + (n - from) = omega (arith, number) in
    cell-written cells (λ k. times *ℤ factor_in extent (from + k) term) (n - from) x there
    (written ∙ ap (λ (z : ℤ). slice_index_or cells (n - from) (pos 0) +ℤ (times *ℤ z)) (sym (factor_in-here extent (from + (n - from)) term place)))
    (λ k within apart. let elsewhere : number_of extent term.column ≢ from + k =
    λ (same : number_of extent term.column ≡ from + k). apart (omega (arith, number, same)) in
    ap (λ (z : ℤ). times *ℤ z) (factor_in-elsewhere extent (from + k) term elsewhere) ∙ times-zero times)

-- ---- one addition after another

pub adds-none : (amount : ℕ → ℤ) (cells : List ℤ) → ((k : ℕ) → amount k ≡ pos 0) → Adds amount cells cells
adds-none amount cells none = record { as_many = refl; each = λ k within. let zero_here = none k in omega (arith, ints, zero_here) }

pub adds-chain : (first second both : ℕ → ℤ) (old mid new : List ℤ) → Adds first old mid → Adds second mid new → ((k : ℕ) → both k ≡ first k +ℤ second k) →
    Adds both old new
adds-chain first second both old mid new one two sums = record {
  as_many = two.as_many ∙ one.as_many;
  each = λ k within. let here = one.each k within in
      let there = two.each k (omega (arith, one.as_many)) in
      let sum = sums k in
      omega (arith, ints, here, there, sum);
}

pub adds-within : (amount : ℕ → ℤ) (old new : List ℤ) (limit size most : ℕ) → Adds amount old new → AreWithin limit old →
    ((k : ℕ) → unsigned_abs (amount k) ≤ size) → limit + size ≤ most → AreWithin most new
adds-within amount old new limit size most added room small fits = λ k within.
    let before = room k (omega (arith, added.as_many)) in
    let step = small k in
    let sum = added.each k (omega (arith, added.as_many)) in
    let both = abs-sum (slice_index_or old k (pos 0)) (amount k) in
    rw sum (omega (arith, before, step, both))

pub terms-none : (extent : Extent) (times : ℤ) (from : ℕ) (cells : List ℤ) → Adds (λ k. times *ℤ factor_of extent (from + k) []) cells cells
terms-none extent times from cells = adds-none (λ k. times *ℤ pos 0) cells (λ k. times-zero times)

pub terms-more : (extent : Extent) (terms : List RowTerm) (times : ℤ) (from i : ℕ) (term : RowTerm) (old mid new : List ℤ) → i < length terms →
    term ≡ get_or terms i term →
    Adds (λ k. times *ℤ factor_of extent (from + k) (take i terms)) old mid → Adds (λ k. times *ℤ factor_in extent (from + k) term) mid new →
    Adds (λ k. times *ℤ factor_of extent (from + k) (take (i + 1) terms)) old new
terms-more extent terms times from i term old mid new there is before step =
    adds-chain (λ k. times *ℤ factor_of extent (from + k) (take i terms)) (λ k. times *ℤ factor_in extent (from + k) term)
    (λ k. times *ℤ factor_of extent (from + k) (take (i + 1) terms)) old mid new before step
    (λ k. let more = total_by-more (factor_in extent (from + k)) terms i term there in
    let last : factor_in extent (from + k) (get_or terms i term) ≡ factor_in extent (from + k) term = ap (factor_in extent (from + k)) (sym is) in
    ap (λ (z : ℤ). times *ℤ z) (more ∙ ap (λ (z : ℤ). factor_of extent (from + k) (take i terms) +ℤ z) last)
    ∙ product-sum times (factor_of extent (from + k) (take i terms)) (factor_in extent (from + k) term))

pub rows-none : (extent : Extent) (from : ℕ) (cells : List ℤ) → Adds (λ k. neg_ℤ (weighed_factor extent [] [] (from + k))) cells cells
rows-none extent from cells = adds-none (λ k. neg_ℤ (pos 0)) cells (λ k. refl)

pub rows-more : (extent : Extent) (ys : List ℕ) (rows : List RowForm) (from r : ℕ) (row : RowForm) (old mid new : List ℤ) → r < length ys → r < length rows →
    row ≡ get_or rows r row →
    Adds (λ k. neg_ℤ (weighed_factor extent (take r ys) (take r rows) (from + k))) old mid →
    Adds (λ k. neg_ℤ (pos (get_or ys r 0)) *ℤ factor_of extent (from + k) row.terms) mid new →
    Adds (λ k. neg_ℤ (weighed_factor extent (take (r + 1) ys) (take (r + 1) rows) (from + k))) old new
rows-more extent ys rows from r row old mid new first second is before step =
    adds-chain (λ k. neg_ℤ (weighed_factor extent (take r ys) (take r rows) (from + k)))
    (λ k. neg_ℤ (pos (get_or ys r 0)) *ℤ factor_of extent (from + k) row.terms)
    (λ k. neg_ℤ (weighed_factor extent (take (r + 1) ys) (take (r + 1) rows) (from + k))) old mid new before step
    (λ k. let f = λ (y : ℕ) (form : RowForm). pos y *ℤ factor_of extent (from + k) form.terms in
    let more = total_by_pairs-more f ys rows r 0 row first second in
    let last : f (get_or ys r 0) (get_or rows r row) ≡ f (get_or ys r 0) row = ap (f (get_or ys r 0)) (sym is) in
    let less = negative-product (pos (get_or ys r 0)) (factor_of extent (from + k) row.terms) in
    omega (arith, ints, more, last, less))

-- ---- a number of times that is stored and read is itself

pub adds-read : (times : ℤ) (f : ℕ → ℤ) (old new : List ℤ) → mag times < 2 ^ 127 → Adds (λ k. to_z w128 (of_z w128 times) *ℤ f k) old new →
    Adds (λ k. times *ℤ f k) old new
adds-read times f old new fits added = subst (λ (t : ℤ). Adds (λ k. t *ℤ f k) old new) (read-mag times fits) added

pub adds-stored : (times : ℤ) (f : ℕ → ℤ) (old new : List ℤ) → mag times < 2 ^ 127 → Adds (λ k. times *ℤ f k) old new →
    Adds (λ k. to_z w128 (of_z w128 times) *ℤ f k) old new
adds-stored times f old new fits added = subst (λ (t : ℤ). Adds (λ k. t *ℤ f k) old new) (sym (read-mag times fits)) added

-- ---- cells that began at 0

zero-from_abs : (z : ℤ) → unsigned_abs z ≤ 0 → z ≡ pos 0
zero-from_abs (pos n) none = omega (arith, ints)
zero-from_abs (negsuc n) none = absurd (omega arith)

pub hold-added : (number : ℕ → ℤ) (old new : List ℤ) → AreWithin 0 old → Adds number old new → Hold number new
hold-added number old new clear added = λ k within.
    let before = clear k (omega (arith, added.as_many)) in
    let none = zero-from_abs (slice_index_or old k (pos 0)) before in
    let sum = added.each k (omega (arith, added.as_many)) in
    omega (arith, ints, none, sum)
