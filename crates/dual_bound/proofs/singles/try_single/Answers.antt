use Rattle.std.proofs.Common.{◌≡◌, ◌*ℤ◌, pos, length, replicate, sym, refl, ◌∙◌, to_z, of_z, arith}
use Rattle.std.specs.Int.{w128}
use Rattle.std.proofs.lemmas.Int.{ints}
use Rattle.number_laws.specs.SignedSums.{total_by}
use Rattle.linear_form.specs.Columns.{count_of}
use Rattle.dual_bound.specs.Conditions.{AreColumns}
use Rattle.dual_bound.specs.Improving.{single}
use Rattle.dual_bound.specs.inside.Steps.{changes, KeepsLesser}
use Rattle.dual_bound.specs.inside.Systems.{row_count, weight_in, sum_in}
use Rattle.dual_bound.proofs.ChangeLaws.{changes-held}
use Rattle.dual_bound.proofs.KeepLaws.{Kept, kept-known, floor-one, single-guess}
use Rattle.dual_bound.proofs.SingleLaws.{single-sum}
use Rattle.dual_bound.proofs.StoredNumbers.{read-mag, read-small}
use Rattle.dual_bound.proofs.singles.try_single.Goals as goal
use Rattle.dual_bound.proofs.singles.try_single.Goals.{After-keep_single}

value_of : (c : After-keep_single) → to_z w128 (of_z w128 c.plus-value.result) ≡ sum_in c.args.system.now (single (row_count c.args.system.now) c.args.r c.args.y) 1
value_of c =
    let rows = c.args.system.now.rows.now in
    let bounds = c.args.system.now.ranges.now in
    let row = c.index-system-r.result in
    let n = length rows in
    let columns : AreColumns bounds.extent row.terms = rw (← c.index-system-r.is) at (c.requires.whole.sums.columns c.args.r row c.requires.row) in
    let change : c.change_by-change.result ≡ total_by (changes bounds c.args.weights.now c.args.y) row.terms =
    rw (c.terms.ensures.value, ← c.index-system-r.is) at c.change_by-change.ensures.value in
    let count : length c.args.weights.now ≡ count_of bounds.extent = c.requires.weights.as_many ∙ c.ends-ends.ensures.count in
    let held = changes-held bounds (weight_in c.args.system.now (replicate n 0) 1) c.args.weights.now c.args.y row.terms count c.requires.weights.held columns
    in
    let times = read-mag c.from.result c.from.type_inv ∙ c.from.ensures in
    let right = read-small c.right.result (record { sfits = c.right.type_inv }) ∙ (rw (← c.index-system-r.is) at c.right.ensures.value) in
    let part : c.scaled.result ≡ pos c.args.y *ℤ row.right = rw (times, right) at c.scaled.ensures.value in
    let first = rw (read-mag c.args.zero_sum c.ranges.zero_sum.sfits, read-mag c.scaled.result c.scaled.type_inv) at c.plus-right.ensures in
    let whole = rw (read-mag c.plus-right.result c.plus-right.type_inv, read-mag c.change_by-change.result c.change_by-change.type_inv) at c.plus-value.ensures in
    let law = single-sum rows bounds c.args.system.now.objective.now n c.args.r c.args.y row c.requires.row c.requires.row c.index-system-r.is columns
    (rw (← c.index-system-r.is) at c.terms.ensures.once) in
    let stored = read-mag c.plus-value.result c.plus-value.type_inv in
    let zeros = c.requires.zeros in
    omega (arith, ints, change, held, part, first, whole, law, stored, zeros)

kept : (c : After-keep_single) → Kept c.args.system.now c.args.best.now c.keep_single.new.best (single (row_count c.args.system.now) c.args.r c.args.y) 1
kept c =
    let rows = c.args.system.now.rows.now in
    let bounds = c.args.system.now.ranges.now in
    let count : length c.args.best.now.y.items ≡ length rows = c.requires.known.guess.as_many in
    let lesser : KeepsLesser c.args.best.now c.keep_single.new.best (single (length rows) c.args.r c.args.y) 1 (to_z w128 (of_z w128 c.plus-value.result)) =
    rw count at c.keep_single.ensures in
    kept-known c.args.system.now c.args.best.now c.keep_single.new.best (single (length rows) c.args.r c.args.y) 1
    (to_z w128 (of_z w128 c.plus-value.result)) c.requires.known
    (single-guess rows (length rows) c.args.r c.args.y refl c.requires.few)
    (value_of c ∙ sym (floor-one (sum_in c.args.system.now (single (length rows) c.args.r c.args.y) 1))) lesser

pub returns-clause-known : goal.returns-clause-known
returns-clause-known c = (kept c).known

pub returns-clause-before : goal.returns-clause-before
returns-clause-before c = (kept c).before

pub returns-clause-tried : goal.returns-clause-tried
returns-clause-tried c = (kept c).tried

pub returns-clause-value : goal.returns-clause-value
returns-clause-value c = value_of c ∙ sym (floor-one (sum_in c.args.system.now (single (row_count c.args.system.now) c.args.r c.args.y) 1))
