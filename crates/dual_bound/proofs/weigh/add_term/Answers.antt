use Rattle.std.proofs.Common.{◌≡◌, ◌-◌, ◌+ℤ◌, ◌*ℤ◌, ◌≤◌, ◌^◌, pos, rules, arith, slice_index_or, to_z, of_z, unsigned_abs, FitsSigned}
use Rattle.std.proofs.lemmas.Int.{ints}
use Rattle.std.specs.Int.{w64, w128}
use Rattle.dual_bound.proofs.CellLaws.{term-written}
use Rattle.dual_bound.proofs.StoredNumbers.{read-within, read-mag, read-small}
use Rattle.dual_bound.proofs.weigh.add_term.Goals as goal

pub plus-requires : goal.plus-requires
plus-requires c =
    let cell = slice_index_or c.args.cells.now (c.number-number.result - c.args.from) (pos 0) in
    let room : unsigned_abs cell ≤ 2 ^ 126 = c.requires.room (c.number-number.result - c.args.from) c.if-place-cells.true in
    let read = read-within cell (2 ^ 126) room (omega arith) in
    let amount = read-mag c.scaled.result c.scaled.type_inv in
    rw (read, amount) (omega (arith, room, c.scaled.ensures.size))

pub returns-then-place-cells-clause-added : goal.returns-then-place-cells-clause-added
returns-then-place-cells-clause-added c =
    let cell = slice_index_or c.args.cells.now (c.number-number.result - c.args.from) (pos 0) in
    let room : unsigned_abs cell ≤ 2 ^ 126 = c.requires.room (c.number-number.result - c.args.from) c.if-place-cells.true in
    let read = read-within cell (2 ^ 126) room (omega arith) in
    let amount = read-mag c.scaled.result c.scaled.type_inv in
    let times : to_z w128 (of_z w128 c.args.times) ≡ c.args.times = read-mag c.args.times c.ranges.times.sfits in
    let fits : FitsSigned w64 c.args.term.factor = search rules in
    let factor : to_z w64 (of_z w64 c.args.term.factor) ≡ c.args.term.factor = read-small c.args.term.factor fits in
    let value : c.scaled.result ≡ c.args.times *ℤ c.args.term.factor = rw (times, factor) at c.scaled.ensures.value in
    let whole = read-mag c.plus.result c.plus.type_inv in
    let sum : c.plus.result ≡ cell +ℤ c.scaled.result = rw (read, amount) at c.plus.ensures in
    term-written c.args.ranges.now.extent c.args.term c.args.times c.args.from c.number-number.result c.args.cells.now (to_z w128 (of_z w128 c.plus.result))
    (omega (arith, c.number-number.ensures.value)) c.if-number-from.false c.if-place-cells.true (omega (arith, ints, whole, sum, value))
