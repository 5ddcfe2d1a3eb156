use Rattle.std.proofs.Common.{◌≡◌, ◌∙◌, ◌^◌, ◌<◌, get_or, arith, rules}
use Rattle.std.proofs.lemmas.Int.{to_z-of_z}
use Rattle.std.specs.Prelude.{ℤ, pos, ◌+ℤ◌}
use Rattle.plant_model.proofs.Totals.{one_more, total_more}
use Rattle.plant_model.proofs.numbers.total_of.Goals as goal
use mir.Syntax.{w64, w128}
use mir.Val.{SFits, to_z, of_z}

pub loop-number-preserved : goal.loop-number-preserved
loop-number-preserved c =
    let number : ℤ = get_or c.args.numbers.now c.loop-number.number-index (pos 0) in
    let total : ℤ = to_z w128 c.loop-number.total-bits in
    let number_fits : SFits w64 number = search rules in
    let few : c.loop-number.number-index < 2 ^ 60 = omega arith in
    let read : c.from-total.result ≡ number = c.from-total.ensures ∙ to_z-of_z w64 number number_fits in
    let more = one_more total number c.loop-number.number-index c.loop-number.invariant.low c.loop-number.invariant.high number_fits few in
    let sum : to_z w128 (of_z w128 (total +ℤ to_z w128 (of_z w128 c.from-total.result))) ≡ total +ℤ number = rw read more.fits in
    record {
      so_far = sum ∙ total_more c.args.numbers.now c.loop-number.number-index total c.loop-number-test.true c.loop-number.invariant.so_far;
      low = rw sum more.low;
      high = rw sum more.high;
    }
