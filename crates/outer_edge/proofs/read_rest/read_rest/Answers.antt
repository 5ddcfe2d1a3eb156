use Rattle.std.proofs.Common.{ℕ, arith, length-take}
use Rattle.std.proofs.lemmas.Grind.{common_steps}
use Rattle.outer_edge.proofs.ReadingLaws.{Consumes-append, ConsumesAtMost-append}
use Rattle.outer_edge.proofs.read_rest.read_rest.Goals as goal
use Rattle.outer_edge.proofs.read_rest.read_rest.Goals.{in-Ok-2+in_ok-map_err-in-Ok-2, in-Err}

pub returns-in-Ok-clause-frugal : goal.returns-in-Ok-clause-frugal
returns-in-Ok-clause-frugal g c =
    ConsumesAtMost-append _ _ _ _ c.read.new.buf c.in-Ok.count _ c.loop.invariant.read c.in-Ok.ensures.bytes.0 (omega (arith, length-take {A = ℕ}))

pub returns-in_err-map_err-in-Ok-2-clause-frugal : goal.returns-in_err-map_err-in-Ok-2-clause-frugal
returns-in_err-map_err-in-Ok-2-clause-frugal g c =
    ConsumesAtMost-append _ _ _ _ c.read.new.buf c.in-Ok-2.count _ c.loop.invariant.read c.in-Ok-2.ensures.bytes.0 (omega (arith, length-take {A = ℕ}))

pub loop-preserved : goal.loop-preserved
loop-preserved g c =
    elim c.match-read.branch [
      | in-Ok-2+in_ok-map_err-in-Ok-2 w ↦
          let more = Consumes-append _ _ _ _ _ c.loop.invariant.read w.in-Ok-2.ensures.bytes.0 in
          grind (arith, common_steps, more)
      | in-Err w ↦ grind (arith, common_steps)
    ]
