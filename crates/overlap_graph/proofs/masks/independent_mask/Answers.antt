use Rattle.std.proofs.Common.{◌≡◌, true, false, ap, sym, subst, ◌∙◌, arith}
use Rattle.plant_model.specs.Parts.{op_count_of}
use Rattle.plant_model.specs.Relations.{independent_of}
use Rattle.overlap_graph.specs.Sets.{set_of}
use Rattle.overlap_graph.specs.Independence.{independent_mask_of, IsIndependentSet}
use Rattle.overlap_graph.proofs.SetLaws.{set_step}
use Rattle.overlap_graph.proofs.GraphLaws.{independent_set}
use Rattle.overlap_graph.proofs.masks.independent_mask.Goals as goal
use Rattle.overlap_graph.proofs.masks.independent_mask.Goals.{then-is_independent, else-is_independent}

pub loop-w-preserved : goal.loop-w-preserved
loop-w-preserved c =
    let test = independent_of c.args.plant.now c.args.v in
    elim c.if-is_independent.branch [
      | then-is_independent w ↦
          set_step c.loop-w.w test c.loop-w.mask c.if-is_independent.mask true c.loop-w.invariant (sym w.if-is_independent.ensures)
          (w.mask-is ∙ w.with_member-mask.ensures)
      | else-is_independent w ↦
          set_step c.loop-w.w test c.loop-w.mask c.if-is_independent.mask false c.loop-w.invariant (sym w.if-is_independent.ensures) w.mask-is
    ]

whole : (c : goal.After-loop-w) → c.loop-w.mask ≡ independent_mask_of c.args.plant.now c.args.v
unfolding independent_mask_of
whole c =
    let all : c.loop-w.w ≡ op_count_of c.args.plant.now =
    omega (arith, c.loop-w-test.false, c.loop-w.auto.w-end, c.op_count-w-end.ensures.value) in
    c.loop-w.invariant ∙ ap (λ n. set_of n (independent_of c.args.plant.now c.args.v)) all

pub returns-clause-value : goal.returns-clause-value
returns-clause-value c = whole c

pub returns-clause-members : goal.returns-clause-members
returns-clause-members c = subst (IsIndependentSet c.args.plant.now c.args.v) (sym (whole c)) (independent_set c.args.plant.now c.args.v)
