use Rattle.std.proofs.Common.{◌≡◌, ◌+◌, ap, All, take, subst, arith}
use Rattle.std.specs.Int.Count.{ones}
use Rattle.std.proofs.lemmas.List.{take_all}
use Rattle.slot_box.specs.Boxes.{slot_at}
use Rattle.search_node.specs.inside.Splitting.{HasOneEntry, MayChoose}
use Rattle.search_node.proofs.CutLaws.{each_more, found_still, slot_of_box, some_live}
use Rattle.search_node.proofs.splits.widest_choice.Goals as goal
use Rattle.search_node.proofs.splits.widest_choice.Goals.{then-count-most, else-count-most}

pub loop-i-preserved : goal.loop-i-preserved
loop-i-preserved c =
    let box = c.args.bx.now in
    let i = c.loop-i.i in
    let before = c.loop-i.invariant.some in
    let count = ap ones c.live-count.ensures.value in
    elim c.if-count-most.branch [
      | then-count-most w ↦ record {
        some = omega arith;
        found = rw w.widest-is (record { from_one = omega arith; there = omega arith; several = omega arith });
      }
      | else-count-most w ↦ record {
        some = omega arith;
        found = rw (w.widest-is, w.most-is) (found_still ((c.loop-i.most ≡ 1) × All HasOneEntry (take i box)) _ (MayChoose box) c.loop-i.widest
            (λ so_far.
            let live = some_live (slot_at box (i + 1)) (slot_of_box box (i + 1) c.len-i-end.ensures.shape (omega arith) (omega arith)) in
            (so_far.0, each_more HasOneEntry box i (omega arith) so_far.1 (omega arith)))
            c.loop-i.invariant.found);
      }
    ]

pub returns-clause-found : goal.returns-clause-found
returns-clause-found c =
    found_still ((c.loop-i.most ≡ 1) × All HasOneEntry (take c.loop-i.i c.args.bx.now)) _ (MayChoose c.args.bx.now) c.loop-i.widest
    (λ all. subst (All HasOneEntry) (take_all c.loop-i.i c.args.bx.now (omega arith)) all.1) c.loop-i.invariant.found
