use Rattle.std.proofs.Common.{◌≡◌, ℤ, Some, of_z, to_z, sym, subst}
use Rattle.std.specs.Int.{w64}
use Rattle.dual_bound.proofs.StoredNumbers.{read-small}
use Rattle.number_laws.specs.Missing.{IsAtMost}
use Rattle.slot_box.specs.declared.node.Leaf.{Leaf as LeafKind}
use Rattle.slot_box.specs.declared.node.Leaf.TheVariants.{Point}
use Rattle.slot_box.specs.declared.node.Node.TheVariants.{Leaf}
use Rattle.branch_worker.specs.NoteBoxes.{IsTrueNote}
use Rattle.branch_worker.specs.Work.{IsLeftOpenOrBeaten}
use Rattle.branch_worker.specs.inside.Working.{IsUndecided, note_over, setting_of}
use Rattle.branch_worker.proofs.LeafLaws.{left-beaten, not-point, true-beaten}
use Rattle.branch_worker.proofs.events.close_beaten.Goals as goal

pub leave-requires : goal.leave-requires
leave-requires g c =
    let setting = setting_of g.start in
    let task = c.args.task.now in
    let read : to_z w64 (of_z w64 c.args.value) ≡ c.args.value = read-small c.args.value c.ranges.value in
    let value = to_z w64 (of_z w64 c.args.value) in
    let undecided = subst (λ (v : ℤ). IsUndecided setting task v c.args.leaf c.args.split) (sym read) c.requires.1.1.1.0 in
    let same = sym c.closed_leaf.ensures in (
      c.requires.0,
      (
        c.requires.1.0,
        (
          c.requires.1.1.0,
          (
            subst (λ (l : LeafKind). IsTrueNote setting (note_over task (Leaf l) (Some value) c.args.seen)) same
                (true-beaten setting task value c.args.leaf c.args.split c.args.seen undecided),
            (
              subst (λ (l : LeafKind). IsLeftOpenOrBeaten c.args.worker.now.seat l (Some value)) same
                  (left-beaten setting task value c.args.leaf c.args.split c.args.seen undecided c.args.worker.now.seat c.requires.1.1.0
                  (subst (λ (v : ℤ). IsAtMost (Some v) c.args.seen) (sym read) c.requires.1.1.1.1)),
              (
                subst (λ (l : LeafKind). l ≡ Point → IsAtMost (Some value) c.args.worker.now.seat.offer) same
                    (λ is. absurd ((not-point setting task value c.args.leaf c.args.split undecided).1 is)),
                undecided.leaf_for.bounded.warm,
              ),
            ),
          ),
        ),
      ),
    )
