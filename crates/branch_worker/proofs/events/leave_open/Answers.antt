use Rattle.std.proofs.Common.{◌≡◌, ℤ, of_z, to_z, sym, subst}
use Rattle.std.specs.Int.{w64}
use Rattle.dual_bound.proofs.StoredNumbers.{read-small}
use Rattle.branch_worker.specs.inside.Working.{IsUndecided, setting_of}
use Rattle.branch_worker.proofs.LeafLaws.{left-open, not-point, true-open}
use Rattle.branch_worker.proofs.events.leave_open.Goals as goal

pub leave-requires : goal.leave-requires
leave-requires g c =
    let setting = setting_of g.start in
    let task = c.args.task.now in
    let read : to_z w64 (of_z w64 c.args.value) ≡ c.args.value = read-small c.args.value c.ranges.value in
    let value = to_z w64 (of_z w64 c.args.value) in
    let undecided = subst (λ (v : ℤ). IsUndecided setting task v c.args.leaf c.args.split) (sym read) c.requires.1.1.1.0 in (
      c.requires.0,
      (
        c.requires.1.0,
        (
          c.requires.1.1.0,
          (
            true-open setting task value c.args.leaf c.args.split c.args.seen undecided,
            (
              left-open setting task value c.args.leaf c.args.split undecided c.args.worker.now.seat c.requires.1.1.1.1,
              (
                (λ is. absurd ((not-point setting task value c.args.leaf c.args.split undecided).0 is)),
                undecided.leaf_for.bounded.warm,
              ),
            ),
          ),
        ),
      ),
    )
