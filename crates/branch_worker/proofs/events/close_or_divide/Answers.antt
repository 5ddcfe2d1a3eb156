use Rattle.std.proofs.Common.{◌≡◌, ℤ, of_z, to_z, sym, subst, rules, w64}
use Rattle.dual_bound.proofs.StoredNumbers.{read-small}
use Rattle.search_node.specs.Looks.{Beats}
use Rattle.branch_worker.specs.inside.Working.{IsUndecided, setting_of}
use Rattle.branch_worker.proofs.events.close_or_divide.Goals as goal

pub divide_or_leave-requires-sync-G : goal.divide_or_leave-requires-sync-G
divide_or_leave-requires-sync-G g c =
    let read : to_z w64 (of_z w64 c.args.value) ≡ c.args.value = read-small c.args.value c.ranges.value in
    let beats : Beats c.args.value c.args.seen = search rules in λ κs shorter. (
      search rules,
      (
        search rules,
        (
          c.requires.1.1.0,
          (
            c.requires.1.1.1.0,
            (
              c.requires.1.1.1.1.0,
              (
                c.requires.1.1.1.1.1.0,
                (
                  c.requires.1.1.1.1.1.1.0,
                  (
                    subst (λ (v : ℤ). IsUndecided (setting_of g.start) c.args.task v c.args.leaf c.args.split) (sym read) c.requires.1.1.1.1.1.1.1.0,
                    (
                      subst (λ (v : ℤ). Beats v c.args.seen) (sym read) beats,
                      c.requires.1.1.1.1.1.1.1.1,
                    ),
                  ),
                ),
              ),
            ),
          ),
        ),
      ),
    )
