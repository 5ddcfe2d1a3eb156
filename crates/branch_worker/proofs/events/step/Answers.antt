use Rattle.std.proofs.Common.{ℤ, sym, subst, rules, SFits, w64}
use Rattle.std.proofs.lemmas.Int.{to_z-of_z}
use Rattle.branch_worker.specs.inside.Working.{IsUndecided, setting_of}
use Rattle.branch_worker.proofs.StepLaws.{closes-here, dead-here, looked-again, looked-offers, point-here, seen-again, seen-offers, undecided-here, working-again, working-offers}
use Rattle.branch_worker.proofs.events.step.Goals as goal

pub close-requires : goal.close-requires
close-requires g c =
    let site = c.args.site.now in
    let old = c.args.worker.now in
    let looks = c.look-seen.new.worker in
    let offers = c.offer.new.worker in
    let seen = c.look-seen.result in
    let looked = c.in_ok-what.field-0 in
    let began = c.requires.1.1.1.0 in
    let working = c.requires.1.1.1.1.1.0 in
    let is = c.look-seen.ensures in
    let gives = c.offer.ensures in
    let closed = c.in-Closed.is in (
      working-offers g.start site old looks offers c.args.task seen looked began working is.worker is.seen is.offered gives.worker gives.margin gives.one
          c.in_ok-what.ensures,
      (
        looked-offers g.start site old looks offers c.args.task seen looked began working is.worker is.seen is.offered gives.worker gives.margin gives.one
            c.in_ok-what.ensures,
        (
          seen-offers g.start site old looks offers c.args.task seen looked began working is.worker is.seen is.offered gives.worker gives.margin gives.one
              c.in_ok-what.ensures,
          (
            closes-here g.start site old looks offers c.args.task seen looked began working is.worker is.seen is.offered gives.worker gives.margin gives.one
                c.in_ok-what.ensures c.in-Closed.leaf c.in-Closed.value closed,
            (
              dead-here g.start site old looks offers c.args.task seen looked began working is.worker is.seen is.offered gives.worker gives.margin gives.one
                  c.in_ok-what.ensures c.in-Closed.leaf c.in-Closed.value closed,
              point-here g.start site old looks offers c.args.task seen looked began working is.worker is.seen is.offered gives.worker gives.margin gives.one
                  c.in_ok-what.ensures c.in-Closed.leaf c.in-Closed.value closed,
            ),
          ),
        ),
      ),
    )

pub close_or_divide-requires-sync-G : goal.close_or_divide-requires-sync-G
close_or_divide-requires-sync-G g c =
    let site = c.args.site.now in
    let old = c.args.worker.now in
    let looks = c.look-seen.new.worker in
    let offers = c.offer.new.worker in
    let seen = c.look-seen.result in
    let looked = c.in_ok-what.field-0 in
    let began = c.requires.1.1.1.0 in
    let working = c.requires.1.1.1.1.1.0 in
    let is = c.look-seen.ensures in
    let gives = c.offer.ensures in
    let again = c.look-seen-in-Splittable.ensures in
    let split = c.in-Splittable.is in
    let fits : SFits w64 c.in-Splittable.value = search rules in
    let read = to_z-of_z w64 c.in-Splittable.value fits in λ κs shorter. (
      search rules,
      (
        search rules,
        (
          c.requires.1.1.0,
          (
            began,
            (
              working-again g.start site old looks offers c.args.task seen looked began working is.worker is.seen is.offered gives.worker gives.margin gives.one
                  c.in_ok-what.ensures c.look-seen-in-Splittable.new.worker c.look-seen-in-Splittable.result again.worker again.seen again.offered,
              (
                looked-again g.start site old looks offers c.args.task seen looked began working is.worker is.seen is.offered gives.worker gives.margin
                    gives.one c.in_ok-what.ensures c.look-seen-in-Splittable.new.worker c.look-seen-in-Splittable.result again.worker again.seen again.offered,
                (
                  seen-again g.start site old looks offers c.args.task seen looked began working is.worker is.seen is.offered gives.worker gives.margin
                      gives.one c.in_ok-what.ensures c.look-seen-in-Splittable.new.worker c.look-seen-in-Splittable.result again.worker again.seen
                      again.offered,
                  (
                    subst (λ (v : ℤ). IsUndecided (setting_of g.start) c.args.task v c.in-Splittable.leaf c.in-Splittable.split) (sym read)
                        (undecided-here g.start site old looks offers c.args.task seen looked began working is.worker is.seen is.offered gives.worker
                        gives.margin gives.one c.in_ok-what.ensures c.in-Splittable.value c.in-Splittable.leaf c.in-Splittable.split split),
                    c.requires.1.1.1.1.1.1,
                  ),
                ),
              ),
            ),
          ),
        ),
      ),
    )
