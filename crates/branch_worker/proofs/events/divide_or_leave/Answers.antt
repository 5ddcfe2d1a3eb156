use Rattle.std.proofs.Common.{◌≡◌, ℕ, ℤ, List, None, Some, length, of_z, to_z, sym, ap, subst, arith, rules, w64, ◌∙◌}
use Rattle.dual_bound.proofs.StoredNumbers.{read-small}
use Rattle.plant_model.specs.declared.parts.Parts.{Parts}
use Rattle.search_node.specs.Laws.{LawfulEntriesAreThere, PartsAreBelowTheWhole}
use Rattle.search_node.specs.Looks.{Beats}
use Rattle.leaf_value.specs.Settings.{plain_setting}
use Rattle.branch_worker.specs.declared.worker.Worker.{Worker}
use Rattle.branch_worker.specs.inside.Working.{IsUndecided, setting_of}
use Rattle.branch_worker.proofs.EventLaws.{HasLooked-drawn, HasLooked-told, IsWorking-drawn, IsWorking-told}
use Rattle.branch_worker.proofs.events.divide_or_leave.Goals as goal

pub leave_open-requires : goal.leave_open-requires
leave_open-requires g c =
    let old = c.args.worker.now in
    let read : to_z w64 (of_z w64 c.args.value) ≡ c.args.value = read-small c.args.value c.ranges.value in
    let none : c.draw.result ≡ None = search rules in
    let told = c.draw.ensures.told none in
    let same = told.1 in
    let working = c.requires.1.1.1.1.0 in
    let looked = c.requires.1.1.1.1.1.0 in (
      rw same (IsWorking-told g.start old (Some c.args.task) working told.0),
      (
        rw same (HasLooked-told g.start old (Some c.args.task) working told.0 looked),
        (
          rw same c.requires.1.1.1.1.1.1.0,
          (
            subst (λ (v : ℤ). IsUndecided (setting_of g.start) c.args.task v c.args.leaf c.args.split) (sym read) c.requires.1.1.1.1.1.1.1.0,
            (told.0, ap (λ (w : Worker). w.seat.told) same),
          ),
        ),
      ),
    )

pub divide-requires : goal.divide-requires
divide-requires g c =
    let old = c.args.worker.now in
    let read : to_z w64 (of_z w64 c.args.value) ≡ c.args.value = read-small c.args.value c.ranges.value in
    let same = c.in-Some.ensures.drawn in
    let site = c.requires.1.1.0 in
    let began = c.requires.1.1.1.0 in
    let working = c.requires.1.1.1.1.0 in
    let looked = c.requires.1.1.1.1.1.0 in
    let setting : plain_setting g.start.parts g.start.slots ≡ plain_setting c.args.site.now.plant.now c.args.site.now.n =
    ap (λ (p : Parts). plain_setting p g.start.slots) began.parts ∙ ap (plain_setting c.args.site.now.plant.now) began.slots in
    let few = site.few_tickets in
    let below = c.in-Some.ensures.below in
    let left = c.in-Some.ensures.left in
    let count = working.drawn in
    let tickets = ap (λ (l : List ℕ). length l) working.tickets in
    let drawn = ap (λ (w : Worker). w.drawn) same in (
      rw same (IsWorking-drawn g.start old (Some c.args.task) working c.in-Some.ticket),
      (
        rw same (HasLooked-drawn g.start old (Some c.args.task) working c.in-Some.ticket looked),
        (
          rw same c.requires.1.1.1.1.1.1.0,
          (
            subst (λ (v : ℤ). IsUndecided (setting_of g.start) c.args.task v c.args.leaf c.args.split) (sym read) c.requires.1.1.1.1.1.1.1.0,
            (
              subst (λ (v : ℤ). Beats v c.args.seen) (sym read) c.requires.1.1.1.1.1.1.1.1.0,
              (
                c.requires.1.1.1.1.1.1.1.1.1,
                (
                  omega (arith, few, below),
                  (
                    rw drawn (omega (arith, few, left, count, tickets)),
                    (
                      subst LawfulEntriesAreThere (sym setting) (c.value_laws.ensures.there c.args.site.now.n),
                      subst PartsAreBelowTheWhole (sym setting) (c.value_laws.ensures.parts c.args.site.now.n),
                    ),
                  ),
                ),
              ),
            ),
          ),
        ),
      ),
    )
