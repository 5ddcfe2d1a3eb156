use Rattle.std.proofs.Common.{◌≡◌, ◌+◌, ◌*◌, ◌-◌, ◌++◌, ◌∷◌, [], Some, List, length, of_z, to_z, ap, ◌∙◌, subst, arith, rules, w64}
use Rattle.std.proofs.lemmas.List.{length-set}
use Rattle.dual_bound.proofs.StoredNumbers.{read-small}
use Rattle.plant_model.specs.Parts.{greatest_volume_of, horizon_of, op_count_of}
use Rattle.slot_box.specs.declared.node.Node.TheVariants.{Inner}
use Rattle.slot_box.specs.declared.slot.Slot.{Slot}
use Rattle.slot_box.specs.Boxes.{IsBox, StaysWithinRoot}
use Rattle.slot_box.specs.Ranges.{IsNodeInRange}
use Rattle.slot_box.specs.Splits.{left_of, right_of}
use Rattle.slot_box.specs.Tasks.{task_of}
use Rattle.branch_worker.specs.inside.Working.{setting_of}
use Rattle.branch_worker.proofs.DivideLaws.{IsWorking-divided, starts-below, true-divided}
use Rattle.branch_worker.specs.declared.worker.Worker.{Worker}
use Rattle.branch_worker.proofs.TaskLaws.{handed-waiting}
use Rattle.branch_worker.proofs.events.divide.Goals as goal

pub returns-clause-working : goal.returns-clause-working
returns-clause-working g c =
    let setting = setting_of g.start in
    let old = c.args.worker.now in
    let task = c.args.task in
    let split = c.args.split in
    let q = c.entries_of-q.result.0 in
    let terms = c.entries_of-q.result.1 in
    let undecided = c.requires.1.1.1.0 in
    let fits = c.requires.1.1.1.1.1.0 in
    let box : IsBox task.box = search rules in
    let read : to_z w64 (of_z w64 c.args.value) ≡ c.args.value = read-small c.args.value c.ranges.value in
    let noted : c.note.new.worker ≡ record old {
      notes = old.notes ++ (record { id = task.id; node = Inner c.args.ticket split; value = Some c.args.value; seen = c.args.seen }) ∷ [];
    } = rw (c.id.ensures, c.inner_node.ensures.value, read) at c.in_ok-note.ensures.note in
    let left : c.new-2.result ≡ task_of (2 * c.args.ticket + 1) (left_of task.box split) q terms = search rules in
    let right : c.new.result ≡ task_of (2 * c.args.ticket + 2) (right_of task.box split) q terms = search rules in
    let node = subst IsNodeInRange c.inner_node.ensures.value c.inner_node.ensures.numbers in
    let true_note = true-divided setting task c.args.value c.args.leaf split c.args.seen c.args.ticket undecided c.requires.1.1.1.1.0 node in
    let below = starts-below setting c.requires.1.1.1.1.1.1.1.1.0 c.requires.1.1.1.1.1.1.1.1.1 task c.args.value c.args.leaf split (2 * c.args.ticket + 1) q terms
    box fits.slots undecided c.entries_of-q.ensures in
    rw left
    (IsWorking-divided g.start old task c.args.ticket c.args.value c.args.seen split q terms c.requires.0 c.requires.1.0 c.requires.1.1.0 box undecided.lawful
    true_note undecided.leaf_for.bounded.warm below c.note.new.worker c.hand_on.new.worker noted c.hand_on.ensures.others
    (rw right at c.in_ok-hand_on.ensures.on))

pub returns-clause-task : goal.returns-clause-task
returns-clause-task g c =
    let parts = g.start.parts in
    let task = c.args.task in
    let fits = c.requires.1.1.1.1.1.0 in
    let left : c.new-2.result.box ≡ left_of task.box c.args.split = search rules in
    let within : StaysWithinRoot task.box c.in_ok-left.left = rw c.bx.ensures.value at c.in_ok-left.ensures.within.0 in
    record {
      slots = ap (λ (l : List Slot). length l) left ∙ length-set task.box (c.args.split.slot - 1) _ ∙ fits.slots;
      within = rw c.new-2.ensures.bx (within (op_count_of parts) (greatest_volume_of parts) (horizon_of parts) fits.within);
    }

pub returns-clause-waiting : goal.returns-clause-waiting
returns-clause-waiting g c =
    let noted = ap (λ (w : Worker). length w.waiting) c.in_ok-note.ensures.note in
    let handed = handed-waiting c.new.result c.note.new.worker c.hand_on.new.worker c.in_ok-hand_on.ensures.on in
    omega (arith, noted, handed)
