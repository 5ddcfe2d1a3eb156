use Rattle.std.proofs.Common.{◌≡◌, ℤ, ◌≤ℤ◌, FitsSigned, to_z, of_z, sym, subst, ◌∙◌}
use Rattle.std.specs.Int.{w64, w128}
use Rattle.dual_bound.proofs.StoredNumbers.{read-mag, read-small}
use Rattle.slot_box.specs.declared.node.Leaf.TheVariants.{Undone}
use Rattle.slot_box.specs.Boxes.{IsBox}
use Rattle.search_node.specs.inside.Candidates.{IsCandidate}
use Rattle.search_node.specs.inside.Plain.{ReachesPlainGuesses}
use Rattle.search_node.specs.inside.Weighings.{setting_of}
use Rattle.search_node.specs.Looks.{Beats, MayDivideBox}
use Rattle.search_node.specs.Values.{least_value}
use Rattle.search_node.proofs.ToldLaws.{IsOfEntries, may-divide, value-for}
use Rattle.search_node.proofs.examining.settle.Goals as goal

pub returns-clause-examined : goal.returns-clause-examined
returns-clause-examined c =
    let setting = setting_of c.args.weighing.now in
    let task = c.args.task.now in
    let found = c.args.found in
    let told = c.told_value-value.ensures in
    let fits : FitsSigned w64 c.told_value-value.result = record { sfits = c.told_value-value.type_inv } in
    let read : to_z w64 (of_z w64 c.told_value-value.result) ≡ found.value = read-small c.told_value-value.result fits ∙ told.value in
    let wide : to_z w128 (of_z w128 c.from.result) ≡ found.value = read-mag c.from.result c.from.type_inv ∙ (c.from.ensures ∙ read) in
    let beats : Beats found.value c.args.seen = subst (λ (value : ℤ). Beats value c.args.seen) wide (c.beats.ensures.0 c.if-not-beats.false) in
    let entries : IsOfEntries setting task found = record {
      bounding = subst (λ box. IsCandidate setting box found) c.requires.same c.requires.candidate;
      not_empty = c.if-found.false;
      value = value-for setting task found c.if-found.false c.requires.warm
          (subst (λ box. ReachesPlainGuesses setting box found) c.requires.same c.requires.plain)
          (subst (λ (value : ℤ). least_value ≤ℤ value) told.value told.least);
    } in
    let shares = c.split_laws.ensures.counts task.box c.args.split (subst (λ box. IsBox box) c.requires.same c.requires.whole.box) c.requires.lawful in
    subst (λ (value : ℤ). MayDivideBox setting task c.args.seen value (Undone found.q found.terms) c.args.split) (sym read)
    (may-divide setting task c.args.seen found c.args.split entries beats shares c.requires.lawful c.requires.even)
