use Rattle.std.proofs.Common.{rules, ◌≡◌, ◌+◌, ◌<◌, ◌≤◌, [], ◌∷◌, All, Some, None, arith, sym, subst, ◌∙◌}
use Rattle.std.proofs.lemmas.List.Elements.{All-append}
use Rattle.plant_model.specs.Parts.{op_count_of}
use Rattle.slot_box.specs.Boxes.{slot_at}
use Rattle.slot_box.specs.Slots.{fixed_of}
use Rattle.leaf_value.proofs.BlockedLaws.{stops_free, stops_unknown, one_more}
use Rattle.leaf_value.proofs.blocked.fixed_word.Goals as goal

pub returns-in_default : goal.returns-in_default
returns-in_default c = λ fixed.
    let is : fixed_of (slot_at c.args.bx.now (c.loop-i.i + 1)) ≡ None = search rules in
    stops_free c.args.plant.now c.args.bx.now c.args.at c.loop-i.i (omega arith) c.requires c.loop-i.invariant.within is fixed

pub returns-then-op-op_count : goal.returns-then-op-op_count
returns-then-op-op_count c = λ fixed.
    let is : fixed_of (slot_at c.args.bx.now (c.loop-i.i + 1)) ≡ Some c.in-Some.op = search rules in
    let more : op_count_of c.args.plant.now ≤ c.in-Some.op = search rules in
    stops_unknown c.args.plant.now c.args.bx.now c.args.at c.loop-i.i c.in-Some.op (omega arith) c.requires c.loop-i.invariant.within is more fixed

pub loop-i-preserved : goal.loop-i-preserved
loop-i-preserved c =
    let is : fixed_of (slot_at c.args.bx.now (c.loop-i.i + 1)) ≡ Some c.in-Some.op = search rules in
    let less : c.in-Some.op < op_count_of c.args.plant.now = search rules in
    let more = one_more c.args.bx.now c.args.at c.loop-i.i c.in-Some.op c.loop-i.word.items (omega arith) c.requires c.loop-i.invariant.within is
    c.loop-i.invariant.word in
    record {
      word = c.in_ok-push.ensures.items ∙ more.0;
      within = more.1;
      known = subst (All (λ op. op < op_count_of c.args.plant.now)) (sym c.in_ok-push.ensures.items)
          (All-append (λ op. op < op_count_of c.args.plant.now) c.loop-i.word.items (c.in-Some.op ∷ []) c.loop-i.invariant.known
          (λ k d inside. search rules));
    }
