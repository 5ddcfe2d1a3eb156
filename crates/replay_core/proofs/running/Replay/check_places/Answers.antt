use Rattle.std.proofs.Common.{◌<◌, length, sym, ap, subst, arith}
use Rattle.plant_model.specs.declared.parts.Parts.{Parts}
use Rattle.plant_model.specs.Parts.{op_count_of}
use Rattle.replay_core.specs.inside.Levels.{HoldsWithin}
use Rattle.replay_core.proofs.StateLaws.{source-within}
use Rattle.replay_core.proofs.running.Replay.check_places.Goals as goal

pub meets_limits-requires : goal.meets_limits-requires
meets_limits-requires c =
    let parts = c.plant-plant.result.now in
    let known : c.args.t.op < op_count_of parts = (let count = ap op_count_of c.plant-plant.ensures in let there = c.requires.known in omega arith) in
    let holds : HoldsWithin parts (length c.args.self.now.steps) c.state-state.result.now =
    subst (λ (p : Parts). HoldsWithin p (length c.args.self.now.steps) c.state-state.result.now) (sym c.plant-plant.ensures) c.state-state.ensures.holds in
    let source = source-within parts (length c.args.self.now.steps) c.args.t.op c.state-state.result.now (c.sound.ensures.plant.each_op c.args.t.op known)
    holds in
    record {
      known = known;
      places = holds.count;
      some = c.requires.some;
      there = c.leaves_minimum.ensures.there c.in_ok-expect_rule-3.ensures.ok;
      total = omega arith;
      crudes = source.0;
    }
