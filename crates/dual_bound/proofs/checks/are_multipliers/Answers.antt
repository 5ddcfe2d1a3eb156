use Rattle.std.proofs.Common.{rules, ◌≡◌, ◌≤◌, ◌<◌, ◌^◌, ℕ, take, length, get_or}
use Rattle.std.proofs.lemmas.List.{take_all}
use Rattle.std.proofs.lemmas.List.Elements.{All-more}
use Rattle.dual_bound.proofs.checks.are_multipliers.Goals as goal

pub loop-y-preserved : goal.loop-y-preserved
loop-y-preserved c =
    let there : c.loop-y.y-index < length c.args.multipliers.now = search rules in
    let here : get_or c.args.multipliers.now c.loop-y.y-index 0 ≤ 2 ^ 32 = search rules in
    All-more (λ (y : ℕ). y ≤ 2 ^ 32) c.args.multipliers.now c.loop-y.y-index 0 there c.loop-y.invariant here

pub returns : goal.returns
returns c = λ _.
    let all : take c.loop-y.y-index c.args.multipliers.now ≡ c.args.multipliers.now = take_all c.loop-y.y-index c.args.multipliers.now (search rules) in
    rw all at c.loop-y.invariant
