use Rattle.std.proofs.Common.{rules, ◌≡◌, ◌≤ℤ◌, ◌<◌, take, length, get_or}
use Rattle.std.proofs.lemmas.List.{take_all}
use Rattle.std.proofs.lemmas.List.Elements.{All-more}
use Rattle.linear_form.specs.Bounds.{zero_alone}
use Rattle.linear_form.specs.declared.ranges.Interval.{Interval}
use Rattle.dual_bound.proofs.checks.are_ordered.Goals as goal

pub loop-range-preserved : goal.loop-range-preserved
loop-range-preserved c =
    let there : c.loop-range.range-index < length c.args.ends.now = search rules in
    let here : (get_or c.args.ends.now c.loop-range.range-index zero_alone).lo ≤ℤ (get_or c.args.ends.now c.loop-range.range-index zero_alone).hi =
    search rules in
    All-more (λ (range : Interval). range.lo ≤ℤ range.hi) c.args.ends.now c.loop-range.range-index zero_alone there c.loop-range.invariant here

pub returns : goal.returns
returns c = λ _.
    let all : take c.loop-range.range-index c.args.ends.now ≡ c.args.ends.now = take_all c.loop-range.range-index c.args.ends.now (search rules) in
    rw all at c.loop-range.invariant
