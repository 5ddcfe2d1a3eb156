use Rattle.std.proofs.Common.{rules, ◌≡◌, ◌≤◌, ◌<◌, ◌/◌, ◌^◌, ℕ, length, get_or, take, max, arith}
use Rattle.std.proofs.lemmas.List.{take_all}
use Rattle.std.proofs.lemmas.List.Elements.{All-more, All-weaker}
use Rattle.std.proofs.lemmas.Nat.{mul-le}
use Rattle.dual_bound.proofs.descent.finer.Goals as goal

pub loop-y-preserved : goal.loop-y-preserved
loop-y-preserved c =
    let xs = c.args.multipliers.now in
    let i = c.loop-y.y-index in
    let there : i < length xs = search rules in
    let more : c.max-greatest.result ≡ max c.loop-y.greatest (get_or xs i 0) = search rules in
    let weaker = All-weaker (λ (y : ℕ). y ≤ c.loop-y.greatest) (λ (y : ℕ). y ≤ c.max-greatest.result) (λ y below. omega (arith, below, more))
    (take i xs) c.loop-y.invariant.each in
    let within : get_or xs i 0 ≤ 2 ^ 32 = c.requires.multipliers i 0 there in
    record {
      q = omega (arith, c.loop-y.invariant.q, more);
      most = omega (arith, c.loop-y.invariant.most, more, within);
      each = All-more (λ (y : ℕ). y ≤ c.max-greatest.result) xs i 0 there weaker (omega (arith, more));
    }

pub returns-clause-multipliers : goal.returns-clause-multipliers
returns-clause-multipliers c = λ k d below.
    let all : take c.loop-y.y-index c.args.multipliers.now ≡ c.args.multipliers.now = take_all c.loop-y.y-index c.args.multipliers.now (search rules) in
    let each = rw all at c.loop-y.invariant.each in
    let here : get_or c.args.multipliers.now k d ≤ c.loop-y.greatest = each k d below in
    let times : c.min.result ≤ 4294967296 / c.loop-y.greatest = omega (arith, c.min.ensures) in
    let product = mul-le (get_or c.args.multipliers.now k d) c.min.result c.loop-y.greatest (4294967296 / c.loop-y.greatest) here times in
    omega (arith, product, c.loop-y.invariant.q, c.requires.some)
