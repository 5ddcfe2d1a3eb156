use Rattle.std.proofs.Common.{◌≡◌, ◌+◌, ◌^◌, ◌*◌, ◌%◌, ◌≤ℤ◌, ℤ, inl, inr, below_more, sym, ◌∙◌, subst, to_z, arith}
use Rattle.std.specs.Int.{w128}
use Rattle.std.proofs.lemmas.Bool.{cases_lt}
use Rattle.std.proofs.lemmas.Int.{ints}
use Rattle.std.proofs.lemmas.Nat.{one_shl}
use Rattle.dual_bound.specs.Improving.{single}
use Rattle.dual_bound.specs.inside.Systems.{row_count, value_in}
use Rattle.dual_bound.specs.inside.Steps.{power_value, TurnsFrom}
use Rattle.dual_bound.proofs.PowerLaws.{turns-first, turns-after}
use Rattle.dual_bound.proofs.StoredNumbers.{read-mag}
use Rattle.dual_bound.proofs.singles.try_powers.Goals as goal

pub loop-k-init : goal.loop-k-init
loop-k-init c =
    let zeros = read-mag c.args.zero_sum c.ranges.zero_sum.sfits ∙ c.requires.zeros in
    record {
      known = c.requires.known;
      before = omega (arith, ints);
      powers = λ k below. absurd (omega (arith, below));
      turns = subst (λ (z : ℤ). TurnsFrom c.args.system.now c.args.r z 0) (sym zeros) (turns-first c.args.system.now c.args.r c.requires.row);
    }

pub loop-k-preserved : goal.loop-k-preserved
loop-k-preserved c =
    let power : (1 * 2 ^ c.loop-k.k) % 2 ^ 64 ≡ 2 ^ c.loop-k.k = one_shl c.loop-k.k 64 (omega arith) in
    let raw : c.try_single-value.new.best.value ≤ℤ value_in c.args.system.now (single (row_count c.args.system.now) c.args.r ((1 * 2 ^ c.loop-k.k) % 2 ^ 64)) 1 =
    c.try_single-value.ensures.tried in
    let tried = rw power at raw in
    let less = c.try_single-value.ensures.before in
    let value : c.try_single-value.result ≡ power_value c.args.system.now c.args.r c.loop-k.k = rw power at c.try_single-value.ensures.value in
    let stored = read-mag c.try_single-value.result c.try_single-value.type_inv ∙ value in
    record {
      known = c.try_single-value.ensures.known;
      before = let before = c.loop-k.invariant.before in omega (arith, ints, less, before);
      powers = below_more _ _ (λ k below. let had = c.loop-k.invariant.powers k below in omega (arith, ints, less, had)) tried;
      turns = subst (λ (z : ℤ). TurnsFrom c.args.system.now c.args.r z (c.loop-k.k + 1)) (sym stored)
          (turns-after c.args.system.now c.args.r c.requires.row c.loop-k.k);
    }

pub returns-then-before-value-clause-powers : goal.returns-then-before-value-clause-powers
returns-then-before-value-clause-powers c =
    let power : (1 * 2 ^ c.loop-k.k) % 2 ^ 64 ≡ 2 ^ c.loop-k.k = one_shl c.loop-k.k 64 (omega arith) in
    let raw : c.try_single-value.new.best.value ≤ℤ value_in c.args.system.now (single (row_count c.args.system.now) c.args.r ((1 * 2 ^ c.loop-k.k) % 2 ^ 64)) 1 =
    c.try_single-value.ensures.tried in
    let tried : c.try_single-value.new.best.value ≤ℤ power_value c.args.system.now c.args.r c.loop-k.k = rw power at raw in
    let less = c.try_single-value.ensures.before in
    let value : c.try_single-value.result ≡ power_value c.args.system.now c.args.r c.loop-k.k = rw power at c.try_single-value.ensures.value in
    let stored = read-mag c.try_single-value.result c.try_single-value.type_inv ∙ value in
    let test = c.if-before-value.true in
    let up : to_z w128 c.loop-k.before-bits ≤ℤ power_value c.args.system.now c.args.r c.loop-k.k = grind (arith, ints, test, stored) in
    λ j below. elim (cases_lt j c.loop-k.k) [
      | inl earlier ↦ let had = c.loop-k.invariant.powers j earlier in omega (arith, ints, less, had)
      | inr later ↦ let rest = c.loop-k.invariant.turns up j later in omega (arith, ints, tried, rest)
    ]
