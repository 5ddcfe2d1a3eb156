use Rattle.std.proofs.Common.{◌≡◌, ◌≢◌, ℕ, ◌<◌, get_or, length, sum, sym, ap, ◌∙◌, below_more, get_or-set_same, get_or-set_other, arith}
use Rattle.std.proofs.lemmas.List.{length-set, ext_get_or}
use Rattle.std.proofs.lemmas.List.Sums.{sum_by-set}
use Rattle.plant_model.specs.Parts.{initial_amounts_of, initial_of}
use Rattle.replay_core.proofs.StateLaws.{held-first}
use Rattle.replay_core.proofs.state.first_amounts.Goals as goal

pub set-requires-clause-total : goal.set-requires-clause-total
set-requires-clause-total c =
    let grown = sum_by-set (λ (x : ℕ). x) c.loop-c.amounts c.loop-c.c c.into.result 0 (omega arith) in
    omega arith

pub loop-c-preserved : goal.loop-c-preserved
loop-c-preserved c =
    let amounts = c.loop-c.amounts in
    let i = c.loop-c.c in
    let within : i < length amounts = omega arith in
    let grown = sum_by-set (λ (x : ℕ). x) amounts i c.into.result 0 within in
    let total = ap sum c.set.ensures in
    record {
      count = ap length c.set.ensures ∙ length-set amounts i c.into.result ∙ c.loop-c.invariant.count;
      done = below_more (λ (k : ℕ). get_or c.set.new.self k 0 ≡ initial_of c.args.plant.now c.args.p k) i
          (λ k below. let other : k ≢ i = omega arith in ap (λ xs. get_or xs k 0) c.set.ensures ∙ get_or-set_other amounts i k c.into.result 0 other
          ∙ c.loop-c.invariant.done k below)
          (ap (λ xs. get_or xs i 0) c.set.ensures ∙ get_or-set_same amounts i c.into.result 0 within ∙ c.into.ensures ∙ c.initial.ensures.value);
      total = omega arith;
    }

pub returns : goal.returns
unfolding initial_of
returns c =
    let plant = c.args.plant.now in
    let sound = c.sound.ensures.plant in
    let held = held-first plant c.args.p sound c.requires.place c.requires.holds in
    let count = (sound.each_amounts c.args.p c.requires.place c.requires.holds).each_crude in
    let all = c.loop-c.invariant.count in
    ext_get_or 0 c.loop-c.amounts (initial_amounts_of plant c.args.p) (all ∙ sym count) (λ i within. c.loop-c.invariant.done i (omega arith)) ∙ sym held
