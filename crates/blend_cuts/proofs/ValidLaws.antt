-- What is so of a valid cut.
use Rattle.std.proofs.Common.{◌≡◌, ℕ, ◌<◌, ◌≤◌, Bool, true, false, get_or, ℤ, unsigned_abs, pos, negsuc, inl, inr, refl, sym, ap, ◌∙◌, arith}
use Rattle.std.specs.Prelude.{◌||◌, ◌&&◌, not, nat_lt, nat_le, ◌==◌}
use Rattle.std.specs.List.{list_all, range_with_len}
use Rattle.std.proofs.lemmas.Bool.{cases_Bool, and_parts}
use Rattle.std.proofs.lemmas.Bool.Decides.{nat_tests}
use Rattle.std.proofs.lemmas.List.Folds.{list_all_at}
use Rattle.std.proofs.lemmas.List.FromFn.{length-range_with_len, get_or-range_with_len}
use Rattle.limits.specs.declared.TheConstants.{MOST_CRUDES, MOST_CUT_DENOMINATOR, MOST_CUT_WEIGHT}
use Rattle.plant_model.specs.declared.parts.Parts.{Parts}
use Rattle.plant_model.specs.Parts.{natural, crude_count_of, place_count_of, place_of}
use Rattle.plant_model.specs.Sound.{SoundPlant}
use Rattle.replay_core.specs.Rules.{is_unit}
use Rattle.slot_box.specs.declared.cut.CutParams.{CutParams}
use Rattle.blend_cuts.specs.Cuts.{is_inside, is_stock, is_lawful_place, has_stock, weight_of, is_small, is_lawful_weight, has_weights, has_denominator, has_threshold, is_valid}

-- each of the numbers below the limit passes
each-below : (test : ℕ → Bool) (n k : ℕ) → list_all test (range_with_len 0 n) ≡ true → k < n → test k ≡ true
each-below test n k all there =
    elim (cases_Bool (test k)) [
      | inl passes ↦ passes
      | inr fails ↦
          let at : get_or (range_with_len 0 n) k 0 ≡ k = get_or-range_with_len 0 n k 0 there ∙ omega arith in
          let never : list_all test (range_with_len 0 n) ≡ false =
          list_all_at test (range_with_len 0 n) k 0 (let count = length-range_with_len 0 n in omega (arith, count, there)) (ap test at ∙ fails) in
          let contradiction : true ≡ false = sym all ∙ never in
          cc
    ]

either_holds : (a b : Bool) → (not a || b) ≡ true → a ≡ true → b ≡ true
either_holds true b is holds = is
either_holds false b is holds = (let never : false ≡ true = holds in cc)

not-false : (b : Bool) → not b ≡ true → b ≡ false
not-false true is = (let never : false ≡ true = is in cc)
not-false false is = refl

pub record IsCut (parts : Parts) (cut : CutParams) : Type 0 where
  pub q : cut.q ≡ pos (natural cut.q)
  pub denominator : natural cut.q ≤ MOST_CUT_DENOMINATOR
  pub threshold : unsigned_abs cut.p ≤ MOST_CUT_WEIGHT
  pub weights : (c : ℕ) → c < crude_count_of parts → unsigned_abs (weight_of cut c) ≤ MOST_CUT_WEIGHT
  pub stock : (p : ℕ) → p < place_count_of parts → is_inside cut p ≡ true → is_unit (place_of parts p).kind ≡ false

natural-is : (q : ℤ) → nat_lt 0 (natural q) ≡ true → q ≡ pos (natural q)
natural-is (pos n) some = refl
natural-is (negsuc n) some = (let never : false ≡ true = some in cc)

small-is : (z : ℤ) → is_small z ≡ true → unsigned_abs z ≤ MOST_CUT_WEIGHT
small-is z is = grind (arith, nat_tests, is)

pub valid_cut : (parts : Parts) (cut : CutParams) → SoundPlant parts → is_valid parts cut ≡ true → IsCut parts cut
unfolding is_valid
valid_cut parts cut sound valid =
    let all = and_parts (has_stock parts cut && has_threshold cut) (has_weights parts cut) valid in
    let first = and_parts (has_stock parts cut) (has_threshold cut) all.0 in
    let threshold = and_parts (has_denominator cut) (is_small cut.p) first.1 in
    let range = and_parts (nat_lt 0 (natural cut.q)) (nat_le (natural cut.q) MOST_CUT_DENOMINATOR) threshold.0 in
    let crudes = sound.crudes in
    let places = sound.places in
    record {
      q = natural-is cut.q range.0;
      denominator = grind (arith, nat_tests, range.1);
      threshold = small-is cut.p threshold.1;
      weights = λ c there.
          let at = each-below (is_lawful_weight parts cut) MOST_CRUDES c all.1 (omega (arith, crudes.1, there)) in
          small-is (weight_of cut c)
          (and_parts (is_small (weight_of cut c)) (nat_lt c (crude_count_of parts) || unsigned_abs (weight_of cut c) == 0) at).0;
      stock = λ p there inside.
          let at = each-below (is_lawful_place parts cut) 64 p first.0 (omega (arith, places, there)) in
          let is = either_holds (is_inside cut p) (is_stock parts p) at inside in
          not-false (is_unit (place_of parts p).kind) (and_parts (nat_lt p (place_count_of parts)) (not (is_unit (place_of parts p).kind)) is).1;
    }
