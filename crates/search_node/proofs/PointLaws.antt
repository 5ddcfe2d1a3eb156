-- What becomes of a box of one point.
use Rattle.std.proofs.Common.{◌≡◌, ℕ, ◌<◌, ◌≤◌, ◌^◌, inl, true, ℤ, Option, Some, None, List, [], ◌∷◌, length, refl, sym, arith}
use Rattle.std.specs.Prelude.{All, IfSome, option_map, slice_get}
use Rattle.std.specs.Option.{is_some, option_and_then}
use Rattle.std.proofs.Math.Nat.{pow-le-pow_right}
use Rattle.std.proofs.lemmas.List.Elements.{All-cons, All-filter, All-head, All-nil, All-tail, filter_passes}
use Rattle.std.proofs.lemmas.Option.{slice_get_within}
use Rattle.blend_cuts.specs.CutRows.{cut_row_of}
use Rattle.limits.specs.declared.TheConstants.{MOST_MULTIPLIER}
use Rattle.plan_build.specs.Built.{IsPlanned}
use Rattle.plant_model.specs.declared.parts.Parts.{Parts}
use Rattle.replay_core.specs.declared.planned.Planned.{Planned}
use Rattle.slot_box.specs.declared.cut.CutParams.{CutParams}
use Rattle.slot_box.specs.declared.node.Leaf.TheVariants.{Point}
use Rattle.slot_box.specs.declared.term.Term.{Term}
use Rattle.slot_box.specs.declared.term.Term.TheVariants.{Row, Cut}
use Rattle.slot_box.specs.Boxes.{HasOnePoint, only_point}
use Rattle.slot_box.specs.Tasks.{HasSmallMultiplier, IsTask, TaskParts}
use Rattle.slot_forms.specs.Cases.{plain}
use Rattle.slot_forms.specs.Forms.{point_value, word_of}
use Rattle.slot_words.specs.ByStart.{IsByStart}
use Rattle.leaf_value.specs.LeafValue.{AreBounding, AreLawfulTerms, IsLawfulTerm}
use Rattle.leaf_value.specs.Settings.{Setting, has_cut_row, plain_setting}
use Rattle.search_node.specs.declared.looked.Examined.TheVariants.{Closed}
use Rattle.search_node.specs.Laws.{IsUnblocked, PointsAreBelowDuals, PointsAreTold}
use Rattle.search_node.specs.Looks.{ClosesBox, GivesPlanOfPoint, IsLook, IsPlanOfPoint}
use Rattle.leaf_value.specs.PlainGuesses.{IsPlainGuess, IsSmallPower}
use Rattle.search_node.specs.Values.{IsValueFor, entries_there, is_there}

-- ---- the entries that a value is compared with are lawful

-- a cut that has a row is there
cut-there : (setting : Setting) (cut slot op : ℕ) → has_cut_row setting cut slot op ≡ true → cut < length setting.cuts
cut-there setting cut slot op has = found_at (slice_get setting.cuts cut) refl has
  where
    found_at : (found : Option CutParams) → slice_get setting.cuts cut ≡ found →
        is_some (option_and_then (λ (params : CutParams). cut_row_of setting.case.parts setting.case.slots params slot op) found) ≡ true →
        cut < length setting.cuts
    found_at None same is = cc
    found_at (Some params) same is = slice_get_within setting.cuts cut params same

there-lawful : (setting : Setting) (entries : List Term) → All HasSmallMultiplier entries → All (λ term. is_there setting term ≡ true) entries →
    AreLawfulTerms setting entries
there-lawful setting [] small there = All-nil (IsLawfulTerm setting)
there-lawful setting (Row name y ∷ entries) small there =
    All-cons (IsLawfulTerm setting) (Row name y) entries
    (All-head HasSmallMultiplier (Row name y) entries small, All-head (λ term. is_there setting term ≡ true) (Row name y) entries there)
    (there-lawful setting entries (All-tail HasSmallMultiplier (Row name y) entries small) (All-tail (λ term. is_there setting term ≡ true) (Row name y) entries there))
there-lawful setting (Cut cut slot op y ∷ entries) small there =
    let has = All-head (λ term. is_there setting term ≡ true) (Cut cut slot op y) entries there in
    All-cons (IsLawfulTerm setting) (Cut cut slot op y) entries
    (All-head HasSmallMultiplier (Cut cut slot op y) entries small, cut-there setting cut slot op has, has)
    (there-lawful setting entries (All-tail HasSmallMultiplier (Cut cut slot op y) entries small)
    (All-tail (λ term. is_there setting term ≡ true) (Cut cut slot op y) entries there))

warm-bounding : (setting : Setting) (task : TaskParts) → IsTask task → AreBounding setting task.q (entries_there setting task.entries)
warm-bounding setting task is = (
  is.some_q,
  is.most_q,
  there-lawful setting (entries_there setting task.entries) (All-filter (is_there setting) HasSmallMultiplier task.entries is.warm.multipliers)
      (filter_passes (is_there setting) task.entries),
)

small-power : (y : ℕ) → IsSmallPower y → y ≤ MOST_MULTIPLIER
small-power y is = (let power : 2 ^ is.0 ≤ 2 ^ 20 = pow-le-pow_right (omega arith) is.1 in omega (arith, power, is.2))

guess-bounding : (setting : Setting) (guess : List Term) → IsPlainGuess setting guess → AreBounding setting 1 guess
guess-bounding setting [] is = (omega arith, omega arith, All-nil (IsLawfulTerm setting))
guess-bounding setting (Row name y ∷ []) is =
    (omega arith, omega arith, All-cons (IsLawfulTerm setting) (Row name y) [] (small-power y is.2, is.1) (All-nil (IsLawfulTerm setting)))
guess-bounding setting (Cut cut slot op y ∷ []) is = absurd is
guess-bounding setting (first ∷ second ∷ rest) is = absurd is

-- ---- the answer

module _ (parts : Parts) (task : TaskParts) (is : IsTask task) (one : HasOnePoint task.box) (free : IsUnblocked (plain_setting parts (length task.box)) task.box)
    (below : PointsAreBelowDuals (plain_setting parts (length task.box))) (told : PointsAreTold (plain_setting parts (length task.box)))
    (found : Option Planned) (valued : option_map (λ (planned : Planned). planned.margin) found ≡ point_value (plain parts (length task.box)) (only_point task.box))
    (ordered : IfSome found (λ planned. IsByStart (word_of (only_point task.box)) planned.plan)) (plan : IfSome found (IsPlanned parts (length task.box))) where
  abbrev setting : Setting
  setting = plain_setting parts (length task.box)

  value-told : (margin : ℤ) → point_value setting.case (only_point task.box) ≡ Some margin → IsValueFor setting task margin
  value-told margin same = record {
    warm = below task.box margin task.q (entries_there setting task.entries) is.box refl one free same (warm-bounding setting task is);
    plain = λ guess guessed. below task.box margin 1 guess is.box refl one free same (guess-bounding setting guess guessed);
    least = told task.box margin is.box one same;
  }

  bounded : (value : Option ℤ) → point_value setting.case (only_point task.box) ≡ value → IfSome value (IsValueFor setting task)
  bounded None same = tt
  bounded (Some margin) same = value-told margin same

  abbrev value_found : Option ℤ
  value_found = option_map (λ (planned : Planned). planned.margin) found

  closes : (seen : Option ℤ) → ClosesBox setting task seen Point value_found
  closes seen = record {
    leaf_for = record { lawful = one; in_range = tt; valued = valued; at_one = tt; bounded = bounded value_found (sym valued) };
    closed = λ is_open. is_open;
    beaten = inl refl;
  }

  gives : GivesPlanOfPoint task.box (record { what = Closed Point value_found; found = found })
  gives margin same = by found ordered refl same
    where
      by : (some : Option Planned) → IfSome some (λ planned. IsByStart (word_of (only_point task.box)) planned.plan) → found ≡ some →
          Closed Point value_found ≡ Closed Point (Some margin) → (planned : Planned) × (found ≡ Some planned) × IsPlanOfPoint task.box margin planned
      by None by_start none same = (let nothing : Closed Point None ≡ Closed Point (Some margin) = rw none at same in cc)
      by (Some planned) by_start some same =
          let earned : Closed Point (Some planned.margin) ≡ Closed Point (Some margin) = rw some at same in
          (planned, some, record { operations = by_start; earns = cc })

  pub point-look : (seen : Option ℤ) → IsLook parts (length task.box) task seen (record { what = Closed Point value_found; found = found })
  point-look seen = record {
    dead = λ at. ((λ said. cc), (λ blocked. absurd (free at blocked)));
    examined = closes seen;
    plan = plan;
    plan_of_point = gives;
  }
