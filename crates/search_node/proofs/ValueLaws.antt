-- Values over boxes: low ones come from contradictions, and that of a point is below every dual value and told.
use Rattle.std.proofs.Common.{◌≡◌, ℕ, zero, suc, ◌+◌, ◌^◌, ◌<◌, ◌≤◌, inl, inr, Bool, true, false, ℤ, pos, ◌≤ℤ◌, ◌<ℤ◌, int_lt, Option, Some, None, List, [], ◌∷◌, take, get_or, length, refl, sym, ap, ◌∙◌, subst, arith}
use Rattle.std.specs.Prelude.{IsBitSet, All}
use Rattle.std.specs.Option.{is_none}
use Rattle.std.specs.List.{list_all}
use Rattle.std.proofs.lemmas.Bool.{and_parts}
use Rattle.std.proofs.lemmas.Int.{ints}
use Rattle.std.proofs.lemmas.List.{length-take-le, take-take, take_all}
use Rattle.std.proofs.lemmas.List.Elements.{All-nil, All-cons, All-take}
use Rattle.dual_bound.specs.Dual.{emptiness_sum}
use Rattle.dual_bound.specs.Laws.{LowValuesAreContradictions, PointsAreAboveLeast, greatest_loss}
use Rattle.named_rows.specs.Laws.{FormsLieInRanges, IsFormIn, ObjectivesAreMargins}
use Rattle.normal_order.specs.NormalWords.{ops_of}
use Rattle.number_laws.proofs.BitLaws.{in_or_out, out_from_digit}
use Rattle.overlap_graph.specs.Independence.{independence_of}
use Rattle.plant_model.specs.declared.parts.Parts.{Parts}
use Rattle.plant_model.specs.Parts.{op_count_of}
use Rattle.plant_model.specs.Sound.{SoundPlant}
use Rattle.replay_core.specs.declared.broken.Broken.{Broken}
use Rattle.replay_core.specs.declared.order.Order.TheVariants.{BySlot}
use Rattle.replay_core.specs.declared.timed.Timed.{Timed}
use Rattle.replay_core.specs.Legal.{IsLegalIn, first_broken_in}
use Rattle.replay_core.specs.Margin.{margin_of}
use Rattle.replay_core.specs.Rules.{is_known}
use Rattle.replay_core.proofs.OrderLaws.{all_known}
use Rattle.replay_core.proofs.RuleLaws.{known-below}
use Rattle.replay_core.proofs.StepLaws.{CanRun-legal}
use Rattle.row_forms.specs.Laws.{TermsAreOfColumns}
use Rattle.row_forms.specs.Numbers.{numbers_of}
use Rattle.slot_automaton.specs.Blocked.{blocked_after}
use Rattle.slot_automaton.specs.Normal.{IsFirstRefused, IsNormal}
use Rattle.slot_automaton.proofs.WordLemmas.{empty_is_normal, normal_more, prefix_is_normal, refused_more}
use Rattle.slot_box.specs.declared.node.Leaf.TheVariants.{Dual}
use Rattle.slot_box.specs.declared.slot.Slot.{Slot}
use Rattle.slot_box.specs.Boxes.{fixed_prefix, only_point}
use Rattle.slot_box.specs.Entries.{Entry, idle, runs}
use Rattle.slot_box.specs.Laws.{OnlyPointsArePoints}
use Rattle.slot_box.specs.Slots.{fixed_of}
use Rattle.slot_forms.specs.Cases.{plain}
use Rattle.slot_forms.specs.Forms.{IsSought, is_all_idle, is_form, is_lawful_form, point_value, word_of}
use Rattle.slot_rows.specs.Fits.{LossesFit}
use Rattle.slot_rows.specs.Objective.{objective_of}
use Rattle.slot_rows.specs.Ranges.{ranges_of}
use Rattle.leaf_value.specs.LeafValue.{LeavesReachForms, are_contradictory, dual_value_of, multipliers_of, rows_of}
use Rattle.leaf_value.specs.Settings.{plain_setting}
use Rattle.search_node.specs.Laws.{IsUnblocked, LowValuesContradict, PointsAreBelowDuals, PointsAreTold}

-- ---- low values

int_lt-from : (a b : ℤ) → a <ℤ b → int_lt a b ≡ true
int_lt-from a b less = by (int_lt a b) refl
  where
    by : (test : Bool) → int_lt a b ≡ test → test ≡ true
    by true same = refl
    by false same = absurd (omega (arith, ints, less, same))

pub low_values_contradict : (parts : Parts) (n : ℕ) → LowValuesAreContradictions → LossesFit parts → LowValuesContradict (plain_setting parts n)
unfolding are_contradictory dual_value_of
low_values_contradict parts n low losses box q terms is sized some below =
    let setting = plain_setting parts n in
    let loss = subst (λ (m : ℕ). greatest_loss (ranges_of parts box) (objective_of parts m) ≤ℤ pos (2 ^ 62)) sized (losses box is) in
    let empty = low (rows_of setting terms) (ranges_of parts box) (objective_of parts n) (multipliers_of terms) q some (omega (arith, ints, loss, below)) in
    int_lt-from (emptiness_sum (rows_of setting terms) (ranges_of parts box) (multipliers_of terms)) (pos 0) empty

-- ---- the one point of a box that is not blocked

idle-word : (point : List Entry) → is_all_idle point ≡ true → word_of point ≡ []
idle-word [] all = refl
idle-word (idle ∷ point) all = idle-word point all
idle-word (runs op start end volume ∷ point) all = cc

-- where it is a form, its operations are those to which the first slots are fixed
only-ops : (box : List Slot) → is_form (only_point box) ≡ true → ops_of (word_of (only_point box)) ≡ fixed_prefix box
only-ops [] form = refl
only-ops (s ∷ box) form = by (only-ops box) (fixed_of s) refl
  where
    by : (is_form (only_point box) ≡ true → ops_of (word_of (only_point box)) ≡ fixed_prefix box) → (found : Option ℕ) → fixed_of s ≡ found →
        ops_of (word_of (only_point (s ∷ box))) ≡ fixed_prefix (s ∷ box)
    by later None same =
        let point : only_point (s ∷ box) ≡ idle ∷ only_point box = rw same refl in
        let prefix : fixed_prefix (s ∷ box) ≡ [] = rw same refl in
        let all : is_all_idle (only_point box) ≡ true = subst (λ (p : List Entry). is_form p ≡ true) point form in
        ap (λ (p : List Entry). ops_of (word_of p)) point ∙ (ap ops_of (idle-word (only_point box) all) ∙ sym prefix)
    by later (Some op) same =
        let point : only_point (s ∷ box) ≡ runs op s.start.lo s.end.lo s.volume.lo ∷ only_point box = rw same refl in
        let prefix : fixed_prefix (s ∷ box) ≡ op ∷ fixed_prefix box = rw same refl in
        let rest : is_form (only_point box) ≡ true = subst (λ (p : List Entry). is_form p ≡ true) point form in
        ap (λ (p : List Entry). ops_of (word_of p)) point ∙ (ap (λ (ops : List ℕ). op ∷ ops) (later rest) ∙ sym prefix)

-- a word of which no prefix is the first to be refused is normal
module _ (masks word : List ℕ) (free : (at : ℕ) → at ≤ length word → IsFirstRefused masks (take at word) at → ⊥) where
  first-refused : (k : ℕ) → k < length word → IsNormal masks (take k word) → IsBitSet (blocked_after masks (take k word)) (get_or word k 0) →
      IsFirstRefused masks (take (k + 1) word) (k + 1)
  first-refused k inside before set =
      let again = take-take (k + 1) (k + 1) word (omega arith) in
      let count = length-take-le (k + 1) word (omega arith) in
      record {
        some = omega arith;
        within = omega (arith, count);
        refused = λ normal. refused_more masks word k inside set (subst (IsNormal masks) again normal);
        shorter = λ j less.
            let same : take j (take k word) ≡ take j (take (k + 1) word) = take-take j k word (omega arith) ∙ sym (take-take j (k + 1) word (omega arith)) in
            subst (IsNormal masks) same (prefix_is_normal masks (take k word) j before);
      }

  prefixes-normal : (k : ℕ) → k ≤ length word → IsNormal masks (take k word)
  prefixes-normal zero within = empty_is_normal masks
  prefixes-normal (suc k) within =
      let before = prefixes-normal k (omega arith) in
      let one : k + 1 ≡ suc k = omega arith in
      elim (in_or_out (blocked_after masks (take k word)) (get_or word k 0)) [
        | inl set ↦ absurd (free (k + 1) (omega arith) (first-refused k (omega arith) before set))
        | inr none ↦ subst (λ (m : ℕ). IsNormal masks (take m word)) one
            (normal_more masks word k (omega arith) before (out_from_digit (blocked_after masks (take k word)) (get_or word k 0) none))
      ]

  pub word-normal : IsNormal masks word
  word-normal = subst (IsNormal masks) (take_all (length word) word (omega arith)) (prefixes-normal (length word) (omega arith))

-- a lawful form is a form whose word breaks no rule
record IsSoundForm (parts : Parts) (point : List Entry) : Type 0 where
  form : is_form point ≡ true
  legal : IsLegalIn parts BySlot (word_of point)

sound-form : (parts : Parts) (n : ℕ) (point : List Entry) → is_lawful_form (plain parts n) point ≡ true → IsSoundForm parts point
sound-form parts n point lawful =
    let word = word_of point in
    let both = and_parts (is_form point) (is_none (first_broken_in parts BySlot word)) lawful in
    record { form = both.0; legal = none_of (first_broken_in parts BySlot word) both.1 }
  where
    none_of : (found : Option Broken) → is_none found ≡ true → found ≡ None
    none_of None is = refl
    none_of (Some broken) is = cc

-- a point with a value is a lawful form, which has this margin
record HasValue (parts : Parts) (n : ℕ) (point : List Entry) (margin : ℤ) : Type 0 where
  lawful : is_lawful_form (plain parts n) point ≡ true
  earned : margin ≡ margin_of parts (word_of point)

has-value : (parts : Parts) (n : ℕ) (point : List Entry) (margin : ℤ) → point_value (plain parts n) point ≡ Some margin → HasValue parts n point margin
has-value parts n point margin valued = by (is_lawful_form (plain parts n) point) refl
  where
    by : (lawful : Bool) → is_lawful_form (plain parts n) point ≡ lawful → HasValue parts n point margin
    by true is = (let same : Some (margin_of parts (word_of point)) ≡ Some margin = rw is at valued in record { lawful = is; earned = cc })
    by false is = (let none : None ≡ Some margin = rw is at valued in cc)

known-ops : (parts : Parts) (word : List Timed) → list_all (is_known parts) word ≡ true → All (λ op. op < op_count_of parts) (ops_of word)
known-ops parts [] all = All-nil (λ op. op < op_count_of parts)
known-ops parts (t ∷ word) all =
    let both = and_parts (is_known parts t) (list_all (is_known parts) word) all in
    All-cons (λ op. op < op_count_of parts) t.op (ops_of word) (known-below parts t both.0) (known-ops parts word both.1)

-- where the box of a lawful form is not blocked, the form is sought
point-sought : (parts : Parts) (n : ℕ) (box : List Slot) → is_lawful_form (plain parts n) (only_point box) ≡ true → IsUnblocked (plain_setting parts n) box →
    IsSought (plain parts n) (only_point box)
point-sought parts n box lawful free =
    let sound = sound-form parts n (only_point box) lawful in
    let ops = only-ops box sound.form in
    let known = subst (All (λ op. op < op_count_of parts)) ops
    (known-ops parts (word_of (only_point box)) (all_known parts BySlot (word_of (only_point box)) (CanRun-legal parts BySlot (word_of (only_point box)) sound.legal))) in
    let masks = independence_of parts in
    let normal = word-normal masks (fixed_prefix box)
    (λ at within first. free at record { fixed = record { fixed = within; known = All-take (λ op. op < op_count_of parts) at (fixed_prefix box) known }; first = subst (IsFirstRefused masks (take at (fixed_prefix box))) (omega arith) first }) in
    subst (IsNormal masks) (sym ops) normal

pub points_are_below_duals : (parts : Parts) (n : ℕ) → OnlyPointsArePoints → LeavesReachForms (plain_setting parts n) → PointsAreBelowDuals (plain_setting parts n)
points_are_below_duals parts n only reach box margin q terms is sized one free valued bounding =
    let point = only_point box in
    let has = has-value parts n point margin valued in
    let reached = reach box (Dual q terms) point is sized bounding (only box is one) has.lawful (point-sought parts n box has.lawful free) in
    let margin_is = has.earned in
    let most = reached.most in
    let value : dual_value_of (plain_setting parts n) box q terms ≡ reached.value = cc in
    omega (arith, ints, margin_is, most, value)

-- ---- points are told

pub points_are_told : (parts : Parts) (n : ℕ) → SoundPlant parts → OnlyPointsArePoints → LossesFit parts → PointsAreAboveLeast → TermsAreOfColumns parts →
    FormsLieInRanges parts → ObjectivesAreMargins parts → PointsAreTold (plain_setting parts n)
unfolding objective_of ranges_of
points_are_told parts n sound only losses above columns inside margins box margin is one valued =
    let point = only_point box in
    let has = has-value parts n point margin valued in
    let form = sound-form parts n point has.lawful in
    let here : IsFormIn parts BySlot box point = record { there = only box is one; form = form.form; legal = form.legal } in
    let m = length box in
    let bounds = ranges_of parts box in
    let least = above bounds (objective_of parts m) (numbers_of parts (word_of point)) (omega (arith, sound.ops)) (columns m _)
    (inside BySlot box point here) in
    let earned = margins BySlot box point here in
    let loss = losses box is in
    let margin_is = has.earned in
    omega (arith, ints, least, earned, loss, margin_is)
