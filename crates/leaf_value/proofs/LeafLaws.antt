-- The value of a lawful leaf reaches the margin of every form in its box that is sought, and the bound of a lawful tree that of every plan of its case.
use Rattle.std.proofs.Common.{◌≡◌, ℕ, ◌-◌, ◌≤◌, inl, inr, Bool, true, false, ℤ, pos, ◌≤ℤ◌, ◌<ℤ◌, Option, Some, None, List, [], ◌∷◌, map, drop, length, is_some, is_none, if◌then◌else◌, refl, sym, ap, ◌∙◌, subst, arith}
use Rattle.std.specs.Prelude.{◌&&◌, slice_get}
use Rattle.std.specs.Option.{option_and_then}
use Rattle.std.proofs.lemmas.Bool.{and_parts, cond-true, cases_lt, eq-eqb, le-leb}
use Rattle.std.proofs.lemmas.Int.{ints}
use Rattle.std.proofs.lemmas.List.{drop-drop, drop-map}
use Rattle.std.proofs.lemmas.List.Elements.{All-head, All-tail, All-nil, All-cons}
use Rattle.blend_cuts.specs.CutRows.{cut_row_of}
use Rattle.dual_bound.specs.Dual.{dual_value, emptiness_sum}
use Rattle.linear_form.specs.Rows.{RowForm}
use Rattle.named_rows.specs.Laws.{IsFormIn, IsLawfulRow, of_name, of_cut, AreLawfulRows, DualValuesBoundMargins, EmptyBoxesHaveNoForm}
use Rattle.named_rows.specs.NamedRows.{named_row_of}
use Rattle.normal_order.specs.NormalWords.{IsNormalWord}
use Rattle.overlap_graph.specs.Independence.{independence_of}
use Rattle.plant_model.specs.declared.parts.Parts.{Parts}
use Rattle.replay_core.specs.declared.broken.Broken.{Broken}
use Rattle.replay_core.specs.declared.order.Order.TheVariants.{BySlot}
use Rattle.replay_core.specs.declared.timed.Timed.{Timed}
use Rattle.replay_core.specs.Legal.{first_broken_in}
use Rattle.replay_core.specs.Margin.{margin_of}
use Rattle.slot_automaton.specs.Normal.{IsNormal}
use Rattle.slot_box.specs.declared.cut.CutParams.{CutParams}
use Rattle.slot_box.specs.declared.node.Leaf.TheVariants.{Dead, Void, Dual, Undone, Point}
use Rattle.slot_box.specs.declared.node.Node.{Node}
use Rattle.slot_box.specs.declared.node.Node.TheVariants.{Inner, Leaf}
use Rattle.slot_box.specs.declared.slot.Slot.{Slot}
use Rattle.slot_box.specs.declared.term.RowName.{RowName}
use Rattle.slot_box.specs.declared.term.Term.{Term}
use Rattle.slot_box.specs.declared.term.Term.TheVariants.{Row, Cut}
use Rattle.slot_box.specs.Boxes.{IsBox, IsPoint, only_point}
use Rattle.slot_box.specs.Entries.{Entry}
use Rattle.slot_box.specs.Laws.{OnlyPointsArePoints, LeavesCoverRoots, NodeBoxesStayWithin}
use Rattle.slot_box.specs.Trees.{IsNodeOf, IsSearchTree, InLeaf}
use Rattle.slot_forms.specs.Cases.{Begun, Case, IsCasePlan, begun_count, root_box}
use Rattle.slot_forms.specs.Forms.{word_of, is_form, is_lawful_form, starts_late, IsSought, point_value, IsFormOf, PlansHaveForms}
use Rattle.slot_rows.specs.Objective.{objective_of}
use Rattle.slot_rows.specs.Ranges.{ranges_of}
use Rattle.leaf_value.specs.LeafValue.{row_of_term, row_or_none, rows_of, multipliers_of, dual_value_of, are_contradictory, leaf_value_of, IsLawfulTerm, AreLawfulTerms, AreBounding, IsLawfulLeaf, Reaches, LeavesReachForms}
use Rattle.leaf_value.specs.Settings.{Setting, orders_begun, row_named, cut_row_named}
use Rattle.leaf_value.specs.TreeValue.{IsLawfulNode, AreLawful, IsLeafValue, TreeBoundsAreTrue}
use Rattle.leaf_value.proofs.BlockedLaws.{end_is_normal, blocked_has_no_form}

-- ---- the rows of entries

-- a row of normal order that orders nothing that has begun comes behind all of it
behind_last : (begun : Option Begun) (name : RowName) → orders_begun begun name ≡ false → name.family ≡ 13 → begun_count begun ≤ name.a - 1
behind_last None name free family = omega arith
behind_last (Some begun) name free family =
    elim (cases_lt (length begun.fixed) name.a) [
      | inl less ↦ omega arith
      | inr most ↦ let ordered = rw (eq-eqb name.family 13 family, le-leb name.a (length begun.fixed) most) at free in cc
    ]

-- a word that is normal from an operation on is normal from each later one on
normal_later : (parts : Parts) (word : List Timed) (k j : ℕ) → k ≤ j → IsNormalWord parts (drop k word) → IsNormalWord parts (drop j word)
normal_later parts word k j order normal =
    let rest = map (λ (t : Timed). t.op) (drop k word) in
    let later : drop (j - k) rest ≡ map (λ (t : Timed). t.op) (drop j word) =
    drop-map (λ (t : Timed). t.op) (j - k) (drop k word)
    ∙ ap (map (λ (t : Timed). t.op)) (drop-drop (j - k) k word ∙ ap (λ (n : ℕ). drop n word) (omega arith)) in
    subst (IsNormal (independence_of parts)) later (end_is_normal (independence_of parts) rest (j - k) normal)

-- a row that is lawful where it is held against the form
abbrev IsLawful : Setting → List Entry → RowForm → Type 0
IsLawful setting point = IsLawfulRow setting.case.parts setting.case.slots point

not_ordered : (ordered : Bool) (found : Option RowForm) (row : RowForm) → (if ordered then None else found) ≡ Some row →
    (ordered ≡ false) × (found ≡ Some row)
not_ordered true found row same = cc
not_ordered false found row same = (refl, same)

module _ (setting : Setting) (point : List Entry) (sought : IsSought setting.case point) where
  named_from : (name : RowName) (found : Option RowForm) → row_named setting name ≡ found → is_some found ≡ true → IsLawful setting point (row_or_none found)
  named_from name None same is = cc
  named_from name (Some row) same is =
      let free = not_ordered (orders_begun setting.case.begun name) (named_row_of setting.case.parts setting.case.slots name) row same in
      of_name name (record { is = free.1 })
      (λ family.
      normal_later setting.case.parts (word_of point) (begun_count setting.case.begun) (name.a - 1)
      (behind_last setting.case.begun name free.0 family) sought)

  cut_from : (slot op : ℕ) (params : Option CutParams) (found : Option RowForm) →
      option_and_then (λ (cut : CutParams). cut_row_of setting.case.parts setting.case.slots cut slot op) params ≡ found → is_some found ≡ true →
      IsLawful setting point (row_or_none found)
  cut_from slot op None None same is = cc
  cut_from slot op None (Some row) same is = cc
  cut_from slot op (Some params) None same is = cc
  cut_from slot op (Some params) (Some row) same is = of_cut params slot op same

  lawful_row : (term : Term) → IsLawfulTerm setting term → IsLawful setting point (row_of_term setting term)
  lawful_row (Row name y) lawful = named_from name (row_named setting name) refl lawful.1
  lawful_row (Cut cut slot op y) lawful = cut_from slot op (slice_get setting.cuts cut) (cut_row_named setting cut slot op) refl lawful.2

  pub lawful_rows : (terms : List Term) → AreLawfulTerms setting terms →
      AreLawfulRows setting.case.parts setting.case.slots point (rows_of setting terms)
  lawful_rows [] lawful = All-nil (IsLawful setting point)
  lawful_rows (term ∷ terms) lawful =
      All-cons (IsLawful setting point) (row_of_term setting term) (rows_of setting terms)
      (lawful_row term (All-head (IsLawfulTerm setting) term terms lawful))
      (lawful_rows terms (All-tail (IsLawfulTerm setting) term terms lawful))

-- ---- forms

-- a lawful form has a word that breaks no rule
form_in : (case : Case) (box : List Slot) (point : List Entry) → IsPoint box point → is_lawful_form case point ≡ true → IsFormIn case.parts BySlot box point
form_in case box point there lawful =
    let word = word_of point in
    let both = and_parts (starts_late case.begun word && is_form point) (is_none (first_broken_in case.parts BySlot word)) lawful in
    let late = and_parts (starts_late case.begun word) (is_form point) both.0 in
    record { there = there; form = late.1; legal = none_of (first_broken_in case.parts BySlot word) both.1 }
  where
    none_of : (found : Option Broken) → is_none found ≡ true → found ≡ None
    none_of None is = refl
    none_of (Some broken) is = cc

-- ---- one leaf

-- a lawful form has its margin for a value
point_value-lawful : (case : Case) (point : List Entry) → is_lawful_form case point ≡ true → point_value case point
    ≡ Some (margin_of case.parts (word_of point))
point_value-lawful case point lawful = cond-true (is_lawful_form case point) (Some (margin_of case.parts (word_of point))) None lawful

module _ (setting : Setting) (bounds : DualValuesBoundMargins setting.case.parts) (empty : EmptyBoxesHaveNoForm setting.case.parts)
    (box : List Slot) (point : List Entry) (sized : length box ≡ setting.case.slots) (there : IsPoint box point)
    (lawful : is_lawful_form setting.case point ≡ true) (sought : IsSought setting.case point) where
  abbrev parts : Parts
  parts = setting.case.parts

  rows_are : (terms : List Term) → AreLawfulTerms setting terms → AreLawfulRows parts (length box) point (rows_of setting terms)
  rows_are terms are = subst (λ (n : ℕ). AreLawfulRows parts n point (rows_of setting terms)) (sym sized) (lawful_rows setting point sought terms are)

  dual_reaches : (q : ℕ) (terms : List Term) → AreBounding setting q terms → Reaches (Some (dual_value_of setting box q terms)) (margin_of parts (word_of point))
  unfolding dual_value_of
  dual_reaches q terms are =
      let bounded = bounds BySlot box point (rows_of setting terms) (multipliers_of terms) q (form_in setting.case box point there lawful) (rows_are terms are.2) are.0 in
      record {
        value = dual_value_of setting box q terms;
        is = refl;
        most = subst
            (λ (n : ℕ). margin_of parts (word_of point)
            ≤ℤ dual_value (rows_of setting terms) (ranges_of parts box) (objective_of parts n) (multipliers_of terms) q)
            sized bounded;
      }

  void_has_no_form : (terms : List Term) → AreLawfulTerms setting terms → are_contradictory setting box terms ≡ true → ⊥
  unfolding are_contradictory
  void_has_no_form terms are contradictory =
      let below : emptiness_sum (rows_of setting terms) (ranges_of parts box) (multipliers_of terms) <ℤ pos 0 = omega (arith, ints) in
      empty BySlot box point (rows_of setting terms) (multipliers_of terms) (rows_are terms are) below (form_in setting.case box point there lawful)

pub leaves_reach_forms : (setting : Setting) → OnlyPointsArePoints → DualValuesBoundMargins setting.case.parts →
    EmptyBoxesHaveNoForm setting.case.parts → LeavesReachForms setting
leaves_reach_forms setting only bounds empty box (Dead at) point is sized leaf there lawful sought =
    absurd (blocked_has_no_form setting.case box at point is there leaf sought)
leaves_reach_forms setting only bounds empty box (Void terms) point is sized leaf there lawful sought =
    absurd (void_has_no_form setting bounds empty box point sized there lawful sought terms leaf.0 leaf.1)
leaves_reach_forms setting only bounds empty box (Dual q terms) point is sized leaf there lawful sought =
    dual_reaches setting bounds empty box point sized there lawful sought q terms leaf
leaves_reach_forms setting only bounds empty box (Undone q terms) point is sized leaf there lawful sought =
    dual_reaches setting bounds empty box point sized there lawful sought q terms leaf
leaves_reach_forms setting only bounds empty box Point point is sized leaf there lawful sought =
    let same : only_point box ≡ point = leaf.2 (only_point box) (only box is leaf) ∙ sym (leaf.2 point there) in
    record {
      value = margin_of setting.case.parts (word_of point);
      is = ap (point_value setting.case) same ∙ point_value-lawful setting.case point lawful;
      most = omega (arith, ints);
    }

-- ---- the nodes of a tree

IsNodeOf-lawful : (setting : Setting) (box : List Slot) (node : Option Node) → IsLawfulNode setting box node → IsNodeOf box node
IsNodeOf-lawful setting box None lawful = lawful
IsNodeOf-lawful setting box (Some (Inner ticket split)) lawful = lawful
IsNodeOf-lawful setting box (Some (Leaf leaf)) lawful = tt

pub IsSearchTree-lawful : (setting : Setting) (tree : List Node) → AreLawful setting tree → IsSearchTree (root_box setting.case) (slice_get tree)
IsSearchTree-lawful setting tree lawful id box has = IsNodeOf-lawful setting box (slice_get tree id) (lawful id box has)

-- ---- all leaves

-- some leaf has a value that is no less than the margin
record LeafReaches (setting : Setting) (tree : List Node) (margin : ℤ) : Type 0 where
  value : ℤ
  is : IsLeafValue setting tree value
  most : margin ≤ℤ value

some_leaf_reaches : (setting : Setting) (tree : List Node) → LeavesCoverRoots → NodeBoxesStayWithin → IsBox (root_box setting.case) →
    length (root_box setting.case) ≡ setting.case.slots → PlansHaveForms setting.case → LeavesReachForms setting → AreLawful setting tree →
    (plan : List Timed) → IsCasePlan setting.case plan → LeafReaches setting tree (margin_of setting.case.parts plan)
some_leaf_reaches setting tree cover within root_is sized forms reach lawful plan is =
    let root = root_box setting.case in
    let search_tree = IsSearchTree-lawful setting tree lawful in
    let formed = forms plan is in
    let point = formed.0 in
    let form : IsFormOf setting.case plan point = formed.1 in
    let found : InLeaf root (slice_get tree) point = cover root (slice_get tree) root_is search_tree point form.there in
    let inside = within root (slice_get tree) root_is search_tree found.id found.box found.has in
    let leaf_is : IsLawfulLeaf setting found.box found.kind = subst (IsLawfulNode setting found.box) found.node (lawful found.id found.box found.has) in
    let reached : Reaches (leaf_value_of setting found.box found.kind) (margin_of setting.case.parts (word_of point)) =
    reach found.box found.kind point inside.is (inside.slots ∙ sized) leaf_is found.there form.lawful form.sought in
    record {
      value = reached.value;
      is = record { box = found.box; leaf = found.kind; over = record { id = found.id; has_box = found.has; there = found.node }; valued = reached.is };
      most = subst (λ (margin : ℤ). margin ≤ℤ reached.value) form.margin reached.most;
    }

-- ---- the bound

pub tree_bounds_are_true : (setting : Setting) → LeavesCoverRoots → NodeBoxesStayWithin → IsBox (root_box setting.case) →
    length (root_box setting.case) ≡ setting.case.slots → PlansHaveForms setting.case → LeavesReachForms setting → TreeBoundsAreTrue setting
tree_bounds_are_true setting cover within root_is sized forms reach tree None lawful none = λ plan is.
    let reached = some_leaf_reaches setting tree cover within root_is sized forms reach lawful plan is in none reached.value reached.is
tree_bounds_are_true setting cover within root_is sized forms reach tree (Some bound) lawful greatest = λ plan is.
    let reached = some_leaf_reaches setting tree cover within root_is sized forms reach lawful plan is in
    let margin : margin_of setting.case.parts plan ≤ℤ reached.value = reached.most in
    let value : reached.value ≤ℤ bound = greatest.greatest reached.value reached.is in
    omega (arith, ints)
