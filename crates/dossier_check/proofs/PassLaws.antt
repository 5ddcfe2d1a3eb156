-- What it means for a node that nothing stands against it.
use Rattle.std.proofs.Common.{◌≡◌, ℕ, zero, suc, ◌+◌, ◌<◌, ◌≤◌, Bool, true, false, Option, Some, None, List, [], ◌∷◌, ◌++◌, length, drop, refl, sym, ap, ap₂, ◌∙◌, subst, arith}
use Rattle.std.specs.Prelude.{◌==◌, nat_lt, nat_le, not, ◌&&◌, slice_get}
use Rattle.std.proofs.lemmas.Bool.{and_parts, and_from, ltb-true, lt-ltb, leb-true, le-leb, eqb-true, eq-eqb, not-true, not_from_false}
use Rattle.std.proofs.lemmas.List.Elements.{All-nil, All-cons, All-head, All-tail}
use Rattle.std.proofs.lemmas.Option.{slice_get_within}
use Rattle.item_lists.specs.Faults.{unless}
use Rattle.item_lists.proofs.FaultLaws.{nil_of_append, holds_of_nil}
use Rattle.limits.specs.declared.TheConstants.{MOST_MULTIPLIER}
use Rattle.slot_box.specs.declared.node.Leaf.{Leaf as LeafKind}
use Rattle.slot_box.specs.declared.node.Leaf.TheVariants.{Dead, Void, Dual, Undone, Point}
use Rattle.slot_box.specs.declared.node.Node.{Node}
use Rattle.slot_box.specs.declared.node.Node.TheVariants.{Inner, Leaf}
use Rattle.slot_box.specs.declared.slot.Slot.{Slot}
use Rattle.slot_box.specs.declared.split.Split.{Split}
use Rattle.slot_box.specs.declared.term.Term.{Term}
use Rattle.slot_box.specs.declared.term.Term.TheVariants.{Row, Cut}
use Rattle.slot_box.specs.Boxes.{points_of}
use Rattle.slot_box.specs.Splits.{is_lawful}
use Rattle.slot_forms.specs.Cases.{root_box}
use Rattle.leaf_value.specs.Blocked.{is_blocked}
use Rattle.leaf_value.specs.Settings.{Setting, has_row, has_cut_row}
use Rattle.leaf_value.specs.LeafValue.{are_contradictory, IsLawfulTerm, AreLawfulTerms, AreBounding, IsLawfulLeaf}
use Rattle.dossier_check.specs.declared.verdict.Reason.{Reason}
use Rattle.dossier_check.specs.Earlier.{Holder, is_held, with_node}
use Rattle.dossier_check.specs.NodeReasons.{reason, term_reasons, terms_reasons, dual_reasons, leaf_reasons, inner_reasons, node_reasons, nodes_reasons}
use Rattle.dossier_check.specs.inside.Walks.{Pass}
use Rattle.dossier_check.proofs.PlaceLaws.{item_at, rest_at, with_found, holders, box_at}

-- a test that holds leaves no fault
pub nil_of_holds : {X : Type 0} (test : Bool) (fault : X) → test ≡ true → unless test fault ≡ []
nil_of_holds true fault is = refl
nil_of_holds false fault is = absurd (cc)

pub joined_nil : {X : Type 0} (front back : List X) → front ≡ [] → back ≡ [] → front ++ back ≡ []
joined_nil front back first second = ap₂ (λ xs ys. xs ++ ys) first second

-- ---- entries

module _ (setting : Setting) (line : ℕ) where
  term_of_none : (term : Term) → term_reasons setting line term ≡ [] → IsLawfulTerm setting term
  unfolding term_reasons
  term_of_none (Row name y) none =
      let both = nil_of_append (unless (nat_le y MOST_MULTIPLIER) (reason 9 line)) (unless (has_row setting name) (reason 10 line)) none in
      (leb-true y MOST_MULTIPLIER (holds_of_nil (nat_le y MOST_MULTIPLIER) (reason 9 line) both.0), holds_of_nil (has_row setting name) (reason 10 line) both.1)
  term_of_none (Cut cut slot op y) none =
      let both = nil_of_append (unless (nat_le y MOST_MULTIPLIER) (reason 9 line) ++ unless (nat_lt cut (length setting.cuts)) (reason 11 line))
      (unless (has_cut_row setting cut slot op) (reason 13 line)) none in
      let first = nil_of_append (unless (nat_le y MOST_MULTIPLIER) (reason 9 line)) (unless (nat_lt cut (length setting.cuts)) (reason 11 line)) both.0 in (
        leb-true y MOST_MULTIPLIER (holds_of_nil (nat_le y MOST_MULTIPLIER) (reason 9 line) first.0),
        ltb-true cut (length setting.cuts) (holds_of_nil (nat_lt cut (length setting.cuts)) (reason 11 line) first.1),
        holds_of_nil (has_cut_row setting cut slot op) (reason 13 line) both.1,
      )

  none_of_term : (term : Term) → IsLawfulTerm setting term → term_reasons setting line term ≡ []
  unfolding term_reasons
  none_of_term (Row name y) is =
      joined_nil (unless (nat_le y MOST_MULTIPLIER) (reason 9 line)) (unless (has_row setting name) (reason 10 line))
      (nil_of_holds (nat_le y MOST_MULTIPLIER) (reason 9 line) (le-leb y MOST_MULTIPLIER is.0))
      (nil_of_holds (has_row setting name) (reason 10 line) is.1)
  none_of_term (Cut cut slot op y) is =
      joined_nil (unless (nat_le y MOST_MULTIPLIER) (reason 9 line) ++ unless (nat_lt cut (length setting.cuts)) (reason 11 line))
      (unless (has_cut_row setting cut slot op) (reason 13 line))
      (joined_nil (unless (nat_le y MOST_MULTIPLIER) (reason 9 line)) (unless (nat_lt cut (length setting.cuts)) (reason 11 line))
      (nil_of_holds (nat_le y MOST_MULTIPLIER) (reason 9 line) (le-leb y MOST_MULTIPLIER is.0))
      (nil_of_holds (nat_lt cut (length setting.cuts)) (reason 11 line) (lt-ltb cut (length setting.cuts) is.1)))
      (nil_of_holds (has_cut_row setting cut slot op) (reason 13 line) is.2)

  terms_of_none : (terms : List Term) → terms_reasons setting line terms ≡ [] → AreLawfulTerms setting terms
  terms_of_none [] none = All-nil (IsLawfulTerm setting)
  terms_of_none (term ∷ terms) none =
      let both = nil_of_append (term_reasons setting line term) (terms_reasons setting line terms) none in
      All-cons (IsLawfulTerm setting) term terms (term_of_none term both.0) (terms_of_none terms both.1)

  none_of_terms : (terms : List Term) → AreLawfulTerms setting terms → terms_reasons setting line terms ≡ []
  none_of_terms [] are = refl
  none_of_terms (term ∷ terms) are =
      joined_nil (term_reasons setting line term) (terms_reasons setting line terms)
      (none_of_term term (All-head (IsLawfulTerm setting) term terms are)) (none_of_terms terms (All-tail (IsLawfulTerm setting) term terms are))

-- ---- leaves

-- what a leaf over a box is where nothing stands against it
abbrev pub LeafPasses : Setting → List Slot → LeafKind → Type 0
LeafPasses setting box (Dead at) = is_blocked setting.case box at ≡ true
LeafPasses setting box (Void terms) = IsLawfulLeaf setting box (Void terms)
LeafPasses setting box (Dual q terms) = IsLawfulLeaf setting box (Dual q terms)
LeafPasses setting box (Undone q terms) = IsLawfulLeaf setting box (Undone q terms)
LeafPasses setting box Point = points_of box ≡ 1

module _ (setting : Setting) (line : ℕ) where
  bounding_of_none : (q : ℕ) (terms : List Term) → dual_reasons setting line q terms ≡ [] → AreBounding setting q terms
  unfolding dual_reasons
  bounding_of_none q terms none =
      let both = nil_of_append (unless (nat_le 1 q && nat_le q MOST_MULTIPLIER) (reason 9 line)) (terms_reasons setting line terms) none in
      let range = and_parts (nat_le 1 q) (nat_le q MOST_MULTIPLIER) (holds_of_nil (nat_le 1 q && nat_le q MOST_MULTIPLIER) (reason 9 line) both.0) in
      (leb-true 1 q range.0, leb-true q MOST_MULTIPLIER range.1, terms_of_none setting line terms both.1)

  none_of_bounding : (q : ℕ) (terms : List Term) → AreBounding setting q terms → dual_reasons setting line q terms ≡ []
  unfolding dual_reasons
  none_of_bounding q terms are =
      joined_nil (unless (nat_le 1 q && nat_le q MOST_MULTIPLIER) (reason 9 line)) (terms_reasons setting line terms)
      (nil_of_holds (nat_le 1 q && nat_le q MOST_MULTIPLIER) (reason 9 line)
      (and_from (nat_le 1 q) (nat_le q MOST_MULTIPLIER) (le-leb 1 q are.0) (le-leb q MOST_MULTIPLIER are.1)))
      (none_of_terms setting line terms are.2)

  leaf_of_none : (box : List Slot) (leaf : LeafKind) → leaf_reasons setting line box leaf ≡ [] → LeafPasses setting box leaf
  unfolding leaf_reasons
  leaf_of_none box (Dead at) none = holds_of_nil (is_blocked setting.case box at) (reason 7 line) none
  leaf_of_none box (Void terms) none =
      let both = nil_of_append (terms_reasons setting line terms) (unless (are_contradictory setting box terms) (reason 14 line)) none in
      (terms_of_none setting line terms both.0, holds_of_nil (are_contradictory setting box terms) (reason 14 line) both.1)
  leaf_of_none box (Dual q terms) none = bounding_of_none q terms none
  leaf_of_none box (Undone q terms) none = bounding_of_none q terms none
  leaf_of_none box Point none = eqb-true (points_of box) 1 (holds_of_nil (points_of box == 1) (reason 8 line) none)

  none_of_leaf : (box : List Slot) (leaf : LeafKind) → LeafPasses setting box leaf → leaf_reasons setting line box leaf ≡ []
  unfolding leaf_reasons
  none_of_leaf box (Dead at) passes = nil_of_holds (is_blocked setting.case box at) (reason 7 line) passes
  none_of_leaf box (Void terms) passes =
      joined_nil (terms_reasons setting line terms) (unless (are_contradictory setting box terms) (reason 14 line))
      (none_of_terms setting line terms passes.0) (nil_of_holds (are_contradictory setting box terms) (reason 14 line) passes.1)
  none_of_leaf box (Dual q terms) passes = none_of_bounding q terms passes
  none_of_leaf box (Undone q terms) passes = none_of_bounding q terms passes
  none_of_leaf box Point passes = nil_of_holds (points_of box == 1) (reason 8 line) (eq-eqb (points_of box) 1 passes)

-- ---- nodes

-- an inner node's ticket is one of the first t and was not held, and its split passes the test
pub record InnerPasses (t : ℕ) (earlier : List Holder) (box : List Slot) (ticket : ℕ) (split : Split) : Type 0 where
  pub below : ticket < t
  pub free : is_held ticket earlier ≡ false
  pub lawful : is_lawful box split ≡ true

abbrev pub NodePasses : Pass → List Holder → List Slot → Node → Type 0
NodePasses pass earlier box (Inner ticket split) = InnerPasses pass.nodes earlier box ticket split
NodePasses pass earlier box (Leaf leaf) = LeafPasses pass.setting box leaf

module _ (t : ℕ) (earlier : List Holder) (line : ℕ) (box : List Slot) (ticket : ℕ) (split : Split) where
  abbrev is_free : Bool
  is_free = nat_lt ticket t && not (is_held ticket earlier)

  inner_of_none : inner_reasons t earlier line box ticket split ≡ [] → InnerPasses t earlier box ticket split
  unfolding inner_reasons
  inner_of_none none =
      let both = nil_of_append (unless is_free (reason 4 line)) (unless (is_lawful box split) (reason 6 line)) none in
      let tests = and_parts (nat_lt ticket t) (not (is_held ticket earlier)) (holds_of_nil is_free (reason 4 line) both.0) in
      record {
        below = ltb-true ticket t tests.0;
        free = not-true (is_held ticket earlier) tests.1;
        lawful = holds_of_nil (is_lawful box split) (reason 6 line) both.1;
      }

  none_of_inner : InnerPasses t earlier box ticket split → inner_reasons t earlier line box ticket split ≡ []
  unfolding inner_reasons
  none_of_inner passes =
      joined_nil (unless is_free (reason 4 line)) (unless (is_lawful box split) (reason 6 line))
      (nil_of_holds is_free (reason 4 line)
      (and_from (nat_lt ticket t) (not (is_held ticket earlier)) (lt-ltb ticket t passes.below) (not_from_false (is_held ticket earlier) passes.free)))
      (nil_of_holds (is_lawful box split) (reason 6 line) passes.lawful)

-- the pass over the nodes of a tree over the root box of the case
abbrev pub pass_for : Setting → ℕ → ℕ → Pass
pass_for setting t first = record { setting = setting; nodes = t; first = first; root = root_box setting.case }

-- a node has a box, and is as it should over it
pub record Passes (pass : Pass) (tree : List Node) (id : ℕ) (node : Node) : Type 0 where
  pub box : List Slot
  pub has : box_at pass.root tree id ≡ Some box
  pub over : NodePasses pass (holders pass.root tree id) box node

module _ (pass : Pass) (tree : List Node) where
  -- the inner nodes before an id
  abbrev before : ℕ → List Holder
  before id = holders pass.root tree id

  -- what stands against the nodes from an id on, and against one alone
  abbrev rest_reasons : List Holder → ℕ → List Node → List Reason
  rest_reasons earlier id rest = nodes_reasons pass.setting pass.nodes pass.first pass.root earlier id rest

  abbrev own_reasons : ℕ → Option (List Slot) → Node → List Reason
  own_reasons id box node = node_reasons pass.setting pass.nodes (before id) (pass.first + id) box node

  passes_by : (id : ℕ) (node : Node) (box : Option (List Slot)) → box_at pass.root tree id ≡ box → own_reasons id box node ≡ [] → Passes pass tree id node
  passes_by id node None has none = absurd (cc)
  passes_by id (Inner ticket split) (Some box) has none =
      record { box = box; has = has; over = inner_of_none pass.nodes (before id) (pass.first + id) box ticket split none }
  passes_by id (Leaf leaf) (Some box) has none = record { box = box; has = has; over = leaf_of_none pass.setting (pass.first + id) box leaf none }

  none_over : (id : ℕ) (node : Node) (box : List Slot) → NodePasses pass (before id) box node → own_reasons id (Some box) node ≡ []
  none_over id (Inner ticket split) box over = none_of_inner pass.nodes (before id) (pass.first + id) box ticket split over
  none_over id (Leaf leaf) box over = none_of_leaf pass.setting (pass.first + id) box leaf over

  -- those before the next id
  next_holders : (id : ℕ) (node : Node) → slice_get tree id ≡ Some node → with_node (before id) (box_at pass.root tree id) node ≡ before (suc id)
  next_holders id node is = sym (ap (with_found (before id) (box_at pass.root tree id)) is)

  rest_next : (id : ℕ) (node : Node) (rest : List Node) → slice_get tree id ≡ Some node →
      rest_reasons (with_node (before id) (box_at pass.root tree id) node) (id + 1) rest ≡ rest_reasons (before (suc id)) (suc id) rest
  rest_next id node rest is =
      let more : id + 1 ≡ suc id = omega arith in
      ap (λ earlier. rest_reasons earlier (id + 1) rest) (next_holders id node is) ∙ ap (λ n. rest_reasons (before (suc id)) n rest) more

  -- where nothing stands against the nodes from an id on, neither does against the first of them and those behind it
  parts_of_none : (id : ℕ) (node : Node) → slice_get tree id ≡ Some node → drop id tree ≡ node ∷ drop (suc id) tree →
      rest_reasons (before id) id (drop id tree) ≡ [] →
      (own_reasons id (box_at pass.root tree id) node ≡ []) × (rest_reasons (before (suc id)) (suc id) (drop (suc id) tree) ≡ [])
  parts_of_none id node is there none =
      let both = nil_of_append (own_reasons id (box_at pass.root tree id) node)
      (rest_reasons (with_node (before id) (box_at pass.root tree id) node) (id + 1) (drop (suc id) tree))
      (sym (ap (rest_reasons (before id) id) there) ∙ none) in
      (both.0, sym (rest_next id node (drop (suc id) tree) is) ∙ both.1)

  clean_from : rest_reasons [] 0 tree ≡ [] → (id : ℕ) → id ≤ length tree → rest_reasons (before id) id (drop id tree) ≡ []
  clean_from none zero within = none
  clean_from none (suc id) within =
      let item = item_at tree id (omega arith) in
      (parts_of_none id item.0 item.1 item.2 (clean_from none id (omega arith))).1

  -- where nothing stands against the nodes, each is as it should
  pub all_pass : rest_reasons [] 0 tree ≡ [] → (id : ℕ) (node : Node) → slice_get tree id ≡ Some node → Passes pass tree id node
  all_pass none id node is =
      let within = slice_get_within tree id node is in
      let item = item_at tree id within in
      let same : item.0 ≡ node = let there = item.1 in cc in
      let own = (parts_of_none id item.0 item.1 item.2 (clean_from none id (omega arith))).0 in
      passes_by id node (box_at pass.root tree id) refl (subst (λ n. own_reasons id (box_at pass.root tree id) n ≡ []) same own)

  module _ (all : (id : ℕ) (node : Node) → slice_get tree id ≡ Some node → Passes pass tree id node) where
    clean_rest : (rest : List Node) (id : ℕ) → drop id tree ≡ rest → rest_reasons (before id) id rest ≡ []
    clean_rest [] id is = refl
    clean_rest (node ∷ rest) id is =
        let parts = rest_at tree id node rest is in
        let passes = all id node parts.0 in
        joined_nil (own_reasons id (box_at pass.root tree id) node) (rest_reasons (with_node (before id) (box_at pass.root tree id) node) (id + 1) rest)
        (ap (λ box. own_reasons id box node) passes.has ∙ none_over id node passes.box passes.over)
        (rest_next id node rest parts.0 ∙ clean_rest rest (suc id) parts.1)

    -- and the other way round
    pub none_stands : rest_reasons [] 0 tree ≡ []
    none_stands = clean_rest tree 0 refl
