-- The tree of notes that are true of their boxes.
use Rattle.std.proofs.Common.{◌≡◌, ℕ, ℤ, inl, inr, ◌+◌, ◌<◌, ◌≤◌, Option, Some, None, List, [], length, get_or, refl, sym, ap, ◌∙◌, subst, arith}
use Rattle.std.specs.Prelude.{◌⊎◌, All, Contains, IfSome, slice_get}
use Rattle.std.specs.List.{AllByRecursion}
use Rattle.std.proofs.lemmas.List.{length-map, get_or-map}
use Rattle.std.proofs.lemmas.List.Elements.{Contains-get_or, recursion_from_All, All-from_get_or, All-contains}
use Rattle.std.proofs.lemmas.Option.{get_or_from_slice_get}
use Rattle.limits.specs.declared.TheConstants.{MOST_NODES}
use Rattle.number_laws.specs.Missing.{IsAtMost, greater}
use Rattle.number_laws.proofs.MissingLaws.{IsAtMost-trans}
use Rattle.slot_box.specs.declared.node.Leaf.{Leaf as LeafKind}
use Rattle.slot_box.specs.declared.node.Leaf.TheVariants.{Dead, Point}
use Rattle.slot_box.specs.declared.node.Node.{Node}
use Rattle.slot_box.specs.declared.node.Node.TheVariants.{Inner, Leaf}
use Rattle.slot_box.specs.declared.slot.Slot.{Slot}
use Rattle.slot_box.specs.declared.split.Split.{Split}
use Rattle.slot_box.specs.Boxes.{IsBox, points_of}
use Rattle.slot_box.specs.Laws.{OpenLeavesCost}
use Rattle.slot_box.specs.Ranges.{IsNodeInRange}
use Rattle.slot_box.specs.Trees.{IsNodeOf, IsSearchTree}
use Rattle.slot_forms.specs.Cases.{root_box}
use Rattle.leaf_value.specs.Budget.{IsOpen, KeepsBudget}
use Rattle.leaf_value.specs.LeafValue.{leaf_value_of}
use Rattle.leaf_value.specs.Settings.{Setting}
use Rattle.leaf_value.specs.TreeValue.{AreLawful, HasCaseBox, IsBoundOf, IsLawfulNode, IsLeafOver, IsLeafValue}
use Rattle.search_board.specs.Seats.{SeatView}
use Rattle.search_node.specs.declared.looked.NodeNote.{NodeNote}
use Rattle.search_node.specs.Notes.{NoteOver, notes_over}
use Rattle.leaf_value.specs.PlainGuesses.{IsBelowPlainGuesses}
use Rattle.branch_worker.specs.NoteBoxes.{IsLeft, IsOutcome, IsTrueNote}
use Rattle.branch_worker.specs.Work.{IsLeftOpenOrBeaten, IsLeftWell}
use Rattle.search_gather.specs.Gathered.{IsFromNote, IsGathered, IsRenamed}
use Rattle.crude_run.specs.Searched.{IsGreatestNoted, leaf_value_in, leaf_value_noted}
use Rattle.crude_run.specs.Thorough.{IsThorough}

-- ---- notes and notes over boxes

abbrev note_in : NoteOver → NodeNote
note_in each = each.note

pub noted-over : (over : List NoteOver) (each : NoteOver) → Contains over each → Contains (notes_over over) each.note
noted-over over each (k, inside, is) = (
  k,
  (let same = length-map over note_in in omega (arith, same, inside)),
  get_or-map note_in over k each each.note inside ∙ ap note_in is,
)

pub over-noted : (over : List NoteOver) (note : NodeNote) → Contains (notes_over over) note → (each : NoteOver) × Contains over each × (each.note ≡ note)
over-noted over note (k, inside, is) =
    let none : NoteOver = record { note = note; box = [] } in
    let within : k < length over = (let same = length-map over note_in in omega (arith, same, inside)) in
    (get_or over k none, Contains-get_or over k none within, sym (get_or-map note_in over k none note within) ∙ is)

-- ---- a node under another ticket

leaf-kept : (noted node : Node) (leaf : LeafKind) → IsRenamed noted node → node ≡ Leaf leaf → noted ≡ Leaf leaf
leaf-kept (Inner ticket split) node leaf (new, same) is = absurd (let clash : Inner new split ≡ Leaf leaf = sym same ∙ is in cc)
leaf-kept (Leaf kind) node leaf same is = sym same ∙ is

split-kept : (noted node : Node) (ticket : ℕ) (split : Split) → IsRenamed noted node → node ≡ Inner ticket split → (old : ℕ) × (noted ≡ Inner old split)
split-kept (Inner old other) node ticket split (new, same) is =
    let both : Inner new other ≡ Inner ticket split = sym same ∙ is in
    let equal : other ≡ split = cc in
    (old, ap (Inner old) equal)
split-kept (Leaf kind) node ticket split same is = absurd (let clash : Leaf kind ≡ Inner ticket split = sym same ∙ is in cc)

dead-kept : (noted node : Node) (leaf : LeafKind) → IsRenamed noted node → noted ≡ Leaf leaf → node ≡ Leaf leaf
dead-kept (Inner ticket split) node leaf same is = absurd (cc)
dead-kept (Leaf kind) node leaf same is = same ∙ is

same-node : (found : Option Node) (one other : Node) → found ≡ Some one → found ≡ Some other → one ≡ other
same-node found one other is also =
    let both : ◌≡◌ {A = Option Node} (Some one) (Some other) = sym is ∙ also in cc

-- the new ticket is within the limit, and all other numbers are those of the note
fits-kept : (t : ℕ) (noted node : Node) → t ≤ MOST_NODES → IsRenamed noted node → ((ticket : ℕ) (split : Split) → node ≡ Inner ticket split → ticket < t)
    → IsNodeInRange noted → IsNodeInRange node
fits-kept t (Inner ticket split) node few (new, same) below fits =
    let less = below new split same in
    subst IsNodeInRange (sym same) (omega (arith, less, few), fits.1, fits.2)
fits-kept t (Leaf kind) node few same below fits = subst IsNodeInRange (sym same) fits

-- ---- the tree

module _ (setting : Setting) (t : ℕ) (tree : List Node) (over : List NoteOver) (gathered : IsGathered (root_box setting.case) t over tree)
    (true_notes : All (IsTrueNote setting) over) where
  abbrev root : List Slot
  root = root_box setting.case

  from-of : (id : ℕ) (box : List Slot) → HasCaseBox setting.case tree id box → IsFromNote root tree over id box
  from-of = gathered.noted

  true-of : (each : NoteOver) → Contains over each → IsTrueNote setting each
  true-of each there = All-contains (IsTrueNote setting) over each true_notes there

  -- a node is what its note says, but for its ticket
  lawful-node : (noted node : Node) (box : List Slot) (value seen : Option ℤ) → IsRenamed noted node → IsOutcome setting box noted value seen →
      IsLawfulNode setting box (Some node)
  lawful-node (Inner ticket split) node box value seen (new, same) outcome = rw same outcome.lawful
  lawful-node (Leaf leaf) node box value seen same outcome = rw same outcome.lawful

  pub lawful : AreLawful setting tree
  lawful id box has =
      let from = from-of id box has in
      let is = true-of (record { note = from.note; box = box }) from.noted in
      rw from.is.there (lawful-node from.note.node from.is.node box from.note.value from.note.seen from.is.same is.outcome)

  search-node : (box : List Slot) (found : Option Node) → IsLawfulNode setting box found → IsNodeOf box found
  search-node box None is = is
  search-node box (Some (Inner ticket split)) is = is
  search-node box (Some (Leaf leaf)) is = tt

  search-tree : IsSearchTree root (slice_get tree)
  search-tree id box has = search-node box (slice_get tree id) (lawful id box has)

  -- ---- numbers

  pub numbers : t ≤ MOST_NODES → AllByRecursion IsNodeInRange tree
  numbers few = recursion_from_All IsNodeInRange tree (All-from_get_or IsNodeInRange tree (Leaf Point) each)
    where
      each : (id : ℕ) → id < length tree → IsNodeInRange (get_or tree id (Leaf Point))
      each id inside =
          let all = gathered.nodes in
          let boxed = gathered.every id (omega (arith, all, inside)) in
          let from = from-of id boxed.0 boxed.1 in
          let is = true-of (record { note = from.note; box = boxed.0 }) from.noted in
          let here = get_or_from_slice_get tree id from.is.node (Leaf Point) from.is.there in
          rw here
          (fits-kept t from.note.node from.is.node few from.is.same
          (λ ticket split same. gathered.tickets.below id ticket split (from.is.there ∙ ap Some same)) is.in_range)

  -- ---- leaves

  -- a leaf has a note over its box
  pub record IsNotedLeaf (box : List Slot) (leaf : LeafKind) : Type 0 where
    pub note : NodeNote
    pub noted : Contains over (record { note = note; box = box })
    pub is_leaf : note.node ≡ Leaf leaf
    pub is : IsTrueNote setting (record { note = note; box = box })

  pub leaf-noted : (box : List Slot) (leaf : LeafKind) → IsLeafOver setting.case tree box leaf → IsNotedLeaf box leaf
  leaf-noted box leaf is =
      let from = from-of is.id box is.has_box in
      record {
        note = from.note;
        noted = from.noted;
        is_leaf = leaf-kept from.note.node from.is.node leaf from.is.same (same-node (slice_get tree is.id) from.is.node (Leaf leaf) from.is.there is.there);
        is = true-of (record { note = from.note; box = box }) from.noted;
      }

  left-of : (box : List Slot) (leaf : LeafKind) (noted : IsNotedLeaf box leaf) → IsLeft setting box leaf noted.note.value
  left-of box leaf noted =
      subst (λ (node : Node). IsOutcome setting box node noted.note.value noted.note.seen) noted.is_leaf noted.is.outcome

  -- ---- the bound

  module _ (bound : Option ℤ) (greatest : IsGreatestNoted (notes_over over) bound) where
    bounded : (value : ℤ) → IsLeafValue setting tree value → IsAtMost (Some value) bound
    bounded value is =
        let noted = leaf-noted is.box is.leaf is.over in
        let below = All-contains (λ (note : NodeNote). IsAtMost (leaf_value_noted note) bound) (notes_over over) noted.note greatest.most
        (noted-over over (record { note = noted.note; box = is.box }) noted.noted) in
        let valued : leaf_value_noted noted.note ≡ Some value =
        ap (λ (node : Node). leaf_value_in node noted.note.value) noted.is_leaf ∙ (left-of is.box is.leaf noted).valued ∙ is.valued in
        subst (λ (v : Option ℤ). IsAtMost v bound) valued below

    leaf-of : (noted node : Node) (value : Option ℤ) (worth : ℤ) → IsRenamed noted node → leaf_value_in noted value ≡ Some worth →
        (leaf : LeafKind) × (noted ≡ Leaf leaf) × (node ≡ Leaf leaf) × (value ≡ Some worth)
    leaf-of (Inner ticket split) node value worth same is = absurd (cc)
    leaf-of (Leaf leaf) node value worth same is = (leaf, refl, same, is)

    reached : (value : ℤ) → (note : NodeNote) × Contains (notes_over over) note × (leaf_value_noted note ≡ Some value) → IsLeafValue setting tree value
    reached value (note, there, valued) =
        let found = over-noted over note there in
        let each = found.0 in
        let placed = gathered.placed each found.1 in
        let here : leaf_value_noted each.note ≡ Some value = ap (λ (n : NodeNote). leaf_value_noted n) found.2 ∙ valued in
        let leaf = leaf-of each.note.node placed.node each.note.value value placed.same here in
        let left : IsLeft setting each.box leaf.0 each.note.value =
        subst (λ (node : Node). IsOutcome setting each.box node each.note.value each.note.seen) leaf.1 (true-of each found.1).outcome in
        record {
          box = each.box;
          leaf = leaf.0;
          over = record { id = gathered.place each.note.id; has_box = placed.has_box; there = placed.there ∙ ap Some leaf.2 };
          valued = sym left.valued ∙ leaf.3;
        }

    pub bound-is : IsBoundOf setting tree bound
    bound-is = by bound refl
      where
        by : (b : Option ℤ) → bound ≡ b → IsBoundOf setting tree b
        by None is = λ value has. subst (IsAtMost (Some value)) is (bounded value has)
        by (Some b) is = record {
          there = reached b (subst (λ (v : Option ℤ). IfSome v (λ value. (note : NodeNote) × Contains (notes_over over) note × (leaf_value_noted note ≡ Some value))) is
              greatest.there);
          greatest = λ other has. subst (IsAtMost (Some other)) is (bounded other has);
        }

  -- ---- thoroughness

  pub thorough : IsThorough setting tree
  thorough = record {
    even = λ id ticket box split has inner.
        (let from = from-of id box has in
        let is = true-of (record { note = from.note; box = box }) from.noted in
        let kept = split-kept from.note.node from.is.node ticket split from.is.same
        (same-node (slice_get tree id) from.is.node (Inner ticket split) from.is.there inner) in
        (subst (λ (node : Node). IsOutcome setting box node from.note.value from.note.seen) kept.1 is.outcome).even);
    plain = λ box leaf is.
        (let noted = leaf-noted box leaf is in
        subst (λ (v : Option ℤ). IfSome v (IsBelowPlainGuesses setting box)) (left-of box leaf noted).valued noted.is.plain);
    dead = λ id at box has blocked.
        (let from = from-of id box has in
        let is = true-of (record { note = from.note; box = box }) from.noted in
        from.is.there ∙ ap Some (dead-kept from.note.node from.is.node (Dead at) from.is.same ((is.dead at).1 blocked)));
  }

  -- ---- the budget

  module _ (budget : ℕ) (seat : SeatView) (best : Option ℤ) (left : All (IsLeftWell seat) (notes_over over)) (within : t ≤ budget)
      (told : (number : ℕ) → seat.told ≡ Some number → t ≡ budget) (most : IsAtMost (greater seat.offer seat.seen) best) (is_box : IsBox root)
      (cost : OpenLeavesCost) where
    left-leaf : (id : ℕ) (node : Node) (value seen : Option ℤ) (leaf : LeafKind) → node ≡ Leaf leaf →
        IsLeftWell seat (record { id = id; node = node; value = value; seen = seen }) → IsLeftOpenOrBeaten seat leaf value
    left-leaf id (Inner ticket split) value seen leaf is well = absurd (cc)
    left-leaf id (Leaf kind) value seen leaf is well =
        let same : kind ≡ leaf = cc in subst (λ (l : LeafKind). IsLeftOpenOrBeaten seat l value) same well

    leaf-left : (box : List Slot) (leaf : LeafKind) (noted : IsNotedLeaf box leaf) → IsLeftOpenOrBeaten seat leaf noted.note.value
    leaf-left box leaf noted =
        left-leaf noted.note.id noted.note.node noted.note.value noted.note.seen leaf noted.is_leaf
        (All-contains (IsLeftWell seat) (notes_over over) noted.note left (noted-over over (record { note = noted.note; box = box }) noted.noted))

    all-spent : (box : List Slot) (leaf : LeafKind) → IsLeafOver setting.case tree box leaf → IsOpen leaf → (t ≡ budget) × (2 ≤ points_of box)
    all-spent box leaf is opened =
        let noted = leaf-noted box leaf is in
        let number = (leaf-left box leaf noted).told opened in
        (told number.0 number.1, (left-of box leaf noted).several opened)

    beaten : (box : List Slot) (leaf : LeafKind) → IsLeafOver setting.case tree box leaf → IsOpen leaf ⊎ IsAtMost (leaf_value_of setting box leaf) best
    beaten box leaf is =
        let noted = leaf-noted box leaf is in
        elim ((leaf-left box leaf noted).beaten) [
          | inl opened ↦ inl opened
          | inr below ↦ inr (subst (λ (v : Option ℤ). IsAtMost v best) (left-of box leaf noted).valued
              (IsAtMost-trans noted.note.value (greater seat.offer seat.seen) best below most))
        ]

    decided : points_of root ≤ budget + 1 → (box : List Slot) (leaf : LeafKind) → IsLeafOver setting.case tree box leaf → IsOpen leaf → ⊥
    decided few box leaf is opened =
        let spent = all-spent box leaf is opened in
        let dear = cost root t tree is_box gathered.tickets gathered.parents search-tree gathered.nodes is.id box leaf is.has_box is.there spent.1 in
        let all = spent.0 in
        absurd (omega (arith, few, dear, all))

    pub budget-kept : KeepsBudget setting budget tree best
    budget-kept = record {
      within = (let inner = gathered.inner in omega (arith, inner, within));
      spent = λ box leaf is opened. (let all = all-spent box leaf is opened in (gathered.inner ∙ all.0, all.1));
      closed = beaten;
      decided = decided;
    }
