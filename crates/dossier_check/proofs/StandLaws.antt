-- Nothing stands against the nodes of a tree exactly where it is as an accepted dossier's has to be.
use Rattle.std.proofs.Common.{◌≡◌, ℕ, zero, suc, inl, inr, ◌+◌, ◌-◌, ◌*◌, ◌/◌, ◌<◌, true, false, Some, List, length, refl, sym, ap, ◌∙◌, subst, arith}
use Rattle.std.specs.Prelude.{slice_get, option_map}
use Rattle.std.proofs.lemmas.Bool.{cases_order, both_ways, false_from_ne_true}
use Rattle.std.proofs.lemmas.Option.{slice_get_within}
use Rattle.slot_box.specs.declared.node.Leaf.{Leaf as LeafKind}
use Rattle.slot_box.specs.declared.node.Leaf.TheVariants.{Dead, Void, Dual, Undone, Point}
use Rattle.slot_box.specs.declared.node.Node.{Node}
use Rattle.slot_box.specs.declared.node.Node.TheVariants.{Inner, Leaf}
use Rattle.slot_box.specs.declared.slot.Slot.{Slot}
use Rattle.slot_box.specs.declared.split.Split.{Split}
use Rattle.slot_box.specs.Boxes.{IsBox}
use Rattle.slot_box.specs.Laws.{PartsAreBoxes, NodeBoxesStayWithin}
use Rattle.slot_box.specs.Nodes.{IsInner, IsParentOf, AreTickets, HaveParents}
use Rattle.slot_box.specs.Splits.{IsLawfulSplit, is_lawful, left_of, right_of}
use Rattle.slot_box.specs.Trees.{HasBox, root_box, left_part, right_part}
use Rattle.slot_box.proofs.SplitLaws.{test_from_IsLawfulSplit}
use Rattle.slot_forms.specs.Cases.{root_box as case_box}
use Rattle.leaf_value.specs.Settings.{Setting}
use Rattle.leaf_value.specs.LeafValue.{IsLawfulLeaf}
use Rattle.leaf_value.specs.TreeValue.{IsLawfulNode, AreLawful}
use Rattle.leaf_value.proofs.BlockedLaws.{blocked_is_tested}
use Rattle.leaf_value.proofs.LeafLaws.{IsSearchTree-lawful}
use Rattle.dossier_check.specs.Earlier.{Holder, holder_of, is_held, part_for}
use Rattle.dossier_check.specs.inside.Walks.{Pass}
use Rattle.dossier_check.proofs.SplitTests.{lawful_by_test, one_by_count, count_by_one}
use Rattle.dossier_check.proofs.PlaceLaws.{some_there, item_at, child_parity, child_ticket, part_for-left, part_for-right, box_of-child, holders, box_at, IsHeld, held_is, parent_of, has_box, held_after}
use Rattle.dossier_check.proofs.PassLaws.{pass_for, LeafPasses, InnerPasses, NodePasses, Passes}

-- a box of a node: it is there, it is what the nodes before it give, and it is a box
pub record IsPlaced (root : List Slot) (tree : List Node) (id : ℕ) (box : List Slot) : Type 0 where
  pub there : id < length tree
  pub has : box_at root tree id ≡ Some box
  pub is_box : IsBox box

-- each node that has a box in the tree is placed with it
abbrev pub ArePlaced : List Slot → List Node → Type 0
ArePlaced root tree = (id : ℕ) (box : List Slot) → HasBox root (slice_get tree) id box → IsPlaced root tree id box

-- ---- from the nodes that pass

module _ (setting : Setting) (t first : ℕ) (tree : List Node) (parts : PartsAreBoxes) (root_is : IsBox (case_box setting.case))
    (count : length tree ≡ 2 * t + 1)
    (all : (id : ℕ) (node : Node) → slice_get tree id ≡ Some node → Passes (pass_for setting t first) tree id node) where
  abbrev root : List Slot
  root = case_box setting.case

  abbrev pass : Pass
  pass = pass_for setting t first

  inner_passes : (id ticket : ℕ) (split : Split) (is : IsInner tree id ticket split) →
      InnerPasses t (holders root tree id) (all id (Inner ticket split) is).box ticket split
  inner_passes id ticket split is = (all id (Inner ticket split) is).over

  -- no later node holds the ticket of an earlier one
  not_later : (id other ticket : ℕ) (split another : Split) → id < other → IsInner tree id ticket split → IsInner tree other ticket another → ⊥
  not_later id other ticket split another less is also =
      let first = all id (Inner ticket split) is in
      both_ways (is_held ticket (holders root tree other)) (inner_passes other ticket another also).free
      (held_after root tree other id ticket split first.box less is first.has)

  once : (id other ticket : ℕ) (split another : Split) → IsInner tree id ticket split → IsInner tree other ticket another → id ≡ other
  once id other ticket split another is also = elim (cases_order id other) [
    | inl same ↦ same
    | inr (inl less) ↦ absurd (not_later id other ticket split another less is also)
    | inr (inr more) ↦ absurd (not_later other id ticket another split more also is)
  ]

  pub tickets : AreTickets t tree
  tickets = record { below = λ id ticket split is. (inner_passes id ticket split is).below; once = once }

  pub parents : HaveParents tree
  parents id past inside =
      let item = item_at tree id inside in
      let passes = all id item.0 item.1 in
      let parent = parent_of root tree id passes.box past passes.has in (
        parent.held.at,
        record {
          ticket =
              (id - 1) / 2;
          split = parent.holder.split;
          before = parent.held.before;
          holds = parent.held.node;
          child = child_parity id past;
        },
      )

  -- a child that is there has its part of its parent's box
  child_box : (at ticket child : ℕ) (split : Split) (whole part : List Slot) → IsInner tree at ticket split → box_at root tree at ≡ Some whole →
      child < length tree → 0 < child → (child - 1) / 2 ≡ ticket →
      ((holder : Holder) → holder.ticket ≡ ticket → part_for child holder ≡ part_for child
      (record { ticket = ticket; box = holder.box; split = holder.split })) →
      part_for child (record { ticket = ticket; box = whole; split = split }) ≡ part → box_at root tree child ≡ Some part
  child_box at ticket child split whole part is has inside past number named given =
      let item = item_at tree child inside in
      let passes = all child item.0 item.1 in
      let parent = parent_of root tree child passes.box past passes.has in
      let held : IsHeld root tree child ticket parent.holder = subst (λ k. IsHeld root tree child k parent.holder) number parent.held in
      let same : held.at ≡ at = once held.at at ticket parent.holder.split split held.node is in
      let node : slice_get tree at ≡ Some (Inner ticket parent.holder.split) =
      subst (λ k. slice_get tree k ≡ Some (Inner ticket parent.holder.split)) same held.node in
      let box : box_at root tree at ≡ Some parent.holder.box = subst (λ k. box_at root tree k ≡ Some parent.holder.box) same held.box in
      let split_same : parent.holder.split ≡ split = cc in
      let box_same : parent.holder.box ≡ whole = cc in
      passes.has
      ∙ ap (λ p. Some p)
      (sym parent.part
      ∙ named parent.holder held.named
      ∙ ap (λ b. part_for child (record { ticket = ticket; box = b; split = parent.holder.split })) box_same
      ∙ ap (λ s. part_for child (record { ticket = ticket; box = whole; split = s })) split_same
      ∙ given)

  renamed : (child ticket : ℕ) (holder : Holder) → holder.ticket ≡ ticket →
      part_for child holder ≡ part_for child (record { ticket = ticket; box = holder.box; split = holder.split })
  renamed child ticket holder named = ap (λ k. part_for child (record { ticket = k; box = holder.box; split = holder.split })) named

  split_is : (at ticket : ℕ) (split : Split) (whole : List Slot) → IsInner tree at ticket split → IsPlaced root tree at whole → IsLawfulSplit whole split
  split_is at ticket split whole is placed =
      let passes = all at (Inner ticket split) is in
      let same : passes.box ≡ whole = let first = passes.has in let second = placed.has in cc in
      lawful_by_test whole split placed.is_box (subst (λ b. is_lawful b split ≡ true) same (inner_passes at ticket split is).lawful)

  pub placed : ArePlaced root tree
  placed id box root_box = record { there = omega arith; has = refl; is_box = root_is }
  placed id box (left_part {id = at} {ticket} {split} {box = whole} has node) =
      let before = placed at whole has in
      let below = (inner_passes at ticket split node).below in
      let inside : 2 * ticket + 1 < length tree = omega arith in
      record {
        there = inside;
        has = child_box at ticket (2 * ticket + 1) split whole (left_of whole split) node before.has inside (omega arith)
            (child_ticket (2 * ticket + 1) ticket (inl refl)) (renamed (2 * ticket + 1) ticket)
            (part_for-left (2 * ticket + 1) (record { ticket = ticket; box = whole; split = split }) refl);
        is_box = (parts whole split before.is_box (split_is at ticket split whole node before)).0;
      }
  placed id box (right_part {id = at} {ticket} {split} {box = whole} has node) =
      let before = placed at whole has in
      let below = (inner_passes at ticket split node).below in
      let inside : 2 * ticket + 2 < length tree = omega arith in
      record {
        there = inside;
        has = child_box at ticket (2 * ticket + 2) split whole (right_of whole split) node before.has inside (omega arith)
            (child_ticket (2 * ticket + 2) ticket (inr refl)) (renamed (2 * ticket + 2) ticket)
            (part_for-right (2 * ticket + 2) (record { ticket = ticket; box = whole; split = split }) refl);
        is_box = (parts whole split before.is_box (split_is at ticket split whole node before)).1;
      }

  leaf_is : (box : List Slot) (leaf : LeafKind) → IsBox box → LeafPasses setting box leaf → IsLawfulLeaf setting box leaf
  leaf_is box (Dead at) is passes = (blocked_is_tested setting.case box at).0 passes
  leaf_is box (Void terms) is passes = passes
  leaf_is box (Dual q terms) is passes = passes
  leaf_is box (Undone q terms) is passes = passes
  leaf_is box Point is passes = one_by_count box is passes

  node_is : (earlier : List Holder) (box : List Slot) (node : Node) → IsBox box → NodePasses pass earlier box node → IsLawfulNode setting box (Some node)
  node_is earlier box (Inner ticket split) is passes = lawful_by_test box split is passes.lawful
  node_is earlier box (Leaf leaf) is passes = leaf_is box leaf is passes

  pub lawful : AreLawful setting tree
  lawful id box has =
      let at = placed id box has in
      let item = item_at tree id at.there in
      let passes = all id item.0 item.1 in
      let same : passes.box ≡ box = let first = passes.has in let second = at.has in cc in
      subst (IsLawfulNode setting box) (sym item.1)
      (node_is (holders root tree id) box item.0 at.is_box (subst (λ b. NodePasses pass (holders root tree id) b item.0) same passes.over))

-- ---- and the other way round

module _ (setting : Setting) (t first : ℕ) (tree : List Node) (within : NodeBoxesStayWithin) (root_is : IsBox (case_box setting.case))
    (held : AreTickets t tree)
    (born : HaveParents tree) (are : AreLawful setting tree) where
  abbrev base : List Slot
  base = case_box setting.case

  abbrev whole_pass : Pass
  whole_pass = pass_for setting t first

  boxed : (fuel id : ℕ) → id < fuel → id < length tree → (box : List Slot) × (box_at base tree id ≡ Some box)
  boxed zero id less inside = absurd (omega arith)
  boxed (suc fuel) zero less inside = (base, refl)
  boxed (suc fuel) (suc n) less inside =
      let past : 0 < suc n = omega arith in
      let parent = born (suc n) past inside in
      let is : IsParentOf tree (suc n) parent.0 = parent.1 in
      let before = is.before in
      let whole = boxed fuel parent.0 (omega arith) (slice_get_within tree parent.0 _ is.holds) in
      let there = some_there (holder_of is.ticket (holders base tree (suc n)))
      (held_after base tree (suc n) parent.0 is.ticket is.split whole.0 before is.holds whole.1) in (
        part_for (suc n) there.0,
        box_of-child base (holders base tree (suc n)) (suc n) past
            ∙ ap (λ k. option_map (part_for (suc n)) (holder_of k (holders base tree (suc n)))) (child_ticket (suc n) is.ticket is.child)
            ∙ ap (option_map (part_for (suc n))) there.1,
      )

  free_at : (id ticket : ℕ) (split : Split) → IsInner tree id ticket split → is_held ticket (holders base tree id) ≡ false
  free_at id ticket split is = false_from_ne_true (is_held ticket (holders base tree id))
      (λ taken.
      let there = some_there (holder_of ticket (holders base tree id)) taken in
      let who : IsHeld base tree id ticket there.0 = held_is base tree id ticket there.0 there.1 in
      let same : who.at ≡ id = held.once who.at id ticket there.0.split split who.node is in
      let before = who.before in
      omega arith)

  leaf_passes : (box : List Slot) (leaf : LeafKind) → IsBox box → IsLawfulLeaf setting box leaf → LeafPasses setting box leaf
  leaf_passes box (Dead at) is lawful = (blocked_is_tested setting.case box at).1 lawful
  leaf_passes box (Void terms) is lawful = lawful
  leaf_passes box (Dual q terms) is lawful = lawful
  leaf_passes box (Undone q terms) is lawful = lawful
  leaf_passes box Point is lawful = count_by_one box is lawful

  over_box : (id : ℕ) (box : List Slot) (node : Node) → slice_get tree id ≡ Some node → IsBox box → IsLawfulNode setting box (Some node) →
      NodePasses whole_pass (holders base tree id) box node
  over_box id box (Inner ticket split) is box_is lawful =
      record { below = held.below id ticket split is; free = free_at id ticket split is; lawful = test_from_IsLawfulSplit box split lawful }
  over_box id box (Leaf leaf) is box_is lawful = leaf_passes box leaf box_is lawful

  pub each_passes : (id : ℕ) (node : Node) → slice_get tree id ≡ Some node → Passes whole_pass tree id node
  each_passes id node is =
      let box = boxed (suc id) id (omega arith) (slice_get_within tree id node is) in
      let has = has_box base tree id box.0 box.1 in
      let box_is = (within base (slice_get tree) root_is (IsSearchTree-lawful setting tree are) id box.0 has).is in
      record { box = box.0; has = box.1; over = over_box id box.0 node is box_is (subst (IsLawfulNode setting box.0) is (are id box.0 has)) }
