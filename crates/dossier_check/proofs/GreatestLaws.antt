-- The greatest value of the nodes is the greatest leaf value of the tree.
use Rattle.std.proofs.Common.{◌≡◌, ℕ, suc, inl, inr, ◌+◌, ◌<◌, ℤ, ◌≤ℤ◌, true, Option, Some, None, List, [], ◌∷◌, length, drop, refl, sym, ap, ◌∙◌, subst, arith}
use Rattle.std.specs.Prelude.{◌⊎◌, slice_get, int_lt}
use Rattle.std.proofs.lemmas.Bool.{cases_Bool, cases_eq, cond-true, cond-false}
use Rattle.std.proofs.lemmas.Bool.Decides.{Decides-int_eq}
use Rattle.std.proofs.lemmas.Int.{ints}
use Rattle.number_laws.specs.Missing.{greater}
use Rattle.slot_box.specs.declared.node.Node.{Node}
use Rattle.slot_box.specs.declared.node.Node.TheVariants.{Inner, Leaf}
use Rattle.slot_box.specs.declared.slot.Slot.{Slot}
use Rattle.slot_forms.specs.Cases.{root_box}
use Rattle.leaf_value.specs.Settings.{Setting}
use Rattle.leaf_value.specs.TreeValue.{IsLeafValue, IsBoundOf}
use Rattle.dossier_check.specs.Earlier.{with_node}
use Rattle.dossier_check.specs.NodeReasons.{node_value, greatest_value}
use Rattle.dossier_check.specs.Reasons.{is_same}
use Rattle.dossier_check.proofs.PlaceLaws.{rest_at, with_found, holders, box_at, has_box}
use Rattle.dossier_check.proofs.StandLaws.{ArePlaced}

module _ (setting : Setting) (tree : List Node) where
  abbrev root : List Slot
  root = root_box setting.case

  abbrev found_value : Option (List Slot) → Option Node → Option ℤ
  found_value box None = None
  found_value box (Some node) = node_value setting box node

  -- the value of the node of an id
  abbrev value_at : ℕ → Option ℤ
  value_at id = found_value (box_at root tree id) (slice_get tree id)

  -- a node before the id has the value
  record IsSeen (n : ℕ) (value : ℤ) : Type 0 where
    id : ℕ
    before : id < n
    valued : value_at id ≡ Some value

  -- the best of the values of the nodes before the id
  record IsGreatestSeen (n : ℕ) (best : ℤ) : Type 0 where
    seen : IsSeen n best
    greatest : (value : ℤ) → IsSeen n value → value ≤ℤ best

  abbrev IsBest : ℕ → Option ℤ → Type 0
  IsBest n None = (value : ℤ) → IsSeen n value → ⊥
  IsBest n (Some best) = IsGreatestSeen n best

  seen_later : (n : ℕ) (value : ℤ) → IsSeen n value → IsSeen (suc n) value
  seen_later n value seen = let before = seen.before in record { id = seen.id; before = omega arith; valued = seen.valued }

  -- what is seen with the next node is its value, or was seen before
  seen_cases : (n : ℕ) (value : ℤ) → IsSeen (suc n) value → (value_at n ≡ Some value) ⊎ IsSeen n value
  seen_cases n value seen =
      let before = seen.before in
      elim (cases_eq seen.id n) [
        | inl same ↦ inl (subst (λ k. value_at k ≡ Some value) same seen.valued)
        | inr other ↦ inr (record { id = seen.id; before = omega arith; valued = seen.valued })
      ]

  best_step : (n : ℕ) (best new : Option ℤ) → value_at n ≡ new → IsBest n best → IsBest (suc n) (greater best new)
  best_step n None None is none = λ value seen. elim (seen_cases n value seen) [
    | inl here ↦ absurd (let both = sym is ∙ here in cc)
    | inr before ↦ none value before
  ]
  best_step n None (Some new) is none = record {
    seen = record { id = n; before = omega arith; valued = is };
    greatest = λ value seen. elim (seen_cases n value seen) [
      | inl here ↦ let same : new ≡ value = let both = sym is ∙ here in cc in omega (arith, ints)
      | inr before ↦ absurd (none value before)
    ];
  }
  best_step n (Some best) None is was = record {
    seen = seen_later n best was.seen;
    greatest = λ value seen. elim (seen_cases n value seen) [
      | inl here ↦ absurd (let both = sym is ∙ here in cc)
      | inr before ↦ was.greatest value before
    ];
  }
  best_step n (Some best) (Some new) is was =
      elim (cases_Bool (int_lt best new)) [
        | inl less ↦ subst (IsGreatestSeen (suc n)) (sym (cond-true (int_lt best new) new best less))
            (record {
              seen = record { id = n; before = omega arith; valued = is };
              greatest = λ value seen. elim (seen_cases n value seen) [
                | inl here ↦ let same : new ≡ value = let both = sym is ∙ here in cc in omega (arith, ints)
                | inr before ↦ let most : value ≤ℤ best = was.greatest value before in grind (arith, ints)
              ];
            })
        | inr more ↦ subst (IsGreatestSeen (suc n)) (sym (cond-false (int_lt best new) new best more))
            (record {
              seen = seen_later n best was.seen;
              greatest = λ value seen. elim (seen_cases n value seen) [
                | inl here ↦ let same : new ≡ value = let both = sym is ∙ here in cc in grind (arith, ints)
                | inr before ↦ was.greatest value before
              ];
            })
      ]

  best_rest : (rest : List Node) (id : ℕ) (best : Option ℤ) → drop id tree ≡ rest → IsBest id best →
      IsBest (id + length rest) (greatest_value setting root best (holders root tree id) id rest)
  best_rest [] id best is was = let same : id ≡ id + 0 = omega arith in subst (λ n. IsBest n best) same was
  best_rest (node ∷ rest) id best is was =
      let here = rest_at tree id node rest is in
      let value : value_at id ≡ node_value setting (box_at root tree id) node = ap (found_value (box_at root tree id)) here.0 in
      let next = best_rest rest (suc id) (greater best (node_value setting (box_at root tree id) node)) here.1
      (best_step id best (node_value setting (box_at root tree id) node) value was) in
      let more : id + 1 ≡ suc id = omega arith in
      let end : suc id + length rest ≡ id + length (node ∷ rest) = omega arith in
      let earlier : with_node (holders root tree id) (box_at root tree id) node ≡ holders root tree (suc id) =
      sym (ap (with_found (holders root tree id) (box_at root tree id)) here.0) in
      subst (λ n. IsBest n (greatest_value setting root best (holders root tree id) id (node ∷ rest))) end
      (subst (IsBest (suc id + length rest))
      (sym (ap (λ e. greatest_value setting root (greater best (node_value setting (box_at root tree id) node)) e (id + 1) rest) earlier
      ∙ ap (λ n. greatest_value setting root (greater best (node_value setting (box_at root tree id) node)) (holders root tree (suc id)) n rest) more)) next)

  best_of_all : IsBest (length tree) (greatest_value setting root None [] 0 tree)
  best_of_all =
      let all : 0 + length tree ≡ length tree = omega arith in
      subst (λ n. IsBest n (greatest_value setting root None [] 0 tree)) all
      (best_rest tree 0 None refl (λ value seen. let before = seen.before in absurd (omega arith)))

  module _ (placed : ArePlaced root tree) where
    to_seen : (value : ℤ) → IsLeafValue setting tree value → IsSeen (length tree) value
    to_seen value is =
        let over = is.over in
        let at = placed over.id is.box over.has_box in
        record {
          id = over.id;
          before = at.there;
          valued = ap (found_value (box_at root tree over.id)) over.there ∙ ap (λ b. node_value setting b (Leaf is.leaf)) at.has ∙ is.valued;
        }

    leaf_at : (id : ℕ) (value : ℤ) (box : Option (List Slot)) (node : Option Node) → box_at root tree id ≡ box → slice_get tree id ≡ node →
        found_value box node ≡ Some value → IsLeafValue setting tree value
    leaf_at id value box None has is valued = absurd (cc)
    leaf_at id value None (Some node) has is valued = absurd (cc)
    leaf_at id value (Some box) (Some (Inner ticket split)) has is valued = absurd (cc)
    leaf_at id value (Some box) (Some (Leaf leaf)) has is valued =
        record { box = box; leaf = leaf; over = record { id = id; has_box = has_box root tree id box has; there = is }; valued = valued }

    from_seen : (n : ℕ) (value : ℤ) → IsSeen n value → IsLeafValue setting tree value
    from_seen n value seen = leaf_at seen.id value (box_at root tree seen.id) (slice_get tree seen.id) refl refl seen.valued

    bound_of_best : (best : Option ℤ) → IsBest (length tree) best → IsBoundOf setting tree best
    bound_of_best None none = λ value is. none value (to_seen value is)
    bound_of_best (Some best) is = record { there = from_seen (length tree) best is.seen; greatest = λ value other. is.greatest value (to_seen value other) }

    same_of_best : (bound best : Option ℤ) → IsBoundOf setting tree bound → IsBest (length tree) best → is_same bound best ≡ true
    same_of_best None None first second = refl
    same_of_best None (Some best) first second = absurd (first best (from_seen (length tree) best second.seen))
    same_of_best (Some bound) None first second = absurd (second bound (to_seen bound first.there))
    same_of_best (Some bound) (Some best) first second =
        let low : bound ≤ℤ best = second.greatest bound (to_seen bound first.there) in
        let high : best ≤ℤ bound = first.greatest best (from_seen (length tree) best second.seen) in
        (Decides-int_eq bound best).1 (omega (arith, ints))

    same_is : (bound best : Option ℤ) → is_same bound best ≡ true → best ≡ bound
    same_is None None same = refl
    same_is None (Some best) same = cc
    same_is (Some bound) None same = cc
    same_is (Some bound) (Some best) same = let equal : bound ≡ best = (Decides-int_eq bound best).0 same in cc

    -- the bound passes its test exactly where it is the greatest leaf value
    pub bound_by_test : (bound : Option ℤ) → is_same bound (greatest_value setting root None [] 0 tree) ≡ true → IsBoundOf setting tree bound
    bound_by_test bound same = subst (IsBoundOf setting tree) (same_is bound _ same) (bound_of_best _ best_of_all)

    pub test_by_bound : (bound : Option ℤ) → IsBoundOf setting tree bound → is_same bound (greatest_value setting root None [] 0 tree) ≡ true
    test_by_bound bound is = same_of_best bound _ is best_of_all
