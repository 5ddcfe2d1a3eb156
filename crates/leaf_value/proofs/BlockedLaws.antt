-- The test of blocked prefixes decides them, and no form that is sought lies behind a blocked one.
use Rattle.std.proofs.Common.{◌≡◌, ℕ, zero, suc, ◌+◌, ◌-◌, ◌<◌, ◌≤◌, ◌↔◌, ◌⊎◌, inl, inr, Bool, true, false, not, eqb, List, [], ◌∷◌, ◌++◌, take, drop, get_or, length, Option, Some, None, IsNone, IfSome, ap, ap₂, sym, subst, ◌∙◌, refl, arith}
use Rattle.std.specs.Prelude.{nat_lt, nat_le, IsTrue, All}
use Rattle.std.specs.Int.{bit_at}
use Rattle.std.specs.List.{list_all}
use Rattle.std.specs.Option.{option_eq}
use Rattle.std.proofs.lemmas.Bool.{and_parts, and_from, lt-ltb, le-leb, ltb-true, leb-true, eq-eqb, eqb-true, not_from_false, cases_order}
use Rattle.std.proofs.lemmas.Bool.Decides.{nat_tests}
use Rattle.std.proofs.lemmas.List.{append-nil, append_assoc, length-drop, length-take-le, take-append-drop, take_all, take-take, take_more, get_or-take, drop-take, drop-map}
use Rattle.std.proofs.lemmas.List.FromFn.{length-map-range_with_len}
use Rattle.std.proofs.lemmas.List.Elements.{All-head, All-tail, All-nil, All-cons}
use Rattle.plant_model.specs.declared.parts.Parts.{Parts}
use Rattle.plant_model.specs.Parts.{op_count_of}
use Rattle.normal_order.specs.NormalWords.{ops_of}
use Rattle.number_laws.proofs.BitLaws.{in_or_out, out_from_digit}
use Rattle.overlap_graph.specs.Independence.{independent_mask_of, independence_of}
use Rattle.replay_core.specs.declared.timed.Timed.{Timed}
use Rattle.slot_automaton.specs.Blocked.{next_blocked, blocked_after}
use Rattle.slot_automaton.specs.Normal.{IsNormal, IsFirstRefused}
use Rattle.slot_automaton.proofs.WordLemmas.{empty_is_normal, parts_are_normal, normal_grows, blocked_grow, prefix_is_normal}
use Rattle.slot_box.specs.declared.slot.Slot.{Slot}
use Rattle.slot_box.specs.Boxes.{IsBox, IsPoint, fixed_prefix, no_slot, slot_at}
use Rattle.slot_box.specs.Entries.{Entry, idle, runs, bit_of, LiesIn}
use Rattle.slot_box.specs.Slots.{IsSlot, fixed_of}
use Rattle.slot_box.proofs.LiveLaws.{IsFixedTo-from_fixed_of}
use Rattle.slot_box.proofs.OnlyLaws.{bit_of-fixed}
use Rattle.slot_forms.specs.Cases.{Case, begun_count, plain}
use Rattle.slot_forms.specs.Forms.{word_of, IsSought}
use Rattle.leaf_value.specs.Blocked.{fixed_behind, AreFixed, IsBlocked, reads, is_blocked, BlockedIsTested}

-- ---- parts of normal words

-- the end of a normal word is normal
pub end_is_normal : (masks word : List ℕ) (k : ℕ) → IsNormal masks word → IsNormal masks (drop k word)
end_is_normal masks word k normal =
    let whole : take k word ++ drop k word ++ [] ≡ word = append-nil (take k word ++ drop k word) ∙ take-append-drop k word in
    parts_are_normal masks (take k word) (drop k word) [] (subst (IsNormal masks) (sym whole) normal)

-- ---- the automaton reads the normal words

-- the word is read to its end behind a normal one exactly where both together are normal
reads_behind : (masks before word : List ℕ) → IsNormal masks before →
    (reads masks (blocked_after masks before) word ≡ true) ↔ IsNormal masks (before ++ word)
reads_behind masks before [] normal = (λ _. subst (IsNormal masks) (sym (append-nil before)) normal, λ _. refl)
reads_behind masks before (op ∷ word) normal =
    let longer = before ++ op ∷ [] in
    let same : longer ++ word ≡ before ++ op ∷ word = append_assoc before (op ∷ []) word in
    elim (in_or_out (blocked_after masks before) op) [
      | inl set ↦ (
        (λ read. absurd (out_from_digit _ op (digit read) set)),
        (λ whole.
            let grown = (normal_grows masks before op).0 (parts_are_normal masks [] longer word (subst (IsNormal masks) (sym same) whole)) in
            absurd (grown.1 set)),
      )
      | inr out ↦
          let rest = reads_behind masks longer word ((normal_grows masks before op).1 (normal, out_from_digit _ op out)) in
          let test = eq-eqb (bit_at (blocked_after masks before) op) 0 out in (
            (λ read. subst (IsNormal masks) same (rest.0 (subst (λ (set : ℕ). reads masks set word ≡ true) (sym (blocked_grow masks before op)) (and_parts _ _ read).1))),
            (λ whole. and_from _ _ test
                (subst (λ (set : ℕ). reads masks set word ≡ true) (blocked_grow masks before op) (rest.1 (subst (IsNormal masks) (sym same) whole)))),
          )
    ]
  where
    digit : reads masks (blocked_after masks before) (op ∷ word) ≡ true → bit_at (blocked_after masks before) op ≡ 0
    digit read = (let here = (and_parts _ (reads masks (next_blocked masks (blocked_after masks before) op) word) read).0 in grind (arith, nat_tests))

reads_normal : (masks word : List ℕ) → (reads masks 0 word ≡ true) ↔ IsNormal masks word
reads_normal masks word = reads_behind masks [] word (empty_is_normal masks)

-- ---- the test

all_known : (count : ℕ) (ops : List ℕ) → list_all (λ op. nat_lt op count) ops ≡ true → All (λ op. op < count) ops
all_known count [] is = All-nil (λ op. op < count)
all_known count (op ∷ ops) is =
    let both = and_parts (nat_lt op count) (list_all (λ o. nat_lt o count) ops) is in
    All-cons (λ o. o < count) op ops (ltb-true op count both.0) (all_known count ops both.1)

known_all : (count : ℕ) (ops : List ℕ) → All (λ op. op < count) ops → list_all (λ op. nat_lt op count) ops ≡ true
known_all count [] each = refl
known_all count (op ∷ ops) each =
    and_from (nat_lt op count) (list_all (λ o. nat_lt o count) ops) (lt-ltb op count (All-head (λ o. o < count) op ops each))
    (known_all count ops (All-tail (λ o. o < count) op ops each))

module _ (case : Case) (box : List Slot) (at : ℕ) where
  abbrev masks : List ℕ
  masks = independence_of case.parts

  abbrev held : ℕ
  held = begun_count case.begun

  abbrev fixed : List ℕ
  fixed = fixed_prefix box

  -- the first j of the fixed operations behind those that have begun, of whatever prefix
  front_of : (j last : ℕ) → held + j ≤ last → take j (fixed_behind case box last) ≡ drop held (take (held + j) fixed)
  front_of j last within =
      sym (drop-take held j (take last fixed)) ∙ ap (λ (front : List ℕ). drop held front) (take-take (held + j) last fixed within)

  fixed_count : at ≤ length fixed → length (fixed_behind case box at) ≡ at - held
  fixed_count within = (let first = length-take-le at fixed within in let rest = length-drop held (take at fixed) in omega arith)

  abbrev known_test : List ℕ → Bool
  known_test ops = list_all (λ op. nat_lt op (op_count_of case.parts)) ops

  blocked_from_test : is_blocked case box at ≡ true → IsBlocked case box at
  blocked_from_test is =
      let all = and_parts _ (not (reads masks 0 (fixed_behind case box at))) is in
      let two = and_parts _ (reads masks 0 (fixed_behind case box (at - 1))) all.0 in
      let known = and_parts _ (known_test (take at fixed)) two.0 in
      let both = and_parts (nat_lt held at) (nat_le at (length fixed)) known.0 in
      let more : held < at = ltb-true held at both.0 in
      let within : at ≤ length fixed = leb-true at (length fixed) both.1 in
      let count = fixed_count within in
      let shorter = (reads_normal masks (fixed_behind case box (at - 1))).0 two.1 in
      record {
        fixed = record { fixed = within; known = all_known (op_count_of case.parts) (take at fixed) known.1 };
        first = record {
          some = omega arith;
          within = omega arith;
          refused = λ normal.
              let whole = subst (IsNormal masks) (take_all (at - held) (fixed_behind case box at) (omega arith)) normal in
              let read = (reads_normal masks (fixed_behind case box at)).1 whole in
              let unread = all.1 in
              absurd (contrary (reads masks 0 (fixed_behind case box at)) read unread);
          shorter = λ j less.
              let same = front_of j at (omega arith) ∙ sym (front_of j (at - 1) (omega arith)) in
              subst (IsNormal masks) (sym same) (prefix_is_normal masks (fixed_behind case box (at - 1)) j shorter);
        };
      }
    where
      contrary : (read : Bool) → read ≡ true → not read ≡ true → ⊥
      contrary true is unread = cc
      contrary false is unread = cc

  test_from_blocked : IsBlocked case box at → is_blocked case box at ≡ true
  test_from_blocked is =
      let some = is.first.some in
      let within = is.fixed.fixed in
      let count = fixed_count within in
      let last = at - 1 in
      let front : take (at - held - 1) (fixed_behind case box at) ≡ fixed_behind case box last =
      front_of (at - held - 1) at (omega arith) ∙ ap (λ (k : ℕ). drop held (take k fixed)) (omega arith) in
      let read = (reads_normal masks (fixed_behind case box last)).1
      (subst (IsNormal masks) front (is.first.shorter (at - held - 1) (omega arith))) in
      let unread : reads masks 0 (fixed_behind case box at) ≡ false = unread_of (reads masks 0 (fixed_behind case box at)) refl in
      let first = and_from _ _ (lt-ltb held at (omega arith)) (le-leb at (length fixed) within) in
      let known = known_all (op_count_of case.parts) (take at fixed) is.fixed.known in
      and_from _ _ (and_from _ _ (and_from _ _ first known) read) (not_from_false _ unread)
    where
      unread_of : (read : Bool) → reads masks 0 (fixed_behind case box at) ≡ read → read ≡ false
      unread_of false same = refl
      unread_of true same =
          let normal = (reads_normal masks (fixed_behind case box at)).0 same in
          absurd (is.first.refused (prefix_is_normal masks (fixed_behind case box at) (at - held) normal))

pub blocked_is_tested : (case : Case) → BlockedIsTested case
blocked_is_tested case box at = (blocked_from_test case box at, test_from_blocked case box at)

-- ---- forms in a blocked box

-- an entry that runs an operation, before a point whose entries run the fixed ones
runs_first : (box : List Slot) (e : Entry) (point : List Entry) (op k : ℕ) → bit_of e ≡ op → op < 63 → k ≤ length (fixed_prefix box) + 1 →
    ((j : ℕ) → j ≤ length (fixed_prefix box) → take j (ops_of (word_of point)) ≡ take j (fixed_prefix box)) →
    take k (ops_of (word_of (e ∷ point))) ≡ take k (op ∷ fixed_prefix box)
runs_first box idle point op k runs_op less within rest = absurd (omega arith)
runs_first box (runs v start end volume) point op zero runs_op less within rest = refl
runs_first box (runs v start end volume) point op (suc k) runs_op less within rest =
    ap₂ (λ (first : ℕ) (later : List ℕ). first ∷ later) runs_op (rest k (omega arith))

fixed_first : (s : Slot) (box : List Slot) (e : Entry) (point : List Entry) (k : ℕ) (found : Option ℕ) → fixed_of s ≡ found → IsSlot s → LiesIn s e →
    k ≤ length (fixed_prefix (s ∷ box)) →
    ((j : ℕ) → j ≤ length (fixed_prefix box) → take j (ops_of (word_of point)) ≡ take j (fixed_prefix box)) →
    take k (ops_of (word_of (e ∷ point))) ≡ take k (fixed_prefix (s ∷ box))
fixed_first s box e point k None same slot lies within rest =
    let none : fixed_prefix (s ∷ box) ≡ [] = rw same refl in
    let count = ap length none in
    let no : k ≡ 0 = omega arith in
    rw no refl
fixed_first s box e point k (Some op) same slot lies within rest =
    let fixed : fixed_prefix (s ∷ box) ≡ op ∷ fixed_prefix box = rw same refl in
    let count = ap length fixed in
    let is_op = IsFixedTo-from_fixed_of s op slot same in
    runs_first box e point op k (bit_of-fixed s op e is_op lies) is_op.operation (omega arith) rest ∙ ap (λ (w : List ℕ). take k w) (sym fixed)

-- the entries of fixed slots run the operations to which these are fixed
fixed_runs : (box : List Slot) (point : List Entry) → All IsSlot box → IsPoint box point → (k : ℕ) → k ≤ length (fixed_prefix box) →
    take k (ops_of (word_of point)) ≡ take k (fixed_prefix box)
fixed_runs [] [] each is k within = refl
fixed_runs [] (e ∷ point) each is k within = absurd is
fixed_runs (s ∷ box) [] each is k within = absurd is
fixed_runs (s ∷ box) (e ∷ point) each is k within =
    fixed_first s box e point k (fixed_of s) refl (All-head IsSlot s box each) is.0 within
    (λ j inside. fixed_runs box point (All-tail IsSlot s box each) is.1 j inside)

pub blocked_has_no_form : (case : Case) (box : List Slot) (at : ℕ) (point : List Entry) → IsBox box → IsPoint box point →
    IsBlocked case box at → IsSought case point → ⊥
blocked_has_no_form case box at point is there blocked sought =
    let masks = independence_of case.parts in
    let held = begun_count case.begun in
    let ops = ops_of (word_of point) in
    let count = at - held in
    let some = blocked.first.some in
    let behind : IsNormal masks (drop held ops) = subst (IsNormal masks) (sym (drop-map (λ (t : Timed). t.op) held (word_of point))) sought in
    let same : take count (fixed_behind case box at) ≡ take count (drop held ops) =
    ap (λ (front : List ℕ). take count (drop held front)) (sym (fixed_runs box point is.each there at blocked.fixed.fixed))
    ∙ ap (λ (k : ℕ). take count (drop held (take k ops))) (omega arith)
    ∙ ap (λ (front : List ℕ). take count front) (drop-take held count ops)
    ∙ take-take count count (drop held ops) (omega arith) in
    blocked.first.refused (subst (IsNormal masks) (sym same) (prefix_is_normal masks (drop held ops) count behind))

-- ---- the prefix, slot by slot

pub prefix-short : (box : List Slot) → length (fixed_prefix box) ≤ length box
prefix-short [] = omega arith
prefix-short (s ∷ box) = by (fixed_of s) refl (prefix-short box)
  where
    by : (found : Option ℕ) → fixed_of s ≡ found → length (fixed_prefix box) ≤ length box → length (fixed_prefix (s ∷ box)) ≤ length (s ∷ box)
    by None same rest = (let none : fixed_prefix (s ∷ box) ≡ [] = rw same refl in let count = ap length none in omega arith)
    by (Some op) same rest = (let fixed : fixed_prefix (s ∷ box) ≡ op ∷ fixed_prefix box = rw same refl in let count = ap length fixed in omega arith)

-- what is known of slot i where all before it are fixed
abbrev NextIs : List Slot → ℕ → Option ℕ → Type 0
NextIs box i None = length (fixed_prefix box) ≡ i
NextIs box i (Some op) = (i < length (fixed_prefix box)) × (get_or (fixed_prefix box) i 0 ≡ op)

next-later : (s : Slot) (box : List Slot) (i v : ℕ) (found : Option ℕ) → fixed_of s ≡ Some v → NextIs box i found → NextIs (s ∷ box) (suc i) found
next-later s box i v None same rest =
    let fixed : fixed_prefix (s ∷ box) ≡ v ∷ fixed_prefix box = rw same refl in let count = ap length fixed in omega arith
next-later s box i v (Some op) same rest =
    let fixed : fixed_prefix (s ∷ box) ≡ v ∷ fixed_prefix box = rw same refl in
    let count = ap length fixed in
    (omega (arith, rest.0), ap (λ (w : List ℕ). get_or w (suc i) 0) fixed ∙ rest.1)

pub next-is : (box : List Slot) (i : ℕ) (found : Option ℕ) → i < length box → i ≤ length (fixed_prefix box) → fixed_of (get_or box i no_slot) ≡ found →
    NextIs box i found
next-is [] i found inside within same = absurd (omega arith)
next-is (s ∷ box) zero None inside within same =
    let none : fixed_prefix (s ∷ box) ≡ [] = rw same refl in ap length none
next-is (s ∷ box) zero (Some op) inside within same =
    let fixed : fixed_prefix (s ∷ box) ≡ op ∷ fixed_prefix box = rw same refl in
    let count = ap length fixed in
    (omega arith, ap (λ (w : List ℕ). get_or w 0 0) fixed)
next-is (s ∷ box) (suc i) found inside within same =
    by (fixed_of s) refl (λ less. next-is box i found (omega arith) less same)
  where
    by : (first : Option ℕ) → fixed_of s ≡ first → (i ≤ length (fixed_prefix box) → NextIs box i found) → NextIs (s ∷ box) (suc i) found
    by None is rest = (let none : fixed_prefix (s ∷ box) ≡ [] = rw is refl in let count = ap length none in absurd (omega arith))
    by (Some v) is rest =
        let fixed : fixed_prefix (s ∷ box) ≡ v ∷ fixed_prefix box = rw is refl in
        let count = ap length fixed in
        next-later s box i v found is (rest (omega arith))

-- ---- the first refused place

once : (masks word : List ℕ) (p q : ℕ) → IsFirstRefused masks word p → IsFirstRefused masks word q → p ≡ q
once _ word p q first second =
    elim (cases_order p q) [
      | inl same ↦ same
      | inr (inl less) ↦ absurd (first.refused (second.shorter p less))
      | inr (inr more) ↦ absurd (second.refused (first.shorter q more))
    ]

-- what the automaton answers tells the first refused place
pub told_by_first : (masks word : List ℕ) (at : ℕ) (found : Option ℕ) → (IsNone found ↔ IsNormal masks word) → IfSome found (IsFirstRefused masks word) →
    (found ≡ Some at) ↔ IsFirstRefused masks word at
told_by_first masks word at None none first = (λ same. cc, λ is. absurd (is.refused (prefix_is_normal masks word at (none.0 refl))))
told_by_first masks word at (Some place) none first = (
  (λ same. let here : place ≡ at = cc in subst (IsFirstRefused masks word) here first),
  (λ is. ap (λ (k : ℕ). Some k) (once masks word place at first is)),
)

-- the comparison of what was found with a place
pub found_by_test : (found : Option ℕ) (at : ℕ) (b : Bool) → b ≡ option_eq eqb found (Some at) → IsTrue b ↔ (found ≡ Some at)
found_by_test None at b same = (λ is. (let no : b ≡ false = same in cc), λ other. cc)
found_by_test (Some place) at b same = (
  (λ is. ap (λ (k : ℕ). Some k) (eqb-true place at (sym same ∙ is))),
  (λ found. let here : place ≡ at = cc in same ∙ eq-eqb place at here),
)

-- a test that tells the same as that of blocked slots is its answer
same_test : (case : Case) (box : List Slot) (at : ℕ) (b : Bool) → (IsTrue b ↔ IsBlocked case box at) → b ≡ is_blocked case box at
same_test case box at b tells = by b (is_blocked case box at) refl refl
  where
    by : (own test : Bool) → b ≡ own → is_blocked case box at ≡ test → b ≡ is_blocked case box at
    by true true own test = own ∙ sym test
    by false false own test = own ∙ sym test
    by true false own test = (let is = test_from_blocked case box at (tells.0 own) in cc)
    by false true own test = (let is = tells.1 (blocked_from_test case box at test) in cc)

-- no slots are not blocked, nor are more than there are
pub none_blocked : (parts : Parts) (n : ℕ) (box : List Slot) (at : ℕ) → (at ≡ 0) ⊎ (length box < at) → false ≡ is_blocked (plain parts n) box at
none_blocked parts n box at few =
    same_test (plain parts n) box at false
    (λ no. cc, λ (is : IsBlocked (plain parts n) box at). absurd (outside few is.first.some is.fixed.fixed))
  where
    outside : (at ≡ 0) ⊎ (length box < at) → 1 ≤ at - 0 → at ≤ length (fixed_prefix box) → ⊥
    outside (inl none) some all = absurd (omega arith)
    outside (inr past) some all = (let short = prefix-short box in absurd (omega arith))

-- nor are slots of which some are not fixed to an operation of the plant
pub free_not_blocked : (parts : Parts) (n : ℕ) (box : List Slot) (at : ℕ) → (AreFixed parts box at → ⊥) → false ≡ is_blocked (plain parts n) box at
free_not_blocked parts n box at free =
    same_test (plain parts n) box at false (λ no. cc, λ (is : IsBlocked (plain parts n) box at). absurd (free is.fixed))

-- fixed slots are blocked exactly where the automaton's first refused place of their operations is the last
pub blocked_by_first : (parts : Parts) (n : ℕ) (box : List Slot) (at : ℕ) (b : Bool) (word : List ℕ) → AreFixed parts box at → word ≡ take at (fixed_prefix box) →
    (IsTrue b ↔ IsFirstRefused (independence_of parts) word at) → b ≡ is_blocked (plain parts n) box at
blocked_by_first parts n box at b word fixed same tells =
    let all : at - 0 ≡ at = omega arith in
    same_test (plain parts n) box at b (
      (λ is. record {
        fixed = fixed;
        first = subst (IsFirstRefused (independence_of parts) (take at (fixed_prefix box))) (sym all)
            (subst (λ (w : List ℕ). IsFirstRefused (independence_of parts) w at) same (tells.0 is));
      }),
      (λ (is : IsBlocked (plain parts n) box at).
          tells.1 (subst (λ (w : List ℕ). IsFirstRefused (independence_of parts) w at) (sym same)
          (subst (IsFirstRefused (independence_of parts) (take at (fixed_prefix box))) all is.first))),
    )

-- the automaton knows the operations of the plant
pub known_letters : (parts : Parts) (masks word : List ℕ) → masks ≡ independence_of parts → All (λ op. op < op_count_of parts) word →
    All (λ op. op < length masks) word
unfolding independence_of
known_letters parts masks word same known = λ k d inside.
    let count = ap length same ∙ length-map-range_with_len (independent_mask_of parts) 0 (op_count_of parts) in
    let its = known k d inside in
    omega arith

-- ---- what a walk over the slots finds

-- slot i + 1 has this for the operation to which it is fixed
at-slot : (box : List Slot) (i : ℕ) (found : Option ℕ) → fixed_of (slot_at box (i + 1)) ≡ found → fixed_of (get_or box i no_slot) ≡ found
at-slot box i found is = (let back : i + 1 - 1 ≡ i = omega arith in subst (λ (k : ℕ). fixed_of (get_or box k no_slot) ≡ found) back is)

-- a slot that is not fixed
pub stops_free : (parts : Parts) (box : List Slot) (at i : ℕ) → i < at → at ≤ length box → i ≤ length (fixed_prefix box) →
    fixed_of (slot_at box (i + 1)) ≡ None → AreFixed parts box at → ⊥
stops_free parts box at i less inside within is fixed =
    let stop : length (fixed_prefix box) ≡ i = next-is box i None (omega arith) within (at-slot box i None is) in
    let all = fixed.fixed in
    absurd (omega arith)

-- a slot that is fixed to no operation of the plant
pub stops_unknown : (parts : Parts) (box : List Slot) (at i op : ℕ) → i < at → at ≤ length box → i ≤ length (fixed_prefix box) →
    fixed_of (slot_at box (i + 1)) ≡ Some op → op_count_of parts ≤ op → AreFixed parts box at → ⊥
stops_unknown parts box at i op less inside within is unknown fixed =
    let next : (i < length (fixed_prefix box)) × (get_or (fixed_prefix box) i 0 ≡ op) = next-is box i (Some op) (omega arith) within (at-slot box i (Some op) is) in
    let all = fixed.fixed in
    let count = length-take-le at (fixed_prefix box) all in
    let known : get_or (take at (fixed_prefix box)) i 0 < op_count_of parts = fixed.known i 0 (omega arith) in
    let same = get_or-take at (fixed_prefix box) i 0 less in
    let its = next.1 in
    absurd (omega arith)

-- one more slot that is fixed
pub one_more : (box : List Slot) (at i op : ℕ) (ops : List ℕ) → i < at → at ≤ length box → i ≤ length (fixed_prefix box) →
    fixed_of (slot_at box (i + 1)) ≡ Some op → ops ≡ take i (fixed_prefix box) →
    (ops ++ op ∷ [] ≡ take (i + 1) (fixed_prefix box)) × (i + 1 ≤ length (fixed_prefix box))
one_more box at i op ops less inside within is so_far =
    let next : (i < length (fixed_prefix box)) × (get_or (fixed_prefix box) i 0 ≡ op) = next-is box i (Some op) (omega arith) within (at-slot box i (Some op) is) in
    let there = next.0 in (
      ap₂ (λ (front : List ℕ) (last : ℕ). front ++ last ∷ []) so_far (sym next.1) ∙ sym (take_more (fixed_prefix box) i 0 next.0),
      omega arith,
    )
