-- An operation that takes its seat in a normal word leaves it normal, and gets there by swaps.
use Rattle.std.proofs.Common.{◌≡◌, ◌≢◌, ℕ, suc, ◌+◌, ◌<◌, ◌≤◌, Bool, true, false, ◌&&◌, ltb, eqb, leb, List, [], ◌∷◌, ◌++◌, length, get_or, take, refl, sym, ap, subst, inl, inr, ◌∙◌, append_assoc, arith}
use Rattle.std.specs.Prelude.{◌↔◌, IsBitSet, nat_lt, if◌then◌else◌}
use Rattle.std.specs.List.{list_all, insert}
use Rattle.std.proofs.lemmas.Bool.{cases_Bool, cases_lt, cases_eq, and_parts, ltb-true, lt-ltb, le-ltb, le-leb, eqb-true, eq-eqb, ne_eqb}
use Rattle.std.proofs.lemmas.Bool.Decides.{nat_tests}
use Rattle.std.proofs.lemmas.List.{append-nil, map-append, length-take-le, take_more}
use Rattle.std.proofs.lemmas.List.Folds.{list_all-append}
use Rattle.std.proofs.lemmas.List.Elements.{All-head, All-tail}
use Rattle.plant_model.specs.declared.parts.Parts.{Parts}
use Rattle.plant_model.specs.Parts.{op_count_of}
use Rattle.plant_model.specs.Relations.{independent_of}
use Rattle.plant_model.proofs.RelationLaws.{independent_of-symmetric}
use Rattle.replay_core.specs.declared.timed.Timed.{Timed}
use Rattle.slot_automaton.specs.Independence.{IsIndependent}
use Rattle.slot_automaton.specs.Normal.{IsNormal}
use Rattle.slot_automaton.specs.Blocked.{next_blocked, blocked_after}
use Rattle.slot_automaton.proofs.WordLemmas.{empty_is_normal, parts_are_normal, normal_grows, blocked_grow}
use Rattle.slot_automaton.proofs.MaskLaws.{set_next}
use Rattle.overlap_graph.specs.Independence.{independence_of}
use Rattle.overlap_graph.proofs.SetLaws.{none_in_empty}
use Rattle.overlap_graph.proofs.GraphLaws.{independent_sets}
use Rattle.slot_words.specs.Swaps.{AreEquivalent}
use Rattle.slot_words.specs.Swaps.AreEquivalent.{itself}
use Rattle.slot_words.proofs.ChainLaws.{one_swap, joined, behind}
use Rattle.normal_order.specs.NormalWords.{ops_of, AreKnown, IsNormalWord}
use Rattle.normal_order.specs.inside.Seats.{comes_before, seat_of, seated, stands_behind}

-- ---- by swaps

moved_front : (parts : Parts) (t : Timed) (later : List Timed) → list_all (λ (r : Timed). independent_of parts t.op r.op) later ≡ true →
    AreEquivalent parts (later ++ t ∷ []) (t ∷ later)
moved_front parts t [] free = itself (t ∷ [])
moved_front parts t (s ∷ later) free =
    let both = and_parts (independent_of parts t.op s.op) (list_all (λ (r : Timed). independent_of parts t.op r.op) later) free in
    let apart = sym (independent_of-symmetric parts t.op s.op) ∙ both.0 in
    joined parts (s ∷ (later ++ t ∷ [])) (s ∷ t ∷ later) (t ∷ s ∷ later)
    (behind parts (s ∷ []) (later ++ t ∷ []) (t ∷ later) (moved_front parts t later both.1)) (one_swap parts [] later s t apart)

pub seated_chain : (parts : Parts) (t : Timed) (word : List Timed) → AreEquivalent parts (word ++ t ∷ []) (seated parts t word)
seated_chain parts t [] = itself (t ∷ [])
seated_chain parts t (s ∷ later) =
    elim (cases_Bool (comes_before parts t.op s later)) [
      | inl before ↦
          let free = (and_parts (nat_lt t.op s.op) (list_all (λ (r : Timed). independent_of parts t.op r.op) (s ∷ later)) before).1 in
          rw before (moved_front parts t (s ∷ later) free)
      | inr after ↦ rw after (behind parts (s ∷ []) (later ++ t ∷ []) (seated parts t later) (seated_chain parts t later))
    ]

-- ---- the seat

pub seated_at : (parts : Parts) (t : Timed) (word : List Timed) → seated parts t word ≡ insert word (seat_of parts t.op word) t
seated_at parts t [] = refl
seated_at parts t (s ∷ later) =
    elim (cases_Bool (comes_before parts t.op s later)) [
      | inl before ↦ rw before refl
      | inr after ↦
          let next : 1 + seat_of parts t.op later ≡ suc (seat_of parts t.op later) = omega arith in
          rw (after, next) (ap (λ (rest : List Timed). s ∷ rest) (seated_at parts t later))
    ]

pub seat_within : (parts : Parts) (v : ℕ) (word : List Timed) → seat_of parts v word ≤ length word
seat_within parts v [] = omega arith
seat_within parts v (s ∷ later) =
    elim (cases_Bool (comes_before parts v s later)) [
      | inl before ↦ rw before (omega arith)
      | inr after ↦ (let rest = seat_within parts v later in rw after (omega arith))
    ]

-- ---- letters that are free to come

-- none of the operations is blocked when its turn comes, where these are at first
data AreFree (parts : Parts) : ℕ → List Timed → Type 0 where
  none : (blocked : ℕ) → AreFree parts blocked []
  more : (blocked : ℕ) (t : Timed) (later : List Timed) → (IsBitSet blocked t.op → ⊥) → AreFree parts (next_blocked (independence_of parts) blocked t.op) later
      →
      AreFree parts blocked (t ∷ later)

ops_push : (read : List Timed) (t : Timed) → ops_of (read ++ t ∷ []) ≡ ops_of read ++ t.op ∷ []
ops_push read t = map-append (λ (s : Timed). s.op) read (t ∷ [])

normal_from_free : (parts : Parts) (read later : List Timed) → IsNormalWord parts read →
    AreFree parts (blocked_after (independence_of parts) (ops_of read)) later →
    IsNormalWord parts (read ++ later)
normal_from_free parts read [] normal (none blocked) = subst (IsNormalWord parts) (sym (append-nil read)) normal
normal_from_free parts read (t ∷ later) normal (more blocked s rest free others) =
    let masks = independence_of parts in
    let next : IsNormalWord parts (read ++ t ∷ []) =
    subst (IsNormal masks) (sym (ops_push read t)) ((normal_grows masks (ops_of read) t.op).1 (normal, free)) in
    let set = sym (ap (blocked_after masks) (ops_push read t) ∙ blocked_grow masks (ops_of read) t.op) in
    subst (IsNormalWord parts) (append_assoc read (t ∷ []) later)
    (normal_from_free parts (read ++ t ∷ []) later next (subst (λ (b : ℕ). AreFree parts b later) set others))

free_from_normal : (parts : Parts) (read later : List Timed) → IsNormalWord parts (read ++ later) →
    AreFree parts (blocked_after (independence_of parts) (ops_of read)) later
free_from_normal parts read [] normal = none (blocked_after (independence_of parts) (ops_of read))
free_from_normal parts read (t ∷ later) normal =
    let masks = independence_of parts in
    let longer = subst (IsNormalWord parts) (sym (append_assoc read (t ∷ []) later)) normal in
    let split = map-append (λ (s : Timed). s.op) (read ++ t ∷ []) later in
    let first : IsNormal masks (ops_of (read ++ t ∷ [])) = parts_are_normal masks [] (ops_of (read ++ t ∷ [])) (ops_of later)
    (subst (IsNormal masks) split longer) in
    let free = ((normal_grows masks (ops_of read) t.op).0 (subst (IsNormal masks) (ops_push read t) first)).1 in
    let set = ap (blocked_after masks) (ops_push read t) ∙ blocked_grow masks (ops_of read) t.op in
    more (blocked_after masks (ops_of read)) t later free
    (subst (λ (b : ℕ). AreFree parts b later) set (free_from_normal parts (read ++ t ∷ []) later longer))

-- fewer that are blocked leave all free
still_free : (parts : Parts) (fewer blocked : ℕ) (word : List Timed) → ((v : ℕ) → IsBitSet fewer v → IsBitSet blocked v) → AreFree parts blocked word →
    AreFree parts fewer word
still_free parts fewer blocked word within (none b) = none fewer
still_free parts fewer blocked word within (more b t later free others) =
    let masks = independence_of parts in
    more fewer t later (λ set. free (within t.op set))
    (still_free parts (next_blocked masks fewer t.op) (next_blocked masks blocked t.op) later (λ v set.
    let both = (set_next masks fewer t.op v).0 set in
    (set_next masks blocked t.op v).1 (both.0, elim both.1 [ inl was ↦ inl (within v was) | inr less ↦ inr less ])) others)

-- ---- the operation in its seat

pub independent_is : (parts : Parts) (v w : ℕ) → v < op_count_of parts → w < op_count_of parts →
    IsIndependent (independence_of parts) v w ↔ (independent_of parts v w ≡ true)
independent_is parts v w first second = (
  λ set. independent_of-symmetric parts v w ∙ (((independent_sets parts).each w second v).0 set).1,
  λ is. ((independent_sets parts).each w second v).1 (first, independent_of-symmetric parts w v ∙ is),
)

-- an operation that is blocked depends on one of those to come
FreesLater : Parts → ℕ → ℕ → List Timed → Type 0
FreesLater parts blocked v later = IsBitSet blocked v → list_all (λ (r : Timed). independent_of parts v r.op) later ≡ false

seated_free : (parts : Parts) (blocked : ℕ) (t : Timed) (word : List Timed) → t.op < op_count_of parts → AreKnown parts word → AreFree parts blocked word →
    FreesLater parts blocked t.op word → AreFree parts blocked (seated parts t word)
unfolding FreesLater
seated_free parts blocked t word known each (none b) frees =
    more blocked t [] (λ set. (let wrong : true ≡ false = frees set in cc)) (none (next_blocked (independence_of parts) blocked t.op))
seated_free parts blocked t word known each (more b s later free others) frees =
    let masks = independence_of parts in
    let s_known = All-head (λ (r : Timed). r.op < op_count_of parts) s later each in
    let later_known = All-tail (λ (r : Timed). r.op < op_count_of parts) s later each in
    let all = list_all (λ (r : Timed). independent_of parts t.op r.op) later in
    elim (cases_Bool (comes_before parts t.op s later)) [
      | inl before ↦
          let both = and_parts (nat_lt t.op s.op) (independent_of parts t.op s.op && all) before in
          let not_blocked : IsBitSet blocked t.op → ⊥ = λ set. (let wrong : true ≡ false = sym both.1 ∙ frees set in cc) in
          let first = next_blocked masks blocked t.op in
          let s_free : IsBitSet first s.op → ⊥ = λ set. (
          let was = (set_next masks blocked t.op s.op).0 set in
          elim was.1 [ inl earlier ↦ free earlier | inr less ↦ absurd (omega (arith, less, ltb-true t.op s.op both.0)) ]) in
          rw before (more blocked t (s ∷ later) not_blocked (more first s later s_free
          (still_free parts (next_blocked masks first s.op) (next_blocked masks blocked s.op) later
          (λ v set. after_both masks blocked t s v (ltb-true t.op s.op both.0) set) others)))
      | inr after ↦
          let next = next_blocked masks blocked s.op in
          let frees_next : FreesLater parts next t.op later = λ set. (
          let was = (set_next masks blocked s.op t.op).0 set in
          let apart = (independent_is parts t.op s.op known s_known).0 was.0 in
          elim was.1 [
            | inl earlier ↦ (let some = frees earlier in rw apart at some)
            | inr less ↦ (let some = after in let here = rw (lt-ltb t.op s.op less, apart) at some in here)
          ]) in
          rw after (more blocked s (seated parts t later) free (seated_free parts next t later known later_known others frees_next))
    ]
  where
    after_both : (masks : List ℕ) (blocked : ℕ) (t s : Timed) (v : ℕ) → t.op < s.op → IsBitSet (next_blocked masks (next_blocked masks blocked t.op) s.op) v →
        IsBitSet (next_blocked masks blocked s.op) v
    after_both masks blocked t s v less set =
        let second = (set_next masks (next_blocked masks blocked t.op) s.op v).0 set in
        (set_next masks blocked s.op v).1 (
          second.0,
          elim second.1 [
            | inl first ↦ elim ((set_next masks blocked t.op v).0 first).1 [ inl was ↦ inl was | inr below ↦ inr (omega arith) ]
            | inr below ↦ inr below
          ],
        )

pub seated_normal : (parts : Parts) (t : Timed) (word : List Timed) → t.op < op_count_of parts → AreKnown parts word → IsNormalWord parts word →
    IsNormalWord parts (seated parts t word)
unfolding FreesLater
seated_normal parts t word known each normal =
    normal_from_free parts [] (seated parts t word) (empty_is_normal (independence_of parts))
    (seated_free parts 0 t word known each (free_from_normal parts [] word normal) (λ set. absurd (none_in_empty t.op set)))

-- ---- the seat, one operation further

all_but_last : (p : Timed → Bool) (word : List Timed) (s : Timed) → list_all p (word ++ s ∷ []) ≡ (list_all p word && (p s && true))
all_but_last p word s = list_all-append p word (s ∷ [])

never : (b : Bool) → (b && false) ≡ false
never true = refl
never false = refl

always : (b : Bool) → (b && true) ≡ b
always true = refl
always false = refl

first_seat : (parts : Parts) (v : ℕ) (s : Timed) → seat_of parts v (s ∷ []) ≡ (if stands_behind parts v s.op (eqb 0 0) then 1 else 0)
first_seat parts v s =
    elim (cases_Bool (independent_of parts v s.op)) [
      | inr together ↦ rw (together, never (ltb v s.op)) refl
      | inl apart ↦ elim (cases_lt v s.op) [
        | inl less ↦ (let greater : leb s.op v ≡ false = grind (arith, nat_tests) in rw (apart, lt-ltb v s.op less, greater) refl)
        | inr no_less ↦ (let greater : leb s.op v ≡ true = le-leb s.op v no_less in rw (apart, le-ltb v s.op no_less, greater) refl)
      ]
    ]

pub seat_push : (parts : Parts) (v : ℕ) (word : List Timed) (s : Timed) →
    seat_of parts v (word ++ s ∷ []) ≡ (if stands_behind parts v s.op (eqb (seat_of parts v word) (length word)) then length word + 1 else seat_of parts v word)
seat_push parts v [] s = (let one : 0 + 1 ≡ 1 = omega arith in rw one (first_seat parts v s))
seat_push parts v (f ∷ word) s =
    let free = λ (r : Timed). independent_of parts v r.op in
    let rest = seat_push parts v word s in
    elim (cases_Bool (independent_of parts v s.op)) [
      | inr together ↦
          let tail = all_but_last free word s in
          let none : comes_before parts v f (word ++ s ∷ []) ≡ false =
          rw (tail, together, never (list_all free word), never (independent_of parts v f.op), never (ltb v f.op)) refl in
          let later = rw together at rest in
          rw (none, together) (omega arith)
      | inl apart ↦
          let tail : list_all free (word ++ s ∷ []) ≡ list_all free word = rw (all_but_last free word s, apart) (always (list_all free word)) in
          elim (cases_Bool (comes_before parts v f word)) [
            | inl before ↦
                let same : comes_before parts v f (word ++ s ∷ []) ≡ true = rw tail before in
                let not_last : eqb 0 (length (f ∷ word)) ≡ false = ne_eqb 0 (length (f ∷ word)) (λ same. absurd (omega arith)) in
                rw (same, before, apart, not_last) refl
            | inr after ↦
                let same : comes_before parts v f (word ++ s ∷ []) ≡ false = rw tail after in
                let later = rw apart at rest in
                elim (cases_Bool (eqb (seat_of parts v word) (length word) && leb s.op v)) [
                  | inl behind_it ↦
                      let both = and_parts (eqb (seat_of parts v word) (length word)) (leb s.op v) behind_it in
                      let last = eqb-true (seat_of parts v word) (length word) both.0 in
                      let here = rw behind_it at later in
                      let last_too : eqb (1 + seat_of parts v word) (length (f ∷ word)) ≡ true =
                      eq-eqb (1 + seat_of parts v word) (length (f ∷ word)) (omega arith) in
                      rw (same, after, apart, last_too, both.1) (omega arith)
                  | inr stays ↦
                      let here = rw stays at later in
                      let stays_too : (eqb (1 + seat_of parts v word) (length (f ∷ word)) && leb s.op v) ≡ false =
                      one_further (seat_of parts v word) (length word) (leb s.op v) stays in
                      rw (same, after, apart, stays_too) (omega arith)
                ]
          ]
    ]
  where
    one_further : (m n : ℕ) (b : Bool) → (eqb m n && b) ≡ false → (eqb (1 + m) (suc n) && b) ≡ false
    one_further m n b stays =
        elim (cases_eq m n) [
          | inl is ↦
              let next : 1 + m ≡ suc n = omega arith in
              let some = rw (eq-eqb m n is) at stays in
              rw (eq-eqb (1 + m) (suc n) next) some
          | inr other ↦ (let still : 1 + m ≢ suc n = λ same. other (omega arith) in rw (ne_eqb (1 + m) (suc n) still) refl)
        ]

-- one turn of the loop that looks for the seat
pub seat_step : (parts : Parts) (v : ℕ) (steps : List Timed) (k : ℕ) (d : Timed) (seat next : ℕ) (b : Bool) → k < length steps →
    seat ≡ seat_of parts v (take k steps) →
    b ≡ stands_behind parts v (get_or steps k d).op (eqb seat k) → next ≡ (if b then k + 1 else seat) → next ≡ seat_of parts v (take (k + 1) steps)
seat_step parts v steps k d seat next b within is asked step =
    let read = take k steps in
    let long : length read ≡ k = length-take-le k steps (omega arith) in
    let s = get_or steps k d in
    let test : stands_behind parts v s.op (eqb seat k) ≡ stands_behind parts v s.op (eqb (seat_of parts v read) (length read)) =
    ap (λ (n : ℕ). stands_behind parts v s.op (eqb n k)) is ∙ ap (λ (n : ℕ). stands_behind parts v s.op (eqb (seat_of parts v read) n)) (sym long) in
    step ∙ ap (λ (c : Bool). if c then k + 1 else seat) (asked ∙ test)
    ∙ ap (λ (n : ℕ). if stands_behind parts v s.op (eqb (seat_of parts v read) (length read)) then k + 1 else n) is
    ∙ ap (λ (n : ℕ). if stands_behind parts v s.op (eqb (seat_of parts v read) (length read)) then n + 1 else seat_of parts v read) (sym long)
    ∙ sym (ap (seat_of parts v) (take_more steps k d within) ∙ seat_push parts v read s)
