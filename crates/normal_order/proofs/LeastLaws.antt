-- A normal word comes before all words that are equivalent to it. What two words share that are equivalent is how any two
-- operations alternate in them of which neither is independent of the other.
use Rattle.std.proofs.Common.{◌≡◌, ◌≢◌, ◌⊎◌, ℕ, zero, suc, ◌<◌, Bool, true, false, ◌||◌, eqb, IsTrue, List, [], ◌∷◌, ◌++◌, All, length, get_or, refl, sym, ap, subst, inl, inr, ◌∙◌, arith}
use Rattle.std.specs.List.{filter}
use Rattle.std.proofs.lemmas.Bool.{cases_Bool, cases_eq, cases_lt, eq-eqb, ne_eqb, lt-ltb, le-ltb}
use Rattle.std.proofs.lemmas.Bool.Decides.{nat_tests}
use Rattle.std.proofs.lemmas.List.{map-append}
use Rattle.std.proofs.lemmas.List.Elements.{All-head, All-tail, All-nil, All-cons, filter-append}
use Rattle.std.proofs.lemmas.List.{append-nil}
use Rattle.std.proofs.lemmas.List.Sorted.{All-permutation}
use Rattle.item_lists.proofs.ListLaws.{All-front}
use Rattle.slot_words.proofs.ChainLaws.{same_entries}
use Rattle.plant_model.specs.declared.parts.Parts.{Parts}
use Rattle.plant_model.specs.Parts.{op_count_of}
use Rattle.plant_model.specs.Relations.{independent_of}
use Rattle.plant_model.proofs.RelationLaws.{independent_of-symmetric, apart_from_independent}
use Rattle.replay_core.specs.declared.timed.Timed.{Timed}
use Rattle.slot_automaton.specs.Independence.{IsIndependent}
use Rattle.slot_automaton.specs.Normal.{IsNormal}
use Rattle.slot_automaton.proofs.WordLemmas.{parts_are_normal}
use Rattle.overlap_graph.specs.Independence.{independence_of}
use Rattle.slot_words.specs.Swaps.{AreEquivalent}
use Rattle.slot_words.specs.Swaps.AreEquivalent.{itself, swapped}
use Rattle.normal_order.specs.NormalWords.{ops_of, AreKnown, IsNormalWord, is_no_later}
use Rattle.normal_order.proofs.SeatLaws.{independent_is}

-- ---- turns

-- the operation is one of the two
abbrev pub is_either : ℕ → ℕ → Timed → Bool
is_either v w t = eqb t.op v || eqb t.op w

-- any two operations that are not independent, or one and itself, take their turns alike in both
abbrev pub TakeTurns : Parts → List Timed → List Timed → Type 0
TakeTurns parts word other = (v w : ℕ) → independent_of parts v w ≡ false → filter (is_either v w) word ≡ filter (is_either v w) other

filter-swapped : (p : Timed → Bool) (front back : List Timed) (s t : Timed) → ((p s ≡ false) ⊎ (p t ≡ false)) →
    filter p (front ++ s ∷ t ∷ back) ≡ filter p (front ++ t ∷ s ∷ back)
filter-swapped p front back s t one =
    filter-append p front (s ∷ t ∷ back) ∙ ap (λ (rest : List Timed). filter p front ++ rest) (two p back s t one) ∙ sym (filter-append p front (t ∷ s ∷ back))
  where
    two : (p : Timed → Bool) (back : List Timed) (s t : Timed) → ((p s ≡ false) ⊎ (p t ≡ false)) → filter p (s ∷ t ∷ back) ≡ filter p (t ∷ s ∷ back)
    two p back s t (inl first) = rw first refl
    two p back s t (inr second) = rw second refl

-- of two that are independent one at most is one of the two
not_both : (parts : Parts) (v w : ℕ) (s t : Timed) → independent_of parts s.op t.op ≡ true → independent_of parts v w ≡ false →
    (is_either v w s ≡ false) ⊎ (is_either v w t ≡ false)
not_both parts v w s t apart together =
    elim (cases_Bool (eqb s.op v || eqb s.op w)) [
      | inr first ↦ inl first
      | inl first ↦ elim (cases_Bool (eqb t.op v || eqb t.op w)) [
        | inr second ↦ inr second
        | inl second ↦ absurd (clash parts v w s.op t.op apart together first second)
      ]
    ]
  where
    clash : (parts : Parts) (v w a b : ℕ) → independent_of parts a b ≡ true → independent_of parts v w ≡ false → (eqb a v || eqb a w) ≡ true →
        (eqb b v || eqb b w) ≡ true → ⊥
    clash parts v w a b apart together first second =
        let different = (apart_from_independent parts a b apart).different in
        elim (cases_eq a v) [
          | inl a_v ↦ elim (cases_eq b w) [
            | inl b_w ↦ (let wrong = rw (a_v, b_w) at apart in let both : true ≡ false = sym wrong ∙ together in cc)
            | inr not_w ↦ (
                let b_v : b ≡ v = grind (arith, nat_tests) in
                different (a_v ∙ sym b_v))
          ]
          | inr not_v ↦
              let a_w : a ≡ w = grind (arith, nat_tests) in
              elim (cases_eq b v) [
                | inl b_v ↦ (
                    let back = independent_of-symmetric parts b a ∙ apart in
                    let wrong = rw (b_v, a_w) at back in
                    let both : true ≡ false = sym wrong ∙ together in cc)
                | inr b_not_v ↦ (
                    let b_w : b ≡ w = grind (arith, nat_tests) in
                    different (a_w ∙ sym b_w))
              ]
        ]

pub turns_kept : (parts : Parts) (word other : List Timed) → AreEquivalent parts word other → TakeTurns parts word other
turns_kept parts word other (itself first) v w together = refl
turns_kept parts word other (swapped first next last (front, back, s, t, is, next_is, apart) rest) v w together =
    let p = is_either v w in
    ap (filter p) is ∙ filter-swapped p front back s t (not_both parts v w s t apart together) ∙ sym (ap (filter p) next_is)
    ∙ turns_kept parts next last rest v w together

-- ---- the first of its number

-- a word that has the operation: what stands before its first, and that one
record FirstOf (a : ℕ) (word : List Timed) : Type 0 where
  front : List Timed
  first : Timed
  back : List Timed
  is : word ≡ front ++ first ∷ back
  number : first.op ≡ a
  others : All (λ (r : Timed). r.op ≢ a) front

first_of_op : (a : ℕ) (word : List Timed) (t : Timed) (rest : List Timed) → filter (is_either a a) word ≡ t ∷ rest → FirstOf a word
first_of_op a [] t rest some = cc
first_of_op a (s ∷ word) t rest some =
    elim (cases_eq s.op a) [
      | inl is ↦ record { front = []; first = s; back = word; is = refl; number = is; others = All-nil (λ (r : Timed). r.op ≢ a) }
      | inr other ↦
          let no = ne_eqb s.op a other in
          let later = rw no at some in
          let found = first_of_op a word t rest later in
          record {
            front = s ∷ found.front;
            first = found.first;
            back = found.back;
            is = ap (λ (rest : List Timed). s ∷ rest) found.is;
            number = found.number;
            others = All-cons (λ (r : Timed). r.op ≢ a) s found.front other found.others;
          }
    ]

-- where one of those before it has the other number, the first of either number is not it
record FirstEither (a c : ℕ) (word : List Timed) : Type 0 where
  first : Timed
  rest : List Timed
  is : filter (is_either a c) word ≡ first ∷ rest
  not_it : first.op ≢ a

first_either : (a c : ℕ) (front back : List Timed) → All (λ (r : Timed). r.op ≢ a) front → (k : ℕ) (d : Timed) → k < length front → (get_or front k d).op ≡ c →
    FirstEither a c (front ++ back)
first_either a c [] back others k d within is = absurd (omega arith)
first_either a c (s ∷ front) back others k d within is =
    let here : s.op ≢ a = All-head (λ (r : Timed). r.op ≢ a) s front others in
    elim (cases_eq s.op c) [
      | inl same ↦ record { first = s; rest = filter (is_either a c) (front ++ back); is = rw (ne_eqb s.op a here, eq-eqb s.op c same) refl; not_it = here }
      | inr other ↦
          let found = first_either_later a c front back s (All-tail (λ (r : Timed). r.op ≢ a) s front others) k d within is other
          (λ j e. first_either a c front back (All-tail (λ (r : Timed). r.op ≢ a) s front others) j e) in
          record { first = found.first; rest = found.rest; is = rw (ne_eqb s.op a here, ne_eqb s.op c other) found.is; not_it = found.not_it }
    ]
  where
    first_either_later : (a c : ℕ) (front back : List Timed) (s : Timed) → All (λ (r : Timed). r.op ≢ a) front → (k : ℕ) (d : Timed) → k < length (s ∷ front) →
        (get_or (s ∷ front) k d).op ≡ c → s.op ≢ c →
        ((j : ℕ) (e : Timed) → j < length front → (get_or front j e).op ≡ c → FirstEither a c (front ++ back)) → FirstEither a c (front ++ back)
    first_either_later a c front back s others zero d within is other later = absurd (other is)
    first_either_later a c front back s others (suc k) d within is other later = later k d (omega arith) is

-- ---- the first difference

heads : (s t : Timed) (rest later : List Timed) → s ∷ rest ≡ t ∷ later → s ≡ t
heads s t rest later same = ap (head s) same
  where
    head : Timed → List Timed → Timed
    head d [] = d
    head d (x ∷ xs) = x

-- a normal word that begins with a greater operation does not take its turns as a word that begins with a less one
pub never_alone : (parts : Parts) (a : ℕ) → independent_of parts a a ≡ false
never_alone parts a =
    elim (cases_Bool (independent_of parts a a)) [
      | inl apart ↦ absurd ((apart_from_independent parts a a apart).different refl)
      | inr never ↦ never
    ]

less_cannot_come : (parts : Parts) (s t : Timed) (rest later : List Timed) → AreKnown parts (s ∷ rest) → t.op < op_count_of parts →
    IsNormalWord parts (s ∷ rest) →
    TakeTurns parts (s ∷ rest) (t ∷ later) → t.op < s.op → ⊥
less_cannot_come parts s t rest later each known normal turns less =
    let a = t.op in
    let not_s : s.op ≢ a = λ same. absurd (omega arith) in
    let alone : independent_of parts a a ≡ false = never_alone parts a in
    let begins : filter (is_either a a) (t ∷ later) ≡ t ∷ filter (is_either a a) later = rw (eq-eqb t.op a refl) refl in
    let found = first_of_op a (s ∷ rest) t (filter (is_either a a) later) (turns a a alone ∙ begins) in
    out_of_order parts s t rest later each known normal turns less found.front found.first found.back found.is found.number found.others
  where
    free_of : (parts : Parts) (t : Timed) (front back later : List Timed) → TakeTurns parts (front ++ back) (t ∷ later) →
        All (λ (r : Timed). r.op ≢ t.op) front →
        All (λ (r : Timed). independent_of parts t.op r.op ≡ true) front
    free_of parts t front back later turns others k d within =
        let c = (get_or front k d).op in
        elim (cases_Bool (independent_of parts t.op c)) [
          | inl apart ↦ apart
          | inr together ↦
              let found = first_either t.op c front back others k d within refl in
              let begins : filter (is_either t.op c) (t ∷ later) ≡ t ∷ filter (is_either t.op c) later = rw (eq-eqb t.op t.op refl) refl in
              let same = heads found.first t found.rest (filter (is_either t.op c) later) (sym found.is ∙ turns t.op c together ∙ begins) in
              absurd (found.not_it (ap (λ (r : Timed). r.op) same))
        ]

    free_ops : (parts : Parts) (v : ℕ) (front : List Timed) → v < op_count_of parts → AreKnown parts front →
        All (λ (r : Timed). independent_of parts v r.op ≡ true) front →
        All (λ (x : ℕ). IsIndependent (independence_of parts) v x) (ops_of front)
    free_ops parts v [] known each free = All-nil (λ (x : ℕ). IsIndependent (independence_of parts) v x)
    free_ops parts v (r ∷ front) known each free =
        let r_known = All-head (λ (x : Timed). x.op < op_count_of parts) r front each in
        All-cons (λ (x : ℕ). IsIndependent (independence_of parts) v x) r.op (ops_of front)
        ((independent_is parts v r.op known r_known).1 (All-head (λ (x : Timed). independent_of parts v x.op ≡ true) r front free))
        (free_ops parts v front known (All-tail (λ (x : Timed). x.op < op_count_of parts) r front each)
        (All-tail (λ (x : Timed). independent_of parts v x.op ≡ true) r front free))

    out_of_order : (parts : Parts) (s t : Timed) (rest later : List Timed) → AreKnown parts (s ∷ rest) → t.op < op_count_of parts →
        IsNormalWord parts (s ∷ rest) →
        TakeTurns parts (s ∷ rest) (t ∷ later) → t.op < s.op → (front : List Timed) (first : Timed) (back : List Timed) → s ∷ rest ≡ front ++ first ∷ back →
        first.op ≡ t.op → All (λ (r : Timed). r.op ≢ t.op) front → ⊥
    out_of_order parts s t rest later each known normal turns less [] first back is number others =
        let same = heads s first rest back is in
        let number_of_s = ap (λ (r : Timed). r.op) same in
        absurd (omega arith)
    out_of_order parts s t rest later each known normal turns less (f ∷ front) first back is number others =
        let masks = independence_of parts in
        let whole : AreKnown parts ((f ∷ front) ++ first ∷ back) = subst (AreKnown parts) is each in
        let f_is : s ≡ f = heads s f rest (front ++ first ∷ back) is in
        let front_known = All-front (λ (r : Timed). r.op < op_count_of parts) (f ∷ front) (first ∷ back) whole in
        let turns_there = λ (v w : ℕ) (together : independent_of parts v w ≡ false). sym (ap (filter (is_either v w)) is) ∙ turns v w together in
        let free = free_ops parts t.op (f ∷ front) known front_known (free_of parts t (f ∷ front) (first ∷ back) later turns_there others) in
        let letters : ops_of (s ∷ rest) ≡ [] ++ f.op ∷ ops_of front ++ t.op ∷ ops_of back =
        ap ops_of is ∙ map-append (λ (r : Timed). r.op) (f ∷ front) (first ∷ back) ∙ ap (λ (n : ℕ). f.op ∷ ops_of front ++ n ∷ ops_of back) number in
        normal [] (ops_of front) (ops_of back) f.op t.op letters (record {
          less = (let number_of_f = ap (λ (r : Timed). r.op) f_is in omega arith);
          of_first = All-head (λ (x : ℕ). IsIndependent masks t.op x) f.op (ops_of front) free;
          of_between = All-tail (λ (x : ℕ). IsIndependent masks t.op x) f.op (ops_of front) free;
        })

-- ---- so a normal word comes first

tail_of : (s t : Timed) (rest later : List Timed) → s ∷ rest ≡ t ∷ later → rest ≡ later
tail_of s t rest later same = ap tail same
  where
    tail : List Timed → List Timed
    tail [] = []
    tail (x ∷ xs) = xs

turns_behind : (parts : Parts) (s t : Timed) (rest later : List Timed) → s.op ≡ t.op → TakeTurns parts (s ∷ rest) (t ∷ later) → TakeTurns parts rest later
turns_behind parts s t rest later same turns v w together =
    let both = turns v w together in
    let alike : is_either v w s ≡ is_either v w t = ap (λ (n : ℕ). eqb n v || eqb n w) same in
    elim (cases_Bool (is_either v w t)) [
      | inl passes ↦
          let first = alike ∙ passes in
          let tails = rw (first, passes) at both in
          tail_of s t (filter (is_either v w) rest) (filter (is_either v w) later) tails
      | inr fails ↦ (let first = alike ∙ fails in let tails = rw (first, fails) at both in tails)
    ]

comes_first : (parts : Parts) (word other : List Timed) → AreKnown parts word → AreKnown parts other → IsNormalWord parts word → TakeTurns parts word other →
    IsTrue (is_no_later (ops_of word) (ops_of other))
comes_first parts [] other known others normal turns = search
comes_first parts (s ∷ rest) [] known others normal turns =
    let begins : filter (is_either s.op s.op) (s ∷ rest) ≡ s ∷ filter (is_either s.op s.op) rest = rw (eq-eqb s.op s.op refl) refl in
    let wrong = sym begins ∙ turns s.op s.op (never_alone parts s.op) in
    cc
comes_first parts (s ∷ rest) (t ∷ later) known others normal turns =
    let t_known = All-head (λ (r : Timed). r.op < op_count_of parts) t later others in
    elim (cases_lt s.op t.op) [
      | inl less ↦ rw (lt-ltb s.op t.op less) search
      | inr no_less ↦ elim (cases_eq s.op t.op) [
        | inl same ↦
            let masks = independence_of parts in
            let whole : IsNormal masks ((s.op ∷ []) ++ ops_of rest ++ []) = rw (append-nil (ops_of rest)) normal in
            let rest_normal = parts_are_normal masks (s.op ∷ []) (ops_of rest) [] whole in
            let later_first = comes_first parts rest later (All-tail (λ (r : Timed). r.op < op_count_of parts) s rest known)
            (All-tail (λ (r : Timed). r.op < op_count_of parts) t later others) rest_normal (turns_behind parts s t rest later same turns) in
            rw (le-ltb s.op t.op no_less, eq-eqb s.op t.op same) later_first
        | inr other ↦ absurd (less_cannot_come parts s t rest later known t_known normal turns (omega arith))
      ]
    ]

pub normal_comes_first : (parts : Parts) (word other : List Timed) → AreKnown parts word → IsNormalWord parts word → AreEquivalent parts word other →
    IsTrue (is_no_later (ops_of word) (ops_of other))
normal_comes_first parts word other known normal chain =
    comes_first parts word other known
    (All-permutation (λ (r : Timed). r.op < op_count_of parts) word other (same_entries parts word other chain) known)
    normal (turns_kept parts word other chain)
