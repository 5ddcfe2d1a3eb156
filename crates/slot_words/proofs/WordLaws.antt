-- What the calls of this crate do to a word.
use Rattle.std.proofs.Common.{◌≡◌, ℕ, zero, suc, ◌+◌, ◌-◌, ◌<◌, ◌≤◌, Bool, true, not, ◌&&◌, eqb, cond, List, [], ◌∷◌, ◌++◌, length, take, drop, get_or, set, refl, sym, ap, subst, ◌∙◌, append_assoc, arith}
use Rattle.std.specs.List.{swap, filter}
use Rattle.std.specs.List.Sorted.{IsStableByKey, ties}
use Rattle.std.specs.Ordering.{nat_cmp, is_lt}
use Rattle.std.specs.Fn.{Called, ComputesKey}
use denote.Ref.{Bor}
use denote.Param.Members.{Mut}
use Rattle.std.proofs.lemmas.Fn.{always_returns_same}
use Rattle.std.proofs.lemmas.List.{set_at, get_or_at, take_at, length-append, length_push, length-take-le, take-append-drop, drop_more}
use Rattle.std.proofs.lemmas.List.Edits.{swap_is}
use Rattle.std.proofs.lemmas.Bool.Decides.{nat_tests}
use Rattle.plant_model.specs.declared.parts.Parts.{Parts}
use Rattle.plant_model.specs.Relations.{independent_of}
use Rattle.replay_core.specs.declared.timed.Timed.{Timed}
use Rattle.slot_words.specs.Swaps.{AreEquivalent, op_at}
use Rattle.slot_words.specs.ByStart.{starts_at}
use Rattle.slot_words.proofs.ChainLaws.{one_swap}

-- ---- a swap by number

at_split : (word : List Timed) (k : ℕ) (d : Timed) → k + 1 < length word →
    word ≡ take k word ++ get_or word k d ∷ get_or word (k + 1) d ∷ drop (k + 2) word
at_split word k d within =
    let one : k + 1 + 1 ≡ k + 2 = omega arith in
    sym (take-append-drop k word)
    ∙ ap (λ (rest : List Timed). take k word ++ rest)
    (drop_more word k d (omega arith) ∙ ap (λ (rest : List Timed). get_or word k d ∷ rest)
    (drop_more word (k + 1) d within ∙ ap (λ (n : ℕ). get_or word (k + 1) d ∷ drop n word) one))

swap_split : (front back : List Timed) (s t : Timed) (k : ℕ) → length front ≡ k → swap (front ++ s ∷ t ∷ back) k (k + 1) ≡ front ++ t ∷ s ∷ back
swap_split front back s t k count =
    let word = front ++ s ∷ t ∷ back in
    let total = length-append front (s ∷ t ∷ back) in
    let apart : (u : Timed) → front ++ u ∷ t ∷ back ≡ front ++ u ∷ [] ++ t ∷ back = λ u. sym (append_assoc front (u ∷ []) (t ∷ back)) in
    let long : (u : Timed) → length (front ++ u ∷ []) ≡ k + 1 = λ u. length_push front u ∙ ap (λ (n : ℕ). n + 1) count in
    let first = get_or_at front s (t ∷ back) s k count in
    let second = ap (λ (xs : List Timed). get_or xs (k + 1) s) (apart s) ∙ get_or_at (front ++ s ∷ []) t back s (k + 1) (long s) in
    let here = set_at front s (t ∷ back) t k count in
    let there = ap (λ (xs : List Timed). set xs (k + 1) s) (apart t) ∙ set_at (front ++ t ∷ []) t back s (k + 1) (long t)
    ∙ append_assoc front (t ∷ []) (s ∷ back) in
    sym (swap_is word k (k + 1) s (omega arith) (omega arith))
    ∙ rw (first, second) (ap (λ (xs : List Timed). set xs (k + 1) s) here ∙ there)

op_at-entry : (word : List Timed) (k : ℕ) (d : Timed) → k < length word → op_at word k ≡ (get_or word k d).op
op_at-entry [] k d within = absurd (omega arith)
op_at-entry (t ∷ word) zero d within = refl
op_at-entry (t ∷ word) (suc k) d within = op_at-entry word k d (omega arith)

pub swap_is_equivalent : (parts : Parts) (word : List Timed) (k : ℕ) → k + 1 < length word → independent_of parts (op_at word k) (op_at word (k + 1)) ≡ true →
    AreEquivalent parts word (swap word k (k + 1))
swap_is_equivalent parts word k within independent =
    let d : Timed = record { op = 0; start = 0; end = 0; volume = 0 } in
    let s = get_or word k d in
    let t = get_or word (k + 1) d in
    let front = take k word in
    let back = drop (k + 2) word in
    let split = at_split word k d within in
    let apart : independent_of parts s.op t.op ≡ true =
    ap (λ (v : ℕ). independent_of parts v t.op) (sym (op_at-entry word k d (omega arith)))
    ∙ ap (λ (w : ℕ). independent_of parts (op_at word k) w) (sym (op_at-entry word (k + 1) d within)) ∙ independent in
    let swapped = ap (λ (xs : List Timed). swap xs k (k + 1)) split ∙ swap_split front back s t k (length-take-le k word (omega arith)) in
    subst (λ (other : List Timed). AreEquivalent parts word other) (sym swapped)
    (subst (λ (first : List Timed). AreEquivalent parts first (front ++ t ∷ s ∷ back)) (sym split) (one_swap parts front back s t apart))

pub swap_at_is_equivalent : (parts : Parts) (word : List Timed) (at : ℕ) → 1 ≤ at → at < length word →
    independent_of parts (op_at word (at - 1)) (op_at word at) ≡ true →
    AreEquivalent parts word (swap word (at - 1) at)
swap_at_is_equivalent parts word at some within independent =
    let next : at - 1 + 1 ≡ at = omega arith in
    let apart = ap (λ (n : ℕ). independent_of parts (op_at word (at - 1)) (op_at word n)) next ∙ independent in
    subst (λ (n : ℕ). AreEquivalent parts word (swap word (at - 1) n)) next (swap_is_equivalent parts word (at - 1) (omega arith) apart)

-- what was lent, as it comes back
pub given_back : (old new : List Timed) → length new ≡ length old → take (length old) (new ++ drop (length new) old) ≡ new
given_back old new long = take_at new (drop (length new) old) (length old) long

-- ---- a stable sort by starts

pub filter-same : {X : Type 0} (p q : X → Bool) (xs : List X) → ((x : X) → p x ≡ q x) → filter p xs ≡ filter q xs
filter-same p q [] same = refl
filter-same p q (x ∷ xs) same =
    ap (λ (b : Bool). cond b (x ∷ filter p xs) (filter p xs)) (same x) ∙ ap (λ rest. cond (q x) (x ∷ rest) rest) (filter-same p q xs same)

tied : (start minute : ℕ) → (not (is_lt (nat_cmp minute start)) && not (is_lt (nat_cmp start minute))) ≡ eqb start minute
tied start minute = grind (arith, nat_tests)

pub stable_by_start : (word sorted : List Timed) → IsStableByKey (λ (t : Timed). t.start) nat_cmp word sorted → (minute : ℕ) →
    filter (starts_at minute) sorted ≡ filter (starts_at minute) word
stable_by_start word sorted stable minute =
    let at : Timed = record { op = 0; start = minute; end = 0; volume = 0 } in
    let ties_at = ties (λ (s t : Timed). is_lt (nat_cmp s.start t.start)) at in
    let same = λ (t : Timed). tied t.start minute in
    sym (filter-same ties_at (starts_at minute) sorted same) ∙ stable at ∙ filter-same ties_at (starts_at minute) word same

pub stable-from_sort_by_key : {F : Type 0} {g : Mut F (Bor Timed × Unit {0}) ℕ} {f : F} (word sorted : List Timed) →
    ((key : Timed → ℕ) → ComputesKey g key f → IsStableByKey key nat_cmp word sorted) →
    ((a : Bor Timed × Unit {0}) (r : ℕ) (f' : F) → Called g f a r f' → (r ≡ a.0.now.start) × (f' ≡ f)) → (minute : ℕ) →
    filter (starts_at minute) sorted ≡ filter (starts_at minute) word
stable-from_sort_by_key {g = g} {f = f} word sorted stable calls =
    stable_by_start word sorted (stable (λ (t : Timed). t.start) (always_returns_same g (λ a r. r ≡ a.0.now.start) f calls))
