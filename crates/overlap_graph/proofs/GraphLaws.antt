-- Laws of the masks of independence and of cliques.
use Rattle.std.proofs.Common.{◌≡◌, ◌⊎◌, ℕ, zero, suc, ◌+◌, ◌-◌, ◌<◌, ◌≤◌, Bool, true, not, ◌&&◌, List, [], ◌∷◌, ◌++◌, length, get_or, All, refl, sym, ap, subst, inl, inr, ◌∙◌, arith}
use Rattle.std.specs.Prelude.{◌↔◌, IsBitSet, fold, if◌then◌else◌}
use Rattle.std.specs.List.{list_any, range_with_len}
use Rattle.std.proofs.lemmas.Bool.{cases_Bool, cases_lt, cases_eq, and_parts}
use Rattle.std.proofs.lemmas.List.{length_push, get_or_append_left, get_or_push}
use Rattle.std.proofs.lemmas.List.FromFn.{length-map-range_with_len, get_or-map-range_with_len}
use Rattle.std.proofs.lemmas.List.Sums.{fold-append}
use Rattle.std.proofs.lemmas.List.Elements.{All-nil, All-push}
use Rattle.plant_model.specs.declared.parts.Parts.{Parts}
use Rattle.plant_model.specs.Parts.{op_count_of}
use Rattle.plant_model.specs.Relations.{refused_at_once_of, independent_of}
use Rattle.plant_model.proofs.RelationLaws.{refused_at_once_of-reflexive, refused_at_once_of-symmetric}
use Rattle.overlap_graph.specs.Sets.{with_member, is_within}
use Rattle.overlap_graph.specs.Independence.{independent_mask_of, independence_of, IsIndependentSet, AreIndependentSets}
use Rattle.overlap_graph.specs.Cliques.{refused_mask_of, refused_masks_of, joined_by, clique_from, pair_of, with_pair, with_pairs, cliques_of, IsClique, EachIsClique, HasBoth, EachPairIsCovered}
use Rattle.overlap_graph.proofs.SetLaws.{with_member-has, none_in_empty, set_of-has, member_within}

-- ---- over a range of numbers

-- what one step keeps, all keep
pub kept_along : {S : Type 0} (P : S → Type 0) (f : S → ℕ → S) (a n : ℕ) → ((s : S) (u : ℕ) → a ≤ u → u < a + n → P s → P (f s u)) →
    (s : S) → P s → P (fold f s (range_with_len a n))
kept_along P f a zero step s here = here
kept_along P f a (suc n) step s here =
    kept_along P f (a + 1) n (λ t u from below. step t u (omega arith) (omega arith)) (f s a) (step s a (omega arith) (omega arith) here)

pub range_more : (a n : ℕ) → range_with_len a (n + 1) ≡ range_with_len a n ++ (a + n) ∷ []
range_more a zero = (let one : zero + 1 ≡ suc zero = omega arith in let at : a ≡ a + zero = omega arith in
    ap (range_with_len a) one ∙ ap (λ (k : ℕ). k ∷ []) at)
range_more a (suc n) =
    let next : suc n + 1 ≡ suc (n + 1) = omega arith in
    let last : a + 1 + n ≡ a + suc n = omega arith in
    ap (range_with_len a) next ∙ ap (λ (rest : List ℕ). a ∷ rest) (range_more (a + 1) n ∙ ap (λ (k : ℕ). range_with_len (a + 1) n ++ k ∷ []) last)

-- one more turn of a loop
pub fold_range_more : {S : Type 0} (f : S → ℕ → S) (s : S) (a n : ℕ) → fold f s (range_with_len a (n + 1)) ≡ f (fold f s (range_with_len a n)) (a + n)
fold_range_more f s a n = ap (fold f s) (range_more a n) ∙ fold-append f s (range_with_len a n) ((a + n) ∷ [])

pub one_more : {S : Type 0} (f : S → ℕ → S) (s : S) (n : ℕ) → fold f s (range_with_len 0 (n + 1)) ≡ f (fold f s (range_with_len 0 n)) n
one_more f s n = (let at : 0 + n ≡ n = omega arith in fold_range_more f s 0 n ∙ ap (f (fold f s (range_with_len 0 n))) at)

-- ---- independence

pub independent_set : (parts : Parts) (v : ℕ) → IsIndependentSet parts v (independent_mask_of parts v)
unfolding independent_mask_of
independent_set parts v w = set_of-has (op_count_of parts) (independent_of parts v) w

pub independent_sets : (parts : Parts) → AreIndependentSets parts (independence_of parts)
unfolding independence_of
independent_sets parts = record {
  count = length-map-range_with_len (independent_mask_of parts) 0 (op_count_of parts);
  each = λ v known.
      subst (IsIndependentSet parts v) (sym (get_or-map-range_with_len (independent_mask_of parts) 0 (op_count_of parts) v v 0 known (omega arith)))
      (independent_set parts v);
}

-- ---- cliques

refused_mask-has : (parts : Parts) (v w : ℕ) → IsBitSet (refused_mask_of parts v) w ↔ ((w < op_count_of parts) × (refused_at_once_of parts v w ≡ true))
unfolding refused_mask_of
refused_mask-has parts v w = set_of-has (op_count_of parts) (refused_at_once_of parts v) w

pub refused_masks-at : (parts : Parts) (u : ℕ) → u < op_count_of parts → get_or (refused_masks_of parts) u 0 ≡ refused_mask_of parts u
unfolding refused_masks_of
refused_masks-at parts u known = get_or-map-range_with_len (refused_mask_of parts) 0 (op_count_of parts) u u 0 known (omega arith)

pub length-refused_masks : (parts : Parts) → length (refused_masks_of parts) ≡ op_count_of parts
unfolding refused_masks_of
length-refused_masks parts = length-map-range_with_len (refused_mask_of parts) 0 (op_count_of parts)

pair_of-has : (v w k : ℕ) → IsBitSet (pair_of v w) k ↔ ((k ≡ v) ⊎ (k ≡ w))
pair_of-has v w k = (
  λ has.
      elim ((with_member-has (with_member 0 v) w k).0 has) [
        | inl first ↦ elim ((with_member-has 0 v k).0 first) [ inl none ↦ absurd (none_in_empty k none) | inr is ↦ inl is ]
        | inr is ↦ inr is
      ],
  elim [
    | inl is ↦ (with_member-has (with_member 0 v) w k).1 (inl ((with_member-has 0 v k).1 (inr is)))
    | inr is ↦ (with_member-has (with_member 0 v) w k).1 (inr is)
  ],
)

pair_is_clique : (parts : Parts) (v w : ℕ) → v < op_count_of parts → w < op_count_of parts → refused_at_once_of parts v w ≡ true → IsClique parts (pair_of v w)
pair_is_clique parts v w first second refused =
    let back = refused_at_once_of-symmetric parts w v ∙ refused in
    let at = λ (a b : ℕ). refused_at_once_of parts a b ≡ true in
    record {
      known = λ k has. elim ((pair_of-has v w k).0 has) [ inl is ↦ omega (arith, is) | inr is ↦ omega (arith, is) ];
      refused = λ k l has_k has_l.
          elim ((pair_of-has v w k).0 has_k) [
            | inl k_is ↦ elim ((pair_of-has v w l).0 has_l) [
              | inl l_is ↦ rw (k_is, l_is) (refused_at_once_of-reflexive parts v)
              | inr l_is ↦ rw (k_is, l_is) refused
            ]
            | inr k_is ↦ elim ((pair_of-has v w l).0 has_l) [
              | inl l_is ↦ rw (k_is, l_is) back
              | inr l_is ↦ rw (k_is, l_is) (refused_at_once_of-reflexive parts w)
            ]
          ];
    }

joined_is_clique : (parts : Parts) (clique u : ℕ) → u < op_count_of parts → IsClique parts clique → IsClique parts (joined_by parts clique u)
joined_is_clique parts clique u known is =
    elim (cases_Bool (is_within clique (refused_mask_of parts u))) [
      | inl joins ↦ rw joins (record {
        known = λ k has. elim ((with_member-has clique u k).0 has) [ inl before ↦ is.known k before | inr same ↦ omega (arith, same) ];
        refused = λ k l has_k has_l. joined_refused parts clique u is joins k l ((with_member-has clique u k).0 has_k) ((with_member-has clique u l).0 has_l);
      })
      | inr stays ↦ rw stays is
    ]
  where
    to_new : (parts : Parts) (clique u : ℕ) → is_within clique (refused_mask_of parts u) ≡ true → (k : ℕ) → IsBitSet clique k →
        refused_at_once_of parts u k ≡ true
    to_new parts clique u joins k has = ((refused_mask-has parts u k).0 (member_within clique (refused_mask_of parts u) k joins has)).1

    joined_refused : (parts : Parts) (clique u : ℕ) → IsClique parts clique → is_within clique (refused_mask_of parts u) ≡ true → (k l : ℕ) →
        (IsBitSet clique k ⊎ (k ≡ u)) → (IsBitSet clique l ⊎ (l ≡ u)) → refused_at_once_of parts k l ≡ true
    joined_refused parts clique u is joins k l (inl has_k) (inl has_l) = is.refused k l has_k has_l
    joined_refused parts clique u is joins k l (inl has_k) (inr l_is) =
        rw l_is (refused_at_once_of-symmetric parts k u ∙ to_new parts clique u joins k has_k)
    joined_refused parts clique u is joins k l (inr k_is) (inl has_l) = rw k_is (to_new parts clique u joins l has_l)
    joined_refused parts clique u is joins k l (inr k_is) (inr l_is) = rw (k_is, l_is) (refused_at_once_of-reflexive parts u)

clique_from-is : (parts : Parts) (first : ℕ) → IsClique parts first → IsClique parts (clique_from parts first)
unfolding clique_from
clique_from-is parts first is =
    kept_along (IsClique parts) (joined_by parts) 0 (op_count_of parts) (λ clique u from below here. joined_is_clique parts clique u (omega arith) here) first
    is

joined_has : (parts : Parts) (clique u k : ℕ) → IsBitSet clique k → IsBitSet (joined_by parts clique u) k
joined_has parts clique u k has =
    elim (cases_Bool (is_within clique (refused_mask_of parts u))) [
      | inl joins ↦ rw joins ((with_member-has clique u k).1 (inl has))
      | inr stays ↦ rw stays has
    ]

clique_from-has : (parts : Parts) (first k : ℕ) → IsBitSet first k → IsBitSet (clique_from parts first) k
unfolding clique_from
clique_from-has parts first k has =
    kept_along (λ (clique : ℕ). IsBitSet clique k) (joined_by parts) 0 (op_count_of parts) (λ clique u from below here. joined_has parts clique u k here) first
    has

-- ---- the list of them

with_pair-cliques : (parts : Parts) (v w : ℕ) (cliques : List ℕ) → v < op_count_of parts → w < op_count_of parts → All (IsClique parts) cliques →
    All (IsClique parts) (with_pair parts v cliques w)
with_pair-cliques parts v w cliques first second each =
    elim (cases_Bool (refused_at_once_of parts v w && not (list_any (is_within (pair_of v w)) cliques))) [
      | inl adds ↦
          let both = and_parts (refused_at_once_of parts v w) (not (list_any (is_within (pair_of v w)) cliques)) adds in
          rw adds (All-push (IsClique parts) cliques (clique_from parts (pair_of v w)) each
          (clique_from-is parts (pair_of v w) (pair_is_clique parts v w first second both.0)))
      | inr stays ↦ rw stays each
    ]

with_pairs-cliques : (parts : Parts) (v : ℕ) (cliques : List ℕ) → v < op_count_of parts → All (IsClique parts) cliques →
    All (IsClique parts) (with_pairs parts cliques v)
with_pairs-cliques parts v cliques known each =
    kept_along (All (IsClique parts)) (with_pair parts v) v (op_count_of parts - v)
    (λ list w from below here. with_pair-cliques parts v w list known (omega arith) here) cliques each

pub each_is_clique : (parts : Parts) → EachIsClique parts
unfolding cliques_of
each_is_clique parts =
    kept_along (All (IsClique parts)) (with_pairs parts) 0 (op_count_of parts) (λ list v from below here. with_pairs-cliques parts v list (omega arith) here) []
    (All-nil (IsClique parts))

-- ---- each pair is covered

-- some clique of the list has both
Covered : ℕ → ℕ → List ℕ → Type 0
Covered v w cliques = (i : ℕ) × (i < length cliques) × HasBoth v w (get_or cliques i 0)

covered_push : (v w clique : ℕ) (cliques : List ℕ) → Covered v w cliques → Covered v w (cliques ++ clique ∷ [])
unfolding Covered
covered_push v w clique cliques (i, within, has) =
    let longer = length_push cliques clique in
    (i, omega arith, subst (HasBoth v w) (sym (get_or_append_left cliques (clique ∷ []) 0 i within)) has)

covered_last : (v w clique : ℕ) (cliques : List ℕ) → HasBoth v w clique → Covered v w (cliques ++ clique ∷ [])
unfolding Covered
covered_last v w clique cliques has =
    let longer = length_push cliques clique in
    (length cliques, omega arith, subst (HasBoth v w) (sym (get_or_push cliques clique 0 (length cliques) refl)) has)

covered_found : (v w : ℕ) (cliques : List ℕ) → list_any (is_within (pair_of v w)) cliques ≡ true → Covered v w cliques
unfolding Covered
covered_found v w [] found = cc
covered_found v w (clique ∷ cliques) found =
    elim (cases_Bool (is_within (pair_of v w) clique)) [
      | inl here ↦ (
        0,
        omega arith,
        record {
          first = member_within (pair_of v w) clique v here ((pair_of-has v w v).1 (inl refl));
          second = member_within (pair_of v w) clique w here ((pair_of-has v w w).1 (inr refl));
        },
      )
      | inr not_here ↦
          let later = rw not_here at found in
          let (i, within, has) = covered_found v w cliques later in (suc i, omega arith, has)
    ]

with_pair-keeps : (parts : Parts) (a b v w : ℕ) (cliques : List ℕ) → Covered a b cliques → Covered a b (with_pair parts v cliques w)
with_pair-keeps parts a b v w cliques covered =
    elim (cases_Bool (refused_at_once_of parts v w && not (list_any (is_within (pair_of v w)) cliques))) [
      | inl adds ↦ rw adds (covered_push a b (clique_from parts (pair_of v w)) cliques covered)
      | inr stays ↦ rw stays covered
    ]

with_pair-covers : (parts : Parts) (v w : ℕ) (cliques : List ℕ) → refused_at_once_of parts v w ≡ true → Covered v w (with_pair parts v cliques w)
with_pair-covers parts v w cliques refused =
    elim (cases_Bool (list_any (is_within (pair_of v w)) cliques)) [
      | inl found ↦ rw (refused, found) (covered_found v w cliques found)
      | inr missing ↦ rw (refused, missing) (covered_last v w (clique_from parts (pair_of v w)) cliques (record {
        first = clique_from-has parts (pair_of v w) v ((pair_of-has v w v).1 (inl refl));
        second = clique_from-has parts (pair_of v w) w ((pair_of-has v w w).1 (inr refl));
      }))
    ]

-- a step of a loop gives what all later ones keep
reached_along : {S : Type 0} (P : S → Type 0) (f : S → ℕ → S) (a n u : ℕ) → ((s : S) (k : ℕ) → P s → P (f s k)) → ((s : S) → P (f s u)) → a ≤ u → u < a + n →
    (s : S) → P (fold f s (range_with_len a n))
reached_along P f a zero u keeps gives from below s = absurd (omega arith)
reached_along P f a (suc n) u keeps gives from below s =
    elim (cases_eq u a) [
      | inl is ↦ kept_along P f (a + 1) n (λ t k l m. keeps t k) (f s a) (subst (λ (k : ℕ). P (f s k)) is (gives s))
      | inr later ↦ reached_along P f (a + 1) n u keeps gives (omega arith) (omega arith) (f s a)
    ]

with_pairs-keeps : (parts : Parts) (a b v : ℕ) (cliques : List ℕ) → Covered a b cliques → Covered a b (with_pairs parts cliques v)
with_pairs-keeps parts a b v cliques covered =
    kept_along (Covered a b) (with_pair parts v) v (op_count_of parts - v) (λ list w from below here. with_pair-keeps parts a b v w list here) cliques covered

rising_pair : (parts : Parts) (v w : ℕ) → v ≤ w → w < op_count_of parts → refused_at_once_of parts v w ≡ true → Covered v w (cliques_of parts)
unfolding cliques_of
rising_pair parts v w order known refused =
    reached_along (Covered v w) (with_pairs parts) 0 (op_count_of parts) v
    (λ list k here. with_pairs-keeps parts v w k list here)
    (λ list. reached_along (Covered v w) (with_pair parts v) v (op_count_of parts - v) w (λ cliques k here. with_pair-keeps parts v w v k cliques here)
    (λ cliques. with_pair-covers parts v w cliques refused) order (omega arith) list)
    (omega arith) (omega arith) []

pub each_pair_is_covered : (parts : Parts) → EachPairIsCovered parts
unfolding Covered
each_pair_is_covered parts v w first second refused =
    elim (cases_lt w v) [
      | inr order ↦ rising_pair parts v w order second refused
      | inl back ↦
          let (i, within, has) = rising_pair parts w v (omega arith) first (refused_at_once_of-symmetric parts w v ∙ refused) in
          (i, within, record { first = has.second; second = has.first })
    ]

-- the set of operation u, as the table has it, is asked
pub joined_step : (parts : Parts) (first u clique next : ℕ) (b : Bool) → u < op_count_of parts → clique ≡ fold (joined_by parts) first (range_with_len 0 u) →
    is_within clique (get_or (refused_masks_of parts) u 0) ≡ b → next ≡ (if b then with_member clique u else clique) →
    next ≡ fold (joined_by parts) first (range_with_len 0 (u + 1))
joined_step parts first u clique next b known is asked step =
    let test = ap (is_within clique) (sym (refused_masks-at parts u known)) ∙ asked in
    step ∙ ap (λ (c : Bool). if c then with_member clique u else clique) (sym test)
    ∙ ap (λ (s : ℕ). joined_by parts s u) is ∙ sym (one_more (joined_by parts) first u)
