-- The laws of normal words.
use Rattle.std.proofs.Common.{◌≡◌, ℕ, ◌<◌, ◌⊎◌, List, [], ◌∷◌, ◌++◌, length, inl, inr, refl, sym, ◌∙◌, ap, arith, append_assoc, append-nil, subst, ◌+◌, take, drop, get_or}
use Rattle.std.specs.Prelude.{◌↔◌, IsBitSet, fold, Some}
use Rattle.std.proofs.lemmas.List.{same_from_push, take_more, take-append-drop}
use Rattle.std.proofs.lemmas.List.Sums.{fold-append}
use Rattle.std.proofs.lemmas.Nat.Bits.{bit_at-zero}
use Rattle.std.proofs.lemmas.List.Elements.{All-nil, All-push, All-pop}
use Rattle.number_laws.proofs.BitLaws.{one_from_set}
use Rattle.slot_automaton.specs.Independence.{IsIndependent}
use Rattle.slot_automaton.specs.Normal.{IsNormal, IsOutOfOrder}
use Rattle.slot_automaton.specs.Blocked.{next_blocked, blocked_after, ClosesPart}
use Rattle.slot_automaton.specs.Laws.{EmptyIsNormal, PartsAreNormal, BlockedAreClosing, NormalGrows, BlockedGrow}
use Rattle.slot_automaton.proofs.MaskLaws.{set_next}

-- a list is empty or has a last element
pub from_end : (xs : List ℕ) → (xs ≡ []) ⊎ ((front : List ℕ) × (last : ℕ) × (xs ≡ front ++ last ∷ []))
from_end [] = inl refl
from_end (x ∷ xs) =
    elim (from_end xs) [
      | inl none ↦ inr ([], x, ap (λ (tail : List ℕ). x ∷ tail) none)
      | inr (front, last, is) ↦ inr (x ∷ front, last, ap (λ (tail : List ℕ). x ∷ tail) is)
    ]

module _ (masks : List ℕ) where
  -- a part that ends at the last letter `x`: it is that letter alone, or goes on from an earlier one
  pub closes_split :
      (word : List ℕ) (x a : ℕ)
      → ClosesPart masks (word ++ x ∷ []) a
      → IsIndependent masks a x × (ClosesPart masks word a ⊎ (a < x))
  closes_split word x a (before, u, b, is, out) =
      elim (from_end u) [
        | inl none ↦
            let same = same_from_push word before x b (is ∙ ap (λ (tail : List ℕ). before ++ b ∷ tail) none) in (
              subst (λ (y : ℕ). IsIndependent masks a y) (sym same.1) out.of_first,
              inr (subst (λ (y : ℕ). a < y) (sym same.1) out.less),
            )
        | inr (front, last, is_u) ↦
            let joined : word ++ x ∷ [] ≡ (before ++ b ∷ front) ++ last ∷ [] =
            is ∙ ap (λ (tail : List ℕ). before ++ b ∷ tail) is_u ∙ sym (append_assoc before (b ∷ front) (last ∷ [])) in
            let same = same_from_push word (before ++ b ∷ front) x last joined in
            let each = All-pop (λ (y : ℕ). IsIndependent masks a y) u front (Some last) is_u out.of_between in (
              subst (λ (y : ℕ). IsIndependent masks a y) (sym same.1) each.1,
              inl (before, front, b, same.0, record { less = out.less; of_first = out.of_first; of_between = each.0 }),
            )
      ]

  pub closes_longer :
      (word : List ℕ) (x a : ℕ) → IsIndependent masks a x → ClosesPart masks word a → ClosesPart masks (word ++ x ∷ []) a
  closes_longer word x a independent (before, u, b, is, out) = (
    before,
    u ++ x ∷ [],
    b,
    ap (λ (front : List ℕ). front ++ x ∷ []) is ∙ append_assoc before (b ∷ u) (x ∷ []),
    record {
      less = out.less;
      of_first = out.of_first;
      of_between = All-push (λ (y : ℕ). IsIndependent masks a y) u x out.of_between independent;
    },
  )

  -- one more letter
  pub closes_more :
      (word : List ℕ) (x a : ℕ)
      → ClosesPart masks (word ++ x ∷ []) a ↔ (IsIndependent masks a x × (ClosesPart masks word a ⊎ (a < x)))
  closes_more word x a = (
    closes_split word x a,
    λ (independent, either).
        elim either [
          | inl closes ↦ closes_longer word x a independent closes
          | inr less ↦ (
            word,
            [],
            x,
            refl,
            record { less = less; of_first = independent; of_between = All-nil (λ (y : ℕ). IsIndependent masks a y) },
          )
        ],
  )

  -- the letters `rest` are read after `read`
  pub blocked_from :
      (read rest : List ℕ) (blocked : ℕ)
      → ((a : ℕ) → IsBitSet blocked a ↔ ClosesPart masks read a)
      → (a : ℕ) → IsBitSet (fold (next_blocked masks) blocked rest) a ↔ ClosesPart masks (read ++ rest) a
  blocked_from read [] blocked before a = rw append-nil (before a)
  blocked_from read (x ∷ rest) blocked before a =
      let next : (c : ℕ) → IsBitSet (next_blocked masks blocked x) c ↔ ClosesPart masks (read ++ x ∷ []) c = λ c. (
        λ set.
            let both = (set_next masks blocked x c).0 set in
            (closes_more read x c).1
            (both.0, elim both.1 [ inl earlier ↦ inl ((before c).0 earlier) | inr less ↦ inr less ]),
        λ closes.
            let both = (closes_more read x c).0 closes in
            (set_next masks blocked x c).1
            (both.0, elim both.1 [ inl earlier ↦ inl ((before c).1 earlier) | inr less ↦ inr less ]),
      ) in
      subst (λ (word : List ℕ). IsBitSet (fold (next_blocked masks) (next_blocked masks blocked x) rest) a ↔ ClosesPart masks word a)
      (append_assoc read (x ∷ []) rest) (blocked_from (read ++ x ∷ []) rest (next_blocked masks blocked x) next a)

-- the empty word has no part
pub no_part : (before u : List ℕ) (b : ℕ) → [] ≡ before ++ b ∷ u → ⊥
no_part [] u b is = cc
no_part (x ∷ before) u b is = cc

pub empty_is_normal : EmptyIsNormal
empty_is_normal masks before u after b a is out =
    no_part before (u ++ a ∷ after) b (is ∙ append_assoc before (b ∷ u) (a ∷ after))

pub parts_are_normal : PartsAreNormal
parts_are_normal masks before word after normal front u back b a is out =
    normal (before ++ front) u (back ++ after) b a
    (ap (λ (part : List ℕ). before ++ part ++ after) is ∙ simp append_assoc) out

pub blocked_are_closing : BlockedAreClosing
blocked_are_closing masks word =
    blocked_from masks [] word 0 (λ a. (
      λ set. absurd (omega (arith, one_from_set 0 a set, bit_at-zero a)),
      λ (before, u, b, is, out). absurd (no_part before u b is),
    ))

-- the last letter closes no part that is out of order
pub grows_by_free :
    (masks word : List ℕ) (a : ℕ)
    → IsNormal masks word
    → ¬ IsBitSet (blocked_after masks word) a
    → IsNormal masks (word ++ a ∷ [])
grows_by_free masks word a normal free before u after b c is out =
    elim (from_end after) [
      | inl none ↦
          let same = same_from_push word (before ++ b ∷ u) a c (is ∙ ap (λ (tail : List ℕ). before ++ b ∷ u ++ c ∷ tail) none) in
          free ((blocked_are_closing masks word a).1 (before, u, b, same.0, subst (λ (y : ℕ). IsOutOfOrder masks b u y) (sym same.1) out))
      | inr (back, last, is_after) ↦
          let joined : word ++ a ∷ [] ≡ (before ++ b ∷ u ++ c ∷ back) ++ last ∷ [] =
          is ∙ ap (λ (tail : List ℕ). before ++ b ∷ u ++ c ∷ tail) is_after
          ∙ sym (append_assoc (before ++ b ∷ u) (c ∷ back) (last ∷ [])) in
          normal before u back b c (same_from_push word (before ++ b ∷ u ++ c ∷ back) a last joined).0 out
    ]

pub normal_grows : NormalGrows
normal_grows masks word a = (
  λ normal. (
    parts_are_normal masks [] word (a ∷ []) normal,
    λ set.
        let (before, u, b, is, out) = (blocked_are_closing masks word a).0 set in
        normal before u [] b a (ap (λ (front : List ℕ). front ++ a ∷ []) is) out,
  ),
  λ both. grows_by_free masks word a both.0 both.1,
)

pub blocked_grow : BlockedGrow
blocked_grow masks word x = fold-append (next_blocked masks) 0 word (x ∷ [])

-- a prefix of a normal word is normal
pub prefix_is_normal : (masks word : List ℕ) (k : ℕ) → IsNormal masks word → IsNormal masks (take k word)
prefix_is_normal masks word k normal =
    parts_are_normal masks [] (take k word) (drop k word) (rw take-append-drop normal)

-- the word up to one more letter
module _ (masks word : List ℕ) (read : ℕ) (inside : read < length word) where
  pub blocked_more :
      blocked_after masks (take (read + 1) word)
      ≡ next_blocked masks (blocked_after masks (take read word)) (get_or word read 0)
  blocked_more = rw (take_more word read 0 inside, fold-append)

  pub normal_more :
      IsNormal masks (take read word)
      → ¬ IsBitSet (blocked_after masks (take read word)) (get_or word read 0)
      → IsNormal masks (take (read + 1) word)
  normal_more normal free =
      rw (take_more word read 0 inside) ((normal_grows masks (take read word) (get_or word read 0)).1 (normal, free))

  pub refused_more :
      IsBitSet (blocked_after masks (take read word)) (get_or word read 0) → ¬ IsNormal masks (take (read + 1) word)
  refused_more set normal =
      let grown : IsNormal masks (take read word ++ get_or word read 0 ∷ []) =
      subst (IsNormal masks) (take_more word read 0 inside) normal in
      ((normal_grows masks (take read word) (get_or word read 0)).0 grown).1 set
