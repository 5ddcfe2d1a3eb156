-- Two operations that are apart move the same, whichever comes first.
use Rattle.std.proofs.Common.{◌≡◌, ◌≢◌, ℕ, ◌+◌, ◌<◌, List, [], ◌∷◌, length, refl, sym, ap, subst, inl, inr, ◌∙◌, arith}
use Rattle.std.proofs.lemmas.List.{ext_get_or}
use Rattle.std.proofs.lemmas.Bool.{cases_eq}
use Rattle.crude_amounts.specs.Amounts.{mix_of, rest_of}
use Rattle.crude_amounts.specs.Draw.{draw_of}
use Rattle.plant_model.specs.declared.parts.Parts.{Parts}
use Rattle.plant_model.specs.Parts.{op_of}
use Rattle.plant_model.specs.Relations.{AreApart}
use Rattle.replay_core.specs.declared.timed.Timed.{Timed}
use Rattle.replay_core.specs.State.{held_of, drawn_of, after_step}
use Rattle.replay_core.proofs.StateLaws.{length-moved, moved-source, moved-target, after-other}

-- the places of the operation are there, and two
pub record HasPlaces (parts : Parts) (state : List (List ℕ)) (t : Timed) : Type 0 where
  pub source : (op_of parts t.op).from < length state
  pub target : (op_of parts t.op).to < length state
  pub apart : (op_of parts t.op).from ≢ (op_of parts t.op).to

-- ---- what a place holds afterwards

pub length-after : (parts : Parts) (state : List (List ℕ)) (t : Timed) → length (after_step parts state t) ≡ length state
unfolding after_step
length-after parts state t = length-moved state (op_of parts t.op).from (op_of parts t.op).to (drawn_of parts state t)

pub after-source : (parts : Parts) (state : List (List ℕ)) (t : Timed) → HasPlaces parts state t → held_of (after_step parts state t) (op_of parts t.op).from
    ≡ rest_of (held_of state (op_of parts t.op).from) (drawn_of parts state t)
unfolding after_step
after-source parts state t has = moved-source state (op_of parts t.op).from (op_of parts t.op).to (drawn_of parts state t) has.source has.apart

pub after-target : (parts : Parts) (state : List (List ℕ)) (t : Timed) → HasPlaces parts state t → held_of (after_step parts state t) (op_of parts t.op).to
    ≡ mix_of (held_of state (op_of parts t.op).to) (drawn_of parts state t)
unfolding after_step
after-target parts state t has = moved-target state (op_of parts t.op).from (op_of parts t.op).to (drawn_of parts state t) has.target has.apart

-- ---- what the second finds

-- the places of the one have nothing to do with those of the other, but that both may fill one
pub record KeepApart (parts : Parts) (s t : Timed) : Type 0 where
  pub sources : (op_of parts s.op).from ≢ (op_of parts t.op).from
  pub first_feeds_not : (op_of parts s.op).to ≢ (op_of parts t.op).from
  pub second_feeds_not : (op_of parts t.op).to ≢ (op_of parts s.op).from

pub keep_apart : (parts : Parts) (s t : Timed) → AreApart parts s.op t.op → KeepApart parts s t
keep_apart parts s t apart = record { sources = apart.sources; first_feeds_not = apart.first_feeds_not; second_feeds_not = apart.second_feeds_not }

pub other_way : (parts : Parts) (s t : Timed) → KeepApart parts s t → KeepApart parts t s
other_way parts s t apart =
    record { sources = λ same. apart.sources (sym same); first_feeds_not = apart.second_feeds_not; second_feeds_not = apart.first_feeds_not }

-- the source of the second is as it was
pub source-kept : (parts : Parts) (state : List (List ℕ)) (s t : Timed) → KeepApart parts s t →
    held_of (after_step parts state s) (op_of parts t.op).from ≡ held_of state (op_of parts t.op).from
source-kept parts state s t apart =
    after-other parts state s (op_of parts t.op).from (λ same. apart.sources (sym same)) (λ same. apart.first_feeds_not (sym same))

-- it draws what it would have drawn
pub draw-kept : (parts : Parts) (state : List (List ℕ)) (s t : Timed) → KeepApart parts s t →
    drawn_of parts (after_step parts state s) t ≡ drawn_of parts state t
unfolding drawn_of
draw-kept parts state s t apart = ap (λ held. draw_of held t.volume) (source-kept parts state s t apart)

-- ---- both, in either order

mixed_either_way : (held first second : List ℕ) → mix_of (mix_of held first) second ≡ mix_of (mix_of held second) first
mixed_either_way [] first second = refl
mixed_either_way (h ∷ held) [] [] = refl
mixed_either_way (h ∷ held) [] (y ∷ second) = refl
mixed_either_way (h ∷ held) (x ∷ first) [] = refl
mixed_either_way (h ∷ held) (x ∷ first) (y ∷ second) =
    let here : h + x + y ≡ h + y + x = omega arith in
    ap (λ n. n ∷ mix_of (mix_of held first) second) here ∙ ap (λ rest. (h + y + x) ∷ rest) (mixed_either_way held first second)

has_places-after : (parts : Parts) (state : List (List ℕ)) (s t : Timed) → HasPlaces parts state t → HasPlaces parts (after_step parts state s) t
has_places-after parts state s t has =
    let count = length-after parts state s in
    let source = has.source in
    let target = has.target in
    record { source = omega arith; target = omega arith; apart = has.apart }

-- what one place holds after both
held-after : (parts : Parts) (state : List (List ℕ)) (s t : Timed) → HasPlaces parts state s → HasPlaces parts state t → KeepApart parts s t → (p : ℕ) →
    held_of (after_step parts (after_step parts state s) t) p ≡ held_of (after_step parts (after_step parts state t) s) p
held-after parts state s t has_s has_t apart p =
    let a = op_of parts s.op in
    let b = op_of parts t.op in
    let after_s = after_step parts state s in
    let after_t = after_step parts state t in
    let at = λ (q : ℕ). held_of (after_step parts after_s t) q ≡ held_of (after_step parts after_t s) q in
    let back = other_way parts s t apart in
    elim (cases_eq p a.from) [
      | inl is ↦
          let first = after-other parts after_s t a.from apart.sources (λ same. apart.second_feeds_not (sym same)) ∙ after-source parts state s has_s in
          let second = after-source parts after_t s (has_places-after parts state t s has_s) in
          let held = ap (λ held. rest_of held (drawn_of parts after_t s)) (source-kept parts state t s back) in
          let drawn = ap (λ drawn. rest_of (held_of state a.from) drawn) (draw-kept parts state t s back) in
          subst at (sym is) (first ∙ sym (second ∙ held ∙ drawn))
      | inr not_a ↦ elim (cases_eq p b.from) [
        | inl is ↦
            let second = after-other parts after_t s b.from (λ same. apart.sources (sym same)) (λ same. apart.first_feeds_not (sym same))
            ∙ after-source parts state t has_t in
            let first = after-source parts after_s t (has_places-after parts state s t has_t) in
            let held = ap (λ held. rest_of held (drawn_of parts after_s t)) (source-kept parts state s t apart) in
            let drawn = ap (λ drawn. rest_of (held_of state b.from) drawn) (draw-kept parts state s t apart) in
            subst at (sym is) (first ∙ held ∙ drawn ∙ sym second)
        | inr not_b ↦ elim (cases_eq p a.to) [
          | inl to_a ↦ elim (cases_eq p b.to) [
            | inl to_b ↦ both_filled parts state s t has_s has_t apart p to_a to_b
            | inr not_to_b ↦ one_filled parts state s t has_s apart p to_a not_b not_to_b
          ]
          | inr not_to_a ↦ elim (cases_eq p b.to) [
            | inl to_b ↦ sym (one_filled parts state t s has_t back p to_b not_a not_to_a)
            | inr not_to_b ↦
                after-other parts after_s t p not_b not_to_b ∙ after-other parts state s p not_a not_to_a
                ∙ sym (after-other parts after_t s p not_a not_to_a ∙ after-other parts state t p not_b not_to_b)
          ]
        ]
      ]
    ]
  where
    filled : (parts : Parts) (state : List (List ℕ)) (t : Timed) (p : ℕ) → HasPlaces parts state t → p ≡ (op_of parts t.op).to →
        held_of (after_step parts state t) p ≡ mix_of (held_of state p) (drawn_of parts state t)
    filled parts state t p has is =
        subst (λ (q : ℕ). held_of (after_step parts state t) q ≡ mix_of (held_of state q) (drawn_of parts state t)) (sym is) (after-target parts state t has)

    both_filled : (parts : Parts) (state : List (List ℕ)) (s t : Timed) → HasPlaces parts state s → HasPlaces parts state t → KeepApart parts s t → (p : ℕ) →
        p ≡ (op_of parts s.op).to → p ≡ (op_of parts t.op).to →
        held_of (after_step parts (after_step parts state s) t) p ≡ held_of (after_step parts (after_step parts state t) s) p
    both_filled parts state s t has_s has_t apart p to_s to_t =
        let after_s = after_step parts state s in
        let after_t = after_step parts state t in
        let first = filled parts after_s t p (has_places-after parts state s t has_t) to_t in
        let second = filled parts after_t s p (has_places-after parts state t s has_s) to_s in
        let held_s = ap (λ held. mix_of held (drawn_of parts after_s t)) (filled parts state s p has_s to_s) in
        let held_t = ap (λ held. mix_of held (drawn_of parts after_t s)) (filled parts state t p has_t to_t) in
        let drawn_t = ap (λ drawn. mix_of (mix_of (held_of state p) (drawn_of parts state s)) drawn) (draw-kept parts state s t apart) in
        let drawn_s = ap (λ drawn. mix_of (mix_of (held_of state p) (drawn_of parts state t)) drawn) (draw-kept parts state t s (other_way parts s t apart)) in
        first ∙ held_s ∙ drawn_t ∙ mixed_either_way (held_of state p) (drawn_of parts state s) (drawn_of parts state t) ∙ sym (second ∙ held_t ∙ drawn_s)

    one_filled : (parts : Parts) (state : List (List ℕ)) (s t : Timed) → HasPlaces parts state s → KeepApart parts s t → (p : ℕ) →
        p ≡ (op_of parts s.op).to → p ≢ (op_of parts t.op).from → p ≢ (op_of parts t.op).to →
        held_of (after_step parts (after_step parts state s) t) p ≡ held_of (after_step parts (after_step parts state t) s) p
    one_filled parts state s t has_s apart p to_s not_from not_to =
        let after_s = after_step parts state s in
        let after_t = after_step parts state t in
        let first = after-other parts after_s t p not_from not_to ∙ filled parts state s p has_s to_s in
        let second = filled parts after_t s p (has_places-after parts state t s has_s) to_s in
        let held = ap (λ held. mix_of held (drawn_of parts after_t s)) (after-other parts state t p not_from not_to) in
        let drawn = ap (λ drawn. mix_of (held_of state p) drawn) (draw-kept parts state t s (other_way parts s t apart)) in
        first ∙ sym (second ∙ held ∙ drawn)

pub moved_either_way : (parts : Parts) (state : List (List ℕ)) (s t : Timed) → HasPlaces parts state s → HasPlaces parts state t → KeepApart parts s t →
    after_step parts (after_step parts state s) t ≡ after_step parts (after_step parts state t) s
moved_either_way parts state s t has_s has_t apart =
    let after_s = after_step parts state s in
    let after_t = after_step parts state t in
    let first = length-after parts after_s t ∙ length-after parts state s in
    let second = length-after parts after_t s ∙ length-after parts state t in
    ext_get_or [] (after_step parts after_s t) (after_step parts after_t s) (first ∙ sym second)
    (λ p within. held-after parts state s t has_s has_t apart p)
