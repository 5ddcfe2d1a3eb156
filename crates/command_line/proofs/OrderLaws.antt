-- Options that stand in some order, each once.
use Rattle.std.proofs.Common.{◌≡◌, ℕ, zero, suc, true, false, List, [], ◌∷◌, length, refl, ap, sym, ◌∙◌, arith, ◌⊎◌, inl, inr}
use Rattle.std.specs.Prelude.{All, Contains, decimal}
use Rattle.std.specs.Str.{bytes_eq}
use Rattle.std.proofs.lemmas.Slice.Eq.{bytes_eq-Decides}
use Rattle.command_line.specs.PlainLine.{option_words}

abbrev pub Text : Type 0
Text = List ℕ

abbrev pub Pair : Type 0
Pair = Text × ℕ

pub differ : (s t : Text) → bytes_eq s t ≡ false → s ≡ t → ⊥
differ s t not same =
    let yes_ : bytes_eq s t ≡ true = (bytes_eq-Decides s t).1 same in
    cc

-- ---- none and one

pub none_given : (given : List Pair) → length given ≡ 0 → given ≡ []
none_given [] none = refl
none_given (p ∷ rest) none = absurd (omega arith)

at_one : (p x : Pair) → Contains (p ∷ []) x → p ≡ x
at_one p x (zero, lt, is) = is
at_one p x (suc k, lt, is) = absurd (omega arith)

pub one_given : (x : Pair) (given : List Pair) → All (Contains given) (x ∷ []) → length given ≡ 1 → given ≡ x ∷ []
one_given x [] each one = absurd (omega arith)
one_given x (p ∷ []) each one = ap (λ q. q ∷ []) (at_one p x (each 0 x (omega arith)))
one_given x (p ∷ q ∷ rest) each one = absurd (omega arith)

pub all_none : (given : List Pair) → All (Contains given) []
all_none given k d lt = absurd (omega arith)

pub all_one : (x : Pair) → All (Contains (x ∷ [])) (x ∷ [])
all_one x zero d lt = (0, omega arith, refl)
all_one x (suc k) d lt = absurd (omega arith)

-- ---- three

at_three : (p q r x : Pair) → Contains (p ∷ q ∷ r ∷ []) x → (p ≡ x) ⊎ ((q ≡ x) ⊎ (r ≡ x))
at_three p q r x (zero, lt, is) = inl is
at_three p q r x (suc zero, lt, is) = inr (inl is)
at_three p q r x (suc (suc zero), lt, is) = inr (inr is)
at_three p q r x (suc (suc (suc k)), lt, is) = absurd (omega arith)

all_three : (given : List Pair) (a b c : Pair) → Contains given a → Contains given b → Contains given c → All (Contains given) (a ∷ b ∷ c ∷ [])
all_three given a b c at_a at_b at_c zero d lt = at_a
all_three given a b c at_a at_b at_c (suc zero) d lt = at_b
all_three given a b c at_a at_b at_c (suc (suc zero)) d lt = at_c
all_three given a b c at_a at_b at_c (suc (suc (suc k))) d lt = absurd (omega arith)

-- what holds of the six orders of three options holds of them as they are given
module _ (a b c : Pair) (ab : a.0 ≡ b.0 → ⊥) (ac : a.0 ≡ c.0 → ⊥) (bc : b.0 ≡ c.0 → ⊥) (P : List Pair → Type 0) (abc : P (a ∷ b ∷ c ∷ []))
    (acb : P (a ∷ c ∷ b ∷ [])) (bac : P (b ∷ a ∷ c ∷ [])) (bca : P (b ∷ c ∷ a ∷ [])) (cab : P (c ∷ a ∷ b ∷ [])) (cba : P (c ∷ b ∷ a ∷ [])) where
  both_ab : (p : Pair) → p ≡ a → p ≡ b → ⊥
  both_ab p pa pb = ab (ap (λ x. x.0) (sym pa ∙ pb))

  both_ac : (p : Pair) → p ≡ a → p ≡ c → ⊥
  both_ac p pa pc = ac (ap (λ x. x.0) (sym pa ∙ pc))

  both_bc : (p : Pair) → p ≡ b → p ≡ c → ⊥
  both_bc p pb pc = bc (ap (λ x. x.0) (sym pb ∙ pc))

  from_places : (p q r : Pair) → (p ≡ a) ⊎ ((q ≡ a) ⊎ (r ≡ a)) → (p ≡ b) ⊎ ((q ≡ b) ⊎ (r ≡ b)) → (p ≡ c) ⊎ ((q ≡ c) ⊎ (r ≡ c)) → P (p ∷ q ∷ r ∷ [])
  from_places p q r (inl pa) (inl pb) at_c = absurd (both_ab p pa pb)
  from_places p q r (inl pa) (inr (inl qb)) (inl pc) = absurd (both_ac p pa pc)
  from_places p q r (inl pa) (inr (inl qb)) (inr (inl qc)) = absurd (both_bc q qb qc)
  from_places p q r (inl pa) (inr (inl qb)) (inr (inr rc)) = rw (pa, qb, rc) abc
  from_places p q r (inl pa) (inr (inr rb)) (inl pc) = absurd (both_ac p pa pc)
  from_places p q r (inl pa) (inr (inr rb)) (inr (inl qc)) = rw (pa, qc, rb) acb
  from_places p q r (inl pa) (inr (inr rb)) (inr (inr rc)) = absurd (both_bc r rb rc)
  from_places p q r (inr (inl qa)) (inl pb) (inl pc) = absurd (both_bc p pb pc)
  from_places p q r (inr (inl qa)) (inl pb) (inr (inl qc)) = absurd (both_ac q qa qc)
  from_places p q r (inr (inl qa)) (inl pb) (inr (inr rc)) = rw (pb, qa, rc) bac
  from_places p q r (inr (inl qa)) (inr (inl qb)) at_c = absurd (both_ab q qa qb)
  from_places p q r (inr (inl qa)) (inr (inr rb)) (inl pc) = rw (pc, qa, rb) cab
  from_places p q r (inr (inl qa)) (inr (inr rb)) (inr (inl qc)) = absurd (both_ac q qa qc)
  from_places p q r (inr (inl qa)) (inr (inr rb)) (inr (inr rc)) = absurd (both_bc r rb rc)
  from_places p q r (inr (inr ra)) (inl pb) (inl pc) = absurd (both_bc p pb pc)
  from_places p q r (inr (inr ra)) (inl pb) (inr (inl qc)) = rw (pb, qc, ra) bca
  from_places p q r (inr (inr ra)) (inl pb) (inr (inr rc)) = absurd (both_ac r ra rc)
  from_places p q r (inr (inr ra)) (inr (inl qb)) (inl pc) = rw (pc, qb, ra) cba
  from_places p q r (inr (inr ra)) (inr (inl qb)) (inr (inl qc)) = absurd (both_bc q qb qc)
  from_places p q r (inr (inr ra)) (inr (inl qb)) (inr (inr rc)) = absurd (both_ac r ra rc)
  from_places p q r (inr (inr ra)) (inr (inr rb)) at_c = absurd (both_ab r ra rb)

  pub in_each_order : (given : List Pair) → All (Contains given) (a ∷ b ∷ c ∷ []) → length given ≡ 3 → P given
  in_each_order [] each three = absurd (omega arith)
  in_each_order (p ∷ []) each three = absurd (omega arith)
  in_each_order (p ∷ q ∷ []) each three = absurd (omega arith)
  in_each_order (p ∷ q ∷ r ∷ []) each three =
      from_places p q r (at_three p q r a (each 0 a (omega arith))) (at_three p q r b (each 1 a (omega arith))) (at_three p q r c (each 2 a (omega arith)))
  in_each_order (p ∷ q ∷ r ∷ s ∷ rest) each three = absurd (omega arith)

-- three options stand behind one another in these six words
pub record AreOptions (words : List Text) (x y z : Pair) : Type 0 where
  pub given : List Pair
  pub each : All (Contains given) (x ∷ y ∷ z ∷ [])
  pub as_many : length given ≡ 3
  pub words_are : words ≡ option_words given

-- an option stands in one of three places
abbrev pub Stands : Pair → (u0 v0 u1 v1 u2 v2 : Text) → Type 0
Stands x u0 v0 u1 v1 u2 v2 = ((u0 ≡ x.0) × (v0 ≡ decimal x.1)) ⊎ (((u1 ≡ x.0) × (v1 ≡ decimal x.1)) ⊎ ((u2 ≡ x.0) × (v2 ≡ decimal x.1)))

module _ (a b c : Pair) (ab : a.0 ≡ b.0 → ⊥) (ac : a.0 ≡ c.0 → ⊥) (bc : b.0 ≡ c.0 → ⊥) where
  ordered : (x y z : Pair) (u0 v0 u1 v1 u2 v2 : Text) → (u0 ≡ x.0) × (v0 ≡ decimal x.1) → (u1 ≡ y.0) × (v1 ≡ decimal y.1) → (u2 ≡ z.0) × (v2 ≡ decimal z.1) →
      All (Contains (x ∷ y ∷ z ∷ [])) (a ∷ b ∷ c ∷ []) → AreOptions (u0 ∷ v0 ∷ u1 ∷ v1 ∷ u2 ∷ v2 ∷ []) a b c
  ordered x y z u0 v0 u1 v1 u2 v2 at0 at1 at2 each = record {
    given = x ∷ y ∷ z ∷ [];
    each = each;
    as_many = refl;
    words_are = rw (at0.0, at0.1, at1.0, at1.1, at2.0, at2.1) refl;
  }

  clash_ab : (u v w : Text) → (u ≡ a.0) × (v ≡ decimal a.1) → (u ≡ b.0) × (w ≡ decimal b.1) → ⊥
  clash_ab u v w at_a at_b = ab (sym at_a.0 ∙ at_b.0)

  clash_ac : (u v w : Text) → (u ≡ a.0) × (v ≡ decimal a.1) → (u ≡ c.0) × (w ≡ decimal c.1) → ⊥
  clash_ac u v w at_a at_c = ac (sym at_a.0 ∙ at_c.0)

  clash_bc : (u v w : Text) → (u ≡ b.0) × (v ≡ decimal b.1) → (u ≡ c.0) × (w ≡ decimal c.1) → ⊥
  clash_bc u v w at_b at_c = bc (sym at_b.0 ∙ at_c.0)

  pub in_some_order : (u0 v0 u1 v1 u2 v2 : Text) → Stands a u0 v0 u1 v1 u2 v2 → Stands b u0 v0 u1 v1 u2 v2 → Stands c u0 v0 u1 v1 u2 v2 →
      AreOptions (u0 ∷ v0 ∷ u1 ∷ v1 ∷ u2 ∷ v2 ∷ []) a b c
  in_some_order u0 v0 u1 v1 u2 v2 (inl a0) (inl b0) at_c = absurd (clash_ab u0 v0 v0 a0 b0)
  in_some_order u0 v0 u1 v1 u2 v2 (inl a0) (inr (inl b1)) (inl c0) = absurd (clash_ac u0 v0 v0 a0 c0)
  in_some_order u0 v0 u1 v1 u2 v2 (inl a0) (inr (inl b1)) (inr (inl c1)) = absurd (clash_bc u1 v1 v1 b1 c1)
  in_some_order u0 v0 u1 v1 u2 v2 (inl a0) (inr (inl b1)) (inr (inr c2)) =
      ordered a b c u0 v0 u1 v1 u2 v2 a0 b1 c2 (all_three (a ∷ b ∷ c ∷ []) a b c (0, omega arith, refl) (1, omega arith, refl) (2, omega arith, refl))
  in_some_order u0 v0 u1 v1 u2 v2 (inl a0) (inr (inr b2)) (inl c0) = absurd (clash_ac u0 v0 v0 a0 c0)
  in_some_order u0 v0 u1 v1 u2 v2 (inl a0) (inr (inr b2)) (inr (inl c1)) =
      ordered a c b u0 v0 u1 v1 u2 v2 a0 c1 b2 (all_three (a ∷ c ∷ b ∷ []) a b c (0, omega arith, refl) (2, omega arith, refl) (1, omega arith, refl))
  in_some_order u0 v0 u1 v1 u2 v2 (inl a0) (inr (inr b2)) (inr (inr c2)) = absurd (clash_bc u2 v2 v2 b2 c2)
  in_some_order u0 v0 u1 v1 u2 v2 (inr (inl a1)) (inl b0) (inl c0) = absurd (clash_bc u0 v0 v0 b0 c0)
  in_some_order u0 v0 u1 v1 u2 v2 (inr (inl a1)) (inl b0) (inr (inl c1)) = absurd (clash_ac u1 v1 v1 a1 c1)
  in_some_order u0 v0 u1 v1 u2 v2 (inr (inl a1)) (inl b0) (inr (inr c2)) =
      ordered b a c u0 v0 u1 v1 u2 v2 b0 a1 c2 (all_three (b ∷ a ∷ c ∷ []) a b c (1, omega arith, refl) (0, omega arith, refl) (2, omega arith, refl))
  in_some_order u0 v0 u1 v1 u2 v2 (inr (inl a1)) (inr (inl b1)) at_c = absurd (clash_ab u1 v1 v1 a1 b1)
  in_some_order u0 v0 u1 v1 u2 v2 (inr (inl a1)) (inr (inr b2)) (inl c0) =
      ordered c a b u0 v0 u1 v1 u2 v2 c0 a1 b2 (all_three (c ∷ a ∷ b ∷ []) a b c (1, omega arith, refl) (2, omega arith, refl) (0, omega arith, refl))
  in_some_order u0 v0 u1 v1 u2 v2 (inr (inl a1)) (inr (inr b2)) (inr (inl c1)) = absurd (clash_ac u1 v1 v1 a1 c1)
  in_some_order u0 v0 u1 v1 u2 v2 (inr (inl a1)) (inr (inr b2)) (inr (inr c2)) = absurd (clash_bc u2 v2 v2 b2 c2)
  in_some_order u0 v0 u1 v1 u2 v2 (inr (inr a2)) (inl b0) (inl c0) = absurd (clash_bc u0 v0 v0 b0 c0)
  in_some_order u0 v0 u1 v1 u2 v2 (inr (inr a2)) (inl b0) (inr (inl c1)) =
      ordered b c a u0 v0 u1 v1 u2 v2 b0 c1 a2 (all_three (b ∷ c ∷ a ∷ []) a b c (2, omega arith, refl) (0, omega arith, refl) (1, omega arith, refl))
  in_some_order u0 v0 u1 v1 u2 v2 (inr (inr a2)) (inl b0) (inr (inr c2)) = absurd (clash_ac u2 v2 v2 a2 c2)
  in_some_order u0 v0 u1 v1 u2 v2 (inr (inr a2)) (inr (inl b1)) (inl c0) =
      ordered c b a u0 v0 u1 v1 u2 v2 c0 b1 a2 (all_three (c ∷ b ∷ a ∷ []) a b c (2, omega arith, refl) (1, omega arith, refl) (0, omega arith, refl))
  in_some_order u0 v0 u1 v1 u2 v2 (inr (inr a2)) (inr (inl b1)) (inr (inl c1)) = absurd (clash_bc u1 v1 v1 b1 c1)
  in_some_order u0 v0 u1 v1 u2 v2 (inr (inr a2)) (inr (inl b1)) (inr (inr c2)) = absurd (clash_ac u2 v2 v2 a2 c2)
  in_some_order u0 v0 u1 v1 u2 v2 (inr (inr a2)) (inr (inr b2)) at_c = absurd (clash_ab u2 v2 v2 a2 b2)
