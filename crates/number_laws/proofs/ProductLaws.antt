-- Products of whole numbers of either sign.
use Rattle.std.proofs.Common.{◌≡◌, ℕ, suc, zero, ℤ, pos, neg_ℤ, ◌+ℤ◌, ◌-ℤ◌, ◌*ℤ◌, ◌≤ℤ◌, ap, sym, ◌∙◌, arith}
use Rattle.std.proofs.Math.IntN.{ℤ_ind, suc_ℤ-*ℤ, pred_ℤ-*ℤ, +ℤ_one, -ℤ_one, *ℤ_comm, zero-*ℤ}
use Rattle.std.proofs.lemmas.Int.{ints}

one_more : (a k : ℤ) → (a +ℤ pos 1) *ℤ k ≡ (a *ℤ k) +ℤ k
one_more a k = ap (λ (b : ℤ). b *ℤ k) (+ℤ_one a) ∙ suc_ℤ-*ℤ a k

one_less : (a k : ℤ) → (a +ℤ neg_ℤ (pos 1)) *ℤ k ≡ (a *ℤ k) -ℤ k
one_less a k = ap (λ (b : ℤ). b *ℤ k) (-ℤ_one a) ∙ pred_ℤ-*ℤ a k

distributes_more : (a b c : ℤ) → a *ℤ (b +ℤ c) ≡ (a *ℤ b) +ℤ (a *ℤ c) → (a +ℤ pos 1) *ℤ (b +ℤ c) ≡ ((a +ℤ pos 1) *ℤ b) +ℤ ((a +ℤ pos 1) *ℤ c)
distributes_more a b c here = omega (arith, ints, here, one_more a (b +ℤ c), one_more a b, one_more a c)

distributes_less : (a b c : ℤ) → a *ℤ (b +ℤ c) ≡ (a *ℤ b) +ℤ (a *ℤ c) → (a +ℤ neg_ℤ (pos 1)) *ℤ (b +ℤ c) ≡ ((a +ℤ neg_ℤ (pos 1)) *ℤ b)
    +ℤ ((a +ℤ neg_ℤ (pos 1)) *ℤ c)
distributes_less a b c here = omega (arith, ints, here, one_less a (b +ℤ c), one_less a b, one_less a c)

distributes_zero : (b c : ℤ) → pos 0 *ℤ (b +ℤ c) ≡ (pos 0 *ℤ b) +ℤ (pos 0 *ℤ c)
distributes_zero b c = omega (arith, ints, zero-*ℤ (b +ℤ c), zero-*ℤ b, zero-*ℤ c)

pub product-sum : (a b c : ℤ) → a *ℤ (b +ℤ c) ≡ (a *ℤ b) +ℤ (a *ℤ c)
product-sum a b c =
    ℤ_ind (λ (z : ℤ). z *ℤ (b +ℤ c) ≡ (z *ℤ b) +ℤ (z *ℤ c)) (distributes_zero b c)
    (λ (n : ℕ). distributes_more (pos n) b c) (λ (n : ℕ). distributes_less (neg_ℤ (pos n)) b c) a

pub sum-product : (a b c : ℤ) → (a +ℤ b) *ℤ c ≡ (a *ℤ c) +ℤ (b *ℤ c)
sum-product a b c = omega (arith, ints, *ℤ_comm (a +ℤ b) c, *ℤ_comm a c, *ℤ_comm b c, product-sum c a b)

pub product-negative : (a b : ℤ) → a *ℤ neg_ℤ b ≡ neg_ℤ (a *ℤ b)
product-negative a b =
    let whole = product-sum a b (neg_ℤ b) in
    let none : b +ℤ neg_ℤ b ≡ pos 0 = omega (arith, ints) in
    let zeros : a *ℤ (b +ℤ neg_ℤ b) ≡ pos 0 = ap (λ (z : ℤ). a *ℤ z) none ∙ (*ℤ_comm a (pos 0) ∙ zero-*ℤ a) in
    omega (arith, ints, whole, zeros)

pub negative-product : (a b : ℤ) → neg_ℤ a *ℤ b ≡ neg_ℤ (a *ℤ b)
negative-product a b = *ℤ_comm (neg_ℤ a) b ∙ (product-negative b a ∙ ap neg_ℤ (*ℤ_comm b a))

pub difference-product : (a b c : ℤ) → (a -ℤ b) *ℤ c ≡ (a *ℤ c) -ℤ (b *ℤ c)
difference-product a b c = sum-product a (neg_ℤ b) c ∙ ap (λ (z : ℤ). (a *ℤ c) +ℤ z) (negative-product b c)

pub product-assoc : (a b c : ℤ) → (a *ℤ b) *ℤ c ≡ a *ℤ (b *ℤ c)
product-assoc a b c =
    ℤ_ind (λ (z : ℤ). (z *ℤ b) *ℤ c ≡ z *ℤ (b *ℤ c))
    (ap (λ (z : ℤ). z *ℤ c) (zero-*ℤ b) ∙ (zero-*ℤ c ∙ sym (zero-*ℤ (b *ℤ c))))
    (λ (n : ℕ) h. ap (λ (z : ℤ). z *ℤ c) (one_more (pos n) b)
    ∙ (sum-product (pos n *ℤ b) b c ∙ (ap (λ (z : ℤ). z +ℤ (b *ℤ c)) h ∙ sym (one_more (pos n) (b *ℤ c)))))
    (λ (n : ℕ) h. ap (λ (z : ℤ). z *ℤ c) (one_less (neg_ℤ (pos n)) b)
    ∙ (difference-product (neg_ℤ (pos n) *ℤ b) b c ∙ (ap (λ (z : ℤ). z -ℤ (b *ℤ c)) h ∙ sym (one_less (neg_ℤ (pos n)) (b *ℤ c)))))
    a

-- a multiple by a natural number keeps the order
pub product-monotone : (k : ℕ) (a b : ℤ) → a ≤ℤ b → (pos k *ℤ a) ≤ℤ (pos k *ℤ b)
product-monotone zero a b below = omega (arith, ints, zero-*ℤ a, zero-*ℤ b)
product-monotone (suc k) a b below =
    let rest = product-monotone k a b below in
    let first : pos (suc k) ≡ pos k +ℤ pos 1 = omega (arith, ints) in
    let left : pos (suc k) *ℤ a ≡ (pos k *ℤ a) +ℤ a = ap (λ (z : ℤ). z *ℤ a) first ∙ one_more (pos k) a in
    let right : pos (suc k) *ℤ b ≡ (pos k *ℤ b) +ℤ b = ap (λ (z : ℤ). z *ℤ b) first ∙ one_more (pos k) b in
    omega (arith, ints, rest, left, right)
