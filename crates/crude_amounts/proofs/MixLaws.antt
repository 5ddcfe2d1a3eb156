-- Laws of adding to amounts and of taking from them.
use Rattle.std.proofs.Common.{◌≡◌, ℕ, zero, suc, ◌+◌, ◌-◌, ◌<◌, ◌≤◌, List, [], ◌∷◌, length, take, set, get_or, sum, ap, refl, arith}
use Rattle.crude_amounts.specs.Amounts.{mix_of, rest_of}
use Rattle.crude_amounts.proofs.DrawLaws.{sum-cons}

pub length-mix_of : (held more : List ℕ) → length (mix_of held more) ≡ length held
length-mix_of [] more = refl
length-mix_of (x ∷ held) [] = refl
length-mix_of (x ∷ held) (y ∷ more) = ap suc (length-mix_of held more)

pub length-rest_of : (held drawn : List ℕ) → length (rest_of held drawn) ≡ length held
length-rest_of [] drawn = refl
length-rest_of (x ∷ held) [] = refl
length-rest_of (x ∷ held) (y ∷ drawn) = ap suc (length-rest_of held drawn)

pub mix_of-nothing : (held : List ℕ) → mix_of held [] ≡ held
mix_of-nothing [] = refl
mix_of-nothing (x ∷ held) = refl

pub rest_of-nothing : (held : List ℕ) → rest_of held [] ≡ held
rest_of-nothing [] = refl
rest_of-nothing (x ∷ held) = refl

pub sum-mix_of : (held more : List ℕ) → length more ≡ length held → sum (mix_of held more) ≡ sum held + sum more
sum-mix_of [] [] same = refl
sum-mix_of [] (y ∷ more) same = absurd (omega arith)
sum-mix_of (x ∷ held) [] same = absurd (omega arith)
sum-mix_of (x ∷ held) (y ∷ more) same = omega (arith, sum-cons (x + y) (mix_of held more), sum-cons x held, sum-cons y more, sum-mix_of held more (omega arith))

-- where no more is taken than is there
pub sum-rest_of : (held drawn : List ℕ) → length drawn ≡ length held → ((c : ℕ) → get_or drawn c 0 ≤ get_or held c 0) → sum (rest_of held drawn) + sum drawn
    ≡ sum held
sum-rest_of [] [] same there = refl
sum-rest_of [] (y ∷ drawn) same there = absurd (omega arith)
sum-rest_of (x ∷ held) [] same there = absurd (omega arith)
sum-rest_of (x ∷ held) (y ∷ drawn) same there =
    let first : y ≤ x = there 0 in
    omega (arith, sum-cons (x - y) (rest_of held drawn), sum-cons x held, sum-cons y drawn, sum-rest_of held drawn (omega arith) (λ c. there (suc c)))

-- crude i is not reached while only the first i are added or taken
pub mix_of-before : (held more : List ℕ) (i : ℕ) → get_or (mix_of held (take i more)) i 0 ≡ get_or held i 0
mix_of-before [] more i = refl
mix_of-before (x ∷ held) [] zero = refl
mix_of-before (x ∷ held) [] (suc i) = refl
mix_of-before (x ∷ held) (y ∷ more) zero = refl
mix_of-before (x ∷ held) (y ∷ more) (suc i) = mix_of-before held more i

pub rest_of-before : (held drawn : List ℕ) (i : ℕ) → get_or (rest_of held (take i drawn)) i 0 ≡ get_or held i 0
rest_of-before [] drawn i = refl
rest_of-before (x ∷ held) [] zero = refl
rest_of-before (x ∷ held) [] (suc i) = refl
rest_of-before (x ∷ held) (y ∷ drawn) zero = refl
rest_of-before (x ∷ held) (y ∷ drawn) (suc i) = rest_of-before held drawn i

-- a loop's step: crude i is added or taken too
pub mix_of_more : (held more : List ℕ) (i : ℕ) → i < length more → mix_of held (take (suc i) more)
    ≡ set (mix_of held (take i more)) i (get_or held i 0 + get_or more i 0)
mix_of_more held [] i within = absurd (omega arith)
mix_of_more [] (y ∷ more) zero within = refl
mix_of_more [] (y ∷ more) (suc i) within = refl
mix_of_more (x ∷ held) (y ∷ more) zero within = ap (λ rest. (x + y) ∷ rest) (mix_of-nothing held)
mix_of_more (x ∷ held) (y ∷ more) (suc i) within = ap (λ rest. (x + y) ∷ rest) (mix_of_more held more i (omega arith))

pub rest_of_more : (held drawn : List ℕ) (i : ℕ) → i < length drawn → rest_of held (take (suc i) drawn)
    ≡ set (rest_of held (take i drawn)) i (get_or held i 0 - get_or drawn i 0)
rest_of_more held [] i within = absurd (omega arith)
rest_of_more [] (y ∷ drawn) zero within = refl
rest_of_more [] (y ∷ drawn) (suc i) within = refl
rest_of_more (x ∷ held) (y ∷ drawn) zero within = ap (λ rest. (x - y) ∷ rest) (rest_of-nothing held)
rest_of_more (x ∷ held) (y ∷ drawn) (suc i) within = ap (λ rest. (x - y) ∷ rest) (rest_of_more held drawn i (omega arith))

-- ---- of one crude

-- where no more is taken than is there
pub crude-taken : (c : ℕ) (held drawn : List ℕ) → length drawn ≡ length held → ((d : ℕ) → get_or drawn d 0 ≤ get_or held d 0) →
    get_or (rest_of held drawn) c 0 + get_or drawn c 0 ≡ get_or held c 0
crude-taken c [] [] same there = omega arith
crude-taken c [] (x ∷ drawn) same there = absurd (omega arith)
crude-taken c (h ∷ held) [] same there = absurd (omega arith)
crude-taken zero (h ∷ held) (x ∷ drawn) same there = let first : x ≤ h = there 0 in omega arith
crude-taken (suc c) (h ∷ held) (x ∷ drawn) same there = crude-taken c held drawn (omega arith) (λ d. there (suc d))

pub crude-added : (c : ℕ) (held drawn : List ℕ) → length drawn ≡ length held → get_or (mix_of held drawn) c 0 ≡ get_or held c 0 + get_or drawn c 0
crude-added c [] [] same = omega arith
crude-added c [] (x ∷ drawn) same = absurd (omega arith)
crude-added c (h ∷ held) [] same = absurd (omega arith)
crude-added zero (h ∷ held) (x ∷ drawn) same = refl
crude-added (suc c) (h ∷ held) (x ∷ drawn) same = crude-added c held drawn (omega arith)
