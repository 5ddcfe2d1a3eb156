-- Laws of the draw: its sum, its parts, and its growth crude by crude.
use Rattle.std.proofs.Common.{◌≡◌, ℕ, zero, suc, ◌+◌, ◌-◌, ◌<◌, ◌≤◌, List, [], ◌∷◌, ◌++◌, length, take, get_or, set, sum, ap, ◌∙◌, refl, set, arith}
use Rattle.std.proofs.lemmas.List.Sums.{sum_by-cons}
use Rattle.crude_amounts.specs.Draw.{share_of, draw_from, draw_of, reached_by, DrawsByShares}
use Rattle.crude_amounts.proofs.ShareLaws.{share_of-nothing, share_of-all, share_of-monotone, share_of-step}

pub sum-cons : (x : ℕ) (xs : List ℕ) → sum (x ∷ xs) ≡ x + sum xs
sum-cons x xs = sum_by-cons (λ y. y) x xs

pub length-draw_from : (total volume reached : ℕ) (amounts : List ℕ) → length (draw_from total volume reached amounts) ≡ length amounts
length-draw_from total volume reached [] = refl
length-draw_from total volume reached (amount ∷ amounts) = ap suc (length-draw_from total volume (reached + amount) amounts)

pub length-draw_of : (amounts : List ℕ) (volume : ℕ) → length (draw_of amounts volume) ≡ length amounts
unfolding draw_of
length-draw_of amounts volume = length-draw_from (sum amounts) volume 0 amounts

-- one more crude at the end
pub draw_from_push : (total volume reached : ℕ) (amounts : List ℕ) (amount : ℕ) →
    draw_from total volume reached (amounts ++ amount ∷ []) ≡ draw_from total volume reached amounts
    ++ (share_of total volume (reached + sum amounts + amount) - share_of total volume (reached + sum amounts)) ∷ []
draw_from_push total volume reached [] amount =
    ap (λ (n : ℕ). (share_of total volume (n + amount) - share_of total volume n) ∷ []) (let e : reached ≡ reached + 0 = omega arith in e)
draw_from_push total volume reached (first ∷ amounts) amount =
    let e : reached + first + sum amounts ≡ reached + sum (first ∷ amounts) = omega (arith, sum-cons first amounts) in
    ap (λ rest. (share_of total volume (reached + first) - share_of total volume reached) ∷ rest)
    (draw_from_push total volume (reached + first) amounts amount
    ∙ ap (λ (n : ℕ). draw_from total volume (reached + first) amounts ++ (share_of total volume (n + amount) - share_of total volume n) ∷ []) e)

-- the draw of all crudes from here on is what the share rises by
pub sum-draw_from : (total volume reached : ℕ) (amounts : List ℕ) → 0 < total → sum (draw_from total volume reached amounts) + share_of total volume reached
    ≡ share_of total volume (reached + sum amounts)
sum-draw_from total volume reached [] some =
    let none : 0 + share_of total volume reached ≡ share_of total volume reached = omega arith in
    none ∙ ap (share_of total volume) (let e : reached ≡ reached + 0 = omega arith in e)
sum-draw_from total volume reached (amount ∷ amounts) some =
    let drawn = share_of total volume (reached + amount) - share_of total volume reached in
    let rest = draw_from total volume (reached + amount) amounts in
    let first = sum-cons drawn rest in
    let later = sum-draw_from total volume (reached + amount) amounts some in
    let up = share_of-monotone total volume reached (reached + amount) some (omega arith) in
    let e : share_of total volume (reached + amount + sum amounts) ≡ share_of total volume (reached + sum (amount ∷ amounts)) =
    ap (share_of total volume) (omega (arith, sum-cons amount amounts)) in
    omega arith

-- the parts of a draw sum to its volume
pub sum-draw_of : (amounts : List ℕ) (volume : ℕ) → 0 < sum amounts → sum (draw_of amounts volume) ≡ volume
unfolding draw_of
sum-draw_of amounts volume some =
    let whole = sum-draw_from (sum amounts) volume 0 amounts some in
    let nothing = share_of-nothing (sum amounts) volume some in
    let all : share_of (sum amounts) volume (0 + sum amounts)
    ≡ volume = ap (share_of (sum amounts) volume) (let e : 0 + sum amounts ≡ sum amounts = omega arith in e) ∙ share_of-all (sum amounts) volume some in
    omega arith

-- no part is more than was there
pub draw_from-within : (total volume reached : ℕ) (amounts : List ℕ) (c : ℕ) → 0 < total → volume ≤ total → get_or (draw_from total volume reached amounts) c 0
    ≤ get_or amounts c 0
draw_from-within total volume reached [] c some within = omega arith
draw_from-within total volume reached (amount ∷ amounts) zero some within = omega (arith, share_of-step total volume reached amount some within)
draw_from-within total volume reached (amount ∷ amounts) (suc c) some within = draw_from-within total volume (reached + amount) amounts c some within

pub draw_of-within : (amounts : List ℕ) (volume c : ℕ) → 0 < sum amounts → volume ≤ sum amounts → get_or (draw_of amounts volume) c 0 ≤ get_or amounts c 0
unfolding draw_of
draw_of-within amounts volume c some within = draw_from-within (sum amounts) volume 0 amounts c some within

-- each part by the shares of the crudes up to it and before it
pub draw_from-at : (total volume reached : ℕ) (amounts : List ℕ) (c : ℕ) → c < length amounts →
    get_or (draw_from total volume reached amounts) c 0 ≡ share_of total volume (reached + reached_by amounts (c + 1)) - share_of total volume
    (reached + reached_by amounts c)
draw_from-at total volume reached [] c within = absurd (omega arith)
draw_from-at total volume reached (amount ∷ amounts) zero within =
    let front : reached ≡ reached + 0 = omega arith in
    let one : reached + amount ≡ reached + (0 + amount) = omega arith in
    ap (λ (n : ℕ). share_of total volume (reached + amount) - share_of total volume n) front
    ∙ ap (λ (n : ℕ). share_of total volume n - share_of total volume (reached + 0)) one
draw_from-at total volume reached (amount ∷ amounts) (suc c) within =
    let now : reached + amount + reached_by amounts (c + 1) ≡ reached + reached_by (amount ∷ amounts) (suc (c + 1)) =
    omega (arith, sum-cons amount (take (c + 1) amounts)) in
    let next : reached + reached_by (amount ∷ amounts) (suc (c + 1)) ≡ reached + reached_by (amount ∷ amounts) (suc c + 1) =
    (let e : suc (c + 1) ≡ suc c + 1 = omega arith in ap (λ (n : ℕ). reached + reached_by (amount ∷ amounts) n) e) in
    let before : reached + amount + reached_by amounts c ≡ reached + reached_by (amount ∷ amounts) (suc c) = omega (arith, sum-cons amount (take c amounts)) in
    let here = draw_from-at total volume (reached + amount) amounts c (omega arith) in
    here
    ∙ ap (λ (n : ℕ). share_of total volume n - share_of total volume (reached + amount + reached_by amounts c)) (now ∙ next)
    ∙ ap (λ (n : ℕ). share_of total volume (reached + reached_by (amount ∷ amounts) (suc c + 1)) - share_of total volume n) before

pub draw_of_draws_by_shares : (amounts : List ℕ) (volume : ℕ) → DrawsByShares amounts volume (draw_of amounts volume)
unfolding draw_of
draw_of_draws_by_shares amounts volume c within =
    let none : (n : ℕ) → 0 + n ≡ n = λ n. omega arith in
    draw_from-at (sum amounts) volume 0 amounts c within
    ∙ ap (λ (n : ℕ). share_of (sum amounts) volume n - share_of (sum amounts) volume (0 + reached_by amounts c)) (none (reached_by amounts (c + 1)))
    ∙ ap (λ (n : ℕ). share_of (sum amounts) volume (reached_by amounts (c + 1)) - share_of (sum amounts) volume n) (none (reached_by amounts c))

-- one amount in the place of another adds at most itself to the total
pub sum-set_most : (amounts : List ℕ) (c amount : ℕ) → sum (set amounts c amount) ≤ sum amounts + amount
sum-set_most [] c amount = omega arith
sum-set_most (first ∷ amounts) zero amount =
    let before = sum-cons first amounts in
    let after = sum-cons amount amounts in
    omega arith
sum-set_most (first ∷ amounts) (suc c) amount =
    let rec = sum-set_most amounts c amount in
    let before = sum-cons first amounts in
    let after = sum-cons first (set amounts c amount) in
    omega arith
