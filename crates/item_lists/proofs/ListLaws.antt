-- Laws of lists that are joined below a limit, and of what holds of each item of a list.
use Rattle.std.proofs.Common.{◌≡◌, ℕ, zero, suc, ◌+◌, ◌<◌, Bool, true, List, [], ◌∷◌, ◌++◌, All, length, get_or, refl, arith}
use Rattle.std.specs.List.{list_all}
use Rattle.std.proofs.lemmas.Bool.{and_parts}
use Rattle.std.proofs.lemmas.List.Elements.{All-nil, All-append, All-cons, All-head, All-tail}
use Rattle.item_lists.specs.Joined.{joined_below}

-- ---- lists that are joined

pub joined_below-more : {X : Type 0} (n : ℕ) (f : ℕ → List X) → joined_below (n + 1) f ≡ joined_below n f ++ f n
joined_below-more n f = let next : n + 1 ≡ suc n = omega arith in rw next refl

-- what holds of each item of each list holds of all
pub All-joined_below : {X : Type 0} (P : X → Type 0) (n : ℕ) (f : ℕ → List X) → ((k : ℕ) → k < n → All P (f k)) → All P (joined_below n f)
All-joined_below P zero f each = All-nil P
All-joined_below P (suc n) f each =
    All-append P (joined_below n f) (f n) (All-joined_below P n f (λ k under. each k (omega arith))) (each n (omega arith))

-- ---- each item

-- where all items pass a test, the one at i does
pub each_passes : {X : Type 0} (test : X → Bool) (xs : List X) (i : ℕ) (d : X) → list_all test xs ≡ true → i < length xs → test (get_or xs i d) ≡ true
each_passes test [] i d h within = absurd (omega arith)
each_passes test (x ∷ xs) zero d h within = (and_parts (test x) (list_all test xs) h).0
each_passes test (x ∷ xs) (suc i) d h within = each_passes test xs i d (and_parts (test x) (list_all test xs) h).1 (omega arith)

-- what holds of each item of joined lists holds of each item of the front, and of the back
pub All-front : {X : Type 0} (P : X → Type 0) (front back : List X) → All P (front ++ back) → All P front
All-front P [] back all = All-nil P
All-front P (x ∷ front) back all = All-cons P x front (All-head P x (front ++ back) all) (All-front P front back (All-tail P x (front ++ back) all))

pub All-behind : {X : Type 0} (P : X → Type 0) (front back : List X) → All P (front ++ back) → All P back
All-behind P [] back all = all
All-behind P (x ∷ front) back all = All-behind P front back (All-tail P x (front ++ back) all)
