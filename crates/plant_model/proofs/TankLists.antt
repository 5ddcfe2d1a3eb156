-- A walk over tanks that takes their demands away.
use Rattle.std.proofs.Common.{◌≡◌, ◌∙◌, sym, ap, ℕ, ◌+◌, ◌<◌, ◌≤◌, List, [], ◌∷◌, ◌++◌, map, length, get_or, take, drop, set, arith, append_assoc}
use Rattle.std.proofs.lemmas.List.{map_more, drop_more, set_at, get_or_at, take_all, drop_all, append-nil, length-map, length-take-le}

pub walk_more : {X : Type 0} (f : X → X) (old now : List X) (i : ℕ) (d : X) → i < length old → now ≡ map f (take i old) ++ drop i old
    → set now i (f (get_or now i d)) ≡ map f (take (i + 1) old) ++ drop (i + 1) old
walk_more f old now i d within so_far =
    let count = length-map (take i old) f ∙ length-take-le i old (omega arith) in
    let next = get_or old i d in
    let row = so_far ∙ ap (λ l. map f (take i old) ++ l) (drop_more old i d within) in
    let here : get_or now i d ≡ next = ap (λ l. get_or l i d) row ∙ get_or_at (map f (take i old)) next (drop (i + 1) old) d i count in
    ap (λ x. set now i (f x)) here
    ∙ ap (λ l. set l i (f next)) row
    ∙ set_at (map f (take i old)) next (drop (i + 1) old) (f next) i count
    ∙ sym (ap (λ l. l ++ drop (i + 1) old) (map_more f old i d within) ∙ append_assoc (map f (take i old)) (f next ∷ []) (drop (i + 1) old))

pub walk_end : {X : Type 0} (f : X → X) (old now : List X) (i : ℕ) → length old ≤ i → now ≡ map f (take i old) ++ drop i old → now ≡ map f old
walk_end f old now i past so_far =
    so_far
    ∙ ap (λ l. map f (take i old) ++ l) (drop_all i old past)
    ∙ append-nil (map f (take i old))
    ∙ ap (map f) (take_all i old past)
