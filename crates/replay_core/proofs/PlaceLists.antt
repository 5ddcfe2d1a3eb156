-- Lists with one entry a place, entry by entry.
use Rattle.std.proofs.Common.{ℕ, zero, suc, ◌<◌, List, [], ◌∷◌, ◌++◌, map, length, get_or, arith}
use Rattle.plant_model.specs.declared.parts.VesselPart.{VesselPart}
use Rattle.plant_model.specs.declared.parts.TankPart.{TankPart}
use Rattle.plant_model.specs.declared.parts.UnitPart.{UnitPart}
use Rattle.plant_model.specs.declared.parts.Parts.{Parts}
use Rattle.plant_model.specs.Parts.{per_place, place_count_of}
use Rattle.plant_model.proofs.PlaceLists.{length-per_place}

-- two lists of which the entries are related, one by one
abbrev AreRelated : {X Y : Type 0} → (X → Y → Type 0) → List X → List Y → Type 0
AreRelated R [] [] = Unit {0}
AreRelated R [] (y ∷ ys) = ⊥
AreRelated R (x ∷ xs) [] = ⊥
AreRelated R (x ∷ xs) (y ∷ ys) = R x y × AreRelated R xs ys

related-map : {A X Y : Type 0} (R : X → Y → Type 0) (f : A → X) (g : A → Y) → ((a : A) → R (f a) (g a)) → (items : List A) →
    AreRelated R (map f items) (map g items)
related-map R f g each [] = tt
related-map R f g each (a ∷ items) = (each a, related-map R f g each items)

related-append : {X Y : Type 0} (R : X → Y → Type 0) (xs xs' : List X) (ys ys' : List Y) → AreRelated R xs ys → AreRelated R xs' ys' →
    AreRelated R (xs ++ xs') (ys ++ ys')
related-append R [] xs' [] ys' front back = back
related-append R [] xs' (y ∷ ys) ys' front back = absurd front
related-append R (x ∷ xs) xs' [] ys' front back = absurd front
related-append R (x ∷ xs) xs' (y ∷ ys) ys' front back = (front.0, related-append R xs xs' ys ys' front.1 back)

related-at : {X Y : Type 0} (R : X → Y → Type 0) (xs : List X) (ys : List Y) (i : ℕ) (d : X) (e : Y) → AreRelated R xs ys → i < length xs →
    R (get_or xs i d) (get_or ys i e)
related-at R [] ys i d e related within = absurd (omega arith)
related-at R (x ∷ xs) [] i d e related within = absurd related
related-at R (x ∷ xs) (y ∷ ys) zero d e related within = related.0
related-at R (x ∷ xs) (y ∷ ys) (suc i) d e related within = related-at R xs ys i d e related.1 (omega arith)

-- what is so of each vessel, tank and unit is so at each place
pub at_each_place : {X Y : Type 0} (R : X → Y → Type 0) (parts : Parts) (v : VesselPart → X) (s c : TankPart → X) (u : UnitPart → X) (v' : VesselPart → Y)
    (s' c' : TankPart → Y) (u' : UnitPart → Y) →
    ((x : VesselPart) → R (v x) (v' x)) → ((x : TankPart) → R (s x) (s' x)) → ((x : TankPart) → R (c x) (c' x)) → ((x : UnitPart) → R (u x) (u' x)) →
    (p : ℕ) (d : X) (e : Y) → p < place_count_of parts → R (get_or (per_place v s c u parts) p d) (get_or (per_place v' s' c' u' parts) p e)
at_each_place R parts v s c u v' s' c' u' of_v of_s of_c of_u p d e within =
    let count = length-per_place v s c u parts in
    let one = related-map R v v' of_v parts.vessels in
    let two = related-append R (map v parts.vessels) (map s parts.storage) (map v' parts.vessels) (map s' parts.storage) one
    (related-map R s s' of_s parts.storage) in
    let three = related-append R (map v parts.vessels ++ map s parts.storage) (map c parts.charging) (map v' parts.vessels ++ map s' parts.storage)
    (map c' parts.charging) two (related-map R c c' of_c parts.charging) in
    let all = related-append R (map v parts.vessels ++ map s parts.storage ++ map c parts.charging) (map u parts.units)
    (map v' parts.vessels ++ map s' parts.storage ++ map c' parts.charging) (map u' parts.units) three (related-map R u u' of_u parts.units) in
    related-at R (per_place v s c u parts) (per_place v' s' c' u' parts) p d e all (omega arith)
