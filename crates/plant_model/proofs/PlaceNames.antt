-- The first place with a name, found section by section.
use Rattle.std.proofs.Common.{◌≡◌, ◌∙◌, sym, ℕ, ◌+◌, List, ◌++◌, map, length, length-append, cond, eqb, not}
use Rattle.std.proofs.lemmas.List.{length-map}
use Rattle.std.proofs.lemmas.List.Folds.{prefix_len-append}
use Rattle.std.specs.Str.{bytes_eq}
use Rattle.plant_model.specs.declared.parts.VesselPart.{VesselPart}
use Rattle.plant_model.specs.declared.parts.TankPart.{TankPart}
use Rattle.plant_model.specs.declared.parts.UnitPart.{UnitPart}
use Rattle.plant_model.specs.declared.parts.Parts.{Parts}
use Rattle.plant_model.specs.Parts.{position_of, place_by_name_of, place_names_of}

-- the first in joined lists: p in the front, of which n are, and q in the rest
first_in_both : (name : List ℕ) (front rest : List (List ℕ)) (n p q r : ℕ) → n ≡ length front → p ≡ position_of name front → q ≡ position_of name rest
    → r ≡ cond (eqb p n) (n + q) p → r ≡ position_of name (front ++ rest)
first_in_both name front rest n p q r count in_front in_rest is =
    is ∙ rw (count, in_front, in_rest) (sym (prefix_len-append (λ other. not (bytes_eq other name)) front rest))

pub first_place : (parts : Parts) (name : List ℕ) (vessels : List VesselPart) (storage charging : List TankPart) (units : List UnitPart)
    (in_vessels in_storage in_charging in_units to_storage to_charging found : ℕ) → vessels ≡ parts.vessels → storage ≡ parts.storage
    → charging ≡ parts.charging → units ≡ parts.units → in_vessels ≡ position_of name (map (λ (vessel : VesselPart). vessel.name) vessels)
    → in_storage ≡ position_of name (map (λ (tank : TankPart). tank.name) storage)
    → in_charging ≡ position_of name (map (λ (tank : TankPart). tank.name) charging)
    → in_units ≡ position_of name (map (λ (part : UnitPart). part.name) units)
    → to_storage ≡ cond (eqb in_vessels (length vessels)) (length vessels + in_storage) in_vessels
    → to_charging ≡ cond (eqb to_storage (length vessels + length storage)) (length vessels + length storage + in_charging) to_storage
    → found ≡ cond (eqb to_charging (length vessels + length storage + length charging))
    (length vessels + length storage + length charging + in_units) to_charging → found ≡ place_by_name_of parts name
unfolding place_by_name_of place_names_of
first_place parts name vessels storage charging units in_vessels in_storage in_charging in_units to_storage to_charging found v s c u pv ps pc pu x y z =
    let vessel_names : List (List ℕ) = map (λ (vessel : VesselPart). vessel.name) vessels in
    let storage_names : List (List ℕ) = map (λ (tank : TankPart). tank.name) storage in
    let charging_names : List (List ℕ) = map (λ (tank : TankPart). tank.name) charging in
    let unit_names : List (List ℕ) = map (λ (part : UnitPart). part.name) units in
    let vessel_count : length vessels ≡ length vessel_names = sym (length-map vessels (λ (vessel : VesselPart). vessel.name)) in
    let storage_count : length storage ≡ length storage_names = sym (length-map storage (λ (tank : TankPart). tank.name)) in
    let charging_count : length charging ≡ length charging_names = sym (length-map charging (λ (tank : TankPart). tank.name)) in
    let to_end : found ≡ position_of name (vessel_names ++ storage_names ++ charging_names ++ unit_names) =
    first_in_both name (vessel_names ++ storage_names ++ charging_names) unit_names _ _ _ _
    (simp (length-append, vessel_count, storage_count, charging_count))
    (first_in_both name (vessel_names ++ storage_names) charging_names _ _ _ _ (simp (length-append, vessel_count, storage_count))
    (first_in_both name vessel_names storage_names _ _ _ _ vessel_count pv ps x) pc y)
    pu z in
    rw (← v, ← s, ← c, ← u) to_end
