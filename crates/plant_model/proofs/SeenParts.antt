-- The demand of a storage tank is not read: parts have the faults that they have without it.
use Rattle.std.proofs.Common.{◌≡◌, ◌∙◌, ap, refl, ℕ, ◌+◌, List, [], ◌∷◌, ◌++◌, map, length}
use Rattle.std.proofs.lemmas.List.{length-map}
use Rattle.item_lists.specs.Faults.{each_from}
use Rattle.plant_model.specs.declared.parts.CrudePart.{CrudePart}
use Rattle.plant_model.specs.declared.parts.VesselPart.{VesselPart}
use Rattle.plant_model.specs.declared.parts.TankPart.{TankPart}
use Rattle.plant_model.specs.declared.parts.UnitPart.{UnitPart}
use Rattle.plant_model.specs.declared.parts.OperationPart.{OperationPart}
use Rattle.plant_model.specs.declared.parts.Parts.{Parts}
use Rattle.plant_model.specs.declared.place.Section.{Section}
use Rattle.plant_model.specs.declared.place.Section.TheVariants.{Plant, Properties, Crudes, Vessels, Storage, Charging, Units, Operations}
use Rattle.plant_model.specs.declared.place.PlantFault.{PlantFault}
use Rattle.plant_model.specs.Parts.{seen_parts, without_demand, places_of, place_names_of, place_by_name_of, kind_named, arrival_named, storage_info, position_of}
use Rattle.plant_model.specs.Faults.{count_faults, name_faults, all_name_faults, names_beside, names_before, repeat_faults, all_repeat_faults, crude_faults, amount_count_faults, amount_faults, all_amount_faults, all_arrival_faults, level_faults, first_level_faults, level_and_demand_faults, unknown_place_faults, route_faults, range_faults, operation_faults, berthing_faults, entry_faults, faults_of}

-- what is read of tanks besides the demand
map_seen : {X : Type 0} (f : TankPart → X) → ((tank : TankPart) → f (without_demand tank) ≡ f tank) → (tanks : List TankPart)
    → map f (map without_demand tanks) ≡ map f tanks
map_seen f same [] = refl
map_seen f same (tank ∷ tanks) = ap (λ x. x ∷ map f (map without_demand tanks)) (same tank) ∙ ap (λ l. f tank ∷ l) (map_seen f same tanks)

each_seen : (faults : ℕ → TankPart → List PlantFault) → ((index : ℕ) (tank : TankPart) → faults index (without_demand tank) ≡ faults index tank)
    → (index : ℕ) (tanks : List TankPart) → each_from faults index (map without_demand tanks) ≡ each_from faults index tanks
each_seen faults same index [] = refl
each_seen faults same index (tank ∷ tanks) =
    ap (λ front. front ++ each_from faults (index + 1) (map without_demand tanks)) (same index tank)
    ∙ ap (λ rest. faults index tank ++ rest) (each_seen faults same (index + 1) tanks)

-- entries with the same faults one by one
each_same : {X : Type 0} (faults others : ℕ → X → List PlantFault) → ((index : ℕ) (x : X) → faults index x ≡ others index x)
    → (index : ℕ) (xs : List X) → each_from faults index xs ≡ each_from others index xs
each_same faults others same index [] = refl
each_same faults others same index (x ∷ xs) =
    ap (λ front. front ++ each_from faults (index + 1) xs) (same index x)
    ∙ ap (λ rest. others index x ++ rest) (each_same faults others same (index + 1) xs)

places_seen : (parts : Parts) → places_of (seen_parts parts) ≡ places_of parts
unfolding places_of seen_parts
places_seen parts = rw (map_seen storage_info (λ tank. refl) parts.storage) refl

place_names_seen : (parts : Parts) → place_names_of (seen_parts parts) ≡ place_names_of parts
unfolding place_names_of seen_parts
place_names_seen parts = rw (map_seen (λ (tank : TankPart). tank.name) (λ tank. refl) parts.storage) refl

place_by_name_seen : (parts : Parts) (name : List ℕ) → place_by_name_of (seen_parts parts) name ≡ place_by_name_of parts name
unfolding place_by_name_of
place_by_name_seen parts name = ap (position_of name) (place_names_seen parts)

kind_named_seen : (parts : Parts) (name : List ℕ) → kind_named (seen_parts parts) name ≡ kind_named parts name
unfolding kind_named
kind_named_seen parts name = rw (places_seen parts, place_by_name_seen parts name) refl

arrival_named_seen : (parts : Parts) (name : List ℕ) → arrival_named (seen_parts parts) name ≡ arrival_named parts name
unfolding arrival_named seen_parts
arrival_named_seen parts name = rw (place_by_name_seen parts name) refl

count_faults_seen : (parts : Parts) → count_faults (seen_parts parts) ≡ count_faults parts
unfolding count_faults seen_parts
count_faults_seen parts = rw (length-map parts.storage without_demand) refl

name_faults_seen : (parts : Parts) → all_name_faults (seen_parts parts) ≡ all_name_faults parts
unfolding all_name_faults seen_parts
name_faults_seen parts = rw (each_seen (λ index (tank : TankPart). name_faults Storage index tank.name) (λ index tank. refl) 1 parts.storage) refl

names_beside_seen : (parts : Parts) (section : Section) → names_beside (seen_parts parts) section ≡ names_beside parts section
unfolding seen_parts
names_beside_seen parts Plant = refl
names_beside_seen parts Properties = refl
names_beside_seen parts Crudes = refl
names_beside_seen parts Vessels = place_names_seen parts
names_beside_seen parts Storage = place_names_seen parts
names_beside_seen parts Charging = place_names_seen parts
names_beside_seen parts Units = place_names_seen parts
names_beside_seen parts Operations = refl

names_before_seen : (parts : Parts) (section : Section) → names_before (seen_parts parts) section ≡ names_before parts section
unfolding seen_parts
names_before_seen parts Plant = refl
names_before_seen parts Properties = refl
names_before_seen parts Crudes = refl
names_before_seen parts Vessels = refl
names_before_seen parts Storage = refl
names_before_seen parts Charging = rw (length-map parts.storage without_demand) refl
names_before_seen parts Units = rw (length-map parts.storage without_demand) refl
names_before_seen parts Operations = refl

repeat_faults_seen : (parts : Parts) (section : Section) (index : ℕ) (name : List ℕ)
    → repeat_faults (seen_parts parts) section index name ≡ repeat_faults parts section index name
repeat_faults_seen parts section index name = rw (names_beside_seen parts section, names_before_seen parts section) refl

each_repeat_seen : {X : Type 0} (parts : Parts) (section : Section) (name : X → List ℕ) (xs : List X)
    → each_from (λ index (x : X). repeat_faults (seen_parts parts) section index (name x)) 1 xs
    ≡ each_from (λ index (x : X). repeat_faults parts section index (name x)) 1 xs
each_repeat_seen parts section name xs = each_same _ _ (λ index x. repeat_faults_seen parts section index (name x)) 1 xs

-- seven lists in a row
joined : {X : Type 0} (a b c d e f g a' b' c' d' e' f' g' : List X) → a ≡ a' → b ≡ b' → c ≡ c' → d ≡ d' → e ≡ e' → f ≡ f' → g ≡ g'
    → a ++ b ++ c ++ d ++ e ++ f ++ g ≡ a' ++ b' ++ c' ++ d' ++ e' ++ f' ++ g'
joined a b c d e f g a' b' c' d' e' f' g' ea eb ec ed ee ef eg = rw (ea, eb, ec, ed, ee, ef, eg) refl

all_repeat_faults_seen : (parts : Parts) → all_repeat_faults (seen_parts parts) ≡ all_repeat_faults parts
unfolding all_repeat_faults seen_parts
all_repeat_faults_seen parts =
    joined _ _ _ _ _ _ _ _ _ _ _ _ _ _
    (each_repeat_seen parts Properties (λ name. name) parts.properties)
    (each_repeat_seen parts Crudes (λ (crude : CrudePart). crude.name) parts.crudes)
    (each_repeat_seen parts Vessels (λ (vessel : VesselPart). vessel.name) parts.vessels)
    (each_seen (λ index (tank : TankPart). repeat_faults (seen_parts parts) Storage index tank.name) (λ index tank. refl) 1 parts.storage
    ∙ each_repeat_seen parts Storage (λ (tank : TankPart). tank.name) parts.storage)
    (each_repeat_seen parts Charging (λ (tank : TankPart). tank.name) parts.charging)
    (each_repeat_seen parts Units (λ (part : UnitPart). part.name) parts.units)
    (each_repeat_seen parts Operations (λ (operation : OperationPart). operation.name) parts.operations)

amount_faults_seen : (parts : Parts) → all_amount_faults (seen_parts parts) ≡ all_amount_faults parts
unfolding all_amount_faults seen_parts
amount_faults_seen parts =
    rw (
      each_seen (λ index (tank : TankPart). amount_count_faults (length parts.crudes) Storage index tank.amounts) (λ index tank. refl) 1 parts.storage,
      each_seen (λ index (tank : TankPart). amount_faults Storage index tank.amounts) (λ index tank. refl) 1 parts.storage,
    ) refl

level_faults_seen : (parts : Parts) → level_and_demand_faults (seen_parts parts) ≡ level_and_demand_faults parts
unfolding level_and_demand_faults seen_parts
level_faults_seen parts =
    rw (
      each_seen (level_faults Storage) (λ index tank. refl) 1 parts.storage,
      each_seen (first_level_faults Storage) (λ index tank. refl) 1 parts.storage,
    ) refl

unknown_place_seen : (parts : Parts) (index : ℕ) (operation : OperationPart)
    → unknown_place_faults (seen_parts parts) index operation ≡ unknown_place_faults parts index operation
unknown_place_seen parts index operation = rw (kind_named_seen parts operation.from, kind_named_seen parts operation.to) refl

route_seen : (parts : Parts) (index : ℕ) (operation : OperationPart) → route_faults (seen_parts parts) index operation ≡ route_faults parts index operation
route_seen parts index operation = rw (kind_named_seen parts operation.from, kind_named_seen parts operation.to) refl

range_seen : (parts : Parts) (index : ℕ) (operation : OperationPart) → range_faults (seen_parts parts) index operation ≡ range_faults parts index operation
unfolding seen_parts
range_seen parts index operation = rw (kind_named_seen parts operation.from, arrival_named_seen parts operation.from) refl

operation_faults_seen : (parts : Parts) → operation_faults (seen_parts parts) ≡ operation_faults parts
unfolding operation_faults seen_parts
operation_faults_seen parts =
    rw (
      each_same (unknown_place_faults (seen_parts parts)) (unknown_place_faults parts) (unknown_place_seen parts) 1 parts.operations,
      each_same (route_faults (seen_parts parts)) (route_faults parts) (route_seen parts) 1 parts.operations,
      each_same (range_faults (seen_parts parts)) (range_faults parts) (range_seen parts) 1 parts.operations,
    ) refl

pub faults_seen : (parts : Parts) → faults_of (seen_parts parts) ≡ faults_of parts
unfolding faults_of entry_faults crude_faults all_arrival_faults berthing_faults seen_parts
faults_seen parts =
    rw (
      count_faults_seen parts,
      name_faults_seen parts,
      all_repeat_faults_seen parts,
      amount_faults_seen parts,
      level_faults_seen parts,
      operation_faults_seen parts,
    ) refl

pub seen_twice : (parts : Parts) → seen_parts (seen_parts parts) ≡ seen_parts parts
unfolding seen_parts
seen_twice parts = ap (λ (storage : List TankPart). record parts { storage = storage }) (map_seen without_demand (λ tank. refl) parts.storage)
