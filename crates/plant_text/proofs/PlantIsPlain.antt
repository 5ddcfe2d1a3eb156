-- The value of a plant that can be told is plain, and not deep.
use Rattle.std.proofs.Common.{ℕ, ◌≤◌, ℤ, pos, negsuc, List, [], ◌∷◌, map, refl, arith}
use Rattle.std.specs.Prelude.{codes}
use Rattle.std.specs.List.{AllByRecursion}
use Rattle.json.specs.Tree as tree
use Rattle.serde_json.specs.Data.{unsigned, Data, number, string, Members, no_members, member}
use Rattle.serde_json.specs.View.{items_of}
use Rattle.serde_json.specs.Written.{outline, items_outline}
use Rattle.plant_model.specs.declared.parts.Pair.{Pair}
use Rattle.plant_model.specs.declared.parts.Parts.{Parts}
use Rattle.plant_model.specs.declared.parts.CrudePart.{CrudePart}
use Rattle.plant_model.specs.declared.parts.VesselPart.{VesselPart}
use Rattle.plant_model.specs.declared.parts.TankPart.{TankPart}
use Rattle.plant_model.specs.declared.parts.UnitPart.{UnitPart}
use Rattle.plant_model.specs.declared.parts.OperationPart.{OperationPart}
use Rattle.plant_text.specs.declared.kinds.PlantFormat.{PlantFormat}
use Rattle.plant_text.specs.declared.kinds.PlantFormat.TheVariants.{One, Two, Three}
use Rattle.plant_text.specs.Canonical.{format_number}
use Rattle.plant_text.proofs.PlainValues.{IsPlain, ArePlain, MembersArePlain}
use Rattle.plant_text.proofs.PlantValues.{whole, list_value, pair_value, crude_value, vessel_value, tank_value, storage_value, charging_value, unit_value, operation_value, plant_value}
use Rattle.plant_text.proofs.WalkLaws.{IsSmall, AreSmall, IsSmallPair, IsName, FitsCrude, FitsVessel, FitsTank, FitsStorage, FitsCharging, FitsUnit, FitsOperation, FitsParts}

whole_plain : (z : ℤ) → IsSmall z → IsPlain (whole z)
whole_plain (pos n) h = h
whole_plain (negsuc n) h = h

list_plain : {X : Type 0} (value : X → Data) (P : X → Type 0) → ((x : X) → P x → IsPlain (value x)) → (xs : List X) → AllByRecursion P xs
    → ArePlain (items_of (map value xs))
list_plain value P one [] h = tt
list_plain value P one (x ∷ xs) h = (one x h.0, list_plain value P one xs h.1)

numbers_plain : (numbers : List ℤ) → AreSmall numbers → IsPlain (list_value whole numbers)
numbers_plain numbers h = list_plain whole IsSmall whole_plain numbers h

pair_plain : (pair : Pair) → IsSmallPair pair → IsPlain (pair_value pair)
pair_plain pair h = (whole_plain pair.lo h.lo, (whole_plain pair.hi h.hi, tt))

pairs_plain : (pairs : List Pair) → AllByRecursion IsSmallPair pairs → IsPlain (list_value pair_value pairs)
pairs_plain pairs h = list_plain pair_value IsSmallPair pair_plain pairs h

crude_plain : (crude : CrudePart) → FitsCrude crude → IsPlain (crude_value crude)
crude_plain crude h =
    (refl, h.name, (refl, whole_plain crude.margin h.margin, (refl, numbers_plain crude.properties h.properties, tt)))

vessel_plain : (format : PlantFormat) (vessel : VesselPart) → FitsVessel format vessel → IsPlain (vessel_value format vessel)
vessel_plain One vessel h =
    (refl, h.name, (refl, whole_plain vessel.arrival h.arrival, (refl, numbers_plain vessel.amounts h.amounts, tt)))
vessel_plain Two vessel h = (
  refl,
  h.name,
  (
    refl,
    whole_plain vessel.arrival h.arrival,
    (
      refl,
      numbers_plain vessel.amounts h.amounts,
      (refl, whole_plain vessel.berth h.berth, tt),
    ),
  ),
)
vessel_plain Three vessel h = (
  refl,
  h.name,
  (
    refl,
    whole_plain vessel.arrival h.arrival,
    (
      refl,
      numbers_plain vessel.amounts h.amounts,
      (refl, whole_plain vessel.berth h.berth, (refl, whole_plain vessel.demurrage h.demurrage, tt)),
    ),
  ),
)

tank_plain : (tank : TankPart) (others : Members) → FitsTank tank → MembersArePlain others → IsPlain (tank_value tank others)
tank_plain tank others h rest =
    (refl, h.name, (refl, whole_plain tank.min h.min, (refl, whole_plain tank.max h.max, (refl, numbers_plain tank.amounts h.amounts, rest))))

storage_plain : (tank : TankPart) → FitsStorage tank → IsPlain (storage_value tank)
storage_plain tank h = tank_plain tank no_members h.levels tt

charging_plain : (tank : TankPart) → FitsCharging tank → IsPlain (charging_value tank)
charging_plain tank h =
    tank_plain tank (member (codes "demand") (pair_value tank.demand) no_members) h.levels (refl, pair_plain tank.demand h.demand, tt)

unit_plain : (part : UnitPart) → FitsUnit part → IsPlain (unit_value part)
unit_plain part h = (refl, h.name, (refl, tt, (refl, pair_plain part.charges h.charges, tt)))

operation_plain : (operation : OperationPart) → FitsOperation operation → IsPlain (operation_value operation)
operation_plain operation h = (
  refl,
  h.name,
  (
    refl,
    h.from,
    (
      refl,
      h.to,
      (
        refl,
        pair_plain operation.rate h.rate,
        (
          refl,
          pair_plain operation.volume h.volume,
          (refl, pair_plain operation.window h.window, (refl, pairs_plain operation.limits h.limits, tt)),
        ),
      ),
    ),
  ),
)

format_plain : (format : PlantFormat) → IsPlain (number (unsigned (format_number format)))
format_plain One = omega arith
format_plain Two = omega arith
format_plain Three = omega arith

pub plant_plain : (format : PlantFormat) (parts : Parts) → FitsParts format parts → IsPlain (plant_value format parts)
plant_plain format parts h = (
  refl,
  format_plain format,
  (
    refl,
    whole_plain parts.horizon h.horizon,
    (
      refl,
      list_plain string IsName (λ name is. is) parts.properties h.properties,
      (
        refl,
        list_plain crude_value FitsCrude crude_plain parts.crudes h.crudes,
        (
          refl,
          list_plain (vessel_value format) (FitsVessel format) (vessel_plain format) parts.vessels h.vessels,
          (
            refl,
            list_plain storage_value FitsStorage storage_plain parts.storage h.storage,
            (
              refl,
              list_plain charging_value FitsCharging charging_plain parts.charging h.charging,
              (
                refl,
                list_plain unit_value FitsUnit unit_plain parts.units h.units,
                (
                  refl,
                  list_plain operation_value FitsOperation operation_plain parts.operations h.operations,
                  tt,
                ),
              ),
            ),
          ),
        ),
      ),
    ),
  ),
)

-- ---- how deep lists and objects nest

abbrev depth_of : Data → ℕ
depth_of value = tree.depth (outline value)

list_depth : {X : Type 0} (n : ℕ) (value : X → Data) → ((x : X) → depth_of (value x) ≤ n) → (xs : List X)
    → tree.items_depth (items_outline (items_of (map value xs))) ≤ n
list_depth n value one [] = omega arith
list_depth n value one (x ∷ xs) = let first = one x in let rest = list_depth n value one xs in omega arith

numbers_depth : (numbers : List ℤ) → depth_of (list_value whole numbers) ≤ 1
numbers_depth numbers = let each = list_depth 0 whole (λ z. omega arith) numbers in omega arith

pair_depth : (pair : Pair) → depth_of (pair_value pair) ≤ 1
pair_depth pair = numbers_depth (pair.lo ∷ pair.hi ∷ [])

pairs_depth : (pairs : List Pair) → depth_of (list_value pair_value pairs) ≤ 2
pairs_depth pairs = let each = list_depth 1 pair_value pair_depth pairs in omega arith

crude_depth : (crude : CrudePart) → depth_of (crude_value crude) ≤ 3
crude_depth crude = let a = numbers_depth crude.properties in omega arith

vessel_depth : (format : PlantFormat) (vessel : VesselPart) → depth_of (vessel_value format vessel) ≤ 3
vessel_depth One vessel = let a = numbers_depth vessel.amounts in omega arith
vessel_depth Two vessel = let a = numbers_depth vessel.amounts in omega arith
vessel_depth Three vessel = let a = numbers_depth vessel.amounts in omega arith

storage_depth : (tank : TankPart) → depth_of (storage_value tank) ≤ 3
storage_depth tank = let a = numbers_depth tank.amounts in omega arith

charging_depth : (tank : TankPart) → depth_of (charging_value tank) ≤ 3
charging_depth tank = let a = numbers_depth tank.amounts in omega arith

unit_depth : (part : UnitPart) → depth_of (unit_value part) ≤ 3
unit_depth part = omega arith

operation_depth : (operation : OperationPart) → depth_of (operation_value operation) ≤ 3
operation_depth operation = let a = pairs_depth operation.limits in omega arith

pub plant_depth : (format : PlantFormat) (parts : Parts) → depth_of (plant_value format parts) ≤ 5
plant_depth format parts =
    let properties = list_depth 0 string (λ name. omega arith) parts.properties in
    let crudes = list_depth 3 crude_value crude_depth parts.crudes in
    let vessels = list_depth 3 (vessel_value format) (vessel_depth format) parts.vessels in
    let storage = list_depth 3 storage_value storage_depth parts.storage in
    let charging = list_depth 3 charging_value charging_depth parts.charging in
    let units = list_depth 3 unit_value unit_depth parts.units in
    let operations = list_depth 3 operation_value operation_depth parts.operations in
    omega arith
