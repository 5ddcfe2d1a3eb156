-- A plant in which nothing is wrong can be told: its words are names, and its numbers are small.
use Rattle.std.proofs.Common.{◌≡◌, ◌∙◌, sym, ap, refl, ℕ, suc, ◌^◌, ◌<◌, Bool, true, false, cond, not, List, [], ◌∷◌, map, length, drop, get_or, arith}
use Rattle.std.proofs.lemmas.Bool.{or_parts, not-false}
use Rattle.std.proofs.lemmas.Bool.Decides.{Decides-int_eq}
use Rattle.std.proofs.lemmas.Int.{ints}
use Rattle.std.proofs.lemmas.List.Sums.{passes_at_first}
use Rattle.std.proofs.lemmas.Slice.Eq.{bytes_eq-Decides}
use Rattle.std.specs.Prelude.{ℤ, pos, negsuc, neg_ℤ, ◌≤ℤ◌}
use Rattle.std.specs.List.{AllByRecursion, list_any}
use Rattle.std.specs.Str.{bytes_eq}
use Rattle.std.specs.Ordering.{int_eq}
use Rattle.limits.specs.declared.TheConstants.{MOST_BERTHS, MOST_DEMURRAGE, MOST_HORIZON, MOST_MARGIN, MOST_PROPERTY, MOST_RATE, MOST_SLOTS, MOST_VOLUME}
use Rattle.item_lists.specs.Faults.{each_from}
use Rattle.item_lists.proofs.FaultLaws.{no_faults, holds_of_nil, each_of_nil}
use Rattle.line_text.specs.Name.{is_name}
use Rattle.plant_model.specs.declared.parts.Pair.{Pair}
use Rattle.plant_model.specs.declared.parts.Parts.{Parts}
use Rattle.plant_model.specs.declared.parts.CrudePart.{CrudePart}
use Rattle.plant_model.specs.declared.parts.VesselPart.{VesselPart}
use Rattle.plant_model.specs.declared.parts.TankPart.{TankPart}
use Rattle.plant_model.specs.declared.parts.UnitPart.{UnitPart}
use Rattle.plant_model.specs.declared.parts.OperationPart.{OperationPart}
use Rattle.plant_model.specs.declared.place.Section.{Section}
use Rattle.plant_model.specs.declared.place.Section.TheVariants.{Properties, Crudes, Vessels, Storage, Charging, Units, Operations}
use Rattle.plant_model.specs.Faults.{IsSound, name_faults, all_name_faults}
use Rattle.plant_model.specs.Parts.{seen_parts, without_demand, place_count_of, place_names_of, place_name_of, place_by_name_of}
use Rattle.plant_model.specs.Sound.{SoundPlant}
use Rattle.plant_model.specs.inside.SoundParts.{IsPairWithin, AreWithin, SoundVessel, SoundTank, SoundOperation, SoundParts}
use Rattle.plant_model.proofs.NoFaults.{none_stand, sound_parts}
use Rattle.plant_model.proofs.OpsAreSound.{ends_within}
use Rattle.plant_model.proofs.PlaceLists.{length-per_place}
use Rattle.plant_model.proofs.PlantIsSound.{sound_plant}
use Rattle.plant_text.specs.declared.kinds.PlantFormat.{PlantFormat}
use Rattle.plant_text.specs.declared.kinds.PlantFormat.TheVariants.{One, Two, Three}
use Rattle.plant_text.specs.Canonical.{has_demurrage, has_berths, format_for}
use Rattle.plant_text.proofs.WalkLaws.{IsSmall, AreSmall, IsSmallPair, IsName, FitsCrude, Tells, FitsVessel, FitsTank, FitsStorage, FitsCharging, FitsUnit, FitsOperation, FitsParts}

-- ---- lists, entry by entry

all_by_index : {X : Type 0} (P : X → Type 0) (xs : List X) → ((i : ℕ) (d : X) → i < length xs → P (get_or xs i d)) → AllByRecursion P xs
all_by_index P [] each = tt
all_by_index P (x ∷ xs) each = (each 0 x (omega arith), all_by_index P xs (λ i d within. each (suc i) d (omega arith)))

all_by_default : {X : Type 0} (P : X → Type 0) (d : X) (xs : List X) → ((i : ℕ) → i < length xs → P (get_or xs i d)) → AllByRecursion P xs
all_by_default P d [] each = tt
all_by_default P d (x ∷ xs) each = (each 0 (omega arith), all_by_default P d xs (λ i within. each (suc i) (omega arith)))

-- ---- numbers

small_from : (low high : ℕ) (z : ℤ) → neg_ℤ (pos low) ≤ℤ z → z ≤ℤ pos high → low < 2 ^ 63 → high < 2 ^ 63 → IsSmall z
small_from low high (pos n) from to l h = omega (arith, ints)
small_from low high (negsuc n) from to l h = omega (arith, ints)

small_up_to : (high : ℕ) (z : ℤ) → pos 0 ≤ℤ z → z ≤ℤ pos high → high < 2 ^ 63 → IsSmall z
small_up_to high (pos n) from to h = omega (arith, ints)
small_up_to high (negsuc n) from to h = absurd (omega (arith, ints))

small_pair : (low high : ℕ) (pair : Pair) → IsPairWithin (pos low) (pos high) pair → high < 2 ^ 63 → IsSmallPair pair
small_pair low high pair within h =
    let from = within.from_low in
    let order = within.in_order in
    let to = within.to_high in
    record {
      lo = small_up_to high pair.lo (omega (arith, ints)) (omega (arith, ints)) h;
      hi = small_up_to high pair.hi (omega (arith, ints)) to h;
    }

small_numbers : (count high : ℕ) (numbers : List ℤ) → AreWithin count (pos high) numbers → high < 2 ^ 63 → AreSmall numbers
small_numbers count high numbers are h = all_by_default IsSmall (pos 0) numbers
    (λ i within. let counted = are.all_there in let each = are.each_within i (omega arith) in
    small_up_to high (get_or numbers i (pos 0)) each.from_low each.to_high h)

-- ---- names

section_names : {X : Type 0} (section : Section) (name : X → List ℕ) (xs : List X)
    → each_from (λ index (x : X). name_faults section index (name x)) 1 xs ≡ [] → (i : ℕ) (d : X) → i < length xs → IsName (name (get_or xs i d))
section_names section name xs none i d within =
    holds_of_nil _ _ (each_of_nil (λ index (x : _). name_faults section index (name x)) 1 i xs d none within)

-- the word that is a place's name has the form of names
place_named : (parts : Parts) → SoundPlant parts → (word : List ℕ) → place_by_name_of parts word < place_count_of parts → IsName word
unfolding place_by_name_of place_names_of place_name_of
place_named parts sound word within =
    let p = place_by_name_of parts word in
    let count : length (place_names_of parts) ≡ place_count_of parts =
    length-per_place (λ (vessel : VesselPart). vessel.name) (λ (tank : TankPart). tank.name) (λ (tank : TankPart). tank.name)
    (λ (part : UnitPart). part.name) parts in
    let passes = passes_at_first (λ other. bytes_eq other word) (place_names_of parts) [] (omega arith) in
    let same : place_name_of parts p ≡ word = (bytes_eq-Decides _ word).0 passes in
    ap is_name (sym same) ∙ sound.place_names.form p within

-- ---- formats: what the first format that tells all of the vessels leaves out

none_of : {X : Type 0} (test : X → Bool) (xs : List X) → list_any (λ x. not (test x)) xs ≡ false → AllByRecursion (λ x. test x ≡ true) xs
none_of test [] none = tt
none_of test (x ∷ xs) none = let parts = or_parts _ _ none in (not-false (test x) parts.0, none_of test xs parts.1)

both : {X : Type 0} (P Q R : X → Type 0) → ((x : X) → P x → Q x → R x) → (xs : List X) → AllByRecursion P xs → AllByRecursion Q xs
    → AllByRecursion R xs
both P Q R one [] p q = tt
both P Q R one (x ∷ xs) p q = (one x p.0 q.0, both P Q R one xs p.1 q.1)

each : {X : Type 0} (P R : X → Type 0) → ((x : X) → P x → R x) → (xs : List X) → AllByRecursion P xs → AllByRecursion R xs
each P R one [] p = tt
each P R one (x ∷ xs) p = (one x p.0, each P R one xs p.1)

any : {X : Type 0} (P : X → Type 0) → ((x : X) → P x) → (xs : List X) → AllByRecursion P xs
any P one [] = tt
any P one (x ∷ xs) = (one x, any P one xs)

tells_by : (d b : Bool) (vessels : List VesselPart) → has_demurrage vessels ≡ d → has_berths vessels ≡ b
    → AllByRecursion (Tells (cond d Three (cond b Two One))) vessels
tells_by true b vessels pays lies = any (Tells Three) (λ vessel. tt) vessels
tells_by false true vessels pays lies =
    each (λ (vessel : VesselPart). int_eq vessel.demurrage (pos 0) ≡ true) (Tells Two)
    (λ vessel none. (Decides-int_eq _ _).0 none) vessels (none_of (λ (vessel : VesselPart). int_eq vessel.demurrage (pos 0)) vessels pays)
tells_by false false vessels pays lies =
    both (λ (vessel : VesselPart). int_eq vessel.berth (pos 1) ≡ true) (λ (vessel : VesselPart). int_eq vessel.demurrage (pos 0) ≡ true) (Tells One)
    (λ vessel first none. ((Decides-int_eq _ _).0 first, (Decides-int_eq _ _).0 none)) vessels
    (none_of (λ (vessel : VesselPart). int_eq vessel.berth (pos 1)) vessels lies)
    (none_of (λ (vessel : VesselPart). int_eq vessel.demurrage (pos 0)) vessels pays)

tells : (vessels : List VesselPart) → AllByRecursion (Tells (format_for vessels)) vessels
tells vessels = tells_by (has_demurrage vessels) (has_berths vessels) vessels refl refl

-- ---- the entries

-- what is so of the vessels entry by entry, and what the format tells of them
fits_vessels : (format : PlantFormat) (vessels : List VesselPart) → AllByRecursion (Tells format) vessels
    → ((i : ℕ) (d : VesselPart) → i < length vessels → Tells format (get_or vessels i d) → FitsVessel format (get_or vessels i d))
    → AllByRecursion (FitsVessel format) vessels
fits_vessels format [] told one = tt
fits_vessels format (vessel ∷ vessels) told one =
    (one 0 vessel (omega arith) told.0, fits_vessels format vessels told.1 (λ i d within. one (suc i) d (omega arith)))

abbrev first_demand : List TankPart → Pair
first_demand [] = record { lo = pos 0; hi = pos 0 }
first_demand (tank ∷ tanks) = tank.demand

without : (tanks : List TankPart) → map without_demand tanks ≡ tanks
    → AllByRecursion (λ (tank : TankPart). tank.demand ≡ record { lo = pos 0; hi = pos 0 }) tanks
without [] same = tt
without (tank ∷ tanks) same = (sym (ap first_demand same), without tanks (ap (drop 1) same))

tank_fits : (parts : Parts) (tank : TankPart) → SoundTank parts tank → IsName tank.name → FitsTank tank
tank_fits parts tank sound name =
    let levels = small_pair 0 MOST_VOLUME (record { lo = tank.min; hi = tank.max }) sound.levels (omega arith) in
    record {
      name = name;
      min = levels.lo;
      max = levels.hi;
      amounts = small_numbers (length parts.crudes) MOST_VOLUME tank.amounts sound.amounts (omega arith);
    }

vessel_fits : (parts : Parts) (format : PlantFormat) (vessel : VesselPart) → SoundParts parts → SoundVessel parts vessel → IsName vessel.name
    → Tells format vessel → FitsVessel format vessel
vessel_fits parts format vessel plant sound name told =
    let comes = sound.arrival.from_low in
    let by_then = sound.arrival.to_high in
    let horizon = plant.horizon.to_high in
    let lies = sound.berth.from_low in
    record {
      name = name;
      arrival = small_up_to MOST_HORIZON vessel.arrival comes (omega (arith, ints)) (omega arith);
      amounts = small_numbers (length parts.crudes) MOST_VOLUME vessel.amounts sound.amounts (omega arith);
      berth = small_up_to MOST_BERTHS vessel.berth (omega (arith, ints)) sound.berth.to_high (omega arith);
      demurrage = small_up_to MOST_DEMURRAGE vessel.demurrage sound.demurrage.from_low sound.demurrage.to_high (omega arith);
      told = told;
    }

operation_fits : (parts : Parts) (operation : OperationPart) → SoundParts parts → SoundPlant parts → SoundOperation parts operation
    → IsName operation.name → FitsOperation operation
operation_fits parts operation plant all sound name =
    let ends = ends_within parts operation sound in
    let from = sound.window.from_low in
    let order = sound.window.in_order in
    let to = sound.window.to_high in
    let horizon = plant.horizon.to_high in
    record {
      name = name;
      from = place_named parts all operation.from ends.0;
      to = place_named parts all operation.to ends.1;
      rate = small_pair 0 MOST_RATE operation.rate sound.rate (omega arith);
      volume = small_pair 1 MOST_VOLUME operation.volume sound.volume (omega arith);
      window = record {
        lo = small_up_to MOST_HORIZON operation.window.lo from (omega (arith, ints)) (omega arith);
        hi = small_up_to MOST_HORIZON operation.window.hi (omega (arith, ints)) (omega (arith, ints)) (omega arith);
      };
      limits = all_by_default IsSmallPair (record { lo = pos 0; hi = pos 0 }) operation.limits
          (λ i within. small_pair 0 MOST_PROPERTY _ (sound.limits i within) (omega arith));
    }

-- ---- the plant

pub fits_parts : (parts : Parts) → IsSound parts → seen_parts parts ≡ parts → FitsParts (format_for parts.vessels) parts
unfolding all_name_faults seen_parts
fits_parts parts sound seen =
    let none = none_stand parts sound in
    let no_names : all_name_faults parts ≡ [] = none.names in
    let plant = sound_parts parts sound in
    let all = sound_plant parts sound in
    let crudes = section_names Crudes (λ (crude : CrudePart). crude.name) parts.crudes (grind (arith, no_faults)) in
    let vessels = section_names Vessels (λ (vessel : VesselPart). vessel.name) parts.vessels (grind (arith, no_faults)) in
    let storage = section_names Storage (λ (tank : TankPart). tank.name) parts.storage (grind (arith, no_faults)) in
    let charging = section_names Charging (λ (tank : TankPart). tank.name) parts.charging (grind (arith, no_faults)) in
    let units = section_names Units (λ (part : UnitPart). part.name) parts.units (grind (arith, no_faults)) in
    let operations = section_names Operations (λ (operation : OperationPart). operation.name) parts.operations (grind (arith, no_faults)) in
    let from = plant.horizon.from_low in
    record {
      horizon = small_up_to MOST_HORIZON parts.horizon (omega (arith, ints)) plant.horizon.to_high (omega arith);
      properties = all_by_index IsName parts.properties (section_names Properties (λ name. name) parts.properties (grind (arith, no_faults)));
      crudes = all_by_index FitsCrude parts.crudes (λ i d within.
          let this = plant.each_crude i d within in
          record {
            name = crudes i d within;
            margin = small_from MOST_MARGIN MOST_MARGIN _ this.margin.from_low this.margin.to_high (omega arith) (omega arith);
            properties = small_numbers (length parts.properties) MOST_PROPERTY _ this.properties (omega arith);
          });
      vessels = fits_vessels (format_for parts.vessels) parts.vessels (tells parts.vessels)
          (λ i d within told. vessel_fits parts (format_for parts.vessels) _ plant (plant.each_vessel i d within) (vessels i d within) told);
      storage = both FitsTank (λ (tank : TankPart). tank.demand ≡ record { lo = pos 0; hi = pos 0 }) FitsStorage
          (λ tank levels demand. record { levels = levels; demand = demand }) parts.storage
          (all_by_index FitsTank parts.storage (λ i d within. tank_fits parts _ (plant.each_storage i d within) (storage i d within)))
          (without parts.storage (ap (λ (p : Parts). p.storage) seen));
      charging = all_by_index FitsCharging parts.charging (λ i d within. record {
        levels = tank_fits parts _ (plant.each_charging i d within) (charging i d within);
        demand = small_pair 0 MOST_VOLUME _ (plant.each_demand i d within) (omega arith);
      });
      units = all_by_index FitsUnit parts.units (λ i d within. record {
        name = units i d within;
        charges = small_pair 0 MOST_SLOTS _ (plant.each_unit i d within) (omega arith);
      });
      operations = all_by_index FitsOperation parts.operations (λ i d within.
          operation_fits parts _ plant all (plant.each_operation i d within) (operations i d within));
    }
