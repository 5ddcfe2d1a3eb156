-- Laws of the relations between two operations.
use Rattle.std.proofs.Common.{◌≡◌, sym, ap, refl, ℕ, Bool, true, false, not, ◌&&◌, ◌||◌, arith, ◌∙◌}
use Rattle.std.proofs.lemmas.Bool.{or_parts}
use Rattle.std.proofs.lemmas.Bool.Decides.{nat_tests}
use Rattle.std.specs.Prelude.{◌≢◌, ◌==◌}
use Rattle.plant_model.specs.declared.parts.Parts.{Parts}
use Rattle.plant_model.specs.declared.details.OpKind.{OpKind}
use Rattle.plant_model.specs.declared.details.OpKind.TheVariants.{Unload, Charge, Transfer}
use Rattle.plant_model.specs.Parts.{op_of, place_of}
use Rattle.plant_model.specs.Relations.{is_unload, is_charge, share_berth, one_feeds_other, both_charge_from_one_tank, both_charge_one_unit, refused_at_once_of, ordered_of, independent_of, AreApart}
use Rattle.plant_model.specs.declared.details.PlaceKind.{PlaceKind}
use Rattle.plant_model.specs.declared.details.PlaceKind.TheVariants.{Vessel, Storage, Charging}
use Rattle.plant_model.specs.Sound.{IsRoute}

equal_symmetric : (a b : ℕ) → (a == b) ≡ (b == a)
equal_symmetric a b = grind (arith, nat_tests)

equal_reflexive : (a : ℕ) → (a == a) ≡ true
equal_reflexive a = grind (arith, nat_tests)

unequal : (a b : ℕ) → (a == b) ≡ false → a ≢ b
unequal a b h same = grind (arith, nat_tests)

not_true : (a : Bool) → not a ≡ true → a ≡ false
not_true true h = sym h
not_true false h = refl

both_symmetric : (a b : Bool) → (a && b) ≡ (b && a)
both_symmetric true true = refl
both_symmetric true false = refl
both_symmetric false true = refl
both_symmetric false false = refl

either_symmetric : (a b : Bool) → (a || b) ≡ (b || a)
either_symmetric true true = refl
either_symmetric true false = refl
either_symmetric false true = refl
either_symmetric false false = refl

pub refused_at_once_of-reflexive : (parts : Parts) (v : ℕ) → refused_at_once_of parts v v ≡ true
unfolding refused_at_once_of
refused_at_once_of-reflexive parts v = rw (equal_reflexive v) refl

pub refused_at_once_of-symmetric : (parts : Parts) (v w : ℕ) → refused_at_once_of parts v w ≡ refused_at_once_of parts w v
unfolding refused_at_once_of
refused_at_once_of-symmetric parts v w =
    let a = op_of parts v in
    let b = op_of parts w in
    rw (
      equal_symmetric v w,
      both_symmetric (is_unload a.kind) (is_unload b.kind),
      equal_symmetric (place_of parts a.from).berth (place_of parts b.from).berth,
      either_symmetric (a.to == b.from) (b.to == a.from),
      both_symmetric (is_charge a.kind) (is_charge b.kind),
      equal_symmetric a.from b.from,
      equal_symmetric a.to b.to,
    ) refl

pub ordered_of-symmetric : (parts : Parts) (v w : ℕ) → ordered_of parts v w ≡ ordered_of parts w v
unfolding ordered_of
ordered_of-symmetric parts v w = rw (refused_at_once_of-symmetric parts v w, equal_symmetric (op_of parts v).from (op_of parts w).from) refl

pub independent_of-symmetric : (parts : Parts) (v w : ℕ) → independent_of parts v w ≡ independent_of parts w v
unfolding independent_of
independent_of-symmetric parts v w = ap not (ordered_of-symmetric parts v w)

-- what may not run at one moment is ordered
pub ordered_from_refused : (parts : Parts) (v w : ℕ) → refused_at_once_of parts v w ≡ true → ordered_of parts v w ≡ true
unfolding ordered_of
ordered_from_refused parts v w refused = rw refused refl

pub ordered_of-reflexive : (parts : Parts) (v : ℕ) → ordered_of parts v v ≡ true
ordered_of-reflexive parts v = ordered_from_refused parts v v (refused_at_once_of-reflexive parts v)

-- tests of the kinds that fail
not_one_berth : (k l : OpKind) (a b : ℕ) → (is_unload k && is_unload l && a == b) ≡ false → k ≡ Unload → l ≡ Unload → a ≢ b
not_one_berth k l a b h first second same = let all : (is_unload k && is_unload l && a == b) ≡ true = rw (first, second, same) (equal_reflexive b) in cc

not_one_unit : (k l : OpKind) (a b : ℕ) → (is_charge k && is_charge l && a == b) ≡ false → k ≡ Charge → l ≡ Charge → a ≢ b
not_one_unit k l a b h first second same = let all : (is_charge k && is_charge l && a == b) ≡ true = rw (first, second, same) (equal_reflexive b) in cc

pub apart_from_independent : (parts : Parts) (v w : ℕ) → independent_of parts v w ≡ true → AreApart parts v w
unfolding refused_at_once_of ordered_of independent_of
apart_from_independent parts v w independent =
    let a = op_of parts v in
    let b = op_of parts w in
    let ordered = or_parts (refused_at_once_of parts v w) (a.from == b.from) (not_true (ordered_of parts v w) independent) in
    let unit = or_parts (v == w || share_berth parts a b || one_feeds_other a b || both_charge_from_one_tank a b) (both_charge_one_unit a b) ordered.0 in
    let tank = or_parts (v == w || share_berth parts a b || one_feeds_other a b) (both_charge_from_one_tank a b) unit.0 in
    let feeds = or_parts (v == w || share_berth parts a b) (one_feeds_other a b) tank.0 in
    let unloads = or_parts (v == w) (share_berth parts a b) feeds.0 in
    let each = or_parts (a.to == b.from) (b.to == a.from) feeds.1 in
    record {
      different = unequal v w unloads.0;
      sources = unequal a.from b.from ordered.1;
      first_feeds_not = unequal a.to b.from each.0;
      second_feeds_not = unequal b.to a.from each.1;
      berths = not_one_berth a.kind b.kind (place_of parts a.from).berth (place_of parts b.from).berth unloads.1;
      units = not_one_unit a.kind b.kind a.to b.to unit.1;
    }

-- what is not ordered is independent
pub apart_from_unordered : (parts : Parts) (v w : ℕ) → ordered_of parts v w ≡ false → AreApart parts v w
unfolding independent_of
apart_from_unordered parts v w unordered = apart_from_independent parts v w (rw unordered refl)

-- what draws from a charging tank is a charge
pub charge-from : (kind : OpKind) (from to : PlaceKind) → IsRoute kind from to → from ≡ Charging → is_charge kind ≡ true
charge-from Unload from to route is = (let same : Vessel ≡ Charging = sym route.0 ∙ is in cc)
charge-from Transfer from to route is = (let same : Storage ≡ Charging = sym route.0 ∙ is in cc)
charge-from Charge from to route is = refl
