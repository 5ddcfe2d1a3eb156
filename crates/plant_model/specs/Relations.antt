-- Which two operations may not run at one moment, and which may not change places in an order.
use Rattle.std.specs.Prelude.{◌≡◌, ◌≢◌, ℕ, Bool, true, false, not, ◌&&◌, ◌||◌, ◌==◌}
use Rattle.plant_model.specs.declared.parts.Parts.{Parts}
use Rattle.plant_model.specs.declared.details.Op.{Op}
use Rattle.plant_model.specs.declared.details.OpKind.{OpKind}
use Rattle.plant_model.specs.declared.details.OpKind.TheVariants.{Unload, Transfer, Charge}
use Rattle.plant_model.specs.Parts.{op_of, place_of}

-- from a vessel
abbrev pub is_unload : OpKind → Bool
is_unload Unload = true
is_unload Transfer = false
is_unload Charge = false

-- into a unit
abbrev pub is_charge : OpKind → Bool
is_charge Unload = false
is_charge Transfer = false
is_charge Charge = true

-- one berth: both unload, and their vessels lie at the same
abbrev pub share_berth : Parts → Op → Op → Bool
share_berth parts a b =
    is_unload a.kind && is_unload b.kind && (place_of parts a.from).berth == (place_of parts b.from).berth

-- one fills the tank from which the other draws
abbrev pub one_feeds_other : Op → Op → Bool
one_feeds_other a b = a.to == b.from || b.to == a.from

-- both draw from one charging tank
abbrev pub both_charge_from_one_tank : Op → Op → Bool
both_charge_from_one_tank a b = is_charge a.kind && is_charge b.kind && a.from == b.from

-- both feed one unit
abbrev pub both_charge_one_unit : Op → Op → Bool
both_charge_one_unit a b = is_charge a.kind && is_charge b.kind && a.to == b.to

-- the two may not run at one moment
unfoldable pub refused_at_once_of : Parts → ℕ → ℕ → Bool
refused_at_once_of parts v w =
    let a = op_of parts v in
    let b = op_of parts w in
    v == w || share_berth parts a b || one_feeds_other a b || both_charge_from_one_tank a b || both_charge_one_unit a b

-- the two may not change places: they may not run at one moment, or they draw from one place, so that what the first
-- leaves decides what the second draws
unfoldable pub ordered_of : Parts → ℕ → ℕ → Bool
ordered_of parts v w = refused_at_once_of parts v w || (op_of parts v).from == (op_of parts w).from

-- the two may change places
unfoldable pub independent_of : Parts → ℕ → ℕ → Bool
independent_of parts v w = not (ordered_of parts v w)

-- what two independent operations have nothing in common in
pub record AreApart (parts : Parts) (v w : ℕ) : Type 0 where
  pub different : v ≢ w
  pub sources : (op_of parts v).from ≢ (op_of parts w).from
  pub first_feeds_not : (op_of parts v).to ≢ (op_of parts w).from
  pub second_feeds_not : (op_of parts w).to ≢ (op_of parts v).from
  pub berths : ((op_of parts v).kind ≡ Unload) → ((op_of parts w).kind ≡ Unload)
      → (place_of parts (op_of parts v).from).berth ≢ (place_of parts (op_of parts w).from).berth
  pub units : ((op_of parts v).kind ≡ Charge) → ((op_of parts w).kind ≡ Charge)
      → (op_of parts v).to ≢ (op_of parts w).to
