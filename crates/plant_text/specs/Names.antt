-- The words of the plant text: how its sections and the keys of their entries are written.
use Rattle.std.specs.Prelude.{ℕ, List, codes}
use Rattle.plant_model.specs.declared.place.Section.{Section}
use Rattle.plant_model.specs.declared.place.Section.TheVariants as section
use Rattle.plant_model.specs.declared.place.Key.{Key}
use Rattle.plant_model.specs.declared.place.Key.TheVariants as key

-- a section by the key that it has in the plant; `plant` is the whole
abbrev pub section_name : Section → List ℕ
section_name section.Plant = codes "plant"
section_name section.Properties = codes "properties"
section_name section.Crudes = codes "crudes"
section_name section.Vessels = codes "vessels"
section_name section.Storage = codes "storage"
section_name section.Charging = codes "charging"
section_name section.Units = codes "units"
section_name section.Operations = codes "operations"

-- a key of an entry; `entry` is the entry itself and `list` the list that a section is
abbrev pub key_name : Key → List ℕ
key_name key.Entry = codes "entry"
key_name key.List = codes "list"
key_name key.Format = codes "format"
key_name key.Horizon = codes "horizon"
key_name key.Name = codes "name"
key_name key.Margin = codes "margin"
key_name key.Properties = codes "properties"
key_name key.Arrival = codes "arrival"
key_name key.Amounts = codes "amounts"
key_name key.Berth = codes "berth"
key_name key.Demurrage = codes "demurrage"
key_name key.Min = codes "min"
key_name key.Max = codes "max"
key_name key.Demand = codes "demand"
key_name key.Continuous = codes "continuous"
key_name key.Charges = codes "charges"
key_name key.From = codes "from"
key_name key.To = codes "to"
key_name key.Rate = codes "rate"
key_name key.Volume = codes "volume"
key_name key.Window = codes "window"
key_name key.Limits = codes "limits"
