-- The case that a dossier is about, and the cuts that it lists.
use Rattle.std.specs.Prelude.{ℤ, pos, Bool, ◌&&◌, ◌==◌, List, ◌++◌, length, map, replicate, take}
use Rattle.blend_cuts.specs.Cuts.{is_valid}
use Rattle.limits.specs.declared.TheConstants.{MOST_CRUDES}
use Rattle.plant_model.specs.declared.parts.Parts.{Parts}
use Rattle.plant_model.specs.Parts.{crude_count_of}
use Rattle.slot_box.specs.declared.cut.CutParams.{CutParams}
use Rattle.slot_forms.specs.Cases.{plain}
use Rattle.leaf_value.specs.Settings.{Setting}
use Rattle.dossier_text.specs.declared.dossier.CutLine.{CutLine}
use Rattle.dossier_text.specs.declared.dossier.Dossier.{Dossier}

-- the weights of a line, and 0 for each crude past the last of them
abbrev pub padded : List ℤ → List ℤ
padded weights = take MOST_CRUDES (weights ++ replicate MOST_CRUDES (pos 0))

-- a cut as entries name it
abbrev pub cut_of : CutLine → CutParams
cut_of line = record { places = line.places; p = line.p; q = line.q; weights = padded line.weights }

-- what the nodes of a dossier are read against: the plain case of its slots, and the cuts that it lists
abbrev pub setting_of : Parts → Dossier → Setting
setting_of parts dossier = record { case = plain parts dossier.slots; cuts = map cut_of dossier.cuts }

-- whether the cut is one of the plant's: its line has one weight for each crude of the plant, and it is valid
abbrev pub is_lawful_cut : Parts → CutLine → Bool
is_lawful_cut parts line = length line.weights == crude_count_of parts && is_valid parts (cut_of line)
