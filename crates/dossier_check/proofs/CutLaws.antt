-- Nothing stands against the cuts of a dossier exactly where each is lawful.
use Rattle.std.proofs.Common.{◌≡◌, ℕ, ◌+◌, ◌<◌, true, Some, List, [], ◌∷◌, length, map, get_or, refl, sym, ap, ◌∙◌}
use Rattle.std.specs.Prelude.{slice_get, option_map}
use Rattle.std.specs.List.{All}
use Rattle.std.proofs.lemmas.List.Elements.{All-nil, All-cons, All-head, All-tail}
use Rattle.std.proofs.lemmas.Option.{slice_get-map, slice_get-get_or}
use Rattle.item_lists.specs.Faults.{unless, each_from}
use Rattle.item_lists.proofs.FaultLaws.{nil_of_append, holds_of_nil}
use Rattle.plant_model.specs.declared.parts.Parts.{Parts}
use Rattle.dossier_text.specs.declared.dossier.CutLine.{CutLine}
use Rattle.dossier_text.specs.declared.dossier.Dossier.{Dossier}
use Rattle.dossier_check.specs.declared.verdict.Reason.{Reason}
use Rattle.dossier_check.specs.Frames.{cut_of, is_lawful_cut}
use Rattle.dossier_check.specs.NodeReasons.{reason}
use Rattle.dossier_check.specs.Reasons.{cut_reasons, first_cut_line}
use Rattle.dossier_check.proofs.PassLaws.{nil_of_holds, joined_nil}

-- the cut may be named
abbrev pub IsCut : Parts → CutLine → Type 0
IsCut parts cut = is_lawful_cut parts cut ≡ true

-- what stands against it
abbrev pub cut_reasons_at : Parts → ℕ → CutLine → List Reason
cut_reasons_at parts line cut = unless (is_lawful_cut parts cut) (reason 12 line)

module _ (parts : Parts) where
  lawful_of_none : (line : ℕ) (cuts : List CutLine) → each_from (cut_reasons_at parts) line cuts ≡ [] → All (IsCut parts) cuts
  lawful_of_none line [] none = All-nil (IsCut parts)
  lawful_of_none line (cut ∷ cuts) none =
      let both = nil_of_append (cut_reasons_at parts line cut) (each_from (cut_reasons_at parts) (line + 1) cuts) none in
      All-cons (IsCut parts) cut cuts (holds_of_nil (is_lawful_cut parts cut) (reason 12 line) both.0) (lawful_of_none (line + 1) cuts both.1)

  none_of_lawful : (line : ℕ) (cuts : List CutLine) → All (IsCut parts) cuts → each_from (cut_reasons_at parts) line cuts ≡ []
  none_of_lawful line [] are = refl
  none_of_lawful line (cut ∷ cuts) are =
      joined_nil (cut_reasons_at parts line cut) (each_from (cut_reasons_at parts) (line + 1) cuts)
      (nil_of_holds (is_lawful_cut parts cut) (reason 12 line) (All-head (IsCut parts) cut cuts are))
      (none_of_lawful (line + 1) cuts (All-tail (IsCut parts) cut cuts are))

  pub cuts_of_none : (dossier : Dossier) → cut_reasons parts dossier ≡ [] → All (IsCut parts) dossier.cuts
  unfolding cut_reasons
  cuts_of_none dossier none = lawful_of_none (first_cut_line dossier) dossier.cuts none

  pub none_of_cuts : (dossier : Dossier) → All (IsCut parts) dossier.cuts → cut_reasons parts dossier ≡ []
  unfolding cut_reasons
  none_of_cuts dossier are = none_of_lawful (first_cut_line dossier) dossier.cuts are

-- the cut of a number that there is
pub cut_there : (lines : List CutLine) (i : ℕ) (line : CutLine) → i < length lines → line ≡ get_or lines i line →
    slice_get (map cut_of lines) i ≡ Some (cut_of line)
cut_there lines i line within is =
    slice_get-map cut_of lines i ∙ ap (option_map cut_of) (slice_get-get_or lines i line within) ∙ ap (λ l. Some (cut_of l)) (sym is)
