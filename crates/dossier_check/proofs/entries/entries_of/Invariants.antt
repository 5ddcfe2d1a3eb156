use Rattle.std.proofs.Common.{◌≡◌, drop, take}
use Rattle.item_lists.specs.Faults.{first_of}
use Rattle.dossier_check.specs.Frames.{setting_of}
use Rattle.dossier_check.specs.NodeReasons.{terms_reasons}
use Rattle.dossier_check.specs.inside.Entering.{AreEntriesOf}
use Rattle.dossier_check.proofs.entries.entries_of.Given as goal

-- nothing stands against the entries so far, so that the first is that of those that are left; and their rows are made
abbrev pub invariant-loop-term : goal.invariant-loop-term
invariant-loop-term l = record {
  rest : first_of (terms_reasons (setting_of l.plant l.dossier) l.line (drop l.term-index l.terms)) ≡ first_of
      (terms_reasons (setting_of l.plant l.dossier) l.line l.terms);
  entries : AreEntriesOf l.plant (setting_of l.plant l.dossier) (take l.term-index l.terms) l.entries;
}
