use Rattle.std.proofs.Common.{◌≡◌, ◌+◌, drop}
use Rattle.item_lists.specs.Faults.{first_of, each_from}
use Rattle.dossier_check.proofs.CutLaws.{cut_reasons_at}
use Rattle.dossier_check.proofs.checking.check_cuts.Given as goal

-- nothing stands against the cuts so far, so that the first is that of those that are left
abbrev pub invariant-loop-index : goal.invariant-loop-index
invariant-loop-index l =
    first_of (each_from (cut_reasons_at l.plant) (l.line + l.index) (drop l.index l.dossier.cuts)) ≡ first_of
    (each_from (cut_reasons_at l.plant) l.line l.dossier.cuts)
