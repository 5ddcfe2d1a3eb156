-- Which dossiers have a text that is read again: counts and numbers in range, and names that are names.
use Rattle.std.specs.Prelude.{◌≡◌, ◌+◌, ◌*◌, ◌^◌, ◌<◌, ◌≤◌, length, IfSome, FitsSigned}
use Rattle.std.specs.Int.{w64}
use Rattle.std.specs.List.{AllByRecursion}
use Rattle.limits.specs.declared.TheConstants.{MOST_SLOTS, MOST_NODES, MOST_CUTS, MOST_CRUDES}
use Rattle.plan_text.specs.PlanText.{AreOpLines}
use Rattle.slot_box.specs.Ranges.{IsNodeInRange}
use Rattle.dossier_text.specs.declared.dossier.CutLine.{CutLine}
use Rattle.dossier_text.specs.declared.dossier.Dossier.{Dossier}

-- a cut: a set of 64 bits, and numbers of 64 bits with a sign, of which the weights are one at least, and no more than
-- a plant has crudes at most
pub record IsCutLine (cut : CutLine) : Type 0 where
  pub places : cut.places < 2 ^ 64
  pub p : FitsSigned w64 cut.p
  pub q : FitsSigned w64 cut.q
  pub some : 1 ≤ length cut.weights
  pub few : length cut.weights ≤ MOST_CRUDES
  pub weights : AllByRecursion (FitsSigned w64) cut.weights

-- a dossier that can be read: inner nodes, operations and cuts within their limits, the operations numbered from 1, and
-- one leaf more than inner nodes
pub record IsReadable (dossier : Dossier) : Type 0 where
  pub slots : dossier.slots < 2 ^ 32
  pub nodes : dossier.nodes ≤ MOST_NODES
  pub margin : IfSome dossier.margin (FitsSigned w64)
  pub bound : IfSome dossier.bound (FitsSigned w64)
  pub plan : IfSome dossier.plan (λ lines. (length lines ≤ MOST_SLOTS) × AreOpLines 1 lines)
  pub few_cuts : length dossier.cuts ≤ MOST_CUTS
  pub cuts : AllByRecursion IsCutLine dossier.cuts
  pub all_nodes : length dossier.tree ≡ 2 * dossier.nodes + 1
  pub tree : AllByRecursion IsNodeInRange dossier.tree
