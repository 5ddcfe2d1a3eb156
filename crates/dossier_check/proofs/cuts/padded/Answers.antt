use Rattle.std.proofs.Common.{List, ℤ, pos, drop, ◌++◌, ap, ◌∙◌, arith}
use Rattle.std.specs.Prelude.{replicate}
use Rattle.limits.specs.declared.TheConstants.{MOST_CRUDES}
use Rattle.dossier_check.proofs.PadLaws.{padded-by}
use Rattle.dossier_check.proofs.cuts.padded.Goals as goal

pub returns : goal.returns
returns c =
    let count = c.min-count.result in
    ap (λ (front : List ℤ). front ++ drop count (replicate MOST_CRUDES (pos 0))) c.copy_from_slice.ensures.after
    ∙ padded-by c.args.weights.now MOST_CRUDES MOST_CRUDES count (omega arith) c.min-count.ensures
